-- `infer::Setup::outlives`: each return is a run of the one constraint, by a law of OneLaws. Assumes nothing.
use mathlib.Core.Path.{sym, ◌∙◌}
use Rattle.infer.specs.Ran.{constraint}
use Rattle.infer.proofs.OneLaws.{absent_test, spread_got, ran_absent, ran_covered, ran_nothing, ran-still, ran-grew}
use Rattle.infer.proofs.Setup.outlives.Goals as goal

pub returns-then-not-test : goal.returns-then-not-test
returns-then-not-test c = λ s given names.
    let a = c.args in
    ran_absent s a.last.now a.words.now a.grew.now (constraint a.sup.0 a.sub.0 a.point) (absent_test a.words.now c.from-t.result a.sub.0 a.self.now.shape.width s.width a.point c.test-3.result c.from-t.ensures given.width c.test-3.ensures c.if-not-test.true)

pub returns-then-stays_within : goal.returns-then-stays_within
returns-then-stays_within c = λ s given names.
    let a = c.args in
    let sup = c.from-s in
    let sub = c.from-t in
    ran_covered s a.self.now a.words.now a.grew.now given (constraint a.sup.0 a.sub.0 a.point) names a.last.now sup.result sub.result sup.ensures sub.ensures
    (c.stays_within.ensures c.if-stays_within.true)

pub returns-then-adds_nothing : goal.returns-then-adds_nothing
returns-then-adds_nothing c = λ s given names.
    let a = c.args in
    let sup = c.from-s in
    let sub = c.from-t in
    ran_nothing s a.self.now a.words.now a.grew.now given (constraint a.sup.0 a.sub.0 a.point) names a.last.now sup.result sub.result sup.ensures sub.ensures
    (sym c.adds_nothing.ensures ∙ c.if-adds_nothing.true)

pub returns-then-spread : goal.returns-then-spread
returns-then-spread c = λ s given names.
    let a = c.args in
    let ws = a.words.now in
    let d = constraint a.sup.0 a.sub.0 a.point in
    let x = c.spread in
    let sup = c.from-s in
    let sub = c.from-t in
    ran-grew s a.self.now ws a.grew.now given d names a.last.now x.new.words x.result
    (spread_got s a.self.now ws a.grew.now given d names sup.result sub.result sup.ensures sub.ensures x.new.words x.result (x.ensures given.linked))
    sup.ensures
    c.add.ensures.0
    c.if-spread.true

pub returns-else-spread : goal.returns-else-spread
returns-else-spread c = λ s given names.
    let a = c.args in
    let ws = a.words.now in
    let d = constraint a.sup.0 a.sub.0 a.point in
    let x = c.spread in
    let sup = c.from-s in
    let sub = c.from-t in
    ran-still s a.self.now ws a.grew.now given d names a.last.now x.new.words x.result
    (spread_got s a.self.now ws a.grew.now given d names sup.result sub.result sup.ensures sub.ensures x.new.words x.result (x.ensures given.linked))
    c.if-spread.false
