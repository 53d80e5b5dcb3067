use Rattle.bit_set.proofs.BitLaws.{add-out, add_held, add_new, tested}
use Rattle.bit_set.proofs.add.Goals as goal

pub returns-then-has_bit : goal.returns-then-has_bit
returns-then-has_bit c =
    let a = c.args in
    add_held a.words.now a.start a.p (λ k. (c.type_inv.words k).fits) (tested a.words.now a.start a.p c.in-Some.ensures.0 c.has_bit.ensures c.if-has_bit.true)

pub returns : goal.returns
returns c =
    let a = c.args in
    let k = c.in-Some.ensures in
    add_new a.words.now a.start a.p k.0 k.1 (tested a.words.now a.start a.p k.0 c.has_bit.ensures c.if-has_bit.false)

pub returns-in_default : goal.returns-in_default
returns-in_default c = let a = c.args in add-out a.words.now a.start a.p c.in_default.ensures
