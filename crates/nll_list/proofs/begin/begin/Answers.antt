-- `nll_list::begin::begin` meets its contract. Assumes nothing.
use mathlib.Core.Path.{refl}
use native.Mathlib.Omega.{arith}
use Rattle.nll_list.proofs.TextLaws.{begins_answer, begins_refusal}
use Rattle.nll_list.proofs.begin.begin.Goals as goal

pub returns-in-Ok : goal.returns-in-Ok
returns-in-Ok c =
    let a = c.args in
    begins_answer a.input.now a.words.now a.bytes.now c.count-counts.result c.count-counts.ensures (omega arith) (omega arith) c.analyse.ensures (rw c.in-Ok.is refl) c.new.ensures

pub returns-in-Err : goal.returns-in-Err
returns-in-Err c =
    let a = c.args in
    begins_refusal a.input.now a.words.now a.bytes.now c.count-counts.result c.count-counts.ensures (omega arith) (omega arith) c.analyse.ensures c.in-Err.refusal (rw c.in-Err.is refl) c.from.ensures c.refused.ensures
