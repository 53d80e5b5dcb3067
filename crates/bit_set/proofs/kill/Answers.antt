use Rattle.bit_set.proofs.BitLaws.{kill_out, kill_none, kill_room, kill_held, tested}
use Rattle.bit_set.proofs.kill.Goals as goal

pub overflow_sub-words : goal.overflow_sub-words
overflow_sub-words c =
    let a = c.args in
    let e = c.in-Some.ensures.0 in
    kill_room a.words.now a.start a.p e (tested a.words.now a.start a.p e c.has_bit.ensures c.if-not-has_bit.false)

pub returns-then-not-has_bit : goal.returns-then-not-has_bit
returns-then-not-has_bit c =
    let a = c.args in
    kill_none a.words.now a.start a.p (tested a.words.now a.start a.p c.in-Some.ensures.0 c.has_bit.ensures c.if-not-has_bit.true)

pub returns : goal.returns
returns c =
    let a = c.args in
    let e = c.in-Some.ensures.0 in
    kill_held a.words.now a.start a.p e (tested a.words.now a.start a.p e c.has_bit.ensures c.if-not-has_bit.false)

pub returns-in_default : goal.returns-in_default
returns-in_default c = let a = c.args in kill_out a.words.now a.start a.p c.in_default.ensures
