use Rattle.env.proofs.PathLaws as laws
use mathlib.Core.Path.{refl, ap, ◌∙◌}
use Rattle.std.specs.Prelude.{Some}
use Rattle.std.proofs.Common.{rules, tests}
use Rattle.std.proofs.lemmas.List.{nil_from_length}
use Rattle.env.proofs.paths.steps_on.Goals as goal

pub returns-in_err-c : goal.returns-in_err-c
returns-in_err-c c = rw c.from_residual.ensures (laws.onward-refused c.loop-ahead.invariant.onward c.steps_within.ensures c.in_err-c.was)

pub returns-in-Inside : goal.returns-in-Inside
returns-in-Inside c = laws.onward-inside c.loop-ahead.invariant.onward c.steps_within.ensures (c.in_ok-c.was ∙ ap Some c.in-Inside.is)

pub returns-in_err-c-in-Written : goal.returns-in_err-c-in-Written
returns-in_err-c-in-Written c = rw c.from_residual-in_err-c-in-Written.ensures (laws.onward-refused (laws.onward_written c.loop-ahead.invariant.onward c.steps_within.ensures (c.in_ok-c.was ∙ ap Some c.in-Written.is)) c.steps_within-in-Written.ensures c.in_err-c-in-Written.was)

pub returns-in-Inside-2 : goal.returns-in-Inside-2
returns-in-Inside-2 c = laws.onward_copied (laws.onward_written c.loop-ahead.invariant.onward c.steps_within.ensures (c.in_ok-c.was ∙ ap Some c.in-Written.is)) c.steps_within-in-Written.ensures (c.in_ok-c-in-Written.was ∙ ap Some c.in-Inside-2.is) c.copied.ensures

pub returns : goal.returns
returns c = laws.onward-end c.loop-ahead.invariant.onward (laws.long _ c.loop-ahead.invariant.size) _ refl (nil_from_length _ (search (rules, tests)))
