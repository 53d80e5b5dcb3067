use mathlib.Core.Path.{ap, ◌∙◌}
use Rattle.std.specs.Prelude.{Some}
use Rattle.env.proofs.PathLaws as laws
use Rattle.env.proofs.paths.path_type.Goals as goal

pub returns-in_err-d : goal.returns-in_err-d
returns-in_err-d c = rw c.from_residual.ensures (laws.path-refused c.args.p c.variable_at-c.ensures c.steps.ensures c.steps_within.ensures c.in_err-d.was)

pub returns-in-Inside : goal.returns-in-Inside
returns-in-Inside c = laws.path_inside c.args.p c.variable_at-c.ensures c.steps.ensures c.steps_within.ensures (c.in_ok-d.was ∙ ap Some c.in-Inside.is)

pub returns-in-Written : goal.returns-in-Written
returns-in-Written c = laws.path-onward c.args.p c.variable_at-c.ensures c.steps.ensures c.steps_within.ensures (c.in_ok-d.was ∙ ap Some c.in-Written.is) c.steps_on.ensures
