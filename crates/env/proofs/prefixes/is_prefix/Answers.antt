use mathlib.Core.Path.{sym, ◌∙◌}
use borrow.Author.Tests.{eqb-true}
use Rattle.repr.specs.Reading.{path_of}
use Rattle.env.proofs.FieldLaws.{differ}
use Rattle.env.proofs.PrefixLaws as laws
use Rattle.env.proofs.prefixes.is_prefix.Goals as goal

pub returns-then-eq : goal.returns-then-eq
returns-then-eq c = λ j. laws.prefix_of c.args.s.now c.args.q c.args.p j (eqb-true _ _ (sym c.if-eq.ensures)) (c.starts_with.ensures.value ∙ rw (c.steps.ensures, c.steps-then-eq.ensures) (laws.starts-with (path_of c.args.s.now c.args.q).steps (path_of c.args.s.now c.args.p).steps))

pub returns-else-eq : goal.returns-else-eq
returns-else-eq c = λ j. rw c.if-eq.false (laws.prefix_other c.args.s.now c.args.q c.args.p j (differ c.if-eq.ensures))
