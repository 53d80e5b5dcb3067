-- `refusals::actions::blocks_named` meets its contract. Assumes nothing.
use Rattle.std.proofs.Common.{rules}
use Rattle.std.proofs.lemmas.Iterator.{YieldsList-from_range}
use native.Mathlib.Omega.{arith}
use mathlib.Core.Path.{refl}
use Rattle.refusals.specs.Tests.{no_block}
use Rattle.refusals.proofs.RowLaws.{every_all}
use Rattle.refusals.proofs.actions.blocks_named.Goals as goal

pub returns : goal.returns
returns c = λ j w. every_all no_block w.block_count _ _ c.all.result c.all.ensures.ran (YieldsList-from_range 0 _ _ refl (omega arith)) (λ k b q p. search rules)
