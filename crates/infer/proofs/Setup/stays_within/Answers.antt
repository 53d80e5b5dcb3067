-- `infer::Setup::stays_within`. The loop's invariant: the words before k are covered. Assumes nothing.
use Prim.Native.Nat.{◌/◌}
use native.Mathlib.Omega.{arith}
use Rattle.nll_spec.specs.Output.{word_bits}
use Rattle.infer.proofs.CoverLaws.{cover_more, cover_done}
use Rattle.infer.proofs.Setup.stays_within.Goals as goal

pub returns-then-words-from : goal.returns-then-words-from
returns-then-words-from c = λ e. let a = c.args in cover_done a.self.now.chain.now a.words.now a.from a.to a.self.now.shape.width (a.p / word_bits) c.loop-k.k c.is_covered.result c.loop-k.invariant c.is_covered.ensures c.if-not-is_covered.false (omega arith)

pub loop-k-preserved : goal.loop-k-preserved
loop-k-preserved c = let a = c.args in cover_more a.self.now.chain.now a.words.now a.from a.to a.self.now.shape.width (a.p / word_bits) c.loop-k.k c.is_covered.result c.loop-k.invariant c.is_covered.ensures c.if-not-is_covered.false
