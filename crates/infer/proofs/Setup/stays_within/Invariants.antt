-- `infer::Setup::stays_within`. The loop's invariant: the words before k are covered. Assumes nothing.
use Prim.Native.Nat.{◌/◌}
use Rattle.nll_spec.specs.Output.{word_bits}
use Rattle.infer.proofs.CoverLaws.{Covering}
use Rattle.infer.proofs.Setup.stays_within.Given as goal

abbrev pub invariant-loop-k : goal.invariant-loop-k
invariant-loop-k l = Covering l.self.chain.now l.words l.from l.to l.self.shape.width (l.p / word_bits) l.k
