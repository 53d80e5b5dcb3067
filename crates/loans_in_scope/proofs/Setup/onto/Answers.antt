-- `loans_in_scope::Setup::onto`: a union of four words. Assumes nothing.
use Rattle.loans_in_scope.proofs.GainsLaws.{gains_joined}
use Rattle.loans_in_scope.proofs.Setup.onto.Goals as goal

pub returns-then-at-self : goal.returns-then-at-self
returns-then-at-self c = let a = c.args in
    let r = c.requires in
    rw (← c.from-at.ensures, c.insert_bits_from_slice.ensures.0) (gains_joined a.scope.now a.from.now a.self.now.code a.p _ r.2 r.1 r.0 c.if-at-self.true)
