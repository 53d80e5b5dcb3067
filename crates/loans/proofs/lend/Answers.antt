-- `loans::lend` meets its contract. Assumes nothing.
use Rattle.std.proofs.Common.{rules}
use Rattle.loans.proofs.LendLaws.{lends_unwalked, lends_other_kind, lends_other, lends_full, lends-more}
use Rattle.loans.proofs.lend.Goals as goal

pub returns-then-not-test : goal.returns-then-not-test
returns-then-not-test c = lends_unwalked _ (search rules) c.requires.1 c.requires.0 c.test.ensures c.if-not-test.true

pub returns-then-ne : goal.returns-then-ne
returns-then-ne c = lends_other_kind _ (search rules) c.requires.1 c.requires.0 c.test.ensures c.if-not-test.false c.kind_at.ensures (search (rules, c.if-ne.ensures))

pub returns-in_default-a : goal.returns-in_default-a
returns-in_default-a c = lends_other _ (search rules) c.requires.1 c.requires.0 c.test.ensures c.if-not-test.false c.action_at.ensures c.in-Ok.is c.in_default-a.not-Borrow

pub returns-then-n-eq128 : goal.returns-then-n-eq128
returns-then-n-eq128 c = lends_full _ (search rules) c.requires.1 c.requires.0 c.test.ensures c.if-not-test.false c.action_at.ensures c.in-Ok.is c.in-Borrow.is c.if-n-eq128.true

pub returns : goal.returns
returns c = lends-more _ (search rules) c.requires.1 c.requires.0 c.test.ensures c.if-not-test.false c.action_at.ensures c.in-Ok.is c.in-Borrow.is c.shortest_of.ensures c.if-n-eq128.false
