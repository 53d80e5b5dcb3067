-- `listing::reader::digit` meets its contract. Assumes nothing.
use native.Mathlib.Omega.{arith}
use Rattle.listing.proofs.ReadLaws.{digit_decimal, digit_upper, digit_lower, digit_none}
use Rattle.listing.proofs.reader.digit.Goals as goal

pub returns-in-48-to-57-clause-value : goal.returns-in-48-to-57-clause-value
returns-in-48-to-57-clause-value c = digit_decimal c.args.c (omega arith) (omega arith)

pub returns-in-65-to-70-clause-value : goal.returns-in-65-to-70-clause-value
returns-in-65-to-70-clause-value c = digit_upper c.args.c (omega arith) (omega arith)

pub returns-in-97-to-102-clause-value : goal.returns-in-97-to-102-clause-value
returns-in-97-to-102-clause-value c = digit_lower c.args.c (omega arith) (omega arith)

pub returns-in_default-clause-value : goal.returns-in_default-clause-value
returns-in_default-clause-value c = digit_none c.args.c (λ h. omega arith) (λ h. omega arith) (λ h. omega arith)

pub returns-in_default-2-clause-value : goal.returns-in_default-2-clause-value
returns-in_default-2-clause-value c = digit_none c.args.c (λ h. omega arith) (λ h. omega arith) (λ h. omega arith)

pub returns-in_default-3-clause-value : goal.returns-in_default-3-clause-value
returns-in_default-3-clause-value c = digit_none c.args.c (λ h. omega arith) (λ h. omega arith) (λ h. omega arith)

pub returns-in_default-4-clause-value : goal.returns-in_default-4-clause-value
returns-in_default-4-clause-value c = digit_none c.args.c (λ h. omega arith) (λ h. omega arith) (λ h. omega arith)
