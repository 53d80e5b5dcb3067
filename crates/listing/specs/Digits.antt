-- The digits of a text in hexadecimal, as the code has them.
use Rattle.std.specs.Prelude.{ℕ, Option as Maybe, Some, None}
use Rattle.std.proofs.Math.Option.{Option, none, some}
use Rattle.listing.specs.declared.reader.Digits.{Digits}
use Rattle.listing.specs.declared.reader.Digits.TheVariants.{Paired, Half, Other}

-- the same value, or none
abbrev pub value_of : Maybe ℕ → Option ℕ
value_of None = none
value_of (Some d) = some d

-- the digit that waits for its second, or 0
abbrev pub waiting : Digits → ℕ
waiting Paired = 0
waiting (Half d) = d
waiting Other = 0
