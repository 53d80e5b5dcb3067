-- What was read of a text in hexadecimal, and the bytes that are kept of its record.
use Rattle.std.specs.Prelude.{◌≡◌, cond, List, [], ◌∷◌, ◌++◌, ℕ, length, take, ltb}
use Rattle.std.proofs.Math.Option.{Option, none, some}
use Rattle.nll_spec.specs.Listing.{bytes_from, hex_bytes}
use Rattle.listing.specs.declared.reader.Digits.{Digits}
use Rattle.listing.specs.declared.reader.Digits.TheVariants.{Paired, Half, Other}
use Rattle.listing.specs.declared.reader.Hex.{Hex}

-- how many bytes are kept
abbrev pub room : ℕ
room = 16388

-- the record of a text, as far as it is kept
abbrev pub hex_record : List ℕ → List ℕ
hex_record text = take room (hex_bytes text)

-- these bytes, and then what follows, if that has a meaning
abbrev pub after : List ℕ → Option (List ℕ) → Option (List ℕ)
after bs none = none
after bs (some more) = some (bs ++ more)

-- the bytes of the pairs of digits that were read, and of what comes after the digits
abbrev pub bytes_after : Digits → List ℕ → List ℕ → Option (List ℕ)
bytes_after Paired bytes rest = after bytes (bytes_from none rest)
bytes_after (Half d) bytes rest = after bytes (bytes_from (some d) rest)
bytes_after Other bytes rest = none

-- h stands for the text: whatever comes after it, the bytes of all are those of the text and then those that `h` and the rest give. The first `room`
-- bytes of the text are kept.
pub record Reads (text : List ℕ) (h : Hex) : Type 0 where
  pub bytes : List ℕ
  pub means : (rest : List ℕ) → bytes_from none (text ++ rest) ≡ bytes_after h.digits bytes rest
  pub same : h.kept ≡ take room bytes

-- A byte more is kept, if there is room.
pub record Kept (byte : ℕ) (h h' : Hex) : Type 0 where
  pub same : h'.kept ≡ cond (ltb (length h.kept) room) (h.kept ++ (byte ∷ [])) h.kept

-- From any text that h stands for to that text with a piece more.
abbrev pub Feeds : List ℕ → Hex → Hex → Type 0
Feeds piece h h' = (text : List ℕ) → Reads text h → Reads (text ++ piece) h'
