-- What the program's functions promise of the text that it reads and of the listing that it prints.
use Rattle.std.specs.Prelude.{◌≡◌, List, ◌++◌, ℕ, ◌≤◌, length}
use Rattle.nll_spec.specs.Listing.{listing}
use Rattle.listing.specs.Reading.{hex_record, Reads}
use Rattle.listing.specs.Places.{rest_after}
use Rattle.listing.specs.declared.reader.Hex.{Hex}
use Rattle.nll_list.specs.declared.Begun.{Begun}

-- h stands for some text: all pieces that were read, one after the other.
pub record IsRead (h : Hex) : Type 0 where
  pub text : List ℕ
  pub reads : Reads text h

-- What is printed first, at most 16 bytes, and then all from the place that follows, if any, is the listing of a text whose record, as far as it is kept, is `input`.
pub record Begins (input : List ℕ) (r : Begun) (ws bs : List ℕ) : Type 0 where
  pub within : length r.text ≤ 16
  pub goes : (text : List ℕ) → hex_record text ≡ input → listing text ≡ r.text ++ rest_after r.counts ws bs r.next
