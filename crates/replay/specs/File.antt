-- The file of recorded answers, and when the call agrees with an entry.
use Rattle.std.specs.Prelude.{◌≡◌, Bool, ◌&&◌, List, map, ℕ, zero, suc, ◌+◌, ◌-◌, ◌*◌, ◌≤◌, length, get_or, take, drop, replicate, eqb, Option, Some, None}
use Rattle.nll_spec.specs.Lists.{below}
use Rattle.nll_spec.specs.Regions.{every_end}
use Rattle.nll_spec.specs.Output.{Outcome, overwrite, bit, analyse}
use Rattle.nll_spec.specs.Cases.{same_list}
use Rattle.replay.specs.declared.file.Entry.{Entry}
use Rattle.replay.specs.declared.tally.Count.{Count}

-- the two-byte number at a position
abbrev pub two : List ℕ → ℕ → ℕ
two s at = get_or s at 0 * 256 + get_or s (at + 1) 0

-- the four-byte number at a position
abbrev pub four : List ℕ → ℕ → ℕ
four s at = get_or s at 0 * 16777216 + get_or s (at + 1) 0 * 65536 + get_or s (at + 2) 0 * 256 + get_or s (at + 3) 0

-- the four-byte number i of those from a position on
abbrev pub word_at : List ℕ → ℕ → ℕ → ℕ
word_at s at i = four s (at + 4 * i)

-- the first n of them
unfoldable pub words_at : List ℕ → ℕ → ℕ → List ℕ
words_at s at n = map (word_at s at) (below n)

-- the bytes from a position to another
abbrev pub part_of : List ℕ → ℕ → ℕ → List ℕ
part_of s from to = take (to - from) (drop from s)

-- the entry at a position
unfoldable pub entry_at : List ℕ → ℕ → Entry
entry_at s at =
    let number = at + 2 + two s at in
    let words = number + 3 in
    let count = two s (number + 1) in
    let stop = words + 4 * count in
    record { input = at + 2; number = number; words = words; count = count; bytes = stop + 2; end = stop + 2 + two s stop }

-- The entry's parts are within the bytes s.
pub record EntryIn (s : List ℕ) (e : Entry) : Type 0 where
  pub input : e.input ≤ e.number
  pub number : e.number ≤ length s
  pub words : e.words ≤ 1048576
  pub bytes : e.bytes ≤ e.end
  pub end : e.end ≤ length s

-- ---- The call

-- the buffers before the call
unfoldable pub words_before : List ℕ
words_before = replicate 4112 2779096485

unfoldable pub bytes_before : List ℕ
bytes_before = replicate 2080 165

-- the call's outcome by the definition
abbrev pub outcome_of : List ℕ → Outcome
outcome_of input = analyse every_end input words_before bytes_before

-- The outcome is the entry's: its number, its words and bytes, and after them what was there.
unfoldable pub agrees : List ℕ → Entry → Bool
agrees s e =
    let o = outcome_of (part_of s e.input e.number) in
    eqb o.number (get_or s e.number 0)
    && same_list o.words (overwrite (words_at s e.words e.count) words_before)
    && same_list o.bytes (overwrite (part_of s e.bytes e.end) bytes_before)

-- ---- The whole file

-- where entry n stands
unfoldable pub start_of : List ℕ → ℕ → ℕ
start_of s zero = 2
start_of s (suc n) = (entry_at s (start_of s n)).end

-- how many of the first n entries agree
unfoldable pub agreeing : List ℕ → ℕ → ℕ
agreeing s zero = 0
agreeing s (suc n) = agreeing s n + bit (agrees s (entry_at s (start_of s n)))

-- the last entry ends where the file does
abbrev pub IsWhole : List ℕ → Type 0
IsWhole s = start_of s (two s 0) ≡ length s

-- how many entries of a whole file agree; of any other file there is no such number
abbrev pub AgreeIn : List ℕ → Option ℕ → Type 0
AgreeIn s None = IsWhole s → ⊥
AgreeIn s (Some n) = IsWhole s × (n ≡ agreeing s (two s 0))

-- The count of a file: how many entries it has to have, and how many of them agree.
pub record Replayed (s : List ℕ) (c : Count) : Type 0 where
  pub entries : c.entries ≡ two s 0
  pub agree : AgreeIn s c.agree
