-- What is put into a buffer.
use Rattle.std.specs.Prelude.{◌≡◌, List, ◌++◌, ℕ, ◌+◌, ◌<◌, ◌≤◌, length}

-- These bytes are put after the old ones.
pub record Appends (src old new : List ℕ) : Type 0 where
  pub longer : length new ≡ length old + length src
  pub same : new ≡ old ++ src

-- The same where n bytes have room for them; else nothing is put.
pub record Puts (n : ℕ) (src old new : List ℕ) : Type 0 where
  pub fits : length old + length src ≤ n → Appends src old new
  pub full : n < length old + length src → new ≡ old
