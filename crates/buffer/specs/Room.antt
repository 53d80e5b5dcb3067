-- The room after the bytes is zeros: what gives a buffer its fields back, which the `impl Model` of `Buffer` cites. Assumes nothing.
use Rattle.std.proofs.Common.{◌≡◌, sym, ap, ◌∙◌, List, ◌++◌, ℕ, ◌-◌, ◌≤◌, length, take, drop, replicate, take-append-drop, length-take-le}

-- the array is the bytes and as many zeros as it has room for more
pub whole : (n len : ℕ) (s : List ℕ) → len ≤ length s → drop len s ≡ replicate (n - len) 0 → take len s ++ replicate (n - length (take len s)) 0 ≡ s
whole n len s fits rest =
    ap (λ m. take len s ++ replicate (n - m) 0) (length-take-le len s fits) ∙ ap (λ t. take len s ++ t) (sym rest) ∙ take-append-drop len s
