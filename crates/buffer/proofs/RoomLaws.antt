-- The room after the bytes is zeros. Assumes nothing.
use Rattle.std.proofs.Common.{◌≡◌, sym, ap, ◌∙◌, List, ℕ, ◌+◌, ◌-◌, drop, replicate, drop-drop, arith}
use Rattle.std.proofs.lemmas.List.{drop-replicate}

-- what is left of the room where m bytes more are put
pub room_after : (n len m : ℕ) (s : List ℕ) → drop len s ≡ replicate (n - len) 0 → drop (len + m) s ≡ replicate (n - (len + m)) 0
room_after n len m s room =
    let e : n - len - m ≡ n - (len + m) = omega arith in
    sym (drop-drop m len s) ∙ ap (drop m) room ∙ drop-replicate m (n - len) 0 ∙ ap (λ k. replicate k 0) e
