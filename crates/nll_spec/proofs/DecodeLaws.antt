-- Decoding refuses part a number from 1 to 5: `decode-refuses`.
-- Assumes nothing.
use mathlib.Core.Bool.{Bool, true, false, cond, ◌&&◌}
use mathlib.Core.List.{List, [], ◌∷◌}
use Prim.Native.Nat.{ℕ, zero, suc, ◌-◌, ◌*◌, ◌+◌, ◌<◌, ◌≤◌}
use native.Mathlib.Omega.{arith}
use lib.ListN.{length}
use lib.Dec.{leb, eqb}
use Rattle.nll_spec.specs.Syntax.{Ty, Job}
use Rattle.nll_spec.specs.Decode.{max_length, max_points, max_loans, max_nodes, Part, Reading, refused, read, Reader, done, refuse, ◌>>=◌, byte, count, pick, one_of, items, counted}
use Rattle.nll_spec.specs.Decode.{borrow_kind, region, node_tag, args, tagged, type_within, type, variance, flag, kind, param, field, struct_decl, path, action, block, job}
use Rattle.nll_spec.specs.Decode.{point_count, borrow_count, Decoded, rejected, decoded, whole, decode_body, decode}

-- ---- What readers keep

module _ {A : Type 0} where
  -- a refusal is a number from 1 to 5
  abbrev Within : Reading A → Type 0
  Within (refused n) = (0 < n) × (n ≤ 5)
  Within (read a rest) = Unit {0}

  -- every refusal of the reader is such a number
  record Small (m : Reader A) : Type 0 where
    within : (bs : List ℕ) → Within (m bs)

  -- and so of every reader of a list
  data Smalls : List (Reader A) → Type 0 where
    none : Smalls []
    more : {m : Reader A} {ms : List (Reader A)} → Small m → Smalls ms → Smalls (m ∷ ms)

module _ {A : Type 0} where
  small-done : (a : A) → Small (done a)
  unfolding done
  small-done a = record { within = λ bs. tt }

  small-refuse : (n : ℕ) → (0 < n) × (n ≤ 5) → Small {A = A} (refuse n)
  unfolding refuse
  small-refuse n h = record { within = λ bs. h }

  small_bind : {B : Type 0} (m : Reader A) (f : A → Reader B) → Small m → ((a : A) → Small (f a)) → Small (◌>>=◌ m f)
  unfolding ◌>>=◌
  small_bind {B} m f h k = record { within = λ bs. go (m bs) (h.within bs) }
    where
      go : (x : Reading A) → Within x → Within {A = B} (elim x as (λ y. Reading B) [ refused n ↦ refused n | read a rest ↦ f a rest ])
      go (refused n) w = w
      go (read a rest) w = (k a).within rest

small-byte : Small byte
unfolding byte
small-byte = record { within = go }
  where
    go : (bs : List ℕ) → Within (byte bs)
    go [] = omega arith
    go (b ∷ bs) = tt

small-cond : {A : Type 0} (b : Bool) (m n : Reader A) → Small m → Small n → Small (cond b m n)
small-cond true m n h k = h
small-cond false m n h k = k

small_count : (low high : ℕ) → Small (count low high)
unfolding count
small_count low high = small_bind byte _ small-byte (λ n. small-cond (leb low n && leb n high) (done n) (refuse 4) (small-done n) (small-refuse 4 (omega arith)))

module _ {A : Type 0} where
  small-pick : (ms : List (Reader A)) (tag : ℕ) → Smalls ms → Small (pick ms tag)
  unfolding pick
  small-pick [] tag none = small-refuse 3 (omega arith)
  small-pick (m ∷ ms) zero (more h hs) = h
  small-pick (m ∷ ms) (suc tag) (more h hs) = small-pick ms tag hs

  small-one_of : (ms : List (Reader A)) → Smalls ms → Small (one_of ms)
  unfolding one_of
  small-one_of ms h = small_bind byte (pick ms) small-byte (λ tag. small-pick ms tag h)

  small-items : (n : ℕ) (m : Reader A) → Small m → Small (items n m)
  unfolding items
  small-items zero m h = small-done []
  small-items (suc n) m h = small_bind m (λ x. ◌>>=◌ (items n m) (λ xs. done (x ∷ xs))) h (λ x. small_bind (items n m) (λ xs. done (x ∷ xs)) (small-items n m h) (λ xs. small-done (x ∷ xs)))

  small-counted : (high : ℕ) (m : Reader A) → Small m → Small (counted high m)
  unfolding counted
  small-counted high m h = search (small_bind, small_count, small-items)

ruleset Small·rules = (small-done, small_bind, small-byte, small_count, small-one_of, small-items, small-counted, none, more)

-- ---- Types

small-borrow_kind : Small borrow_kind
unfolding borrow_kind
small-borrow_kind = search Small·rules

small-region : Small region
unfolding region
small-region = search Small·rules

small-node_tag : (left : ℕ) → Small (node_tag left)
unfolding node_tag
small-node_tag left = small_bind byte _ small-byte (λ tag. small-cond (eqb left 0) (refuse 4) (done tag) (small-refuse 4 (omega arith)) (small-done tag))

small-args : (inner : ℕ → Reader (Part Ty)) (n left : ℕ) → ((k : ℕ) → Small (inner k)) → Small (args inner n left)
unfolding args
small-args inner zero left h = small-done _
small-args inner (suc n) left h =
    small-one_of _
    (more (small_bind _ _ small-region (λ r. small_bind _ _ (small-args inner n left h) (λ rest. small-done _)))
    (more (small_bind _ _ (h left) (λ t. small_bind _ _ (small-args inner n t.left h) (λ rest. small-done _))) none))

small-tagged : (inner : ℕ → Reader (Part Ty)) (left tag : ℕ) → ((k : ℕ) → Small (inner k)) → Small (tagged inner left tag)
unfolding tagged
small-tagged inner left tag h = search (small-pick, Small·rules, small-borrow_kind, small-region, small-args) depth 9

small-type_within : (depth left : ℕ) → Small (type_within depth left)
unfolding type_within
small-type_within zero left = small-refuse 4 (omega arith)
small-type_within (suc depth) left = small_bind (node_tag left) _ (small-node_tag left) (λ tag. small-tagged (type_within depth) (left - 1) tag (small-type_within depth))

small-type : Small type
unfolding type
small-type = small_bind (type_within (suc max_nodes) max_nodes) _ (small-type_within (suc max_nodes) max_nodes) (λ t. small-done t.item)

-- ---- The parts of the record

small-variance : Small variance
unfolding variance
small-variance = search Small·rules

small-flag : Small flag
unfolding flag
small-flag = search Small·rules

small-kind : Small kind
unfolding kind
small-kind = search Small·rules

small-param : Small param
unfolding param
small-param = search (Small·rules, small-variance, small-flag, small-kind)

small-field : Small field
unfolding field
small-field = search (Small·rules, small-type)

small-struct_decl : Small struct_decl
unfolding struct_decl
small-struct_decl = search (Small·rules, small-param, small-field)

small-path : Small path
unfolding path
small-path = search Small·rules

small-action : Small action
unfolding action
small-action = search (Small·rules, small-borrow_kind, small-path) depth 12

small-block : Small block
unfolding block
small-block = search (Small·rules, small-action)

small-job : Small job
unfolding job
small-job = search (Small·rules, small-struct_decl, small-type, small-block) depth 12

-- ---- The whole record

-- a refusal is a number from 1 to `limit`
abbrev pub RefusedWithin : ℕ → Decoded → Type 0
RefusedWithin limit (rejected n) = (0 < n) × (n ≤ limit)
RefusedWithin limit (decoded j) = Unit {0}

either : (b : Bool) (x y : Decoded) → RefusedWithin 5 x → RefusedWithin 5 y → RefusedWithin 5 (cond b x y)
either true x y h k = h
either false x y h k = k

whole-refuses : (r : Reading Job) → Within r → RefusedWithin 5 (whole r)
unfolding whole
whole-refuses (refused n) h = h
whole-refuses (read j []) h = either (leb (point_count j) max_points && leb (borrow_count j) max_loans) (decoded j) (rejected 5) tt (omega arith)
whole-refuses (read j (b ∷ rest)) h = omega arith

body_refuses : (input : List ℕ) → RefusedWithin 5 (decode_body input)
unfolding decode_body
body_refuses [] = omega arith
body_refuses (high ∷ []) = omega arith
body_refuses (high ∷ low ∷ rest) =
    either (leb (high * 256 + low) max_length && eqb (high * 256 + low) (length rest)) (whole (job rest)) (rejected 2)
    (whole-refuses (job rest) (small-job.within rest)) (omega arith)

-- What is not decoded is refused part a number from 1 to 5.
pub decode-refuses : (input : List ℕ) → RefusedWithin 5 (decode input)
unfolding decode
decode-refuses [] = omega arith
decode-refuses (version ∷ rest) = either (eqb version 1) (decode_body rest) (rejected 1) (body_refuses rest) (omega arith)
