-- A reading of a type is the same at every depth that is no limit of its own. Assumes nothing.
use mathlib.Core.Path.{◌≡◌, refl, ap, ◌∙◌}
use mathlib.Core.List.{List, [], ◌∷◌}
use Prim.Native.Nat.{ℕ, zero, suc, ◌-◌, ◌≤◌, ◌<◌}
use native.Mathlib.Omega.{arith}
use Rattle.nll_spec.specs.Syntax.{RegionArg, TypeArg}
use Rattle.nll_spec.specs.Decode.{Reading, refused, read, Reader, done, refuse, ◌>>=◌, byte, count, pick, one_of, max_params, part, borrow_kind, region, node_tag, args, tagged, type_within}
use Rattle.repr.specs.Types.{Inner}
use Rattle.repr.proofs.SpellLaws.{Spells, tag_read, type_spelt}

-- ---- Readings that go on alike

module _ {A B : Type 0} (bs : List ℕ) where
  alike : (m : Reader A) (f g : A → Reader B) → ((a : A) (over : List ℕ) → m bs ≡ read a over → f a over ≡ g a over) → ◌>>=◌ m f bs ≡ ◌>>=◌ m g bs
  unfolding ◌>>=◌
  alike m f g h = go (m bs) refl
    where
      go : (x : Reading A) → m bs ≡ x → ◌≡◌ {A = Reading B} (elim x as (λ y. Reading B) [ refused n ↦ refused n | read a over ↦ f a over ]) (elim x as (λ y. Reading B) [ refused n ↦ refused n | read a over ↦ g a over ])
      go (refused n) e = refl
      go (read a over) e = h a over e

  from_same : (m m' : Reader A) (f : A → Reader B) → m bs ≡ m' bs → ◌>>=◌ m f bs ≡ ◌>>=◌ m' f bs
  unfolding ◌>>=◌
  from_same m m' f e = ap (λ (x : Reading A). elim x as (λ y. Reading B) [ refused n ↦ refused n | read a over ↦ f a over ]) e

-- ---- Two readers of types that read types of at most so many nodes alike

abbrev Agree : Inner → Inner → ℕ → Type 0
Agree f g left = (l : ℕ) (bs : List ℕ) → l ≤ left → f l bs ≡ g l bs

module _ (f g : Inner) (h : Spells f) where
  pub args-agree : (n left : ℕ) (bs : List ℕ) → Agree f g left → args f n left bs ≡ args g n left bs
  unfolding args one_of pick done refuse
  args-agree zero left bs a = refl
  args-agree (suc n) left bs a = alike bs byte _ _ (λ tag over e. go tag over (args-agree n))
    where
      go : (tag : ℕ) (over : List ℕ) → ((left : ℕ) (bs : List ℕ) → Agree f g left → args f n left bs ≡ args g n left bs)
          → pick
          ((do r ← region; rest ← args f n left; done (part (RegionArg r rest.item) rest.left))
          ∷ (do t ← f left; rest ← args f n t.left; done (part (TypeArg t.item rest.item) rest.left))
          ∷ []) tag over
          ≡ pick
          ((do r ← region; rest ← args g n left; done (part (RegionArg r rest.item) rest.left))
          ∷ (do t ← g left; rest ← args g n t.left; done (part (TypeArg t.item rest.item) rest.left))
          ∷ []) tag over
      go zero over rec = alike over region _ _ (λ r mid e. from_same mid _ _ _ (rec left mid a))
      go (suc zero) over rec =
          alike over (f left) _ _ (λ t mid e. from_same mid _ _ _ (rec t.left mid (λ l bs k. let z = (h left over t mid e).nodes in a l bs (omega (arith, k, z)))))
          ∙ from_same over _ _ _ (a left over (omega arith))
      go (suc (suc k)) over rec = refl

  tagged-agree : (left tag : ℕ) (bs : List ℕ) → Agree f g left → tagged f left tag bs ≡ tagged g left tag bs
  unfolding tagged pick done refuse
  tagged-agree left zero bs a = refl
  tagged-agree left (suc zero) bs a = alike bs borrow_kind _ _ (λ k over e. alike over region _ _ (λ r mid i. from_same mid _ _ _ (a left mid (omega arith))))
  tagged-agree left (suc (suc zero)) bs a = alike bs byte _ _ (λ s over e. alike over (count 0 max_params) _ _ (λ n mid i. from_same mid _ _ _ (args-agree n left mid a)))
  tagged-agree left (suc (suc (suc zero))) bs a = refl
  tagged-agree left (suc (suc (suc (suc n)))) bs a = refl

-- ---- One depth and the next

pub deeper : (depth left : ℕ) (bs : List ℕ) → left < depth → type_within depth left bs ≡ type_within (suc depth) left bs
unfolding type_within
deeper zero left bs h = absurd (omega arith)
deeper (suc depth) left bs h = alike bs (node_tag left) _ _ (λ tag over e.
    let z = (tag_read left bs e).1 in
    tagged-agree (type_within depth) (type_within (suc depth)) (type_spelt depth) (left - 1) tag over (λ l mid k. deeper depth l mid (omega (arith, h, k, z))))

pub args_deeper : (depth n left : ℕ) (bs : List ℕ) → left < depth → args (type_within depth) n left bs ≡ args (type_within (suc depth)) n left bs
args_deeper depth n left bs h = args-agree (type_within depth) (type_within (suc depth)) (type_spelt depth) n left bs (λ l mid k. deeper depth l mid (omega (arith, h, k)))
