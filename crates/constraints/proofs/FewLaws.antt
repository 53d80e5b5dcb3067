-- An action of an accepted job makes at most 264 constraints: `few_constraints`. Assumes nothing.
use mathlib.Core.Path.{◌≡◌, refl}
use mathlib.Core.Bool.{Bool, true, false, ◌&&◌, cond}
use mathlib.Core.List.{List, [], ◌∷◌}
use mathlib.Core.Option.{Option, none, some}
use Prim.Native.Nat.{ℕ, zero, suc, ◌+◌, ◌*◌, ◌≤◌, ◌<◌}
use native.Mathlib.Omega.{arith}
use lib.ListN.{length, get_or, length-append}
use lib.Dec.{T, leb, leb→le}
use Rattle.nll_spec.specs.Lists.{every}
use Rattle.nll_spec.specs.Syntax.{Job, Point, FieldName, Variance, Co, Contra, In, Region, Free, BoundRegion, Path}
use Rattle.nll_spec.specs.Syntax.{Ty, UnitTy, RefTy, StructTy, BoundTy, Args, NoArgs, RegionArg, TypeArg, Param, StructDecl}
use Rattle.nll_spec.specs.Syntax.{Action, Noop, Init, Borrow, Assign, Constraint, Use, Drop, StorageDead}
use Rattle.nll_spec.specs.Decode.{read, done, count, counted, param, field, struct_decl, type, max_params, max_fields, max_steps, max_nodes}
use Rattle.nll_spec.specs.Types.{struct_of, variable_type, path_type, type_after, type_nodes, arg_nodes, step_type, step, never_stops, is_shared, is_ref, ref_region, referent, struct_args, head_region, head_type, tail_args}
use Rattle.nll_spec.specs.WellFormed.{refusal, is_region_kind, is_type_kind, region_fits, type_fits, args_fit, steps_fit, path_fits, paths_of}
use Rattle.nll_spec.specs.Graph.{graph_of, action_at}
use Rattle.nll_spec.specs.Constraints.{invert, within, referent_variance, require_outlives, relate_regions, relate, relate_args, relate_source, constraints_at}
use Rattle.nll_spec.proofs.Tests.{and_left, and_right}
use Rattle.nll_spec.proofs.AcceptedLaws.{accepted-job}
use Rattle.nll_spec.proofs.TypeLaws.{path_good}
use Rattle.repr.proofs.SpellLaws.{carry, then}
use Rattle.repr.proofs.ItemLaws.{items-length}
use Rattle.record.specs.Rows.{Standing}
use Rattle.record.specs.Rows as rows
use Rattle.record.specs.Layout.{Layout}
use Rattle.record.specs.declared.Head.{Head}
use Rattle.record.specs.declared.Offsets.{Offsets}
use Rattle.record.proofs.LayoutLaws.{count_most}
use Rattle.env.proofs.FieldLaws.{type-few}
use Rattle.env.proofs.ShortLaws.{short, all_short}
use Rattle.constraints.proofs.ActionLaws.{fits, shorts}

-- ---- Two types: at most 8 constraints a node

module _ (at : Point) where
  outlives-few : (a b : Region) → length (require_outlives at a b) ≤ 1
  outlives-few (Free x) (Free y) = omega arith
  outlives-few (Free x) (BoundRegion b) = omega arith
  outlives-few (BoundRegion a) b = omega arith

  regions-few : (v : Variance) (a b : Region) → length (relate_regions at v a b) ≤ 2
  regions-few Co a b = let h = outlives-few b a in omega arith
  regions-few Contra a b = let h = outlives-few a b in omega arith
  regions-few In a b = let h = outlives-few a b in let k = outlives-few b a in simp length-append (omega arith)

  -- structs with at most 4 parameters each
  module _ (ss : List StructDecl) (params-few : (s : ℕ) → length (struct_of ss s).params ≤ max_params) where
    mutual
      unfolding relate type_fits type_nodes

      pub relate-few : (t : Ty) → T (type_fits ss [] t) → (v : Variance) (u : Ty) → length (relate at ss t v u) ≤ 8 * type_nodes t
      relate-few UnitTy h v u = omega arith
      relate-few (RefTy k r t) h v u =
          let a = regions-few (invert v) r (ref_region u) in
          let b = relate-few t (and_right (region_fits [] r) (type_fits ss [] t) h) (within v (referent_variance k)) (referent u) in
          simp length-append (omega arith)
      relate-few (StructTy s given) h v u =
          let a = params-few s in
          let b = args-few given (struct_of ss s).params h v (struct_args u) in
          omega arith
      relate-few (BoundTy b) h v u = omega arith

      args-few : (g : Args) (ds : List Param) → T (args_fit ss [] g ds) → (v : Variance) (us : Args) → length (relate_args at ss g v ds us) ≤ 2 * length ds + 8 * arg_nodes g
      args-few NoArgs ds h v us = omega arith
      args-few (RegionArg r rest) [] h v us = absurd h
      args-few (RegionArg r rest) (d ∷ ds) h v us =
          let a = regions-few (within v d.variance) r (head_region us) in
          let b = args-few rest ds (and_right (is_region_kind d.kind && region_fits [] r) (args_fit ss [] rest ds) h) v (tail_args us) in
          simp length-append (omega arith)
      args-few (TypeArg t rest) [] h v us = absurd h
      args-few (TypeArg t rest) (d ∷ ds) h v us =
          let a = relate-few t (and_right (is_type_kind d.kind) (type_fits ss [] t) (and_left (is_type_kind d.kind && type_fits ss [] t) (args_fit ss [] rest ds) h)) (within v d.variance) (head_type us) in
          let b = args-few rest ds (and_right (is_type_kind d.kind && type_fits ss [] t) (args_fit ss [] rest ds) h) v (tail_args us) in
          simp length-append (omega arith)

  -- ---- A borrow's source: at most one a step

  pub source-few : (ss : List StructDecl) (r : Region) (t : Ty) (fs : List FieldName) → length (relate_source at ss r t fs) ≤ length fs
  unfolding relate_source
  source-few ss r t [] = omega arith
  source-few ss r t (f ∷ fs) =
      let a = go (is_ref t && never_stops ss is_shared (step ss t f) fs) in
      let b = source-few ss r (step ss t f) fs in
      simp length-append (omega arith)
    where
      go : (b : Bool) → length (cond b (require_outlives at (ref_region t) r) []) ≤ 1
      go true = outlives-few (ref_region t) r
      go false = omega arith

-- ---- What was read is small

struct_few : (bs : List ℕ) {d : StructDecl} {over : List ℕ} → struct_decl bs ≡ read d over → length d.params ≤ max_params
unfolding struct_decl counted done
struct_few bs e =
    let ps = then (counted max_params param) _ bs e in
    let n = then (count 0 max_params) _ bs ps.first in
    let l = items-length param n.got n.mid n.last in
    let m = count_most 0 max_params bs n.first in
    let fs = then (counted max_fields field) _ ps.mid ps.last in
    carry (λ d o. length d.params ≤ max_params) fs.last (omega arith)

structs-few : {s os : List ℕ} {ss : List StructDecl} → Standing struct_decl s os ss → (k : ℕ) → length (struct_of ss k).params ≤ max_params
structs-few rows.none k = omega arith
structs-few (rows.more w r) zero = struct_few _ w.reads
structs-few (rows.more w r) (suc k) = structs-few r k

variables-few : {s os : List ℕ} {vs : List Ty} → Standing type s os vs → (k : ℕ) → type_nodes (get_or vs k UnitTy) ≤ max_nodes
unfolding type_nodes
variables-few rows.none k = omega arith
variables-few (rows.more w r) zero = type-few _ w.reads
variables-few (rows.more w r) (suc k) = variables-few r k

steps-few : (ss : List StructDecl) (t : Ty) (fs : List FieldName) → type_nodes t ≤ max_nodes → T (steps_fit ss t fs) → type_nodes (type_after ss t fs) ≤ max_nodes
unfolding steps_fit type_after step
steps-few ss t [] l h = l
steps-few ss t (f ∷ fs) l h = go (step_type ss t f) h (λ u. steps-few ss u fs)
  where
    go : (o : Option Ty) → T (elim o as (λ x. Bool) [ none ↦ false | some u ↦ leb (type_nodes u) max_nodes && steps_fit ss u fs ])
        → ((u : Ty) → type_nodes u ≤ max_nodes → T (steps_fit ss u fs) → type_nodes (type_after ss u fs) ≤ max_nodes)
        → type_nodes (type_after ss (elim o as (λ x. Ty) [ none ↦ UnitTy | some u ↦ u ]) fs) ≤ max_nodes
    go none h rec = absurd h
    go (some u) h rec = rec u (leb→le (type_nodes u) max_nodes (and_left (leb (type_nodes u) max_nodes) (steps_fit ss u fs) h)) (and_right (leb (type_nodes u) max_nodes) (steps_fit ss u fs) h)

-- ---- An action

module _ {s : List ℕ} {t : Offsets} {h : Head} {j : Job} (w : Layout s t h j) (accepted : refusal j ≡ 0) where
  path-few : (q : Path) → T (path_fits j q) → (at : Point) (v : Variance) (u : Ty) → length (relate at j.structs (path_type j q) v u) ≤ 256
  unfolding path_fits path_type
  path-few q f at v u =
      let ok = accepted-job j accepted in
      let a = relate-few at j.structs (structs-few w.structs) (path_type j q) (path_good j ok.structs-named ok.fields-fit ok.variables-named ok.variables-fit q).1 v u in
      let b = steps-few j.structs (variable_type j q.base) q.steps (variables-few w.variables q.base) f in
      omega arith

  action-few : (p : Point) (a : Action) → T (every (path_fits j) (paths_of a)) → T (all_short a) → length (constraints_at j p a) ≤ 264
  unfolding constraints_at paths_of
  action-few p Noop f k = omega arith
  action-few p (Init d qs) f k = omega arith
  action-few p (Borrow d r m q) f k =
      let a = path-few d (and_left (path_fits j d) (path_fits j q && true) f) (suc p) Contra (RefTy m (Free r) (path_type j q)) in
      let b = source-few (suc p) j.structs (Free r) (variable_type j q.base) q.steps in
      let c = leb→le (length q.steps) max_steps (and_left (short q) true (and_right (short d) (short q && true) k)) in
      simp length-append (omega arith)
  action-few p (Assign d q) f k =
      let a = path-few q (and_left (path_fits j q) true (and_right (path_fits j d) (path_fits j q && true) f)) (suc p) Co (path_type j d) in
      omega arith
  action-few p (Constraint sup sub) f k = omega arith
  action-few p (Use q) f k = omega arith
  action-few p (Drop q) f k = omega arith
  action-few p (StorageDead v) f k = omega arith

pub few_constraints : {s : List ℕ} {t : Offsets} {h : Head} {j : Job} → Layout s t h j → refusal j ≡ 0 → (p : Point) → p < (graph_of j).code
    → length (constraints_at j p (action_at (graph_of j) p)) ≤ 264
few_constraints {j = j} w accepted p l = action-few w accepted p (action_at (graph_of j) p) (fits w accepted p refl) (shorts w accepted p refl)
