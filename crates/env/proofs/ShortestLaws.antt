-- The shortest prefixes of a path, by what `path_type` says of it. Assumes nothing.
use mathlib.Core.Path.{◌≡◌, refl, sym, subst, ◌∙◌}
use mathlib.Core.Bool.{true, true≢false}
use mathlib.Core.List.{List, []}
use Prim.Native.Nat.{ℕ, ◌≤◌, ◌<◌}
use native.Mathlib.Omega.{arith}
use lib.ListN.{length}
use Rattle.nll_spec.specs.Syntax as syntax
use Rattle.nll_spec.specs.Syntax.{Job}
use Rattle.nll_spec.specs.Types.{variable_type}
use Rattle.nll_spec.specs.WellFormed.{path_fits}
use Rattle.repr.specs.Reading.{path_of}
use Rattle.repr.specs.declared.Path.{Path}
use Rattle.record.specs.Layout.{Holds}
use Rattle.record.specs.declared.Record.{Record}
use Rattle.std.specs.Prelude.{Option, Some, None}
use Rattle.env.specs.Prefixes.{Leaves, ShortestIn, ShortestOf}
use Rattle.env.specs.Paths.{PathType, PathResult, PathSays}
use Rattle.env.specs.declared.Shortest.{Shortest}
use Rattle.env.specs.declared.paths.Found.TheVariants.{Inside, Written}
use Rattle.env.proofs.PathLaws.{no_leaves, no_entries}
use Rattle.env.proofs.PrefixLaws.{shortest-of, shortest-none}

-- what the steps of a path that may be taken leave, wherever its type stands
pub taken-leaves : (j : Job) (p : syntax.Path) (s out : List ℕ) {kinds names : List ℕ} (d : Option PathType) → path_fits j p ≡ true → PathResult j p s out kinds names d → Leaves j.structs (variable_type j p.base) p.steps kinds names
taken-leaves j p s out (Some (Inside c)) f v = v.leaves
taken-leaves j p s out (Some (Written c)) f v = v.leaves
taken-leaves j p s out None f v = absurd (true≢false (sym f ∙ v))

module _ (input : Record) (p : Path) (j : Job) where
  pub found-shortest : {out kinds names : List ℕ} {d : Option PathType} {r : Shortest} {n : ℕ} → PathSays input p out kinds names d → Holds input j → p.base.0 < length j.variables → path_fits j (path_of input.bytes.now p) ≡ true → n ≡ length (path_of input.bytes.now p).steps → ShortestIn kinds n r → length (path_of input.bytes.now p).steps ≤ 8 → ShortestOf j (path_of input.bytes.now p) r
  found-shortest {out = out} {kinds = kinds} {d = d} {r = r} v l o f i g few = shortest-of j (path_of input.bytes.now p) (taken-leaves j (path_of input.bytes.now p) input.bytes.now out d f (v.says j l o)) v.sizes.0 few (subst (λ (k : ℕ). ShortestIn kinds k r) i g)

  pub stepless_shortest : p.steps ≡ 0 → ShortestOf j (path_of input.bytes.now p) (record { supporting = 0; frozen = 0 })
  stepless_shortest e =
      let none : (path_of input.bytes.now p).steps ≡ [] = rw e in
      shortest-of j (path_of input.bytes.now p) {kinds = no_entries} {names = no_entries} (rw none no_leaves) refl (rw none (omega arith)) (rw none (shortest-none no_entries))
