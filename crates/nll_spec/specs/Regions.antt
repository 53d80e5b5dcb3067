-- The regions' sets of points: their seeds, and the least sets that meet every constraint.
use Rattle.std.specs.Prelude.{Bool, true, false, ◌||◌, ◌&&◌, not, cond, ℕ, ◌+◌, ◌-◌, length, get_or, take, eqb, ltb, leb}
use mathlib.Core.List.{List, [], ◌∷◌, ◌++◌, tail}
use Rattle.nll_spec.specs.Lists.{any, any_from, contains, below}
use Rattle.nll_spec.specs.Fixpoint.{Table, Rule, holds, least, tabulate}
use Rattle.nll_spec.specs.Syntax.{RegionName, Variable, Point, Ty, UnitTy, RefTy, StructTy, BoundTy, Args, NoArgs, RegionArg, TypeArg, Param, StructDecl, Job}
use Rattle.nll_spec.specs.Types.{struct_of, variable_type, regions_of, region_name}
use Rattle.nll_spec.specs.Graph.{Graph, next_of, preds_of, is_walked}
use Rattle.nll_spec.specs.Liveness.{uses, drops, live_table}
use Rattle.nll_spec.specs.Constraints.{Outlives}

-- ---- Seeds

abbrev pub head_dangles : List Param → Bool
head_dangles [] = false
head_dangles (d ∷ ds) = d.may_dangle

-- The regions of a type whose value is dropped: none for a Ref or Unit; of a struct those in the arguments that may not dangle, and, by the
-- same rule, in the type arguments that may.
unfoldable mutual
  pub drop_regions : Ty → List StructDecl → List RegionName
  drop_regions UnitTy ss = []
  drop_regions (RefTy k r t) ss = []
  drop_regions (StructTy s given) ss = drop_arg_regions given ss (struct_of ss s).params
  drop_regions (BoundTy b) ss = []

  pub drop_arg_regions : Args → List StructDecl → List Param → List RegionName
  drop_arg_regions NoArgs ss ds = []
  drop_arg_regions (RegionArg r rest) ss ds = cond (head_dangles ds) [] (region_name r) ++ drop_arg_regions rest ss (tail ds)
  drop_arg_regions (TypeArg t rest) ss ds = cond (head_dangles ds) (drop_regions t ss) (regions_of t) ++ drop_arg_regions rest ss (tail ds)

-- Region r outlives e if it is e, or the record lists for r a region that outlives e.
abbrev pub outlives_rule : Job → Rule
outlives_rule j t r e = eqb r e || any (λ m. holds t m e) (get_or j.outlives r [])

-- Row r: the declared regions that declared region r outlives.
unfoldable pub outlives_table : Job → Table
outlives_table j = least (length j.outlives) (below (length j.outlives)) (outlives_rule j)

-- On entry to point p, variable v is used later and has region r in its type, or is dropped later and its type's drop needs r.
abbrev pub has_live : Job → Table → Table → RegionName → Point → Variable → Bool
has_live j used dropped r p v =
    holds used v p && contains (regions_of (variable_type j v)) r || holds dropped v p && contains (drop_regions (variable_type j v) j.structs) r

-- A declared region starts with every point of walked blocks and the ends of all that it outlives.
-- Any other starts with the walked points on entry to which a variable is live that has it in its type.
unfoldable pub seed_table : Job → Graph → Table
seed_table j g =
    let ends = outlives_table j in
    let used = live_table uses j g in
    let dropped = live_table drops j g in
    tabulate j.regions g.points λ r p.
    cond (ltb r (length j.outlives))
    (is_walked g p || leb g.code p && holds ends r (p - g.code))
    (is_walked g p && any (λ v. has_live j used dropped r p v) (below (length j.variables)))

-- ---- Least sets

-- What a constraint puts into its outer region where its walk comes to a point without successors: every declared end, which is document 01's rule, or those
-- that its inner region holds, which is ticket 7's of document 02.
pub data EndRule : Type 0 where
  every_end held_ends : EndRule

abbrev pub passes_end : EndRule → Bool → Bool
passes_end every_end held = true
passes_end held_ends held = held

-- what no row below the regions' is asked for
abbrev pub no_constraint : Outlives
no_constraint = record { sup = 0; sub = 0; point = 0 }

-- a point of a block that no point follows
abbrev pub is_exit : Graph → Point → Bool
is_exit g p = ltb p g.code && elim (next_of g p) [ [] ↦ true | q ∷ qs ↦ false ]

-- One table holds the regions' sets, rows 0 to regions − 1, and the points that the walk of each constraint visits, row regions + k for number k.

-- The walk of constraint c, number k, visits point q: its inner region holds q, and it starts there or visits a point before q.
abbrev pub visits : Graph → ℕ → Table → Point → ℕ → Outlives → Bool
visits g regions t q k c = holds t c.sub q && (eqb q c.point || any (holds t (regions + k)) (preds_of g q))

-- Constraint c, number k, puts point q into its outer region: its walk visits q; or q is a declared end that the end rule passes on, and the walk visits
-- a point without successors.
abbrev pub adds : EndRule → Graph → ℕ → Table → Point → ℕ → Outlives → Bool
adds ends g regions t q k c =
    holds t (regions + k) q
    || leb g.code q && passes_end ends (holds t c.sub q) && any (λ p. is_exit g p && holds t (regions + k) p) (below g.code)

-- A region has its seed, and what the constraints put into it.
abbrev pub region_rule : EndRule → Graph → ℕ → Table → List Outlives → Rule
region_rule ends g regions seeds cs t row q =
    cond (ltb row regions)
    (holds seeds row q || any_from 0 (λ k c. eqb c.sup row && adds ends g regions t q k c) cs)
    (visits g regions t q (row - regions) (get_or cs (row - regions) no_constraint))

-- The regions' sets.
unfoldable pub solve : EndRule → Job → Graph → Table → List Outlives → Table
solve ends j g seeds cs = take j.regions (least (j.regions + length cs) (below g.points) (region_rule ends g j.regions seeds cs))

-- Grown is 01's term for a declared region that exceeds its seed.
unfoldable pub is_grown : Graph → Table → Table → RegionName → Bool
is_grown g seeds sets r = any (λ p. holds sets r p && not (holds seeds r p)) (below g.points)
