-- What running constraints does to the regions' sets and to the marks of the regions that grew.
use Rattle.std.specs.Prelude.{◌≡◌, ◌⊎◌, Bool, true, false, ◌&&◌, ◌||◌, List, ℕ, zero, suc, ◌+◌, ◌*◌, ◌^◌, ◌≤◌, ◌<◌, length, get_or, T, ltb}
use Rattle.nll_spec.specs.Lists.{Member}
use Rattle.nll_spec.specs.Syntax.{Point, RegionName}
use Rattle.nll_spec.specs.Graph.{Graph}
use Rattle.nll_spec.specs.Constraints.{Outlives}
use Rattle.nll_spec.specs.Regions.{EndRule}
use Rattle.nll_spec.specs.Output.{word_bits}
use Rattle.nll_spec.specs.Meaning.{Sets, Meets}
use Rattle.bit_set.specs.Bits.{has}
use Rattle.graph.specs.Tables.{Edges}
use Rattle.infer.specs.Search.{rule_of, Linked}
use Rattle.infer.specs.declared.Setup.{Setup}

-- What constraints are run in: the end rule, the graph, how many regions there are, and how many words a region's set takes.
pub record Setting : Type 0 where
  pub ends : EndRule
  pub graph : Graph
  pub regions : ℕ
  pub width : ℕ

-- number q of region r's set
abbrev pub bit_at : ℕ → RegionName → Point → ℕ
bit_at width r q = word_bits * (r * width) + q

-- The sets that the words say. Where the width is word_count points, these are `nll_spec`'s sets_in points.
abbrev pub sets_at : ℕ → ℕ → List ℕ → Sets
sets_at width points ws r q = ltb q points && has ws (bit_at width r q)

-- the marks are a set of regions, and r is in it
abbrev pub Marked : List ℕ → RegionName → Type 0
Marked marks r = has marks r ≡ true

-- every word fits
abbrev pub Words : List ℕ → Type 0
Words ws = (k : ℕ) → get_or ws k 0 < 2 ^ word_bits

module _ (s : Setting) where
  abbrev pub sets_of : List ℕ → Sets
  sets_of ws = sets_at s.width s.graph.points ws

  abbrev pub Met : Sets → Outlives → Type 0
  Met sets c = Meets s.ends s.graph sets c

  -- The first sets are within the second.
  abbrev pub Within : Sets → Sets → Type 0
  Within a b = (r : RegionName) (q : Point) → r < s.regions → T (a r q) → T (b r q)

  -- A constraint is met, or its inner set has a mark: in `last`, the last round's (before the first, all), or in `grew`, this round's.
  abbrev pub Ready : List ℕ → List ℕ → List ℕ → Outlives → Type 0
  Ready last ws grew c = Met (sets_of ws) c ⊎ (Marked last c.sub ⊎ Marked grew c.sub)

  abbrev pub AllReady : List ℕ → List ℕ → List ℕ → List Outlives → Type 0
  AllReady last ws grew cs = (c : Outlives) → Member c cs → Ready last ws grew c

-- no region has a mark
abbrev pub Quiet : Setting → List ℕ → Type 0
Quiet s grew = (r : RegionName) → r < s.regions → has grew r ≡ false

-- one of the first n regions has a mark
unfoldable pub any_marked : List ℕ → ℕ → Bool
any_marked grew zero = false
any_marked grew (suc n) = any_marked grew n || has grew n

-- The constraints cs are run: the words ws become ws', and the marks `grew` become grew'.
pub record Ran (s : Setting) (last : List ℕ) (cs : List Outlives) (ws grew ws' grew' : List ℕ) : Type 0 where
  pub as_long : length ws' ≡ length ws
  pub as_many : length grew' ≡ length grew
  pub fits : Words ws → Words ws'
  -- nothing is lost
  pub kept : (j : ℕ) → has ws j ≡ true → has ws' j ≡ true
  -- a bit that is no point's in a region's set is as before
  pub others : (j : ℕ) → ((r : RegionName) (q : Point) → r < s.regions → q < s.graph.points → j ≡ bit_at s.width r q → ⊥) → has ws' j ≡ has ws j
  -- a mark stays
  pub still : (r : RegionName) → Marked grew r → Marked grew' r
  -- a set that grew is marked
  pub marked : (r : RegionName) (q : Point) → T (sets_of s ws' r q) → T (sets_of s ws r q) ⊎ Marked grew' r
  -- a new mark is that of a set that grew
  pub earned : (r : RegionName) → Marked grew' r → Marked grew r ⊎ ((q : Point) × (q < s.graph.points) × (has ws (bit_at s.width r q) ≡ false) × (has ws' (bit_at s.width r q) ≡ true))
  -- if each constraint was met, or its inner set had a mark, then each is met, or its inner set has a mark of this round
  pub met : AllReady s last ws grew cs → (c : Outlives) → Member c cs → Met s (sets_of s ws') c ⊎ Marked grew' c.sub
  -- any sets that have what was there, and meet the constraints, have what is there
  pub within : (sets : Sets) → Within s (sets_of s ws) sets → ((c : Outlives) → Member c cs → Met s sets c) → Within s (sets_of s ws') sets

-- What a run of some of cs keeps, from the words ws to ws'.
pub record Rounds (s : Setting) (cs : List Outlives) (ws ws' : List ℕ) : Type 0 where
  pub as_long : length ws' ≡ length ws
  pub fits : Words ws → Words ws'
  pub kept : (j : ℕ) → has ws j ≡ true → has ws' j ≡ true
  pub others : (j : ℕ) → ((r : RegionName) (q : Point) → r < s.regions → q < s.graph.points → j ≡ bit_at s.width r q → ⊥) → has ws' j ≡ has ws j
  pub within : (sets : Sets) → Within s (sets_of s ws) sets → ((c : Outlives) → Member c cs → Met s sets c) → Within s (sets_of s ws') sets

-- The setup is a setting's, and the words and the marks have room for its regions.
pub record Given (s : Setting) (g : Setup) (ws grew : List ℕ) : Type 0 where
  pub edges : Edges s.graph g.graph.now.first g.graph.now.succ
  pub code : g.shape.code ≡ s.graph.code
  pub points : g.shape.points ≡ s.graph.points
  pub width : g.shape.width ≡ s.width
  pub linked : Linked g
  pub ends : rule_of g.rule ≡ s.ends
  pub wide : s.graph.points ≤ word_bits * s.width
  pub narrow : s.width ≤ 32
  pub few : s.regions ≤ 128
  pub room : s.regions * s.width ≤ length ws
  pub marks : length grew ≡ 4

-- The constraint names regions of the setting, and a point of a block.
pub record Names (s : Setting) (c : Outlives) : Type 0 where
  pub sup : c.sup < s.regions
  pub sub : c.sub < s.regions
  pub point : c.point < s.graph.code

-- the same of each constraint
abbrev pub AllNamed : Setting → List Outlives → Type 0
AllNamed s cs = (c : Outlives) → Member c cs → Names s c

-- "a outlives b at p"
abbrev pub constraint : RegionName → RegionName → Point → Outlives
constraint a b p = record { sup = a; sub = b; point = p }

-- The constraints cs are run, in every setting that is given and has their names.
pub record Runs (g : Setup) (last : List ℕ) (cs : List Outlives) (ws grew ws' grew' : List ℕ) : Type 0 where
  pub ran : (s : Setting) → Given s g ws grew → AllNamed s cs → Ran s last cs ws grew ws' grew'
