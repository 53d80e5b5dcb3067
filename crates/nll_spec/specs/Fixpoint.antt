-- Least tables. Every closure of document 01 (walked blocks, outlives, liveness, the walk of a constraint, region sets, loans in scope) is `least`
-- of a rule: the least table of bits that the rule adds nothing to.
use Rattle.std.specs.Prelude.{Bool, true, false, ◌&&◌, cond, List, [], ◌∷◌, map, ℕ, zero, suc, ◌*◌, length, get_or, set, replicate, T}
use Rattle.std.specs.Bool.{beq}
use Rattle.nll_spec.specs.Lists.{below}

-- A table of bits: a list of rows, each a list of columns.
abbrev pub Table : Type 0
Table = List (List Bool)

-- Whether row r has column c. Nothing outside the table is held.
abbrev pub holds : Table → ℕ → ℕ → Bool
holds t r c = get_or (get_or t r []) c false

-- The table with column c of row r set.
abbrev pub mark : Table → ℕ → ℕ → Table
mark t r c = set t r (set (get_or t r []) c true)

-- The table of `rows` rows and `columns` columns that f fills.
abbrev pub tabulate : ℕ → ℕ → (ℕ → ℕ → Bool) → Table
tabulate rows columns f = map (λ r. map (λ c. f r c) (below columns)) (below rows)

abbrev pub same_row : List Bool → List Bool → Bool
same_row [] [] = true
same_row [] (y ∷ ys) = false
same_row (x ∷ xs) [] = false
same_row (x ∷ xs) (y ∷ ys) = let rest = same_row xs ys in beq x y && rest

abbrev pub same_table : Table → Table → Bool
same_table [] [] = true
same_table [] (y ∷ ys) = false
same_table (x ∷ xs) [] = false
same_table (x ∷ xs) (y ∷ ys) = let rest = same_table xs ys in same_row x y && rest

-- A rule says whether a row gets a column, given what the table holds already.
abbrev pub Rule : Type 0
Rule = Table → ℕ → ℕ → Bool

-- A rule that gives at least as much where the table holds more. Each rule here is one, which the proofs show.
abbrev pub Monotone : Rule → Type 0
Monotone f = (t u : Table) → ((r c : ℕ) → T (holds t r c) → T (holds u r c)) → (r c : ℕ) → T (f t r c) → T (f u r c)

-- The columns, in the order of the list, that the rule gives row r are set, one after the other.
abbrev pub sweep_row : Rule → ℕ → List ℕ → Table → Table
sweep_row f r [] t = t
sweep_row f r (c ∷ cs) t = sweep_row f r cs (cond (f t r c) (mark t r c) t)

-- The same for each row below n.
abbrev pub sweep : Rule → ℕ → List ℕ → Table → Table
sweep f zero cs t = t
sweep f (suc n) cs t = sweep_row f n cs (sweep f n cs t)

-- Sweeps until one changes nothing, at most k.
abbrev pub sweeps : ℕ → Rule → ℕ → List ℕ → Table → Table
sweeps zero f n cs t = t
sweeps (suc k) f n cs t = let u = sweep f n cs t in elim (same_table t u) [ true ↦ t | false ↦ sweeps k f n cs u ]

-- The least table of n rows and the columns `order` that a monotone rule adds nothing to. `order` lists the columns 0, 1, .. in some order, which
-- matters only for the work. Each sweep but the last sets a bit, so there are at most as many as bits.
unfoldable pub least : ℕ → List ℕ → Rule → Table
least n order f = sweeps (n * length order) f n order (replicate n (replicate (length order) false))
