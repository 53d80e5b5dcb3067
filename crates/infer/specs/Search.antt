-- What running one constraint computes, from what it is run in and the words that it is handed.
use Rattle.std.specs.Prelude.{◌≡◌, ◌⊎◌, Bool, true, false, not, ◌&&◌, ◌||◌, cond, List, ℕ, zero, suc, ◌+◌, ◌-◌, ◌*◌, ◌/◌, ◌^◌, ◌≤◌, ◌<◌, length, get_or, eqb, leb, ltb}
use Rattle.std.specs.Int.Bits.{bit_or}
use Rattle.nll_spec.specs.Regions.{EndRule, every_end, held_ends, passes_end}
use Rattle.nll_spec.specs.Output.{word_bits}
use Rattle.bit_set.specs.Bits.{has, with_bit, or_word, or_grows, both_fit}
use Rattle.graph.specs.Tables.{Edge}
use Rattle.dfs.specs.Walk.{in_code, Reach, Leaf, Chained}
use Rattle.infer.specs.declared.EndRule as declared
use Rattle.infer.specs.declared.EndRule.TheVariants.{EveryEnd, HeldEnds}
use Rattle.infer.specs.declared.Shape.{Shape}
use Rattle.infer.specs.declared.Setup.{Setup}

-- the end rule that is handed in, as `nll_spec` has it
abbrev pub rule_of : declared.EndRule → EndRule
rule_of EveryEnd = every_end
rule_of HeldEnds = held_ends

-- each number of the chain is a point of the graph that is followed by the next one alone
abbrev pub Linked : Setup → Type 0
Linked g = Chained g.chain.now g.graph.now.first g.graph.now.succ

-- ---- The ends

-- whether the end rule passes on the end e, where the inner set starts at word `from`
abbrev pub passes : Setup → List ℕ → ℕ → ℕ → Bool
passes g ws from e = passes_end (rule_of g.rule) (has ws (word_bits * from + e))

-- the set with each of the n numbers from a on that f holds
unfoldable pub with_run : (ℕ → Bool) → List ℕ → ℕ → ℕ → List ℕ
with_run f ps a zero = ps
with_run f ps a (suc n) = cond (f (a + n)) (with_bit (with_run f ps a n) (a + n)) (with_run f ps a n)

-- the set with the ends that the end rule passes on
abbrev pub with_ends : Setup → List ℕ → ℕ → List ℕ → List ℕ
with_ends g ws from ps = with_run (passes g ws from) ps g.shape.code (g.shape.points - g.shape.code)

-- ---- What is put into the outer set

-- What a constraint at p puts into its outer set, where the inner one starts at word `from`: each point that p reaches, and, where one of these has
-- no point after it, the ends that the end rule passes on.
abbrev pub Gets : Setup → List ℕ → ℕ → ℕ → ℕ → Type 0
Gets g ws from p q =
    Reach (Edge g.graph.now.first g.graph.now.succ) (in_code ws from g.shape.code) p q
    ⊎ ((g.shape.code ≤ q) × (q < g.shape.points) × (passes g ws from q ≡ true)
    × ((x : ℕ) × Reach (Edge g.graph.now.first g.graph.now.succ) (in_code ws from g.shape.code) p x × Leaf g.graph.now.first x))

-- the numbers of a set
abbrev pub In : List ℕ → ℕ → Type 0
In ps q = has ps q ≡ true

-- the set has 32 words, and its numbers are below n
pub record Below (ps : List ℕ) (n : ℕ) : Type 0 where
  pub sized : length ps ≡ 32
  pub below : (q : ℕ) → In ps q → q < n

-- ws' is ws with each number of A, all below n, put into the set that starts at word `to`, and r says whether one was not there.
pub record Spread (A : ℕ → Type 0) (n : ℕ) (ws ws' : List ℕ) (to : ℕ) (r : Bool) : Type 0 where
  pub as_long : length ws' ≡ length ws
  pub fits : ((k : ℕ) → get_or ws k 0 < 2 ^ word_bits) → (k : ℕ) → get_or ws' k 0 < 2 ^ word_bits
  pub added : word_bits * to + n ≤ word_bits * length ws → (q : ℕ) → A q → has ws' (word_bits * to + q) ≡ true
  pub kept : (j : ℕ) → has ws j ≡ true → has ws' j ≡ true
  pub only : (j : ℕ) → has ws' j ≡ true → (has ws j ≡ true) ⊎ ((q : ℕ) × (j ≡ word_bits * to + q) × (q < n) × A q)
  pub same : r ≡ false → (j : ℕ) → has ws' j ≡ has ws j
  pub grew : r ≡ true → (q : ℕ) × (q < n) × A q × (has ws (word_bits * to + q) ≡ false) × (has ws' (word_bits * to + q) ≡ true)

-- ---- Nothing is put

-- both runs of n words are among the words, and that from `from` has no number that the run from `to` lacks
abbrev pub is_subset : List ℕ → ℕ → ℕ → ℕ → Bool
is_subset ws from to n = both_fit ws to ws from n && not (or_grows ws to ws from n)

-- the set that starts at word `to` has each of the n numbers from a on
unfoldable pub has_run : List ℕ → ℕ → ℕ → ℕ → Bool
has_run ws to a zero = true
has_run ws to a (suc n) = has_run ws to a n && has ws (word_bits * to + (a + n))

-- it has each end that the end rule passes on whether or not the inner set has it
abbrev pub has_ends : Setup → List ℕ → ℕ → Bool
has_ends g ws to = not (passes_end (rule_of g.rule) false) || has_run ws to g.shape.code (g.shape.points - g.shape.code)

-- the words show that what a constraint puts into the set from word `to` is there, where the inner set starts at word `from`
abbrev pub adds_nothing : Setup → List ℕ → ℕ → ℕ → Bool
adds_nothing g ws to from = is_subset ws from to g.shape.width && has_ends g ws to

-- the word k of the inner set has only numbers of the chain, all of them in the outer set
abbrev pub is_covered : List ℕ → List ℕ → ℕ → ℕ → ℕ → Bool
is_covered chain ws from to k = eqb (get_or ws (to + k) 0) (or_word ws to ws from k) && eqb (get_or chain k 0) (bit_or (get_or chain k 0) (get_or ws (from + k) 0))

-- The inner set's numbers in the words from k on are of the chain and in the outer set, up to a word `last` whose last number it lacks.
pub record Covered (chain ws : List ℕ) (from to k : ℕ) : Type 0 where
  pub last : ℕ
  pub up : k ≤ last
  pub linked : (q : ℕ) → k ≤ q / word_bits → q / word_bits ≤ last → has ws (word_bits * from + q) ≡ true → has chain q ≡ true
  pub held : (q : ℕ) → k ≤ q / word_bits → q / word_bits ≤ last → has ws (word_bits * from + q) ≡ true → has ws (word_bits * to + q) ≡ true
  pub stops : has ws (word_bits * from + (word_bits * last + 31)) ≡ false

-- ---- The bounds that are tested

abbrev pub in_bounds : Shape → ℕ → ℕ → ℕ → Bool
in_bounds shape s t p = ((((leb shape.width 32 && leb shape.code shape.points) && leb shape.points 1024) && ltb s 128) && ltb t 128) && ltb p shape.code
