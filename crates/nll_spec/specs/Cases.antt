-- Cases 1 to 10 of document 01, and the cases that tell mistakes apart which 1 to 10 let pass: tables that the checker computes.
use Rattle.std.specs.Prelude.{Bool, true, false, ◌&&◌, List, [], ◌∷◌, ℕ, zero, suc, replicate, eqb}
use Rattle.std.specs.Bool.{beq}
use Prim.Native.String.{String, ◌++◌}
use Rattle.nll_spec.specs.Lists.{every, below}
use Rattle.nll_spec.specs.Syntax.{Job, Path, Point}
use Rattle.nll_spec.specs.Decode.{rejected, decoded, kind}
use Rattle.nll_spec.specs.Graph.{Graph, action_at, is_walked, graph_of}
use Rattle.nll_spec.specs.Liveness.{is_plain}
use Rattle.nll_spec.specs.Regions.{every_end}
use Rattle.nll_spec.specs.Loans.{Loan, loan_at, overwritten}
use Rattle.nll_spec.specs.Output.{Answer, overwrite, answer, judge, analyse}
use Rattle.nll_spec.specs.Listing.{verdict_of, ascii, hex_bytes, listing}
use Rattle.nll_spec.specs.Guarantee.{is_path, uses_holder, untouched, only}

-- ---- What a row says

pub data Case : Type 0 where
  -- a record in hexadecimal; the number that the call returns, and the words and bytes that it writes
  answers : String → ℕ → List ℕ → List ℕ → Case
  -- what `nll-list` reads; all that it prints
  prints : String → String → Case
  -- a record; the lengths of the two buffers, and the number that the call returns
  fits : String → ℕ → ℕ → ℕ → Case

abbrev pub same_list : List ℕ → List ℕ → Bool
same_list [] [] = true
same_list [] (y ∷ ys) = false
same_list (x ∷ xs) [] = false
same_list (x ∷ xs) (y ∷ ys) = let rest = same_list xs ys in eqb x y && rest

-- a text n times over
unfoldable pub times : ℕ → String → String
times zero text = ""
times (suc n) text = text ++ times n text

-- The two buffers hold 7 before the call, and what it does not write still does after.
unfoldable pub case_holds : Case → Bool
case_holds (answers text n new-words new-bytes) =
    let ws : List ℕ = replicate 8 7 in
    let bs : List ℕ = replicate 24 7 in
    let o = analyse every_end (hex_bytes (ascii text)) ws bs in
    eqb o.number n && same_list o.words (overwrite new-words ws) && same_list o.bytes (overwrite new-bytes bs)
case_holds (prints text out) = same_list (listing (ascii text)) (ascii out)
case_holds (fits text w b n) = eqb (analyse every_end (hex_bytes (ascii text)) (replicate w 7) (replicate b 7)).number n

-- A record, the point of a borrow and a list of points; whether the job is without access errors, the borrow is in a walked block and into a plain variable,
-- the list is a path from it, its last point uses a holder, and the loan is untouched on it.
pub data PathCase : Type 0 where
  path_case : String → Point → List Point → Bool → Bool → Bool → Bool → Bool → PathCase

abbrev pub without_faults : Answer → Bool
without_faults a = every (λ p. eqb (verdict_of a p).kind 0) (below a.points)

-- the row's five answers for the loan of a borrow into a path
abbrev pub path_of : Job → Graph → Loan → Path → PathCase → Bool
path_of j g loan into (path_case text p qs quiet starts follows used calm) =
    beq (without_faults (answer every_end j)) quiet
    && beq (is_walked g p && is_plain into) starts
    && beq (is_path g p qs) follows
    && beq (uses_holder g (only into.base) qs) used
    && beq (untouched j g loan p qs) calm

unfoldable pub path_holds : PathCase → Bool
path_holds (path_case text p qs quiet starts follows used calm) =
    elim (judge (hex_bytes (ascii text))) [
      | rejected n ↦ false
      | decoded j ↦
          let g = graph_of j in
          elim (loan_at p (action_at g p)) [
            | [] ↦ false
            | loan ∷ more ↦ elim (overwritten (action_at g p)) [ [] ↦ false | into ∷ others ↦ path_of j g loan into (path_case text p qs quiet starts follows used calm) ]
          ]
    ]

-- ---- Cases 1 to 10

unfoldable pub cases : List Case
cases =
    -- (1) an empty record
    answers "" 1 [] []
    -- (2) only a version
    ∷ answers "01" 2 [] []
    -- (3) one empty block
    ∷ answers "01 00 07 00 00 00 00 01 00 00" 0 [] (0 ∷ 0 ∷ [])
    -- (4) no block
    ∷ answers "01 00 05 00 00 00 00 00" 4 [] []
    -- (5) q = &x; Init x; Use q: a write at 1
    ∷ prints "01 00 1B 00 02 00 02 01 00 01 01 00 00 00 00 03 02 00 01 01 01 00 00 01 00 00 00 05 00 01" "points 4\nregion 0 1 2\nregion 1 1 2\naccess 1 2 0\n"
    -- (6) as 5, the last two actions exchanged: none
    ∷ answers "01 00 1B 00 02 00 02 01 00 01 01 00 00 00 00 03 02 00 01 01 01 00 00 05 00 01 01 00 00 00" 0 (2 ∷ 2 ∷ []) (0 ∷ 0 ∷ 0 ∷ 0 ∷ 0 ∷ 0 ∷ 0 ∷ 0 ∷ [])
    -- (7) as 5, the Borrow's kind alone Mut
    ∷ answers "01 00 1B 00 02 00 02 01 00 01 01 00 00 00 00 03 02 00 01 01 00 00 00 01 00 00 00 05 00 01" 9 [] []
    -- (8) q = &mut *p; Init *p; Use q: a write at 1
    ∷ answers "01 00 21 00 03 00 02 01 01 00 00 00 00 01 00 00 01 00 00 03 02 00 01 02 00 01 00 00 01 01 00 00 00 05 00 01" 0 (7 ∷ 6 ∷ 6 ∷ []) (0 ∷ 0 ∷ 2 ∷ 0 ∷ 0 ∷ 0 ∷ 0 ∷ 0 ∷ [])
    -- (8) Init p there instead: none
    ∷ answers "01 00 20 00 03 00 02 01 01 00 00 00 00 01 00 00 01 00 00 03 02 00 01 02 00 01 00 00 01 00 00 00 05 00 01" 0 (7 ∷ 6 ∷ 6 ∷ []) (0 ∷ 0 ∷ 0 ∷ 0 ∷ 0 ∷ 0 ∷ 0 ∷ 0 ∷ [])
    -- (9) a = b; Use a, with a: &'0 and b: &'1, both declared: 1 grows
    ∷ answers "01 00 1B 00 02 02 02 01 00 00 01 01 00 00 00 01 01 00 01 00 00 02 03 00 00 00 01 05 00 00" 0 (15 ∷ 31 ∷ []) (0 ∷ 0 ∷ 0 ∷ 0 ∷ 0 ∷ 0 ∷ 0 ∷ 0 ∷ 0 ∷ 0 ∷ 0 ∷ 1 ∷ [])
    -- (9) 1 outlives 0: none
    ∷ answers "01 00 1C 00 02 02 02 01 00 01 00 01 01 00 00 00 01 01 00 01 00 00 02 03 00 00 00 01 05 00 00" 0 (15 ∷ 31 ∷ []) (0 ∷ 0 ∷ 0 ∷ 0 ∷ 0 ∷ 0 ∷ 0 ∷ 0 ∷ 0 ∷ 0 ∷ 0 ∷ 0 ∷ [])
    -- (10) a loop of Init x; Use p; p = &mut x: a write at 0
    ∷ answers "01 00 1C 00 02 00 02 01 00 01 00 00 00 00 01 00 03 01 00 00 00 05 00 01 02 00 01 01 00 00 00" 0 (11 ∷ 11 ∷ []) (2 ∷ 0 ∷ 0 ∷ 0 ∷ 0 ∷ 0 ∷ 0 ∷ 0 ∷ [])
    ∷ []

-- ---- Mistakes that cases 1 to 10 let pass: each row names what it holds to

unfoldable pub pitfalls : List Case
pitfalls =
    -- x = y; Use x, of a struct with a Co region parameter: a struct's region argument is not inverted again
    answers "01 00 20 01 02 00 02 01 01 00 00 00 00 02 00 01 00 00 00 02 00 01 00 00 01 00 02 03 00 00 00 01 05 00 00" 0 (2 ∷ 1 ∷ []) (0 ∷ 0 ∷ 0 ∷ 0 ∷ 0 ∷ 0 ∷ [])
    -- p = &mut *p; Init *p; Use p: a reborrow ends with its own destination
    ∷ answers "01 00 1C 00 02 00 01 01 01 00 00 00 00 00 03 02 00 00 01 00 01 00 00 01 01 00 00 00 05 00 00" 0 (7 ∷ 6 ∷ []) (0 ∷ 0 ∷ 0 ∷ 0 ∷ 0 ∷ 0 ∷ 0 ∷ 0 ∷ [])
    -- Init x; Use q, and an unreached block with q = &mut x before them: it feeds no loan
    ∷ answers "01 00 1E 00 02 00 02 02 00 01 00 00 00 00 00 02 01 00 00 00 05 00 01 01 00 01 02 00 01 00 00 00 00" 0 (3 ∷ 0 ∷ []) (0 ∷ 0 ∷ 0 ∷ 0 ∷ 0 ∷ 0 ∷ 0 ∷ 0 ∷ 0 ∷ 0 ∷ [])
    -- Use t; Constraint 1: 0 where 0 does not hold: nothing of 0 is copied
    ∷ answers "01 00 12 00 02 00 01 01 01 01 00 00 00 00 02 05 00 00 04 01 00" 0 (1 ∷ 0 ∷ []) (0 ∷ 0 ∷ 0 ∷ 0 ∷ 0 ∷ 0 ∷ [])
    -- q = &x; Use q, with x: &'2 and q: &'1 &'3: a Ref under a Ref, whose variance is inverted twice
    ∷ answers "01 00 1F 00 04 00 02 01 01 01 00 02 00 01 01 00 01 01 01 00 03 00 00 02 02 00 01 00 01 00 00 05 00 01" 0 (2 ∷ 2 ∷ 3 ∷ 2 ∷ []) (0 ∷ 0 ∷ 0 ∷ 0 ∷ 0 ∷ 0 ∷ [])
    -- a = b; Use b, with a: &'0 mut &'1 &'2 and b: &'3 mut &'4 &'5: all below a Mut is In
    ∷ answers "01 00 29 00 06 00 02 01 01 00 00 00 01 01 00 01 01 01 00 02 00 01 00 00 03 01 01 00 04 01 01 00 05 00 00 02 03 00 00 00 01 05 00 01" 0 (0 ∷ 2 ∷ 2 ∷ 3 ∷ 3 ∷ 3 ∷ []) (0 ∷ 0 ∷ 0 ∷ 0 ∷ 0 ∷ 0 ∷ [])
    -- a = b; Use a, with a: &'0, b: &'1 and a third declared region; 1 outlives 0: every end is passed on, so 1 grows
    ∷ answers "01 00 1D 00 03 03 02 01 00 01 00 00 01 01 00 00 00 01 01 00 01 00 00 02 03 00 00 00 01 05 00 00" 0 (15 ∷ 63 ∷ 39 ∷ []) (0 ∷ 0 ∷ 0 ∷ 0 ∷ 0 ∷ 0 ∷ 0 ∷ 0 ∷ 0 ∷ 0 ∷ 0 ∷ 0 ∷ 0 ∷ 1 ∷ 0 ∷ [])
    -- Constraint 1: 0; Use t: a Constraint acts at its own point
    ∷ answers "01 00 12 00 02 00 01 01 01 01 00 00 00 00 02 04 01 00 05 00 00" 0 (3 ∷ 3 ∷ []) (0 ∷ 0 ∷ 0 ∷ 0 ∷ 0 ∷ 0 ∷ [])
    -- a = b; Use a: an Assign acts at the next point
    ∷ answers "01 00 19 00 02 00 02 01 01 01 00 00 00 01 01 00 01 00 00 02 03 00 00 00 01 05 00 00" 0 (2 ∷ 3 ∷ []) (0 ∷ 0 ∷ 0 ∷ 0 ∷ 0 ∷ 0 ∷ [])
    -- *p = &x; Use p: a stepped Borrow defines its base
    ∷ answers "01 00 1C 00 03 00 02 01 01 00 00 00 01 01 00 01 00 00 00 02 02 01 00 00 02 01 00 01 05 00 00" 0 (2 ∷ 2 ∷ 2 ∷ []) (0 ∷ 0 ∷ 0 ∷ 0 ∷ 0 ∷ 0 ∷ [])
    -- Drop s; Drop t, with t: &'4 and s a struct with arguments '0 that may dangle, '1 that may not, a struct of '2 that may, &'3 that may not
    ∷ answers "01 00 3B 02 05 00 02 01 04 00 01 00 00 00 00 00 01 01 00 00 01 00 01 00 00 00 00 02 00 04 00 00 00 00 00 01 01 02 01 01 00 00 02 01 01 01 00 03 00 01 01 00 04 00 00 02 06 00 00 06 00 01" 0 (0 ∷ 1 ∷ 1 ∷ 1 ∷ 0 ∷ []) (0 ∷ 0 ∷ 0 ∷ 0 ∷ 0 ∷ 0 ∷ [])
    -- q = &mut *p; Use p; Use q: a deref of a Mut supports: a read at 1
    ∷ answers "01 00 1F 00 03 00 02 01 01 00 00 00 00 01 00 00 01 00 00 03 02 00 01 02 00 01 00 00 05 00 00 05 00 01" 0 (7 ∷ 6 ∷ 6 ∷ []) (0 ∷ 0 ∷ 1 ∷ 0 ∷ 0 ∷ 0 ∷ 0 ∷ 0 ∷ [])
    -- q = &x; Use x; Use q: a read does not conflict with a Shared loan
    ∷ answers "01 00 1A 00 02 00 02 01 00 01 01 00 00 00 00 03 02 00 01 01 01 00 00 05 00 00 05 00 01" 0 (6 ∷ 6 ∷ []) (0 ∷ 0 ∷ 0 ∷ 0 ∷ 0 ∷ 0 ∷ 0 ∷ 0 ∷ [])
    -- q = &'0 mut x; Use z, with z: &'0: no loan is in scope at its own borrow
    ∷ answers "01 00 1C 00 02 00 03 01 00 01 00 00 01 00 01 01 00 00 00 00 02 02 00 01 00 00 00 00 05 00 02" 0 (3 ∷ 0 ∷ []) (0 ∷ 0 ∷ 0 ∷ 0 ∷ 0 ∷ 0 ∷ [])
    -- q = &mut x; z = &mut x; Use q: a write at 1, of the source
    ∷ answers "01 00 23 00 04 00 03 01 00 01 00 00 00 00 01 00 00 01 00 00 03 02 00 01 02 00 00 00 02 00 02 03 00 00 00 05 00 01" 0 (6 ∷ 0 ∷ 6 ∷ 0 ∷ []) (0 ∷ 0 ∷ 2 ∷ 1 ∷ 0 ∷ 0 ∷ 0 ∷ 0 ∷ [])
    -- q = &mut x; x = x; Use q: a write at 1, of the destination, before the read of the source
    ∷ answers "01 00 1C 00 02 00 02 01 00 01 00 00 00 00 00 03 02 00 01 01 00 00 00 03 00 00 00 00 05 00 01" 0 (6 ∷ 6 ∷ []) (0 ∷ 0 ∷ 2 ∷ 0 ∷ 0 ∷ 0 ∷ 0 ∷ 0 ∷ [])
    -- q = &x; Drop x; Use q: a move at 1
    ∷ answers "01 00 1A 00 02 00 02 01 00 01 01 00 00 00 00 03 02 00 01 01 01 00 00 06 00 00 05 00 01" 0 (6 ∷ 6 ∷ []) (0 ∷ 0 ∷ 3 ∷ 0 ∷ 0 ∷ 0 ∷ 0 ∷ 0 ∷ [])
    -- q = &x; StorageDead x; Use q: storage dead at 1
    ∷ answers "01 00 19 00 02 00 02 01 00 01 01 00 00 00 00 03 02 00 01 01 01 00 00 07 00 05 00 01" 0 (6 ∷ 6 ∷ []) (0 ∷ 0 ∷ 4 ∷ 0 ∷ 0 ∷ 0 ∷ 0 ∷ 0 ∷ [])
    -- q = &mut *p; StorageDead p; Use q: none, for a loan behind a deref does not freeze p
    ∷ answers "01 00 1E 00 03 00 02 01 01 00 00 00 00 01 00 00 01 00 00 03 02 00 01 02 00 01 00 00 07 00 05 00 01" 0 (7 ∷ 6 ∷ 6 ∷ []) (0 ∷ 0 ∷ 0 ∷ 0 ∷ 0 ∷ 0 ∷ 0 ∷ 0 ∷ [])
    -- q = &mut *p; Drop p; Use q: a move at 1, for p supports the loan
    ∷ answers "01 00 1F 00 03 00 02 01 01 00 00 00 00 01 00 00 01 00 00 03 02 00 01 02 00 01 00 00 06 00 00 05 00 01" 0 (7 ∷ 6 ∷ 6 ∷ []) (0 ∷ 0 ∷ 3 ∷ 0 ∷ 0 ∷ 0 ∷ 0 ∷ 0 ∷ [])
    -- q = &mut *p; p = s; Init *p; Use q: none, for the Assign overwrote a prefix
    ∷ answers "01 00 2B 00 04 00 03 01 01 00 00 00 00 01 00 00 01 00 01 00 00 02 00 00 04 02 00 02 03 00 01 00 00 03 00 00 00 01 01 01 00 00 00 05 00 02" 0 (15 ∷ 15 ∷ 14 ∷ 14 ∷ []) (0 ∷ 0 ∷ 0 ∷ 0 ∷ 0 ∷ 0 ∷ 0 ∷ 0 ∷ 0 ∷ 0 ∷ [])
    -- 2 outlives 1 and 1 outlives 0, all declared: 2 starts with the ends of all three
    ∷ answers "01 00 0C 00 03 03 00 01 00 01 00 01 01 00 00" 0 (3 ∷ 7 ∷ 15 ∷ []) (0 ∷ 0 ∷ 0 ∷ 0 ∷ 0 ∷ 0 ∷ 0 ∷ 0 ∷ 0 ∷ 0 ∷ 0 ∷ [])
    -- Init x (y): a source is used
    ∷ answers "01 00 13 00 01 00 02 01 00 01 01 00 00 00 00 01 01 00 00 01 00 01" 0 (1 ∷ []) (0 ∷ 0 ∷ 0 ∷ 0 ∷ [])
    -- a 33rd node, of whatever tag: 4
    ∷ answers "01 00 88 00 01 00 01 01 01 01 00 00 01 01 00 00 01 01 00 00 01 01 00 00 01 01 00 00 01 01 00 00 01 01 00 00 01 01 00 00 01 01 00 00 01 01 00 00 01 01 00 00 01 01 00 00 01 01 00 00 01 01 00 00 01 01 00 00 01 01 00 00 01 01 00 00 01 01 00 00 01 01 00 00 01 01 00 00 01 01 00 00 01 01 00 00 01 01 00 00 01 01 00 00 01 01 00 00 01 01 00 00 01 01 00 00 01 01 00 00 01 01 00 00 01 01 00 00 01 01 00 00 01 01 00 00 09 00 00" 4 [] []
    -- a bound in a variable's type and a region that names nothing: 6 before 7
    ∷ answers "01 00 0E 00 01 00 02 01 03 00 01 01 00 05 00 00 00" 6 [] []
    -- q = &mut s.1; Init s.2; Use q: none, for the fields differ
    ∷ answers "01 00 25 01 02 00 02 01 00 02 01 00 02 00 02 00 00 01 00 00 00 00 00 03 02 00 01 01 00 01 00 01 01 01 00 02 00 05 00 01" 0 (6 ∷ 6 ∷ []) (0 ∷ 0 ∷ 0 ∷ 0 ∷ 0 ∷ 0 ∷ 0 ∷ 0 ∷ [])
    -- q = &mut s; Use s.1; Init s.1; Use q: a read at 1 and a write at 2, for the loan's path is a prefix
    ∷ answers "01 00 2A 01 02 00 02 01 00 02 01 00 02 00 02 00 00 01 00 00 00 02 00 00 00 04 02 00 01 01 00 00 00 05 01 00 01 01 01 00 01 00 05 00 01" 0 (14 ∷ 14 ∷ []) (0 ∷ 0 ∷ 1 ∷ 0 ∷ 2 ∷ 0 ∷ 0 ∷ 0 ∷ 0 ∷ 0 ∷ [])
    -- q = &x; r = &x; t = &mut x; Use q: a Shared borrow reads its source, a Mut one writes it: a write at 2, operand 1
    ∷ answers "01 00 2F 00 03 00 04 01 00 01 01 00 00 00 01 01 00 01 00 01 00 00 02 00 00 04 02 00 01 00 01 00 00 02 00 02 01 01 00 00 02 00 03 02 00 00 00 05 00 01" 0 (14 ∷ 0 ∷ 0 ∷ []) (0 ∷ 0 ∷ 0 ∷ 0 ∷ 2 ∷ 1 ∷ 0 ∷ 0 ∷ 0 ∷ 0 ∷ [])
    -- q = &mut x; Init y (y, x); Use q: a read at 1, operand 2
    ∷ answers "01 00 20 00 02 00 03 01 00 01 00 00 00 00 00 00 03 02 00 01 01 00 00 00 01 00 02 02 00 02 00 00 05 00 01" 0 (6 ∷ 6 ∷ []) (0 ∷ 0 ∷ 1 ∷ 2 ∷ 0 ∷ 0 ∷ 0 ∷ 0 ∷ [])
    -- q = &*p; Drop p; Use q, with p Shared: none, for p does not support the loan
    ∷ answers "01 00 1F 00 03 00 02 01 01 01 00 00 00 01 01 00 01 00 00 03 02 00 01 02 01 01 00 00 06 00 00 05 00 01" 0 (7 ∷ 6 ∷ 6 ∷ []) (0 ∷ 0 ∷ 0 ∷ 0 ∷ 0 ∷ 0 ∷ 0 ∷ 0 ∷ [])
    -- q = &**p; Use q, with p: &'0 &'1: '1 outlives the borrow, and '0 need not
    ∷ answers "01 00 21 00 04 00 02 01 01 01 00 00 01 01 00 01 00 01 01 00 02 00 00 02 02 00 01 03 01 02 00 00 00 05 00 01" 0 (1 ∷ 3 ∷ 2 ∷ 2 ∷ []) (0 ∷ 0 ∷ 0 ∷ 0 ∷ 0 ∷ 0 ∷ [])
    -- Init *p; *q = y: the base of a stepped destination is used
    ∷ answers "01 00 1D 00 02 00 03 01 01 00 00 00 00 01 00 00 01 00 00 00 02 01 01 00 00 00 03 01 01 00 00 02" 0 (1 ∷ 3 ∷ []) (0 ∷ 0 ∷ 0 ∷ 0 ∷ 0 ∷ 0 ∷ [])
    -- Init a; Use a: a plain destination is defined
    ∷ answers "01 00 13 00 01 00 01 01 01 00 00 00 00 00 02 01 00 00 00 05 00 00" 0 (2 ∷ []) (0 ∷ 0 ∷ 0 ∷ 0 ∷ 0 ∷ 0 ∷ [])
    -- x = y; Use y, of a struct with a Contra and an In region and a Co type
    ∷ answers "01 00 38 01 06 00 02 01 03 01 00 00 02 00 00 00 00 01 00 02 00 03 00 00 00 00 00 01 01 01 01 00 02 00 02 00 03 00 00 03 00 00 04 01 01 01 00 05 00 00 02 03 00 00 00 01 05 00 01" 0 (0 ∷ 2 ∷ 0 ∷ 3 ∷ 3 ∷ 3 ∷ []) (0 ∷ 0 ∷ 0 ∷ 0 ∷ 0 ∷ 0 ∷ [])
    -- x = y; Use y, of a struct with a Co type and a Contra region after it
    ∷ answers "01 00 27 01 02 00 02 01 02 00 00 01 01 00 00 00 02 00 02 01 00 00 00 00 02 00 02 01 00 00 00 01 00 02 03 00 00 00 01 05 00 01" 0 (0 ∷ 3 ∷ []) (0 ∷ 0 ∷ 0 ∷ 0 ∷ 0 ∷ 0 ∷ [])
    -- a = s.1; Use a, with s of '0 and '1 and field 1 twice, first a Ref of bound 0: the first field, and the last parameter
    ∷ answers "01 00 2E 01 03 00 02 01 02 00 00 00 00 00 00 02 01 01 01 01 00 00 01 00 01 01 00 02 00 02 00 02 00 00 00 00 00 01 00 02 03 00 00 01 01 01 05 00 00" 0 (1 ∷ 3 ∷ 2 ∷ []) (0 ∷ 0 ∷ 0 ∷ 0 ∷ 0 ∷ 0 ∷ [])
    -- 32 points are a word a region, 33 are two
    ∷ fits ("01 00 2D 00 02 00 01 01 01 01 00 01 00 00 1F" ++ times 30 "00" ++ "05 00 00") 2 64 0
    ∷ fits ("01 00 2D 00 02 00 01 01 01 01 00 01 00 00 1F" ++ times 30 "00" ++ "05 00 00") 1 64 10
    ∷ fits ("01 00 2E 00 02 00 01 01 01 01 00 01 00 00 20" ++ times 31 "00" ++ "05 00 00") 4 66 0
    ∷ fits ("01 00 2E 00 02 00 01 01 01 01 00 01 00 00 20" ++ times 31 "00" ++ "05 00 00") 3 66 10
    -- 64 actions pass, 65 give 4
    ∷ fits ("01 00 47 00 00 00 00 01 00 40" ++ times 64 "00") 0 130 0
    ∷ fits ("01 00 48 00 00 00 00 01 00 41" ++ times 65 "00") 0 132 4
    -- 1,024 points pass refusal 5; with the end of a declared region they are 1,025
    ∷ fits ("01 04 15 00 00 00 00 10" ++ times 16 ("00 3F" ++ times 63 "00")) 0 0 10
    ∷ fits ("01 04 16 00 01 01 00 10 00" ++ times 16 ("00 3F" ++ times 63 "00")) 0 0 5
    -- arguments of the wrong kind, too few, and a bound of the wrong kind: 7
    ∷ answers "01 00 11 01 00 00 01 01 01 00 00 00 00 02 00 01 01 00 00 00" 7 [] []
    ∷ answers "01 00 0F 01 01 00 01 01 01 00 00 00 00 02 00 00 00 00" 7 [] []
    ∷ answers "01 00 0F 01 00 00 00 01 01 00 00 00 01 01 03 00 00 00" 7 [] []
    -- a bound in a variable's type and a step into Unit: 7 before 8
    ∷ answers "01 00 0E 00 00 00 02 01 03 00 00 00 01 05 01 01 01" 7 [] []
    -- a step into Unit and a Unit assigned to a Ref: 8 before 9
    ∷ answers "01 00 16 00 01 00 02 01 01 01 00 00 00 00 00 02 03 00 00 00 01 05 01 01 01" 8 [] []
    -- a step to a type of 33 nodes: 8
    ∷ fits ("01 00 63 02 01 00 01 01 01 00 00 01 01 01 02 01 02 01 03 00 01 03 00 02 00 00 01 00 00 01 00 02 00 01 01" ++ times 15 "01 01 00 00" ++ "00 00 01 05 01 00 01") 9 99 8
    -- a Ref of the wrong kind below a Ref, and within a struct's argument: 9
    ∷ answers "01 00 1E 00 01 00 02 01 01 01 00 00 01 01 00 00 00 01 01 00 00 01 00 00 00 00 00 01 03 00 00 00 01" 9 [] []
    ∷ answers "01 00 23 01 01 00 02 01 01 00 00 01 00 02 00 01 01 01 01 00 00 00 02 00 01 01 01 00 00 00 00 00 01 03 00 00 00 01" 9 [] []
    -- case 5 with one word too few, one byte too few, and just enough of both
    ∷ fits "01 00 1B 00 02 00 02 01 00 01 01 00 00 00 00 03 02 00 01 01 01 00 00 01 00 00 00 05 00 01" 1 8 10
    ∷ fits "01 00 1B 00 02 00 02 01 00 01 01 00 00 00 00 03 02 00 01 01 01 00 00 01 00 00 00 05 00 01" 2 7 10
    ∷ fits "01 00 1B 00 02 00 02 01 00 01 01 00 00 00 00 03 02 00 01 01 01 00 00 01 00 00 00 05 00 01" 2 8 0
    -- no space, a space between two digits, CR LF
    ∷ prints "010007000000000 1\r\n0000" "points 1\n"
    -- letters of either case
    ∷ prints "01 00 1b 00 02 00 02 01 00 01 01 00 00 00 00 03 02 00 01 01 01 00 00 01 00 00 00 05 00 01" "points 4\nregion 0 1 2\nregion 1 1 2\naccess 1 2 0\n"
    -- an empty region's line; a number of two digits
    ∷ prints "01 00 07 00 01 00 00 01 00 00" "points 1\nregion 0\n"
    ∷ prints "01 00 13 00 00 00 00 01 00 0C 00 00 00 00 00 00 00 00 00 00 00 00" "points 13\n"
    -- an odd digit, a tab, other text: an empty record
    ∷ prints "01 0" "refused 1\n"
    ∷ prints "01\t00 07 00 00 00 00 01 00 00" "refused 1\n"
    ∷ prints "0x01" "refused 1\n"
    -- (9) by nll-list
    ∷ prints "01 00 1B 00 02 02 02 01 00 00 01 01 00 00 00 01 01 00 01 00 00 02 03 00 00 00 01 05 00 00" "points 5\nregion 0 0 1 2 3\nregion 1 0 1 2 3 4\ngrown 1\n"
    ∷ []

-- ---- What document 01 leaves open, as decided

unfoldable pub choices : List Case
choices =
    -- a byte is left over: 3
    answers "01 00 08 00 00 00 00 01 00 00 00" 3 [] []
    -- the tag of a 33rd node is missing: 3
    ∷ answers "01 00 85 00 01 00 01 01 01 01 00 00 01 01 00 00 01 01 00 00 01 01 00 00 01 01 00 00 01 01 00 00 01 01 00 00 01 01 00 00 01 01 00 00 01 01 00 00 01 01 00 00 01 01 00 00 01 01 00 00 01 01 00 00 01 01 00 00 01 01 00 00 01 01 00 00 01 01 00 00 01 01 00 00 01 01 00 00 01 01 00 00 01 01 00 00 01 01 00 00 01 01 00 00 01 01 00 00 01 01 00 00 01 01 00 00 01 01 00 00 01 01 00 00 01 01 00 00 01 01 00 00 01 01 00 00" 3 [] []
    -- one region is declared, of none: 6
    ∷ answers "01 00 08 00 00 01 00 01 00 00 00" 6 [] []
    -- a field is numbered 0: 6
    ∷ answers "01 00 0B 01 00 00 00 01 00 01 00 00 00 00" 6 [] []
    -- an unused struct's field names no region: 6
    ∷ answers "01 00 0F 01 00 00 00 01 00 01 01 01 01 00 00 00 00 00" 6 [] []
    -- an unused struct's second field of one number has a bound that fits nothing: 7
    ∷ answers "01 00 0E 01 00 00 00 01 00 02 01 00 01 03 00 00 00" 7 [] []
    -- a star into a struct: 8
    ∷ answers "01 00 10 01 00 00 01 01 00 00 02 00 00 00 01 05 01 00 00" 8 [] []
    -- a step into Unit in an unreached block: 8
    ∷ answers "01 00 0E 00 00 00 01 02 00 00 00 00 01 05 01 00 01" 8 [] []
    -- Init x (y, y) with x Unit and y a Ref: shapes are compared for Assign and Borrow alone
    ∷ answers "01 00 15 00 01 00 02 01 00 01 01 00 00 00 00 01 01 00 00 02 00 01 00 01" 0 (1 ∷ []) (0 ∷ 0 ∷ 0 ∷ 0 ∷ [])
    -- Drop s.1, with s a struct of '0 and &'1: both are kept, for the Drop marks its base's whole type
    ∷ answers "01 00 22 01 02 00 01 01 02 00 00 00 00 00 01 01 01 03 00 02 00 02 00 00 00 01 01 01 00 01 00 00 01 06 01 00 01" 0 (1 ∷ 1 ∷ []) (0 ∷ 0 ∷ 0 ∷ 0 ∷ [])
    -- q = &x as a block's last action, Use q in the next: it acts at the block's end
    ∷ answers "01 00 1A 00 02 00 02 02 00 01 01 00 00 00 01 01 01 02 00 01 01 01 00 00 00 01 05 00 01" 0 (6 ∷ 6 ∷ []) (0 ∷ 0 ∷ 0 ∷ 0 ∷ 0 ∷ 0 ∷ 0 ∷ 0 ∷ [])
    -- a declared region outlives itself; a block follows itself twice
    ∷ answers "01 00 0B 00 01 01 00 01 01 00 02 00 00 00" 0 (3 ∷ []) (0 ∷ 0 ∷ 0 ∷ 0 ∷ 0 ∷ [])
    ∷ []

-- ---- Paths of demand 3: its premises are met, and the claim bites

unfoldable pub paths : List PathCase
paths =
    -- case 5: reached, and touched by Init x
    path_case "01 00 1B 00 02 00 02 01 00 01 01 00 00 00 00 03 02 00 01 01 01 00 00 01 00 00 00 05 00 01" 0 (1 ∷ 2 ∷ []) false true true true false
    -- case 6: the path goes on past the use
    ∷ path_case "01 00 1B 00 02 00 02 01 00 01 01 00 00 00 00 03 02 00 01 01 01 00 00 05 00 01 01 00 00 00" 0 (1 ∷ 2 ∷ []) true true true false false
    ∷ path_case "01 00 1B 00 02 00 02 01 00 01 01 00 00 00 00 03 02 00 01 01 01 00 00 05 00 01 01 00 00 00" 0 (1 ∷ []) true true true true true
    -- case 5: 2 does not follow 0; no point after the borrow
    ∷ path_case "01 00 1B 00 02 00 02 01 00 01 01 00 00 00 00 03 02 00 01 01 01 00 00 01 00 00 00 05 00 01" 0 (2 ∷ []) false true false true true
    ∷ path_case "01 00 1B 00 02 00 02 01 00 01 01 00 00 00 00 03 02 00 01 01 01 00 00 01 00 00 00 05 00 01" 0 [] false true true false true
    -- case 10, once round: reached, and touched; twice round: the second borrow puts p out
    ∷ path_case "01 00 1C 00 02 00 02 01 00 01 00 00 00 00 01 00 03 01 00 00 00 05 00 01 02 00 01 01 00 00 00" 2 (3 ∷ 0 ∷ 1 ∷ []) false true true true false
    ∷ path_case "01 00 1C 00 02 00 02 01 00 01 00 00 00 00 01 00 03 01 00 00 00 05 00 01 02 00 01 01 00 00 00" 2 (3 ∷ 0 ∷ 1 ∷ 2 ∷ 3 ∷ 0 ∷ 1 ∷ []) false true true false false
    -- case 8 with Init p: reached, and untouched
    ∷ path_case "01 00 20 00 03 00 02 01 01 00 00 00 00 01 00 00 01 00 00 03 02 00 01 02 00 01 00 00 01 00 00 00 05 00 01" 0 (1 ∷ 2 ∷ []) true true true true true
    -- q = &mut x; r = q; Use r: handed over; with Init x before the use: touched
    ∷ path_case "01 00 21 00 03 00 03 01 00 01 00 00 00 00 01 00 00 01 00 00 03 02 00 01 02 00 00 00 03 00 02 00 01 05 00 02" 0 (1 ∷ 2 ∷ []) true true true true true
    ∷ path_case "01 00 25 00 03 00 03 01 00 01 00 00 00 00 01 00 00 01 00 00 04 02 00 01 02 00 00 00 03 00 02 00 01 01 00 00 00 05 00 02" 0 (1 ∷ 2 ∷ 3 ∷ []) false true true true false
    -- q = &mut p; *q = &x; Use q: a stepped Borrow puts q out
    ∷ path_case "01 00 28 00 05 00 03 01 00 01 01 00 00 00 01 00 00 01 01 01 00 02 00 00 03 02 00 02 03 00 00 01 02 01 02 00 04 01 00 00 05 00 02" 0 (1 ∷ 2 ∷ []) true true true false true
    -- q = &x; q = q; Use q: q stays in
    ∷ path_case "01 00 1C 00 02 00 02 01 00 01 01 00 00 00 00 03 02 00 01 01 01 00 00 03 00 01 00 01 05 00 01" 0 (1 ∷ 2 ∷ []) true true true true true
    -- q = &x; Init q; Use q: q is out
    ∷ path_case "01 00 1B 00 02 00 02 01 00 01 01 00 00 00 00 03 02 00 01 01 01 00 00 01 00 01 00 05 00 01" 0 (1 ∷ 2 ∷ []) true true true false true
    -- q = &x; Drop q: a Drop is no use
    ∷ path_case "01 00 17 00 02 00 02 01 00 01 01 00 00 00 00 02 02 00 01 01 01 00 00 06 00 01" 0 (1 ∷ []) true true true false true
    -- q = &mut *p; p = s; Init *p; Use q: Init *p conflicts, and the Assign before it overwrote a prefix
    ∷ path_case "01 00 2B 00 04 00 03 01 01 00 00 00 00 01 00 00 01 00 01 00 00 02 00 00 04 02 00 02 03 00 01 00 00 03 00 00 00 01 01 01 00 00 00 05 00 02" 0 (1 ∷ 2 ∷ 3 ∷ []) true true true true true
    -- q = &mut x; then Init *q, *q = y, Drop q or StorageDead q: q stays in
    ∷ path_case "01 00 1C 00 02 00 02 01 00 01 00 00 00 00 00 03 02 00 01 01 00 00 00 01 01 01 00 00 05 00 01" 0 (1 ∷ 2 ∷ []) true true true true true
    ∷ path_case "01 00 1E 00 02 00 03 01 00 01 00 00 00 00 00 00 03 02 00 01 01 00 00 00 03 01 01 00 00 02 05 00 01" 0 (1 ∷ 2 ∷ []) true true true true true
    ∷ path_case "01 00 1A 00 02 00 02 01 00 01 00 00 00 00 00 03 02 00 01 01 00 00 00 06 00 01 05 00 01" 0 (1 ∷ 2 ∷ []) true true true true true
    ∷ path_case "01 00 19 00 02 00 02 01 00 01 00 00 00 00 00 03 02 00 01 01 00 00 00 07 01 05 00 01" 0 (1 ∷ 2 ∷ []) true true true true true
    -- q = &mut x; q = *w; Use q: an Assign from a stepped path puts q out
    ∷ path_case "01 00 26 00 04 00 03 01 00 01 00 00 00 00 01 01 00 01 01 00 00 02 00 00 03 02 00 01 03 00 00 00 03 00 01 01 02 00 05 00 01" 0 (1 ∷ 2 ∷ []) true true true false true
    -- *p = &x; Use p: no borrow into a plain variable
    ∷ path_case "01 00 1C 00 03 00 02 01 01 00 00 00 01 01 00 01 00 00 00 02 02 01 00 00 02 01 00 01 05 00 00" 0 (1 ∷ []) true false true true true
    -- a borrow in an unreached block
    ∷ path_case "01 00 1A 00 02 00 02 02 00 01 01 00 00 00 00 01 05 00 01 01 00 01 02 00 01 01 01 00 00" 2 (3 ∷ 0 ∷ []) true false true true true
    -- a job without errors, three times round a loop of Use q after q = &mut x
    ∷ path_case "01 00 1B 00 02 00 02 02 00 01 00 00 00 00 01 01 01 02 00 01 01 00 00 00 01 01 01 05 00 01" 0 (1 ∷ 2 ∷ 3 ∷ 2 ∷ 3 ∷ 2 ∷ []) true true true true true
    -- a job without errors, its borrow taken again round a loop of q = &mut x; Use q; Init x
    ∷ path_case "01 00 1C 00 02 00 02 01 00 01 00 00 00 00 01 00 03 02 00 01 01 00 00 00 05 00 01 01 00 00 00" 0 (1 ∷ 2 ∷ 3 ∷ 0 ∷ 1 ∷ []) true true true false false
    ∷ path_case "01 00 1C 00 02 00 02 01 00 01 00 00 00 00 01 00 03 02 00 01 01 00 00 00 05 00 01 01 00 00 00" 0 (1 ∷ []) true true true true true
    ∷ []
