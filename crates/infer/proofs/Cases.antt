-- What `outlives` asks for can be had: a graph of two points, 0 and then 1, and one declared end, with one region. Assumes nothing.
use mathlib.Core.Path.{◌≡◌, refl}
use mathlib.Core.List.{List, [], ◌∷◌}
use Prim.Native.Nat.{ℕ, zero, suc, ◌≤◌, ◌<◌}
use native.Mathlib.Omega.{arith}
use lib.ListN.{replicate}
use lib.Seq.{slice, slice_empty}
use Rattle.nll_spec.specs.Syntax.{Noop, Point}
use Rattle.nll_spec.specs.Graph.{Graph, next_of}
use Rattle.nll_spec.specs.Regions.{every_end}
use Rattle.nll_spec.specs.Meaning.{Next}
use Rattle.nll_spec.proofs.Tests.{contains_one}
use Rattle.record.specs.declared.Record.{Record}
use Rattle.graph.specs.Tables.{row_start, row_end, Edges}
use Rattle.infer.specs.Ran.{Setting, Given, Names, constraint}
use Rattle.infer.specs.declared.EndRule.TheVariants.{EveryEnd}
use Rattle.infer.specs.declared.Setup.{Setup}
use Rattle.dfs.proofs.ChainLaws.{chained_none}

abbrev line : Graph
line =
    record {
      statements = record { block = 0; action = Noop; next = 1 ∷ [] } ∷ record { block = 0; action = Noop; next = [] } ∷ [];
      preds = [] ∷ (0 ∷ []) ∷ [];
      walked = [];
      code = 2;
      points = 3;
    }

abbrev starts : List ℕ
starts = 0 ∷ replicate 1024 1

abbrev nexts : List ℕ
nexts = replicate 1536 1

line-edges : Edges line starts nexts
line-edges = record { ordered = omega arith; few = omega arith; sized = refl; starts = ordered; ends = small; next = next; inside = inside }
  where
    ordered : (p : Point) → p < 2 → row_start starts p ≤ row_end starts p
    ordered zero l = omega arith
    ordered (suc zero) l = omega arith
    ordered (suc (suc p)) l = absurd (omega arith)

    small : (p : Point) → p < 2 → row_end starts p ≤ 1536
    small zero l = omega arith
    small (suc zero) l = omega arith
    small (suc (suc p)) l = absurd (omega arith)

    next : (p : Point) → p < 2 → slice (row_start starts p) (row_end starts p) nexts ≡ next_of line p
    next zero l = refl
    next (suc zero) l = slice_empty 1 nexts
    next (suc (suc p)) l = absurd (omega arith)

    inside : (p q : Point) → p < 2 → Next line p q → q < 2
    inside zero q l n = omega (arith, contains_one q 1 n)
    inside (suc zero) q l n = absurd n
    inside (suc (suc p)) q l n = absurd (omega arith)

-- of any record; every reference is to the same place
abbrev setup : Record → Setup
setup input =
    record {
      graph = record { ref_ptr = (0, 0); now = record { input = input; first = starts; succ = nexts; walked = replicate 32 0 } };
      chain = record { ref_ptr = (0, 0); now = replicate 32 0 };
      shape = record { width = 1; code = 2; points = 3 };
      rule = EveryEnd;
    }

abbrev setting : Setting
setting = record { ends = every_end; graph = line; regions = 1; width = 1 }

pub line-given : (input : Record) → Given setting (setup input) (0 ∷ []) (replicate 4 0)
line-given input =
    record {
      edges = line-edges;
      code = refl;
      points = refl;
      width = refl;
      linked = chained_none starts nexts;
      ends = refl;
      wide = omega arith;
      narrow = omega arith;
      few = omega arith;
      room = omega arith;
      marks = refl;
    }

pub line-names : Names setting (constraint 0 0 0)
line-names = record { sup = omega arith; sub = omega arith; point = omega arith }
