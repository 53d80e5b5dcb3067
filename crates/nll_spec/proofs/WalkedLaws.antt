-- What the points of walked blocks give, one after the other, is what the reached points give: `walked_member`, `member_walked`.
-- Assumes nothing.
use mathlib.Core.List.{List}
use lib.Dec.{T}
use Rattle.nll_spec.specs.Lists.{select, gather, contains, below, Member}
use Rattle.nll_spec.specs.Syntax.{Job, Point}
use Rattle.nll_spec.specs.Graph.{graph_of, is_walked}
use Rattle.nll_spec.specs.Meaning.{Reached}
use Rattle.nll_spec.proofs.Tests.{contains-below}
use Rattle.nll_spec.proofs.Lookup.{contains-select, select-contains}
use Rattle.nll_spec.proofs.Members.{member_gather, gather_member}
use Rattle.nll_spec.proofs.GraphLaws.{walked-is-code}
use Rattle.nll_spec.proofs.AcceptedLaws.{Accepted}
use Rattle.nll_spec.proofs.SeedLaws.{walked-reached, reached-walked}

module _ {A : Type 0} (j : Job) (f : Point → List A) where
  -- the points of walked blocks
  abbrev points : List Point
  points = select (is_walked (graph_of j)) (below (graph_of j).code)

  pub walked_member : {x : A} → Member x (gather f points) → (p : Point) × Reached j p × Member x (f p)
  walked_member {x} m = (p.0, walked-reached j p.0 (select-contains (is_walked (graph_of j)) (below (graph_of j).code) p.0 p.1).1, p.2)
    where
      p : (n : Point) × T (contains points n) × Member x (f n)
      p = gather_member f points m

  pub member_walked : Accepted j → {x : A} (p : Point) → Reached j p → Member x (f p) → Member x (gather f points)
  member_walked ok p at m =
      member_gather f points p (contains-select (is_walked (graph_of j)) (below (graph_of j).code) p (contains-below (graph_of j).code p (walked-is-code j p walked)) walked) m
    where
      walked : T (is_walked (graph_of j) p)
      walked = reached-walked j ok.start-named ok.successors-named p at
