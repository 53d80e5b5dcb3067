-- `dfs::chains`. The loop's invariant: `Chained`. Assumes nothing.
use Prim.Native.Nat.{ℕ}
use mathlib.Core.Path.{sym, ap, ◌∙◌, subst}
use mathlib.Core.List.{List}
use lib.ListN.{length, length-replicate}
use Rattle.dfs.specs.Walk.{Chained}
use Rattle.dfs.proofs.ChainLaws.{with_sized, chained_none, chained_more}
use Rattle.dfs.proofs.chains.Goals as goal
use Rattle.dfs.proofs.chains.Goals.{then-follows, else-follows}

pub returns-then-code-gt1024 : goal.returns-then-code-gt1024
returns-then-code-gt1024 c = chained_none _ _

pub loop-q-init : goal.loop-q-init
loop-q-init c = (length-replicate {A = ℕ} 32 0, chained_none _ _)

pub loop-q-preserved : goal.loop-q-preserved
loop-q-preserved c = let a = c.args in
    let l = c.loop-q in
    elim c.if-follows.branch [
      | then-follows w ↦ let e = w.chain-is ∙ w.add.ensures.0 in (with_sized l.chain c.if-follows.chain _ e l.invariant.0, chained_more l.chain a.graph.now.first a.graph.now.succ l.q c.if-follows.chain e l.invariant.1 (c.follows.ensures w.if-follows.true))
      | else-follows w ↦ (ap length w.chain-is ∙ l.invariant.0, subst (λ (x : List ℕ). Chained x a.graph.now.first a.graph.now.succ) (sym w.chain-is) l.invariant.1)
    ]
