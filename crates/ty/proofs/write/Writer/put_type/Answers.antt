use native.Mathlib.Omega.{arith}
use Prim.Native.Nat.{◌-◌}
use lib.ListN.{drop}
use Rattle.std.proofs.lemmas.List.{length-take}
use Rattle.repr.proofs.ReadLaws.{ok_some, ok_none}
use Rattle.ty.proofs.WriteLaws as laws
use Rattle.ty.proofs.write.Writer.put_type.Goals as goal

pub returns-in_err-rest : goal.returns-in_err-rest
returns-in_err-rest c = rw c.from_residual.ensures (laws.copy_over c.nodes.ensures (ok_none c.ok.ensures.value c.in_err-rest.was).1)

pub slice_bounds-bytes-count : goal.slice_bounds-bytes-count
slice_bounds-bytes-count c = (laws.lies c.nodes.ensures (ok_some c.ok.ensures.value c.in_ok-rest.was) c.min.ensures).ordered

pub slice_bounds-bytes-start : goal.slice_bounds-bytes-start
slice_bounds-bytes-start c = (laws.lies c.nodes.ensures (ok_some c.ok.ensures.value c.in_ok-rest.was) c.min.ensures).ordered

pub put-requires : goal.put-requires
put-requires c =
    let w = laws.lies c.nodes.ensures (ok_some c.ok.ensures.value c.in_ok-rest.was) c.min.ensures in
    (omega arith, omega (arith, w.nodes, w.room, length-take (c.min.result - c.args.item.at) (drop c.args.item.at c.args.s.now), c.args.self.now.room))

pub returns : goal.returns
returns c = laws.copied c.nodes.ensures (ok_some c.ok.ensures.value c.in_ok-rest.was) c.min.ensures c.put.ensures
