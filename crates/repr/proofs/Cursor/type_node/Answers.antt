-- `repr::Cursor::type_node` meets its contract. Assumes nothing.
use native.Mathlib.Omega.{arith}
use Rattle.repr.proofs.ReadLaws.{picked, unknown}
use Rattle.repr.specs.Types.{node, ref_node, struct_node, bound_node}
use Rattle.nll_spec.specs.Decode.{tagged, one_of, done}
use mathlib.Core.Path.{◌∙◌}
use Rattle.repr.proofs.Cursor.type_node.Goals as goal

pub returns-in-0 : goal.returns-in-0
unfolding node tagged one_of done
returns-in-0 c = record { same = λ inner left. picked _ _ 0 c.in_ok-tag.ensures c.in-0.is }

pub returns-in-1 : goal.returns-in-1
unfolding node tagged one_of ref_node
returns-in-1 c = record { same = λ inner left. c.ref_node.ensures.same inner left ∙ picked _ _ 1 c.in_ok-tag.ensures c.in-1.is }

pub returns-in-2 : goal.returns-in-2
unfolding node tagged one_of struct_node
returns-in-2 c = record { same = λ inner left. c.struct_node.ensures.same inner left ∙ picked _ _ 2 c.in_ok-tag.ensures c.in-2.is }

pub returns-in-3 : goal.returns-in-3
unfolding node tagged one_of bound_node
returns-in-3 c = record { same = λ inner left. c.bound_node.ensures.same inner left ∙ picked _ _ 3 c.in_ok-tag.ensures c.in-3.is }

pub returns-in_default : goal.returns-in_default
unfolding node tagged one_of
returns-in_default c = record { same = λ inner left. unknown _ _ c.in_ok-tag.ensures (omega arith) }
