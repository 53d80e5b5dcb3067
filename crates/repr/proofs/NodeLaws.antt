-- The nodes of a type, and of its parts. Assumes nothing.
use mathlib.Core.Path.{◌≡◌}
use Prim.Native.Nat.{ℕ, suc, ◌+◌, ◌≤◌}
use native.Mathlib.Omega.{arith}
use Rattle.nll_spec.specs.Syntax.{BorrowKind, Region, Ty, UnitTy, RefTy, StructTy, BoundTy, Args, NoArgs, RegionArg, TypeArg}
use Rattle.nll_spec.specs.Types.{tail_args, type_nodes, arg_nodes}

pub type-nodes : (t : Ty) → 1 ≤ type_nodes t
unfolding type_nodes
type-nodes UnitTy = omega arith
type-nodes (RefTy k r t) = omega arith
type-nodes (StructTy s given) = omega arith
type-nodes (BoundTy b) = omega arith

pub unit-nodes : {t : Ty} → t ≡ UnitTy → type_nodes t ≡ 1
unfolding type_nodes
unit-nodes e = rw e

pub ref_nodes : {t u : Ty} {k : BorrowKind} {r : Region} → t ≡ RefTy k r u → type_nodes t ≡ suc (type_nodes u)
unfolding type_nodes
ref_nodes e = rw e

pub struct_nodes : {t : Ty} {name : ℕ} {g : Args} → t ≡ StructTy name g → type_nodes t ≡ suc (arg_nodes g)
unfolding type_nodes
struct_nodes e = rw e

pub region-nodes : {g more : Args} {r : Region} → g ≡ RegionArg r more → arg_nodes g ≡ arg_nodes more
unfolding arg_nodes
region-nodes e = rw e

pub first-nodes : {g more : Args} {t : Ty} → g ≡ TypeArg t more → arg_nodes g ≡ type_nodes t + arg_nodes more
unfolding arg_nodes
first-nodes e = rw e

pub tail-nodes : (h : Args) → arg_nodes (tail_args h) ≤ arg_nodes h
unfolding arg_nodes
tail-nodes NoArgs = omega arith
tail-nodes (RegionArg r h) = omega arith
tail-nodes (TypeArg t h) = omega arith
