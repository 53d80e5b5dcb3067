-- `refusals::fits::Around::arguments_fit` and `refusals::fits::Around::type_fits` meet their contracts. Assumes nothing.
use Rattle.std.specs.Prelude.{Ok}
use Rattle.std.proofs.Common.{rules}
use mathlib.Core.Path.{◌≡◌, ap, ◌∙◌}
use Prim.Native.Nat.{◌+◌, ◌-◌}
use native.Mathlib.Omega.{arith}
use Rattle.repr.proofs.ReadLaws.{passed_on}
use Rattle.refusals.proofs.FitLaws as laws
use Rattle.refusals.proofs.WalkLaws as walks
use Rattle.refusals.proofs.fits.Around.+arguments_fit_type_fits.Goals as goal
use Rattle.refusals.proofs.fits.Around.+arguments_fit_type_fits.Goals.{arguments_fit-in-Region+else-not-argument_fits, arguments_fit-in-Type+else-ne+in_ok-rest-in-Type}

pub type_fits-returns-then-left-eq0 : goal.type_fits-returns-then-left-eq0
type_fits-returns-then-left-eq0 t c = laws.fit_none (omega arith)

pub type_fits-returns-in_err-next : goal.type_fits-returns-in_err-next
type_fits-returns-in_err-next t c = rw (passed_on c.from_residual.ensures) (laws.fit_refused c.type_node.ensures c.in_err-next.was)

pub type_fits-returns-in-Unit : goal.type_fits-returns-in-Unit
type_fits-returns-in-Unit t c = laws.fit-unit c.type_node.ensures (c.in_ok-next.was ∙ ap Ok c.in-Unit.is)

pub type_fits-returns-then-not-bound_fits : goal.type_fits-returns-then-not-bound_fits
type_fits-returns-then-not-bound_fits t c = laws.bound_unfit c.type_node.ensures (c.in_ok-next.was ∙ ap Ok c.in-Bound.is) c.bound_fits.ensures c.if-not-bound_fits.true

pub type_fits-returns-else-not-bound_fits : goal.type_fits-returns-else-not-bound_fits
type_fits-returns-else-not-bound_fits t c = laws.fit_bound c.type_node.ensures (c.in_ok-next.was ∙ ap Ok c.in-Bound.is) c.bound_fits.ensures c.if-not-bound_fits.false

pub type_fits-returns-then-not-region_fits : goal.type_fits-returns-then-not-region_fits
type_fits-returns-then-not-region_fits t c = laws.ref_unfit c.type_node.ensures (c.in_ok-next.was ∙ ap Ok c.in-Ref.is) c.region_fits.ensures c.if-not-region_fits.true

pub type_fits-returns-else-not-region_fits : goal.type_fits-returns-else-not-region_fits
type_fits-returns-else-not-region_fits t c = laws.fit_ref c.type_node.ensures (c.in_ok-next.was ∙ ap Ok c.in-Ref.is) c.region_fits.ensures c.if-not-region_fits.false (omega arith) c.type_fits.ensures

pub type_fits-returns-then-named-arguments : goal.type_fits-returns-then-named-arguments
type_fits-returns-then-named-arguments t c = laws.count_unfit c.type_node.ensures (c.in_ok-next.was ∙ ap Ok c.in-Struct.is) c.struct_decl_at-named.ensures c.if-named-arguments.true

pub type_fits-returns-else-named-arguments : goal.type_fits-returns-else-named-arguments
type_fits-returns-else-named-arguments t c = laws.fit_struct c.type_node.ensures (c.in_ok-next.was ∙ ap Ok c.in-Struct.is) c.struct_decl_at-named.ensures c.if-named-arguments.false (omega arith) (rw (← c.if-named-arguments.false) c.arguments_fit.ensures)

pub arguments_fit-returns-in_err-p : goal.arguments_fit-returns-in_err-p
arguments_fit-returns-in_err-p t c = rw (passed_on c.from_residual.ensures) (c.loop.invariant.whole _ (laws.parameter_refused (omega arith) c.parameter.ensures c.in_err-p.was))

pub arguments_fit-returns-in_err-region : goal.arguments_fit-returns-in_err-region
arguments_fit-returns-in_err-region t c = rw (passed_on c.from_residual-in_err-region.ensures) (c.loop.invariant.whole _ (laws.fit_argument_refused (omega arith) c.parameter.ensures c.in_ok-p.was c.argument.ensures c.in_err-region.was))

pub arguments_fit-returns-then-not-argument_fits : goal.arguments_fit-returns-then-not-argument_fits
arguments_fit-returns-then-not-argument_fits t c = c.loop.invariant.whole _ (laws.region_unfit (omega arith) c.parameter.ensures c.in_ok-p.was c.argument.ensures (c.in_ok-region.was ∙ ap Ok c.in-Region.is) c.argument_fits.ensures c.if-not-argument_fits.true)

pub arguments_fit-returns-then-ne : goal.arguments_fit-returns-then-ne
arguments_fit-returns-then-ne t c = c.loop.invariant.whole _ (laws.kind_unfit (omega arith) c.parameter.ensures c.in_ok-p.was c.argument.ensures (c.in_ok-region.was ∙ ap Ok c.in-Type.is) (search (rules, c.if-ne.ensures)))

pub arguments_fit-returns-in_err-rest-in-Type : goal.arguments_fit-returns-in_err-rest-in-Type
arguments_fit-returns-in_err-rest-in-Type t c = rw (passed_on c.from_residual-in_err-rest-in-Type.ensures) (c.loop.invariant.whole _ (laws.type_unfit (omega arith) c.parameter.ensures c.in_ok-p.was c.argument.ensures (c.in_ok-region.was ∙ ap Ok c.in-Type.is) (search (rules, c.if-ne.ensures)) c.type_fits.ensures c.in_err-rest-in-Type.was))

pub arguments_fit-loop-preserved : goal.arguments_fit-loop-preserved
arguments_fit-loop-preserved t c =
    let e : c.args.of.count - (c.loop.counter + 1) ≡ c.args.of.count - c.loop.counter - 1 = omega arith in
    elim c.match-branch-3.branch [
      | arguments_fit-in-Region+else-not-argument_fits w ↦ rw (w.rest-is, e) (walks.further c.loop.invariant (omega arith) (λ r. laws.fit-region (omega arith) c.parameter.ensures c.in_ok-p.was c.argument.ensures (c.in_ok-region.was ∙ ap Ok w.in-Region.is) w.argument_fits.ensures w.if-not-argument_fits.false))
      | arguments_fit-in-Type+else-ne+in_ok-rest-in-Type w ↦ rw (w.rest-is, e) (walks.further c.loop.invariant (walks.rest-fewer w.type_fits.ensures.fewer w.in_ok-rest-in-Type.was) (λ r. laws.fit-type (omega arith) c.parameter.ensures c.in_ok-p.was c.argument.ensures (c.in_ok-region.was ∙ ap Ok w.in-Type.is) (search (rules, w.if-ne.ensures)) w.type_fits.ensures w.in_ok-rest-in-Type.was))
    ]

pub arguments_fit-returns : goal.arguments_fit-returns
arguments_fit-returns t c = c.loop.invariant.whole _ (laws.fit_arguments_none _ (omega arith))
