-- `refusals::part_fits::struct_fits` meets its contract. Assumes nothing.
use Rattle.std.proofs.Common.{rules}
use Rattle.nll_spec.specs.Types.{struct_of}
use Rattle.refusals.proofs.RowLaws.{along_passes, only_test, fields_tested}
use mathlib.Core.List.{List}
use Rattle.nll_spec.specs.Syntax.{Param, Job}
use Rattle.nll_spec.specs.Decode.{field}
use Rattle.refusals.specs.Tests.{Passes}
use mathlib.Core.Path.{refl}
use Rattle.refusals.specs.Fits.{Within, field_fits}
use Rattle.refusals.specs.declared.fits.Around.{Around}
use Rattle.refusals.proofs.FitLaws.{around_fields}
use Rattle.refusals.proofs.part_fits.struct_fits.Goals as goal

pub returns : goal.returns
returns c = λ j w.
    let v = c.struct_decl_at-d.ensures j w in
    let around : Around = record { input = c.args.input; params = c.struct_decl_at-d.result.parameters } in
    let a : Within around j (struct_of j.structs c.args.name.0).params = around_fields refl w v in
    fields_tested _ v (only_test (along_passes _ _ _ (λ d r p. let q : (j : Job) (ps : List Param) → Within around j ps → Passes field (field_fits j ps) c.args.input.now.bytes.now d.at r = search rules in q j _ a) c.each.ensures) c.is_ok.ensures.value)
