-- `refusals::named` meets its contract. Assumes nothing.
use mathlib.Core.Path.{◌≡◌, refl, sym, ◌∙◌}
use mathlib.Core.Bool.{◌&&◌}
use lib.Dec.{ltb, leb}
use borrow.Author.Tests.{le-leb, lt-leb}
use Rattle.nll_spec.specs.WellFormed.{structs_named, outlived_named, variables_named}
use Rattle.refusals.specs.Tests.{blocks_named}
use Rattle.refusals.proofs.PartLaws.{both_done, one-done, some_block, named-is}
use Rattle.refusals.proofs.named.Goals as goal
use Rattle.refusals.proofs.named.Goals.{then-input, else-input, then-structs_named, else-structs_named, then-outlives_named, else-outlives_named, then-variables_named, else-variables_named}

pub returns-then-input-ne0 : goal.returns-then-input-ne0
returns-then-input-ne0 c = λ j w.
    let h = c.args.input.now.head in
    let a : c.if-input.value ≡ leb h.declared h.regions && structs_named j = elim c.if-input.branch [
      | then-input v ↦ both_done refl (le-leb h.declared h.regions v.if-input.true) v.value-is (v.structs_named.ensures j w)
      | else-input v ↦ one-done refl (structs_named j) (lt-leb h.declared h.regions v.if-input.false) v.value-is
    ] in
    let b : c.if-structs_named.value ≡ leb h.declared h.regions && structs_named j && outlived_named j = elim c.if-structs_named.branch [
      | then-structs_named v ↦ both_done a v.if-structs_named.true v.value-is (v.outlives_named.ensures j w)
      | else-structs_named v ↦ one-done a (outlived_named j) v.if-structs_named.false v.value-is
    ] in
    let d : c.if-outlives_named.value ≡ leb h.declared h.regions && structs_named j && outlived_named j && variables_named j = elim c.if-outlives_named.branch [
      | then-outlives_named v ↦ both_done b v.if-outlives_named.true v.value-is (v.variables_named.ensures j w)
      | else-outlives_named v ↦ one-done b (variables_named j) v.if-outlives_named.false v.value-is
    ] in
    let e : c.if-variables_named.value ≡ leb h.declared h.regions && structs_named j && outlived_named j && variables_named j && ltb 0 h.blocks = elim c.if-variables_named.branch [
      | then-variables_named v ↦ both_done d v.if-variables_named.true v.value-is (some_block h.blocks)
      | else-variables_named v ↦ one-done d (ltb 0 h.blocks) v.if-variables_named.false v.value-is
    ] in
    both_done e c.if-input-ne0.true refl (c.blocks_named.ensures j w) ∙ sym (named-is w)

pub returns-else-input-ne0 : goal.returns-else-input-ne0
returns-else-input-ne0 c = λ j w.
    let h = c.args.input.now.head in
    let a : c.if-input.value ≡ leb h.declared h.regions && structs_named j = elim c.if-input.branch [
      | then-input v ↦ both_done refl (le-leb h.declared h.regions v.if-input.true) v.value-is (v.structs_named.ensures j w)
      | else-input v ↦ one-done refl (structs_named j) (lt-leb h.declared h.regions v.if-input.false) v.value-is
    ] in
    let b : c.if-structs_named.value ≡ leb h.declared h.regions && structs_named j && outlived_named j = elim c.if-structs_named.branch [
      | then-structs_named v ↦ both_done a v.if-structs_named.true v.value-is (v.outlives_named.ensures j w)
      | else-structs_named v ↦ one-done a (outlived_named j) v.if-structs_named.false v.value-is
    ] in
    let d : c.if-outlives_named.value ≡ leb h.declared h.regions && structs_named j && outlived_named j && variables_named j = elim c.if-outlives_named.branch [
      | then-outlives_named v ↦ both_done b v.if-outlives_named.true v.value-is (v.variables_named.ensures j w)
      | else-outlives_named v ↦ one-done b (variables_named j) v.if-outlives_named.false v.value-is
    ] in
    let e : c.if-variables_named.value ≡ leb h.declared h.regions && structs_named j && outlived_named j && variables_named j && ltb 0 h.blocks = elim c.if-variables_named.branch [
      | then-variables_named v ↦ both_done d v.if-variables_named.true v.value-is (some_block h.blocks)
      | else-variables_named v ↦ one-done d (ltb 0 h.blocks) v.if-variables_named.false v.value-is
    ] in
    one-done e (blocks_named j) c.if-input-ne0.false refl ∙ sym (named-is w)
