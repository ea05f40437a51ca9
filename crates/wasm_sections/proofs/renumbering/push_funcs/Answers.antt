use Rattle.std.proofs.Common.{◌≡◌, ℕ, None, sym, ap, subst, ◌∙◌}
use Rattle.std.specs.FinMap.{get}
use Rattle.wasm_body.specs.declared.error.IndexError.TheVariants.{Unnumbered}
use Rattle.wasm_operators.specs.declared.types.Space.TheVariants.{Funcs}
use Rattle.walrus_maps.specs.declared.ids_to_indices.IdsToIndices.{IdsToIndices}
use Rattle.walrus_maps.specs.IndexMaps.{numbers_in, numbered}
use Rattle.wasm_sections.proofs.RenumberingLemmas.{one_pushed, none_of_error}
use Rattle.wasm_sections.proofs.renumbering.push_funcs.Goals as goal

pub funcs-preserved : goal.funcs-preserved
funcs-preserved c =
    let at = c.funcs in
    let id = c.new-id.result in
    let mid = numbers_in at.to Funcs in
    let same : id ≡ at.index = c.new-id.ensures in
    let none : get mid id ≡ None = none_of_error (get mid id) (Unnumbered Funcs) c.in-Err.field-0 (sym c.get_func_index.ensures ∙ c.in-Err.is) in
    let pushed : numbers_in c.push_func.new.self Funcs ≡ numbered mid id = ap (λ (m : IdsToIndices). numbers_in m Funcs) c.in_ok-push_func-in-Err.ensures.ok in
    one_pushed c.args.first at.index (numbers_in c.args.to.now Funcs) mid at.auto.index at.invariant (numbers_in c.push_func.new.self Funcs)
    (subst (λ (k : ℕ). get mid k ≡ None) same none) (pushed ∙ ap (λ (k : ℕ). numbered mid k) same)
