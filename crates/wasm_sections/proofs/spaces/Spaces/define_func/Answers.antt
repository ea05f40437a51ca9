use Rattle.std.proofs.Common.{rules, ◌≢◌, refl, sym, ap, subst, inr, ◌∙◌}
use Rattle.std.specs.FinMap.{len}
use Rattle.wasm_operators.specs.declared.types.Space.TheVariants.{Funcs}
use Rattle.walrus_maps.specs.declared.ids_to_indices.IdsToIndices.{IdsToIndices}
use Rattle.walrus_maps.specs.IndexMaps.{number_of}
use Rattle.wasm_sections.proofs.DefinedLemmas.{other_next, found}
use Rattle.wasm_sections.proofs.spaces.Spaces.define_func.Goals as goal
use Rattle.wasm_sections.proofs.spaces.Spaces.define_func.Goals.{in_default-get_func_index-via-in-Ok-get_func_index+else-index, in_default-get_func_index-via-in-Err-1}

pub returns-in_default-get_func_index-clause-refused : goal.returns-in_default-get_func_index-clause-refused
returns-in_default-get_func_index-clause-refused c =
    let old = c.args.self.now.numbers.funcs in
    let id = c.new-id.result in
    let by = c.get_func_index-2.ensures ∙ ap (λ (m : IdsToIndices). number_of m Funcs id) c.in_ok-push_func-in-Err.ensures.ok in
    let is = c.new-id.ensures ∙ c.in-Some.ensures.sum in
    let there = by ∙ found Funcs old id in
    elim c.in_default-get_func_index.branch [
      | in_default-get_func_index-via-in-Ok-get_func_index+else-index w ↦
          inr (
            refl,
            inr (inr (subst (λ k. len old ≢ k) is
                (other_next Funcs old id w.in-Ok-get_func_index.index _ w.in-Ok-get_func_index.is by (λ same. w.if-index.false (same ∙ sym w.index.ensures))))),
          )
      | in_default-get_func_index-via-in-Err-1 w ↦ search rules
    ]
