use Rattle.std.proofs.Common.{rules, ◌≢◌, refl, ap, subst, inr, ◌∙◌}
use Rattle.std.specs.FinMap.{len}
use Rattle.wasm_operators.specs.declared.types.Space.TheVariants.{Globals}
use Rattle.walrus_maps.specs.declared.ids_to_indices.IdsToIndices.{IdsToIndices}
use Rattle.walrus_maps.specs.IndexMaps.{number_of}
use Rattle.wasm_sections.proofs.DefinedLemmas.{other_next, found}
use Rattle.wasm_sections.proofs.spaces.Spaces.define_global.Goals as goal
use Rattle.wasm_sections.proofs.spaces.Spaces.define_global.Goals.{in_default-via-in-Ok-get_global_index+else-number-index, in_default-via-in-Err-1}

pub returns-in_default-clause-refused : goal.returns-in_default-clause-refused
returns-in_default-clause-refused c =
    let old = c.args.self.now.numbers.globals in
    let id = c.new-id.result in
    let by = c.get_global_index-2.ensures ∙ ap (λ (m : IdsToIndices). number_of m Globals id) c.in-Ok-push_global.ensures.ok in
    let there = by ∙ found Globals old id in
    elim c.in_default.branch [
      | in_default-via-in-Ok-get_global_index+else-number-index w ↦
          inr (
            refl,
            inr (inr (subst (λ k. len old ≢ k) c.new-id.ensures
                (other_next Globals old id w.in-Ok-get_global_index.number _ w.in-Ok-get_global_index.is by (λ same. w.if-number-index.false (same ∙ c.new-id.ensures))))),
          )
      | in_default-via-in-Err-1 w ↦ search rules
    ]
