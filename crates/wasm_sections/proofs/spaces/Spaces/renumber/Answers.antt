use Rattle.std.proofs.Common.{sym, ap, ◌∙◌}
use Rattle.std.specs.Ordering.{nat_cmp}
use Rattle.std.specs.FinMap.{FinMap}
use Rattle.wasm_operators.specs.declared.types.Space.TheVariants.{Funcs}
use Rattle.walrus_maps.specs.declared.ids_to_indices.IdsToIndices.{IdsToIndices}
use Rattle.walrus_maps.specs.IndexMaps.{numbers_in, with_numbers}
use Rattle.wasm_sections.proofs.RenumberingLemmas.{renumbered_in}
use Rattle.wasm_sections.proofs.spaces.Spaces.renumber.Goals as goal

pub returns-in-Err-clause-refused : goal.returns-in-Err-clause-refused
returns-in-Err-clause-refused c = c.in-Err.ensures.refused (c.new-numbers.ensures.numbers Funcs)

pub returns-clause-numbers : goal.returns-clause-numbers
returns-clause-numbers c =
    let a = c.args in
    renumbered_in a.total a.imported a.added c.push_all_funcs.new.to c.swap_funcs.new.self (ap (λ (m : IdsToIndices). numbers_in m Funcs) c.swap_funcs.ensures.own)
    (c.in-Ok.ensures.numbered (c.new-numbers.ensures.numbers Funcs))

pub returns-clause-others : goal.returns-clause-others
returns-clause-others c =
    let old = c.args.self.now in
    let own = c.swap_funcs.ensures.own in
    own ∙ ap (λ (f : FinMap nat_cmp _). with_numbers Funcs f old.numbers) (sym (ap (λ (m : IdsToIndices). numbers_in m Funcs) own))
