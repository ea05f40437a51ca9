use Rattle.std.proofs.Common.{ap, ◌∙◌, sym, refl}
use Rattle.wasm_sections.specs.Components.{Components}
use Rattle.wasm_sections.specs.Declarations.{first_numbers}
use Rattle.wasm_module.specs.ReadModules.{components_of}
use Rattle.wasm_module.proofs.TypeSectionLemmas.{not_counted_step, not_indexed_step, types_step, read_by}
use Rattle.wasm_module.proofs.parsed.ParsedModule.read_types.Goals as goal

pub returns-in-Err : goal.returns-in-Err
returns-in-Err c = λ none so.
    let section = c.args.section in
    not_counted_step (components_of c.args.self.now) section.end section.rest.now c.in-Err.error c.in-Err.ensures

pub returns-in-Err-index_types : goal.returns-in-Err-index_types
returns-in-Err-index_types c = λ none so.
    let section = c.args.section in
    not_indexed_step (components_of c.args.self.now) c.in-Ok.count section.end section.rest.now c.in-Err-index_types.error c.index_types.new.self.spaces c.in-Ok.ensures
    (c.in-Err-index_types.ensures.is none so)

pub returns : goal.returns
returns c = λ none.
    let before = c.args.self.now in
    let section = c.args.section in
    let middle = c.index_types.new.self in
    let after = c.read_groups.new.self in
    let reader = c.new-reader.result in
    let others = c.index_types.ensures.others in
    let types = after.«module».types in
    types_step (components_of before) before.spaces (components_of after) middle.spaces after.spaces c.in-Ok.count section.end section.end section.rest.now
    c.read_groups.new.reader.input.rest.now types c.read_groups.result c.in-Ok.ensures (λ so. c.in-Ok-index_types.ensures.is none so)
    (c.read_groups.ensures.others.components ∙ ap (λ (m : Components). record m { types = types }) others.components) c.read_groups.ensures.others.spaces others.tags refl
    (λ ids. read_by reader.input section reader.limit c.in-Ok.count types c.read_groups.new.reader.input.rest.now c.read_groups.result c.new-reader.ensures.input
    c.new-reader.ensures.limit (c.read_groups.ensures.is (ids ∙ ap first_numbers (sym c.new-reader.ensures.limit)) (others.types ∙ none)))
