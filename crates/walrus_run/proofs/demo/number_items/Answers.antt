use Rattle.std.proofs.Common.{ap, ◌∙◌}
use Rattle.wasm_operators.specs.declared.types.Space.TheVariants.{Tables, Types, Funcs, Globals, Memories, Elements, Tags}
use Rattle.walrus_maps.specs.IndexMaps.{numbers_in}
use Rattle.walrus_run.proofs.DemoMaps.{demo_numbers_are}
use Rattle.walrus_run.proofs.demo.number_items.Goals as goal

pub number_types-requires : goal.number_types-requires
number_types-requires c = c.requires Types

pub number_funcs_and_tags-requires-clause-funcs : goal.number_funcs_and_tags-requires-clause-funcs
number_funcs_and_tags-requires-clause-funcs c = ap (λ m. numbers_in m Funcs) c.in_ok-number_types.ensures.ok ∙ c.requires Funcs

pub number_funcs_and_tags-requires-clause-tags : goal.number_funcs_and_tags-requires-clause-tags
number_funcs_and_tags-requires-clause-tags c = ap (λ m. numbers_in m Tags) c.in_ok-number_types.ensures.ok ∙ c.requires Tags

pub number_storage-requires-clause-tables : goal.number_storage-requires-clause-tables
number_storage-requires-clause-tables c =
    ap (λ m. numbers_in m Tables) c.in_ok-number_funcs_and_tags.ensures.ok ∙ (ap (λ m. numbers_in m Tables) c.in_ok-number_types.ensures.ok ∙ c.requires Tables)

pub number_storage-requires-clause-memories : goal.number_storage-requires-clause-memories
number_storage-requires-clause-memories c =
    ap (λ m. numbers_in m Memories) c.in_ok-number_funcs_and_tags.ensures.ok ∙ (ap (λ m. numbers_in m Memories) c.in_ok-number_types.ensures.ok ∙ c.requires Memories)

pub number_storage-requires-clause-globals : goal.number_storage-requires-clause-globals
number_storage-requires-clause-globals c =
    ap (λ m. numbers_in m Globals) c.in_ok-number_funcs_and_tags.ensures.ok ∙ (ap (λ m. numbers_in m Globals) c.in_ok-number_types.ensures.ok ∙ c.requires Globals)

pub number_storage-requires-clause-elements : goal.number_storage-requires-clause-elements
number_storage-requires-clause-elements c =
    ap (λ m. numbers_in m Elements) c.in_ok-number_funcs_and_tags.ensures.ok ∙ (ap (λ m. numbers_in m Elements) c.in_ok-number_types.ensures.ok ∙ c.requires Elements)

pub returns-clause-ok : goal.returns-clause-ok
returns-clause-ok c =
    demo_numbers_are _ _ _ _ c.requires c.in_ok-number_types.ensures.ok c.in_ok-number_funcs_and_tags.ensures.ok c.in_ok-number_storage.ensures.ok
