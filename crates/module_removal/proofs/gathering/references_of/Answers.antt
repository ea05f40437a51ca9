use Rattle.std.proofs.Common.{◌≡◌, refl, ap, ◌∙◌}
use Rattle.wasm_operators.specs.declared.types.Space.{Space}
use Rattle.wasm_operators.specs.declared.types.Space.TheVariants.{Tables, Types, Funcs, Globals, Memories, Elements, Data, Tags}
use Rattle.module_removal.specs.declared.item.ItemCounts.{ItemCounts}
use Rattle.module_removal.specs.ItemNumbers.{count_of, no_items_counted}
use Rattle.module_removal.proofs.GatherStepLemmas.{gathered}
use Rattle.module_removal.proofs.gathering.references_of.Goals as goal

none_of_space : (space : Space) → count_of no_items_counted space ≡ 0
none_of_space Types = refl
none_of_space Funcs = refl
none_of_space Tables = refl
none_of_space Memories = refl
none_of_space Globals = refl
none_of_space Tags = refl
none_of_space Elements = refl
none_of_space Data = refl

pub returns-in-Ok-sections : goal.returns-in-Ok-sections
returns-in-Ok-sections c =
    gathered c.args.bytes.now _ c.sections.new.self (c.in-Ok-sections.ensures c.finding.ensures.left)
    (λ space. ap (λ (n : ItemCounts). count_of n space) c.none.ensures ∙ none_of_space space) refl c.finding.ensures.left c.in-Ok-new.ensures.edges
    c.new-2.ensures.in_bodies c.new-2.ensures.outside c.in-Ok.ensures
