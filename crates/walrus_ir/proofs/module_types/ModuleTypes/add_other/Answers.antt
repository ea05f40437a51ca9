use Rattle.std.proofs.Common.{◌≡◌, [], ◌∷◌, ◌++◌, List, map, sym, ap, subst, ◌∙◌}
use Rattle.std.specs.Prelude.{All}
use Rattle.std.proofs.lemmas.List.{map-append}
use Rattle.walrus_ir.specs.Types.{ModuleType, Other}
use Rattle.walrus_ir.specs.TypeEntries.{module_type, KnowsFirst}
use Rattle.walrus_ir.specs.TypeIndex.{IsIndexOf}
use Rattle.walrus_ir.proofs.TypeIndex.{index-other}
use Rattle.walrus_ir.proofs.FirstTypes.{knows-pushed}
use Rattle.walrus_ir.proofs.module_types.ModuleTypes.add_other.Goals as goal

pub invariant_of-self-2 : goal.invariant_of-self-2
invariant_of-self-2 c =
    let inside = c.self.inside in
    let index = inside.index in
    let types = map module_type inside.types.items in
    let pushed : map module_type c.push.new.self.items ≡ types ++ Other ∷ [] = ap (map module_type) c.in_ok-push.ensures.items ∙ map-append module_type inside.types.items _ in
    let all : All (KnowsFirst (types ++ Other ∷ [])) c.push.new.self.items =
    subst (All (KnowsFirst (types ++ Other ∷ []))) (sym c.in_ok-push.ensures.items) (knows-pushed types Other inside.types.items _ c.self.invariant.1 tt) in
    subst (λ (ts : List ModuleType). IsIndexOf ts index.firsts index.func_ids index.entry_ids × All (KnowsFirst ts) c.push.new.self.items) (sym pushed)
    (index-other types index.firsts index.func_ids index.entry_ids c.self.invariant.0, all)
