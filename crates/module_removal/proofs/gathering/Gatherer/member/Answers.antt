use Rattle.std.proofs.Common.{false, None, Ok, refl, ap, subst, ◌∙◌}
use Rattle.wasm_operators.specs.declared.types.Space.TheVariants.{Types}
use Rattle.module_removal.specs.declared.gathering.Gatherer.{Gatherer}
use Rattle.module_removal.specs.CopiedItems.{copied_subtype}
use Rattle.module_removal.specs.Edges.{AddsReferencesTo}
use Rattle.module_removal.proofs.GatherLemmas.{gathers_next, activates_none, declares_none}
use Rattle.module_removal.proofs.GatherStepLemmas.{gathers_type}
use Rattle.module_removal.proofs.gathering.Gatherer.member.Goals as goal

pub returns-clause-is : goal.returns-clause-is
returns-clause-is c = λ none.
    let old = c.args.self.now in
    let own = c.refer.new.self in
    let new : Gatherer = record own { references = c.refer_to_type-2.new.self } in
    let end = c.args.input.now.end in
    let text = c.args.input.now.rest.now in
    let following = c.subtype.new.input.rest.now in
    let found = c.subtype.new.self in
    let number = c.in-Ok.value in
    let counted = c.in-Ok.ensures.same in
    gathers_type c.args.first end text following old own new c.refer_to_type.new.self c.refer_to_type-2.result
    (gathers_next Types None false tt copied_subtype end text following old own c.clear.new.self found old.references old.references number (Ok tt)
    (c.clear.ensures.left ∙ ap (λ (g : Gatherer). g.copier.left) counted ∙ none) c.clear.ensures.found c.in-Ok-subtype.ensures.is c.in-Ok.ensures.ok
    (activates_none number old.references) refl refl (declares_none old.references.taken)
    (ap (λ (g : Gatherer). g.next) c.refer.ensures.same ∙ ap (λ (g : Gatherer). g.next) counted) (ap (λ (g : Gatherer). g.copier.left) c.refer.ensures.same)
    (subst (λ (g : Gatherer). AddsReferencesTo number found.found.items g.references own.references) counted c.in-Ok-refer.ensures.ok))
    (ap (λ (g : Gatherer). g.imported) c.refer.ensures.same ∙ ap (λ (g : Gatherer). g.imported) counted) refl c.refer_to_type.ensures.counts
    c.refer_to_type-2.ensures.counts c.refer_to_type.ensures.taken c.refer_to_type-2.ensures.taken c.in-Ok-refer_to_type.ensures.edges c.refer_to_type-2.ensures.edges
