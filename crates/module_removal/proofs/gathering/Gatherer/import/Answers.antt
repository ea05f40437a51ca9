use Rattle.std.proofs.Common.{◌≡◌, refl, sym, ap, subst, ◌∙◌, false, None, OnOk}
use Rattle.module_removal.specs.declared.gathering.Gatherer.{Gatherer}
use Rattle.module_removal.specs.LeftSpaces.{own_index}
use Rattle.module_removal.specs.CopiedItems.{copied_import}
use Rattle.module_removal.specs.Edges.{AddsReferencesTo}
use Rattle.module_removal.specs.Gathered.{GathersNext}
use Rattle.module_removal.proofs.GatherLemmas.{gathers_next, activates_none, declares_none, with_its_space}
use Rattle.module_removal.proofs.gathering.Gatherer.import.Goals as goal

pub returns-clause-is : goal.returns-clause-is
returns-clause-is c = λ none.
    let old = c.args.self.now in
    let new = c.refer.new.self in
    let space = c.in-Ok.value in
    let number = c.in-Ok-next_number.value in
    let counted = c.in-Ok-next_number.ensures.same in
    with_its_space c.refer.result
    (λ s. GathersNext s None false s (copied_import own_index c.args.input.now.end c.args.input.now.rest.now) c.import.new.input.rest.now old new) (new.imported ≡ new.next.funcs) space
    (gathers_next space None false space copied_import c.args.input.now.end c.args.input.now.rest.now c.import.new.input.rest.now old new c.clear.new.self c.import.new.self old.references old.references
    number c.refer.result (c.clear.ensures.left ∙ none) c.clear.ensures.found c.in-Ok.ensures.is c.in-Ok-next_number.ensures.ok
    (activates_none number old.references) refl refl (declares_none old.references.taken)
    (ap (λ (g : Gatherer). g.next) c.refer.ensures.same ∙ ap (λ (g : Gatherer). g.next) counted)
    (ap (λ (g : Gatherer). g.copier.left) c.refer.ensures.same ∙ ap (λ (g : Gatherer). g.copier.left) counted)
    (subst (λ (g : Gatherer). OnOk c.refer.result (AddsReferencesTo number g.copier.found.items g.references new.references)) counted c.refer.ensures.ok))
    (ap (λ (g : Gatherer). g.imported) c.refer.ensures.same ∙ sym (ap (λ (g : Gatherer). g.next.funcs) c.refer.ensures.same))
