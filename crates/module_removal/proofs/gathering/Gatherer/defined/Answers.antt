use Rattle.std.proofs.Common.{◌≡◌, List, ap, subst, ◌∙◌, true, OnOk}
use Rattle.module_removal.specs.declared.copier.Copier.{Copier}
use Rattle.module_removal.specs.declared.gathering.Gatherer.{Gatherer}
use Rattle.module_removal.specs.declared.item.Item.{Item}
use Rattle.module_removal.specs.LeftSpaces.{own_index}
use Rattle.module_removal.specs.CopiedItems.{copied_defined}
use Rattle.module_removal.specs.Edges.{AddsReferencesTo}
use Rattle.module_removal.specs.Declaring.{functions_among, NamesFunctions}
use Rattle.module_removal.specs.Gathered.{item_of_active, defined_target, GathersNext}
use Rattle.std.proofs.Common.{option_map}
use Rattle.module_removal.specs.Gathered.{Activates}
use Rattle.module_removal.proofs.GatherLemmas.{gathers_next, with_its_target}
use Rattle.module_removal.proofs.gathering.Gatherer.defined.Goals as goal

pub returns-clause-is : goal.returns-clause-is
returns-clause-is c = λ none.
    let old = c.args.self.now in
    let new = c.refer.new.self in
    let space = c.args.space in
    let number = c.in-Ok.value in
    let counted = c.in-Ok.ensures.same in
    let cleared = c.next_number.new.self.copier in
    let act = c.activate.new.self.references in
    let base = c.declare_all.new.self in
    let target = option_map item_of_active c.in-Ok-active_of.value in
    let kept = c.in-Ok-activate.ensures.same in
    with_its_target c.refer.result (defined_target space c.args.input.now.end c.args.input.now.rest.now)
    (λ t. GathersNext space t true tt (copied_defined own_index space c.args.input.now.end c.args.input.now.rest.now) c.defined.new.input.rest.now old new) (new.imported ≡ old.imported) target c.in-Ok-active_of.ensures.0
    c.in-Ok-active_of.ensures.1
    (gathers_next space target true tt (λ w. copied_defined w space) c.args.input.now.end c.args.input.now.rest.now c.defined.new.input.rest.now old new cleared c.defined.new.self act base number
    c.refer.result (ap (λ (g : Gatherer). g.copier.left) counted ∙ c.clear.ensures.left ∙ none)
    (ap (λ (g : Gatherer). g.copier.found.items) counted ∙ c.clear.ensures.found) c.in-Ok-defined.ensures.is c.in-Ok.ensures.ok
    (subst (λ (g : Gatherer). Activates number target g.references act) counted c.in-Ok-activate.ensures.ok) c.declare_all.ensures.counts c.declare_all.ensures.graph
    (subst (λ (k : Copier). NamesFunctions (functions_among number k.found.items) act.taken base.taken) (ap (λ (g : Gatherer). g.copier) kept)
    (subst (λ (l : List Item). NamesFunctions (functions_among number l) act.taken base.taken) c.deref.ensures.value c.in-Ok-declare_all.ensures.taken))
    (ap (λ (g : Gatherer). g.next) c.refer.ensures.same ∙ ap (λ (g : Gatherer). g.next) kept ∙ ap (λ (g : Gatherer). g.next) counted)
    (ap (λ (g : Gatherer). g.copier.left) c.refer.ensures.same ∙ ap (λ (g : Gatherer). g.copier.left) kept)
    (subst (λ (k : Copier). OnOk c.refer.result (AddsReferencesTo number k.found.items base new.references)) (ap (λ (g : Gatherer). g.copier) kept)
    c.refer.ensures.ok))
    (ap (λ (g : Gatherer). g.imported) c.refer.ensures.same ∙ ap (λ (g : Gatherer). g.imported) kept ∙ ap (λ (g : Gatherer). g.imported) counted)
