use Rattle.std.proofs.Common.{true, List, subst, ◌∙◌}
use Rattle.module_removal.specs.declared.item.Item.{Item}
use Rattle.module_removal.specs.CopiedItems.{copied_export}
use Rattle.module_removal.specs.Declaring.{functions_among, NamesFunctions}
use Rattle.module_removal.proofs.GatherLemmas.{gathers_own}
use Rattle.module_removal.proofs.gathering.Gatherer.export.Goals as goal

pub returns-clause-is : goal.returns-clause-is
returns-clause-is c = λ none.
    let old = c.args.self.now in
    let new = c.refer.new.self in
    gathers_own true copied_export c.args.input.now.end c.args.input.now.rest.now c.export.new.input.rest.now old new c.clear.new.self c.export.new.self
    c.declare_all.new.self c.refer.result (c.clear.ensures.left ∙ none) c.clear.ensures.found c.in-Ok.ensures.is
    c.declare_all.ensures.counts c.declare_all.ensures.graph
    (subst (λ (l : List Item). NamesFunctions (functions_among 0 l) old.references.taken c.declare_all.new.self.taken) c.deref.ensures.value
    c.in-Ok-declare_all.ensures.taken)
    c.refer.ensures.same c.refer.ensures.ok
