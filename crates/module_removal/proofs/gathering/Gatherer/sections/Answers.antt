use Rattle.std.proofs.Common.{Some, Result, subst}
use Rattle.wasm_sections.specs.declared.fault.ModuleError.{ModuleError}
use Rattle.wasm_sections.specs.declared.sections.Section.{Section}
use Rattle.wasm_sections.specs.Sections.{TakesSection}
use Rattle.module_removal.proofs.GatherStepLemmas.{no_section, one_more_section, all_sections}
use Rattle.module_removal.proofs.gathering.Gatherer.sections.Goals as goal

pub sections-init : goal.sections-init
sections-init c = λ none.
    no_section c.args.bytes.now c.args.self.now c.in-Ok.value c.into_iter-section-iterator.result c.in-Ok.ensures.rest c.in-Ok.ensures.end c.in-Ok.ensures.rank
    c.into_iter-section-iterator.ensures.into_iter_gives none

pub sections-preserved : goal.sections-preserved
sections-preserved c = λ none.
    let at = c.sections in
    let section = c.in-Ok-section.section in
    let next = c.next.new.self in
    let takes = subst (λ (r : Result Section ModuleError). TakesSection at.section-iterator (Some r) next) c.in-Ok-section.is c.in-Some.ensures.steps in
    one_more_section c.args.bytes.now c.args.self.now at.self c.section.new.self at.section-iterator next section (at.invariant none) takes
    (λ finds. c.in-Ok-section-2.ensures finds)

pub returns : goal.returns
returns c = λ none.
    let at = c.sections in
    all_sections c.args.bytes.now c.args.self.now at.self at.section-iterator c.next.new.self (at.invariant none) c.in-None.ensures.steps
