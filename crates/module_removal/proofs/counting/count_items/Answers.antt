use Rattle.std.proofs.Common.{Some, Result, sym, subst}
use Rattle.wasm_sections.specs.declared.fault.ModuleError.{ModuleError}
use Rattle.wasm_sections.specs.declared.sections.Section.{Section}
use Rattle.wasm_sections.specs.Sections.{TakesSection}
use Rattle.module_removal.specs.declared.item.ItemCounts.{ItemCounts}
use Rattle.module_removal.specs.ItemNumbers.{no_items_counted}
use Rattle.module_removal.specs.Counting.{CountsContents}
use Rattle.module_removal.proofs.SectionStepLemmas.{SectionsPassed, no_section_passed, one_more_passed, all_sections_passed}
use Rattle.module_removal.proofs.counting.count_items.Goals as goal

pub sections-init : goal.sections-init
sections-init c =
    subst (λ (n : ItemCounts). SectionsPassed CountsContents c.args.bytes.now no_items_counted n c.into_iter-section-iterator.result) (sym c.none-counts.ensures)
    (no_section_passed CountsContents c.args.bytes.now no_items_counted c.in-Ok.value c.into_iter-section-iterator.result c.in-Ok.ensures.rest c.in-Ok.ensures.end
    c.in-Ok.ensures.rank c.into_iter-section-iterator.ensures.into_iter_gives)

pub sections-preserved : goal.sections-preserved
sections-preserved c =
    let at = c.sections in
    one_more_passed CountsContents c.args.bytes.now no_items_counted at.counts c.count_section.new.counts at.section-iterator c.next.new.self c.in-Ok-section.value at.invariant
    (subst (λ (r : Result Section ModuleError). TakesSection at.section-iterator (Some r) c.next.new.self) c.in-Ok-section.is c.in-Some.ensures.steps)
    c.in-Ok-count_section.ensures

pub returns : goal.returns
returns c =
    let at = c.sections in
    all_sections_passed CountsContents c.args.bytes.now no_items_counted at.counts at.section-iterator c.next.new.self at.invariant c.in-None.ensures.steps
