use Rattle.std.proofs.Common.{◌++◌, Some, Result, refl, sym, ap, subst, ◌∙◌, inl, inr}
use Rattle.wasm_sections.specs.declared.fault.ModuleError.{ModuleError}
use Rattle.wasm_sections.specs.declared.sections.Section.{Section}
use Rattle.wasm_sections.specs.declared.sections.Sections.{Sections}
use Rattle.wasm_sections.specs.Sections.{preamble, TakesSection}
use Rattle.module_removal.specs.declared.writing.Writer.{Writer}
use Rattle.module_removal.proofs.LeftSectionLemmas.{ok_then, no_section_written, one_more_written, all_written}
use Rattle.module_removal.proofs.RefusalLemmas.{section_unread, section_stops, stops_among}
use Rattle.module_removal.proofs.writing.write_all.Goals as goal

pub sections-init : goal.sections-init
sections-init c = λ none.
    let start : Writer = record c.args.writer.now { out = c.extend_from_slice.new.self } in
    let same = c.into_iter-section-iterator.ensures.into_iter_gives in
    no_section_written c.args.bytes.now start c.into_iter-section-iterator.result
    (c.in-Ok.ensures.rest ∙ ap (λ (s : Sections). preamble ++ s.left.rest.now) (sym same)) (ap (λ (s : Sections). s.left.end) same ∙ c.in-Ok.ensures.end)
    (ap (λ (s : Sections). s.rank) same ∙ c.in-Ok.ensures.rank) none

pub sections-preserved : goal.sections-preserved
sections-preserved c = λ none.
    let start : Writer = record c.args.writer.now { out = c.extend_from_slice.new.self } in
    let at = c.sections in
    let left = at.invariant none in
    one_more_written c.args.bytes.now start at.section-iterator c.next.new.self at.writer left c.in-Ok-section.value c.any_section.new.self
    (subst (λ (r : Result Section ModuleError). TakesSection at.section-iterator (Some r) c.next.new.self) c.in-Ok-section.is c.in-Some.ensures.steps)
    (c.in-Ok-any_section.ensures.is left.none)

pub returns-clause-is : goal.returns-clause-is
returns-clause-is c = λ none.
    let start : Writer = record c.args.writer.now { out = c.extend_from_slice.new.self } in
    let at = c.sections in
    ok_then c.elements.result c.elements.ensures.is
    (λ w.
    (let all =
    all_written c.args.bytes.now start at.section-iterator c.next.new.self at.writer (at.invariant none) c.elements.new.self c.in-None.ensures.steps w in
    (all.0, all.1, start, c.in_ok-extend_from_slice.ensures.items, refl, all.2)))

pub returns-in-Err-clause-err : goal.returns-in-Err-clause-err
returns-in-Err-clause-err c = λ none. inr (inl c.in-Err.ensures.is)

pub returns-in-Err-section-clause-err : goal.returns-in-Err-section-clause-err
returns-in-Err-section-clause-err c = λ none.
    let file = c.args.bytes.now in
    let start : Writer = record c.args.writer.now { out = c.extend_from_slice.new.self } in
    let at = c.sections in
    let passed = (at.invariant none).passed in
    let takes = subst (λ (r : Result Section ModuleError). TakesSection at.section-iterator (Some r) c.next.new.self) c.in-Err-section.is c.in-Some.ensures.steps in
    inr (inr (stops_among file c.args.writer.now start at.writer at.section-iterator c.in-Err-section.error refl c.in_ok-extend_from_slice.ensures.items passed
    (section_unread file at.writer at.section-iterator c.next.new.self passed.end c.in-Err-section.error takes)))

pub returns-in-Err-any_section-clause-err : goal.returns-in-Err-any_section-clause-err
returns-in-Err-any_section-clause-err c = λ none.
    let file = c.args.bytes.now in
    let start : Writer = record c.args.writer.now { out = c.extend_from_slice.new.self } in
    let at = c.sections in
    let passed = (at.invariant none).passed in
    let takes = subst (λ (r : Result Section ModuleError). TakesSection at.section-iterator (Some r) c.next.new.self) c.in-Ok-section.is c.in-Some.ensures.steps in
    inr (inr (stops_among file c.args.writer.now start at.writer at.section-iterator c.in-Err-any_section.error refl c.in_ok-extend_from_slice.ensures.items passed
    (section_stops file at.writer at.section-iterator c.next.new.self passed.end c.in-Ok-section.value c.in-Err-any_section.error takes
    c.in-Err-any_section.ensures.err)))
