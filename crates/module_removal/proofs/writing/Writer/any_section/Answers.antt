use Rattle.wasm_sections.specs.Sections.{section_at}
use Rattle.module_removal.proofs.LeftSectionLemmas.{ok_then, not_custom}
use Rattle.module_removal.specs.Refusals.{StopsAtSection, StopsAtAnySection}
use Rattle.module_removal.proofs.RefusalLemmas.{if_err_then, stops_of_section}
use Rattle.module_removal.proofs.writing.Writer.any_section.Goals as goal

pub returns-in_default-clause-is : goal.returns-in_default-clause-is
returns-in_default-clause-is c = λ none.
    let section = c.args.section.now in
    ok_then c.section.result (c.section.ensures.is none)
    (λ w. not_custom section.kind (section_at section) c.args.self.now c.section.new.self c.in_default.not-Custom w)

pub returns-in_default-clause-err : goal.returns-in_default-clause-err
returns-in_default-clause-err c =
    let section = c.args.section.now in
    let end = section.contents.end in
    let text = section.contents.rest.now in
    if_err_then (StopsAtSection section.kind end text c.args.self.now) (StopsAtAnySection section.kind end text c.args.self.now) c.section.result c.section.ensures.err
    (λ e s. stops_of_section section.kind end text c.args.self.now e c.in_default.not-Custom s)
