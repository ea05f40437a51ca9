use Rattle.std.proofs.Common.{inr, nat_lt}
use Rattle.wasm_sections.specs.Sections.{rank, section_id}
use Rattle.module_removal.proofs.LeftSectionLemmas.{ok_then, after_segments_before}
use Rattle.module_removal.specs.Refusals.{StopsAtContents, StopsAtSection}
use Rattle.module_removal.proofs.RefusalLemmas.{if_err_then}
use Rattle.module_removal.proofs.writing.Writer.section.Goals as goal

pub returns-clause-is : goal.returns-clause-is
returns-clause-is c = λ none.
    let mid = c.elements_before.new.self in
    let is_before = nat_lt (rank 9) (rank (section_id c.args.section.now.kind)) in
    ok_then c.contents.result (c.contents.ensures.is (after_segments_before is_before c.args.self.now mid none c.in-Ok.ensures.is)) (λ w. (mid, c.in-Ok.ensures.is, w))

pub returns-clause-err : goal.returns-clause-err
returns-clause-err c =
    let section = c.args.section.now in
    let end = section.contents.end in
    let text = section.contents.rest.now in
    let mid = c.elements_before.new.self in
    if_err_then (StopsAtContents section.kind end text mid) (StopsAtSection section.kind end text c.args.self.now) c.contents.result c.contents.ensures.err
    (λ e s. inr (mid, c.in-Ok.ensures.is, s))
