use Rattle.std.proofs.Common.{inr, subst}
use Rattle.wasm_sections.specs.declared.sections.SectionKind.{SectionKind}
use Rattle.wasm_sections.specs.declared.sections.SectionKind.TheVariants.{Element}
use Rattle.module_removal.specs.LeftSections.{WritesItems}
use Rattle.module_removal.proofs.LeftSectionLemmas.{ok_then, contents_of_kind, other_contents}
use Rattle.module_removal.proofs.RefusalLemmas.{stops_of_contents}
use Rattle.module_removal.proofs.writing.Writer.contents.Goals as goal

pub returns-in-Ok-clause-is : goal.returns-in-Ok-clause-is
returns-in-Ok-clause-is c = λ none.
    let section = c.args.section.now in
    let end = section.contents.end in
    let text = section.contents.rest.now in
    let old = c.args.self.now in
    let mid = c.items.new.self in
    let items = subst (λ (k : SectionKind). WritesItems k end text old mid) c.in-Element.is c.in-Ok.ensures.is in
    contents_of_kind section.kind Element end text old c.put_elements.new.self c.put_elements.result c.in-Element.is
    (ok_then c.put_elements.result c.put_elements.ensures.is (λ w. (mid, items, w)))

pub returns-in-Ok-items-clause-is : goal.returns-in-Ok-items-clause-is
returns-in-Ok-items-clause-is c = λ none.
    let section = c.args.section.now in
    let d = c.in_default in
    ok_then c.finish.result c.finish.ensures.is
    (λ w.
    other_contents section.kind section.contents.end section.contents.rest.now c.args.self.now c.finish.new.self d.not-Start d.not-DataCount d.not-Code
    d.not-Element c.items-in_default.new.self c.in-Ok-items.ensures.is w)

pub returns-in-Err-items : goal.returns-in-Err-items
returns-in-Err-items c =
    let section = c.args.section.now in
    let d = c.in_default in
    record {
      is = λ none. tt;
      err =
          stops_of_contents section.kind section.contents.end section.contents.rest.now c.args.self.now c.in-Err-items.error d.not-Start d.not-DataCount d.not-Code
          (inr c.in-Err-items.ensures.err);
    }
