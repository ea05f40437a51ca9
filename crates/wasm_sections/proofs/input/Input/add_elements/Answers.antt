use Rattle.std.proofs.Common.{◌∙◌}
use Rattle.wasm_sections.specs.References.{element_references}
use Rattle.wasm_sections.proofs.ReferenceLemmas.{no_item, one_more_item, item_fails, all_items, uncounted}
use Rattle.wasm_sections.proofs.input.Input.add_elements.Goals as goal

pub returns-in-Err-clause-is : goal.returns-in-Err-clause-is
returns-in-Err-clause-is c =
    uncounted (element_references c.args.are_expressions) c.args.self.now.end c.args.self.now.rest.now c.args.found.now.items c.args.found.now.items c.number.new.self.rest.now
    c.in-Err.error c.in-Err.ensures.is

pub items-init : goal.items-init
items-init c = record {
  same_end = c.in-Ok.ensures.same_end;
  left = no_item (element_references c.args.are_expressions) c.in-Ok.count c.args.self.now.end c.number.new.self.rest.now c.args.found.now.items;
}

pub items-preserved : goal.items-preserved
items-preserved c =
    let at = c.items in
    let next = c.add_element.new in
    record {
      same_end = c.in-Ok-add_element.ensures.same_end ∙ at.invariant.same_end;
      left =
          one_more_item (element_references c.args.are_expressions) c.in-Ok.count at.counter c.args.self.now.end c.number.new.self.rest.now at.self.rest.now
          c.args.found.now.items at.found.items at.invariant.left at.self.end next.self.rest.now next.found.items c.items-test.true at.invariant.same_end
          c.in-Ok-add_element.ensures.is;
    }

pub returns-in-Err-add_element-clause-is : goal.returns-in-Err-add_element-clause-is
returns-in-Err-add_element-clause-is c =
    let at = c.items in
    let next = c.add_element.new in
    item_fails (element_references c.args.are_expressions) c.in-Ok.count at.counter c.args.self.now.end c.number.new.self.rest.now at.self.rest.now c.args.found.now.items
    at.found.items at.invariant.left at.self.end c.args.self.now.rest.now next.found.items next.self.rest.now next.found.items next.self.rest.now
    c.in-Err-add_element.error c.items-test.true at.invariant.same_end c.in-Ok.ensures.is c.in-Err-add_element.ensures.is

pub returns-clause-is : goal.returns-clause-is
returns-clause-is c =
    let at = c.items in
    all_items (element_references c.args.are_expressions) c.in-Ok.count at.counter c.args.self.now.end c.number.new.self.rest.now at.self.rest.now c.args.found.now.items
    at.found.items at.invariant.left c.args.self.now.rest.now c.items-test.false c.in-Ok.ensures.is
