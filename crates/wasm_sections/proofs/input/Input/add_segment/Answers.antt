use Rattle.wasm_sections.specs.Format.{element_flags_part}
use Rattle.wasm_sections.proofs.ReferenceLemmas.{after_flags, adds_no_first, segment_adds, offset_fails}
use Rattle.wasm_sections.proofs.input.Input.add_segment.Goals as goal

pub returns-in-Err-clause-is : goal.returns-in-Err-clause-is
returns-in-Err-clause-is c =
    adds_no_first element_flags_part after_flags c.args.self.now.end c.args.self.now.rest.now c.args.found.now.items c.args.found.now.items
    c.element_flags.new.self.rest.now c.in-Err.error c.in-Err.ensures.is

pub returns-in-Ok-add_constant_if-clause-is : goal.returns-in-Ok-add_constant_if-clause-is
returns-in-Ok-add_constant_if-clause-is c =
    let at = c.element_flags.new.self in
    let mid = c.add_constant_if.new in
    let new = c.add_typed_elements.new in
    segment_adds c.args.self.now.end c.in-Ok.flags at.end c.args.self.now.rest.now at.rest.now mid.self.rest.now c.args.found.now.items
    mid.found.items c.in-Ok.ensures.is c.in-Ok.ensures.same_end mid.self.end new.found.items new.self.rest.now c.add_typed_elements.result
    c.in-Ok-add_constant_if.ensures.same_end c.in-Ok-add_constant_if.ensures.is c.add_typed_elements.ensures.is

pub returns-in-Err-add_constant_if-clause-is : goal.returns-in-Err-add_constant_if-clause-is
returns-in-Err-add_constant_if-clause-is c =
    let at = c.element_flags.new.self in
    let mid = c.add_constant_if.new in
    offset_fails c.args.self.now.end c.in-Ok.flags at.end c.args.self.now.rest.now at.rest.now mid.self.rest.now c.args.found.now.items
    mid.found.items c.in-Ok.ensures.is c.in-Ok.ensures.same_end mid.found.items mid.self.rest.now c.in-Err-add_constant_if.error
    c.in-Err-add_constant_if.ensures.is
