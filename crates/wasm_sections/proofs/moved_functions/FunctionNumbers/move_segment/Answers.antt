use Rattle.wasm_sections.proofs.MovedLemmas.{segment_moved}
use Rattle.wasm_sections.proofs.moved_functions.FunctionNumbers.move_segment.Goals as goal

pub returns-in-Ok-move_elements : goal.returns-in-Ok-move_elements
returns-in-Ok-move_elements c =
    let o = c.in-Ok-move_constant_if.ensures in
    let n = c.in-Ok-move_elements.ensures in
    segment_moved c.args.self.imported c.args.self.added c.args.input.now.end c.move_constant_if.new.input.end c.in-Ok.flags
    c.args.input.now.rest.now c.copy_element_flags.new.input.rest.now c.move_constant_if.new.input.rest.now
    c.copy_element_type.new.input.rest.now c.move_elements.new.input.rest.now o.0 n.0 c.args.out.now.items
    c.copy_element_flags.new.out.items c.move_constant_if.new.out.items c.copy_element_type.new.out.items c.move_elements.new.out.items
    c.in-Ok.ensures o.1 o.2 c.in-Ok-copy_element_type.ensures n.1 n.2
