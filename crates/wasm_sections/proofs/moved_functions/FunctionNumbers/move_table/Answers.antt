use Rattle.wasm_sections.proofs.MovedLemmas.{table_moved}
use Rattle.wasm_sections.proofs.moved_functions.FunctionNumbers.move_table.Goals as goal

pub returns-in-Ok-move_constant_if : goal.returns-in-Ok-move_constant_if
returns-in-Ok-move_constant_if c =
    let m = c.in-Ok-move_constant_if.ensures in
    table_moved c.args.self.imported c.args.self.added c.args.input.now.end c.in-Ok.has_elements c.args.input.now.rest.now
    c.copy_table_front.new.input.rest.now c.move_constant_if.new.input.rest.now m.0 c.args.out.now.items c.copy_table_front.new.out.items
    c.move_constant_if.new.out.items c.in-Ok.ensures m.1 m.2
