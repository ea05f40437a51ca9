use Rattle.wasm_sections.proofs.MovedLemmas.{global_moved}
use Rattle.wasm_sections.proofs.moved_functions.FunctionNumbers.move_global.Goals as goal

pub returns-in-Ok-move_constant : goal.returns-in-Ok-move_constant
returns-in-Ok-move_constant c =
    let t = c.in-Ok.ensures in
    let m = c.in-Ok-move_constant.ensures in
    global_moved c.args.self.imported c.args.self.added c.args.input.now.end c.args.input.now.rest.now c.copy_global_type.new.input.rest.now
    c.move_constant.new.input.rest.now m.0 c.args.out.now.items c.copy_global_type.new.out.items c.move_constant.new.out.items t.0 t.1 m.1 m.2
