use Rattle.wasm_sections.proofs.MovedLemmas.{whole_contents}
use Rattle.wasm_sections.proofs.moved_functions.FunctionNumbers.moved_contents.Goals as goal

pub returns-in-Ok-finish : goal.returns-in-Ok-finish
returns-in-Ok-finish c =
    let new = c.move_section.new in
    whole_contents c.args.self.imported c.args.self.added c.args.kind c.args.contents.now c.new-input.result.rest.now new.input.rest.now c.new-out.result.items new.out.items
    c.new-input.ensures.rest c.in-Ok-finish.ensures.none c.new-out.ensures.items c.in-Ok.ensures
