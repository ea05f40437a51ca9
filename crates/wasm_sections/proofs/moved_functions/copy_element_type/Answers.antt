use Rattle.wasm_sections.specs.Format.{element_type_part}
use Rattle.wasm_sections.proofs.MovedLemmas.{part_copied}
use Rattle.wasm_sections.proofs.PartLemmas.{element_type_follows}
use Rattle.wasm_sections.proofs.moved_functions.copy_element_type.Goals as goal

pub returns-in-Ok-put_bytes : goal.returns-in-Ok-put_bytes
returns-in-Ok-put_bytes c =
    part_copied (element_type_part c.args.flags) (element_type_follows c.args.flags) c.args.input.now.end tt c.args.input.now.rest.now
    c.element_type.new.self.rest.now c.args.out.now.items c.put_bytes.new.out.items c.until.result.now c.in-Ok.ensures.is c.until.ensures
    c.in-Ok-put_bytes.ensures
