use Rattle.wasm_sections.specs.Format.{table_front_part}
use Rattle.wasm_sections.proofs.MovedLemmas.{part_copied}
use Rattle.wasm_sections.proofs.PartLemmas.{table_front_follows}
use Rattle.wasm_sections.proofs.moved_functions.copy_table_front.Goals as goal

pub returns-in-Ok-put_bytes : goal.returns-in-Ok-put_bytes
returns-in-Ok-put_bytes c =
    part_copied table_front_part table_front_follows c.args.input.now.end c.in-Ok.has_elements c.args.input.now.rest.now
    c.table_front.new.self.rest.now c.args.out.now.items c.put_bytes.new.out.items c.until.result.now c.in-Ok.ensures.is c.until.ensures
    c.in-Ok-put_bytes.ensures
