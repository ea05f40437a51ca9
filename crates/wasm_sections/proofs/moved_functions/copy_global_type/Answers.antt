use Rattle.wasm_sections.specs.Format.{global_type_part}
use Rattle.wasm_sections.proofs.MovedLemmas.{part_copied}
use Rattle.wasm_sections.proofs.PartLemmas.{global_type_follows}
use Rattle.wasm_sections.proofs.moved_functions.copy_global_type.Goals as goal

pub returns-in-Ok-put_bytes : goal.returns-in-Ok-put_bytes
returns-in-Ok-put_bytes c = (
  c.in-Ok.field-0,
  part_copied global_type_part global_type_follows c.args.input.now.end c.in-Ok.field-0 c.args.input.now.rest.now
      c.global_type.new.self.rest.now c.args.out.now.items c.put_bytes.new.out.items c.until.result.now c.in-Ok.ensures.is c.until.ensures
      c.in-Ok-put_bytes.ensures,
)
