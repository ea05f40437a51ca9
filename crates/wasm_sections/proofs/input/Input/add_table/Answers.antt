use Rattle.wasm_sections.specs.Format.{table_front_part}
use Rattle.wasm_sections.specs.References.{constant_references_if}
use Rattle.wasm_sections.proofs.ReferenceLemmas.{adds_after, adds_no_first}
use Rattle.wasm_sections.proofs.input.Input.add_table.Goals as goal

pub returns-in-Ok-clause-is : goal.returns-in-Ok-clause-is
returns-in-Ok-clause-is c =
    let at = c.table_front.new.self in
    let new = c.add_constant_if.new in
    adds_after table_front_part constant_references_if c.args.self.now.end c.args.self.now.rest.now at.end c.in-Ok.has_initial at.rest.now
    c.args.found.now.items new.found.items new.self.rest.now c.add_constant_if.result c.in-Ok.ensures.is c.in-Ok.ensures.same_end c.add_constant_if.ensures.is

pub returns-in-Err-clause-is : goal.returns-in-Err-clause-is
returns-in-Err-clause-is c =
    adds_no_first table_front_part constant_references_if c.args.self.now.end c.args.self.now.rest.now c.args.found.now.items
    c.args.found.now.items c.table_front.new.self.rest.now c.in-Err.error c.in-Err.ensures.is
