use Rattle.wasm_sections.specs.Format.{global_type_part}
use Rattle.wasm_sections.specs.References.{constant_references}
use Rattle.wasm_sections.proofs.ReferenceLemmas.{adds_after, adds_no_first}
use Rattle.wasm_sections.proofs.input.Input.add_global.Goals as goal

pub returns-in-Ok-clause-is : goal.returns-in-Ok-clause-is
returns-in-Ok-clause-is c =
    let at = c.global_type.new.self in
    let new = c.add_constant.new in
    adds_after global_type_part (λ type. constant_references) c.args.self.now.end c.args.self.now.rest.now at.end c.in-Ok.field-0 at.rest.now
    c.args.found.now.items new.found.items new.self.rest.now c.add_constant.result c.in-Ok.ensures.is c.in-Ok.ensures.same_end c.add_constant.ensures.is

pub returns-in-Err-clause-is : goal.returns-in-Err-clause-is
returns-in-Err-clause-is c =
    adds_no_first global_type_part (λ type. constant_references) c.args.self.now.end c.args.self.now.rest.now c.args.found.now.items
    c.args.found.now.items c.global_type.new.self.rest.now c.in-Err.error c.in-Err.ensures.is
