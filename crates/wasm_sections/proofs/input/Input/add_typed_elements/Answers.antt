use Rattle.std.proofs.Common.{nat_le}
use Rattle.wasm_sections.specs.Format.{element_type_part}
use Rattle.wasm_sections.specs.References.{element_references, references_of_each}
use Rattle.wasm_sections.proofs.ReferenceLemmas.{adds_after, adds_no_first}
use Rattle.wasm_sections.proofs.input.Input.add_typed_elements.Goals as goal

pub returns-in-Ok-clause-is : goal.returns-in-Ok-clause-is
returns-in-Ok-clause-is c =
    let flags = c.args.flags in
    let at = c.element_type.new.self in
    let new = c.add_elements.new in
    adds_after (element_type_part flags) (λ u. references_of_each (element_references (nat_le 4 flags))) c.args.self.now.end c.args.self.now.rest.now at.end tt
    at.rest.now c.args.found.now.items new.found.items new.self.rest.now c.add_elements.result c.in-Ok.ensures.is c.in-Ok.ensures.same_end
    c.add_elements.ensures.is

pub returns-in-Err-clause-is : goal.returns-in-Err-clause-is
returns-in-Err-clause-is c =
    let flags = c.args.flags in
    adds_no_first (element_type_part flags) (λ u. references_of_each (element_references (nat_le 4 flags))) c.args.self.now.end c.args.self.now.rest.now
    c.args.found.now.items c.args.found.now.items c.element_type.new.self.rest.now c.in-Err.error c.in-Err.ensures.is
