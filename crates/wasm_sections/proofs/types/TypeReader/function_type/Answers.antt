use Rattle.wasm_sections.proofs.TypeReadingLemmas.{lists_read}
use Rattle.wasm_sections.proofs.types.TypeReader.function_type.Goals as goal

pub returns-clause-is : goal.returns-clause-is
returns-clause-is c =
    let first = c.read_value_types.new in
    let second = c.read_value_types-2.new in
    let before = c.args.self.now in
    lists_read before.limit before.input.end first.input.end before.input.rest.now first.input.rest.now second.input.rest.now first.types.items second.types.items
    c.read_value_types-2.result c.read_value_types.ensures.same_end c.in-Ok.ensures.is c.read_value_types-2.ensures.is
