-- What is read is a number, and a number has at least one byte.
use Rattle.wasm_numbers.specs.Numbers.{unsigned}
use Rattle.wasm_sections.proofs.NumberLemmas.{number_takes, is_shorter}
use Rattle.wasm_sections.proofs.input.Input.number.Goals as goal

pub returns-in-Ok-clause-shorter : goal.returns-in-Ok-clause-shorter
returns-in-Ok-clause-shorter c =
    let all = c.args.self.now.rest.now in
    let rest = c.in-Ok.rest.now in
    is_shorter all rest (number_takes unsigned 32 all c.in-Ok.number rest c.in-Ok.ensures)
