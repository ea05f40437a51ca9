use Rattle.wasm_sections.proofs.TypeReadingLemmas.{value_leaves_less}
use Rattle.wasm_sections.proofs.types.read_value_type.Goals as goal

pub returns-in_default-clause-shorter : goal.returns-in_default-clause-shorter
returns-in_default-clause-shorter c = value_leaves_less c.args.input.now.rest.now c.value_type.new.self.rest.now c.in_ok-ty.ty c.in_ok-ty.ensures.value
