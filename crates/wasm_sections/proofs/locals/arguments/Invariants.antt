use Rattle.std.proofs.Common.{◌≡◌}
use Rattle.wasm_sections.specs.Declarations.{first_numbers}
use Rattle.wasm_sections.proofs.locals.arguments.Given as goal

abbrev pub invariant-ids : goal.invariant-ids
invariant-ids l = l.ids.items ≡ first_numbers l.index
