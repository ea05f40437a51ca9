use Rattle.wasm_module.specs.RewrittenCode.{Extends}
use Rattle.wasm_module.proofs.parsed.ParsedModule.add_handler_types.Given as goal

abbrev pub invariant-operators : goal.invariant-operators
invariant-operators l = Extends l.fn.self l.self
