use Rattle.wasm_module.proofs.TypeLemmas.{TypesSoFar}
use Rattle.wasm_module.proofs.parsed.ParsedModule.write_types.Given as goal

abbrev pub invariant-types : goal.invariant-types
invariant-types l = TypesSoFar l.self.spaces.numbers l.types l.ty-index l.initial.out.items l.out.items
