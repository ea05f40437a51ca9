use Rattle.std.proofs.Common.{◌≡◌, []}
use Rattle.wasm_module.specs.ReadModules.{components_of, HasOtherSpaces, IsReadSoFar}
use Rattle.wasm_module.proofs.ReadingLemmas.{TypesIndexed}
use Rattle.wasm_module.proofs.parsed.ParsedModule.index_types.Given as goal

abbrev pub invariant-types : goal.invariant-types
invariant-types l = record {
  others : HasOtherSpaces l.fn.self l.self;
  indexed :
      l.fn.self.«module».types ≡ [] → IsReadSoFar (components_of l.fn.self) l.fn.self.spaces → TypesIndexed (components_of l.fn.self) l.index l.self.spaces;
}
