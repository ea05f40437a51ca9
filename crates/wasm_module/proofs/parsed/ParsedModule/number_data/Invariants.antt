use Rattle.std.proofs.Common.{◌≡◌}
use Rattle.wasm_operators.specs.declared.types.Space.TheVariants.{Data}
use Rattle.wasm_sections.specs.DefinedItems.{NumbersData}
use Rattle.wasm_module.specs.AddedItems.{ChangesNumbersAlone}
use Rattle.wasm_module.proofs.parsed.ParsedModule.number_data.Given as goal

abbrev pub invariant-segments : goal.invariant-segments
invariant-segments l = record {
  kept : ChangesNumbersAlone Data l.fn.self l.self;
  reached : l.self.spaces.counts.«data» ≡ l.counter;
  numbered : NumbersData l.counter l.fn.self.spaces l.self.spaces;
}
