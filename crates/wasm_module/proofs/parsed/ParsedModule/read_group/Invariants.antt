use Rattle.std.proofs.Common.{◌≡◌, ◌-◌}
use Rattle.walrus_maps.specs.IndexMaps.{ids_in}
use Rattle.wasm_operators.specs.declared.types.Space.TheVariants as spaces
use Rattle.wasm_sections.specs.Declarations.{first_numbers}
use Rattle.wasm_sections.specs.Format.{next_group, next_type}
use Rattle.wasm_sections.specs.Parts.{repeated}
use Rattle.wasm_module.specs.ReadModules.{HasOtherTypes}
use Rattle.wasm_module.proofs.parsed.ParsedModule.read_group.Given as goal

abbrev pub invariant-group : goal.invariant-group
invariant-group l = record {
  others : HasOtherTypes l.fn.self l.self;
  same_limit : l.reader.limit ≡ l.fn.reader.limit;
  same_end : l.reader.input.end ≡ l.fn.reader.input.end;
  is :
      ids_in l.fn.self.spaces.indices spaces.Types ≡ first_numbers l.fn.reader.limit →
      next_group l.fn.reader.limit l.fn.self.«module».types l.fn.reader.input.end l.fn.reader.input.rest.now
      ≡ repeated (next_type l.fn.reader.limit) (l.members - l.counter) l.self.«module».types l.reader.input.end l.reader.input.rest.now;
}
