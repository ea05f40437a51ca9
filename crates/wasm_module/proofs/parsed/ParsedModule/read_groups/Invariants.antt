use Rattle.std.proofs.Common.{◌≡◌, ◌-◌, []}
use Rattle.walrus_maps.specs.IndexMaps.{ids_in}
use Rattle.wasm_operators.specs.declared.types.Space.TheVariants as spaces
use Rattle.wasm_sections.specs.Declarations.{first_numbers}
use Rattle.wasm_sections.specs.Format.{next_group, types_part}
use Rattle.wasm_sections.specs.Parts.{repeated}
use Rattle.wasm_module.specs.ReadModules.{HasOtherTypes}
use Rattle.wasm_module.proofs.parsed.ParsedModule.read_groups.Given as goal

abbrev pub invariant-groups : goal.invariant-groups
invariant-groups l = record {
  others : HasOtherTypes l.fn.self l.self;
  same_limit : l.reader.limit ≡ l.fn.reader.limit;
  is :
      ids_in l.fn.self.spaces.indices spaces.Types ≡ first_numbers l.fn.reader.limit → l.fn.self.«module».types ≡ [] →
      types_part l.fn.reader.limit l.fn.reader.input.end l.fn.reader.input.rest.now
      ≡ repeated (next_group l.fn.reader.limit) (l.groups - l.counter) l.self.«module».types l.reader.input.end l.reader.input.rest.now;
  same_end : l.reader.input.end ≡ l.fn.reader.input.end;
}
