use Rattle.std.proofs.Common.{◌≡◌, ◌-◌}
use Rattle.wasm_sections.specs.Components.{items_part}
use Rattle.wasm_sections.specs.Sections.{section_id}
use Rattle.wasm_module.specs.ReadModules.{components_of, IsReadSoFar}
use Rattle.wasm_module.proofs.ReadingLemmas.{ItemsLeft}
use Rattle.wasm_module.proofs.parsed.ParsedModule.read_items.Given as goal

abbrev pub invariant-items : goal.invariant-items
invariant-items l = record {
  same_end : l.input.end ≡ l.fn.input.end;
  left :
      IsReadSoFar (components_of l.fn.self) l.fn.self.spaces →
      ItemsLeft (items_part (section_id l.kind) (components_of l.fn.self) l.fn.input.end l.fn.input.rest.now) (section_id l.kind) (l.count - l.counter)
      (components_of l.self) l.self.spaces l.input.end l.input.rest.now;
}
