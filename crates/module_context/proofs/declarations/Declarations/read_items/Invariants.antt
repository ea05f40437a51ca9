use Rattle.std.proofs.Common.{◌≡◌, ◌-◌}
use Rattle.wasm_sections.specs.Sections.{section_id}
use Rattle.module_context.specs.ModuleContexts.{declared_items}
use Rattle.module_context.specs.ReadContexts.{declared_so_far}
use Rattle.module_context.proofs.ItemLemmas.{ItemsSoFar}
use Rattle.module_context.proofs.declarations.Declarations.read_items.Given as goal

abbrev pub invariant-items : goal.invariant-items
invariant-items l = record {
  same_end : l.input.end ≡ l.fn.input.end;
  so_far :
      ItemsSoFar (declared_items (section_id l.kind) (declared_so_far l.fn.self) l.fn.input.end l.fn.input.rest.now) (section_id l.kind) (l.count - l.counter)
      (declared_so_far l.self) l.input.end l.input.rest.now;
}
