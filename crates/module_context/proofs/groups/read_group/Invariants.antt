use Rattle.std.proofs.Common.{◌≡◌, ◌-◌}
use Rattle.std.specs.Prelude.{map}
use Rattle.wasm_context.specs.Declarations.{declared_of}
use Rattle.wasm_sections.specs.Parts.{repeated}
use Rattle.wasm_sections.proofs.TypeReadingLemmas.{next_of}
use Rattle.module_context.specs.TypeSections.{declared_type_part, group_part}
use Rattle.module_context.proofs.groups.read_group.Given as goal

abbrev pub invariant-members : goal.invariant-members
invariant-members l = record {
  same_end : l.input.end ≡ l.fn.input.end;
  is :
      group_part l.fn.input.end l.fn.input.rest.now
      ≡ repeated (next_of declared_type_part) (l.count - l.counter) (map declared_of l.types.items) l.input.end l.input.rest.now;
}
