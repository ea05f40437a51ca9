use Rattle.std.proofs.Common.{◌≡◌, ◌-◌}
use Rattle.std.specs.Prelude.{map}
use Rattle.wasm_context.specs.Contexts.{field_of}
use Rattle.wasm_sections.specs.Parts.{repeated, vector_of}
use Rattle.wasm_sections.proofs.TypeReadingLemmas.{next_of}
use Rattle.module_context.specs.TypeSections.{field_type_part}
use Rattle.module_context.proofs.composite_types.field_types.Given as goal

abbrev pub invariant-fields : goal.invariant-fields
invariant-fields l = record {
  same_end : l.input.end ≡ l.fn.input.end;
  is :
      vector_of field_type_part l.fn.input.end l.fn.input.rest.now
      ≡ repeated (next_of field_type_part) (l.count - l.counter) (map field_of l.fields.items) l.input.end l.input.rest.now;
}
