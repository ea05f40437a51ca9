use Rattle.std.proofs.Common.{◌≡◌, ◌-◌}
use Rattle.wasm_sections.specs.Format.{value_part}
use Rattle.wasm_sections.specs.Parts.{repeated, vector_of}
use Rattle.wasm_sections.proofs.TypeReadingLemmas.{next_of}
use Rattle.module_context.proofs.composite_types.value_types.Given as goal

abbrev pub invariant-types : goal.invariant-types
invariant-types l = record {
  same_end : l.input.end ≡ l.fn.input.end;
  is :
      vector_of value_part l.fn.input.end l.fn.input.rest.now
      ≡ repeated (next_of value_part) (l.count - l.counter) l.types.items l.input.end l.input.rest.now;
}
