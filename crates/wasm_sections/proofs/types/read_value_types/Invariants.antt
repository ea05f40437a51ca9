use Rattle.std.proofs.Common.{◌≡◌, ◌<◌, ◌-◌, length}
use Rattle.wasm_sections.specs.Format.{value_below}
use Rattle.wasm_sections.specs.Parts.{repeated, vector_of}
use Rattle.wasm_sections.proofs.TypeReadingLemmas.{next_of}
use Rattle.wasm_sections.proofs.types.read_value_types.Given as goal

abbrev pub invariant-types : goal.invariant-types
invariant-types l = record {
  same_end : l.input.end ≡ l.fn.input.end;
  shorter : length l.input.rest.now < length l.fn.input.rest.now;
  is :
      vector_of (value_below l.limit) l.fn.input.end l.fn.input.rest.now
      ≡ repeated (next_of (value_below l.limit)) (l.count - l.counter) l.types.items l.input.end l.input.rest.now;
}
