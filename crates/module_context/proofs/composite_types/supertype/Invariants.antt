use Rattle.std.proofs.Common.{◌≡◌, ◌-◌}
use Rattle.wasm_sections.specs.Parts.{number, vector_of}
use Rattle.module_context.proofs.TypePartLemmas.{SupertypesSoFar}
use Rattle.module_context.proofs.composite_types.supertype.Given as goal

abbrev pub invariant-supertypes : goal.invariant-supertypes
invariant-supertypes l = record {
  same_end : l.input.end ≡ l.fn.input.end;
  so_far :
      SupertypesSoFar (vector_of number l.fn.input.end l.fn.input.rest.now) (l.count - l.counter) l.counter l.last l.input.end l.input.rest.now;
}
