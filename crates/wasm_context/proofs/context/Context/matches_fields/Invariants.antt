-- The fields so far match: what is left decides, of which there is enough.
use Rattle.std.proofs.Common.{◌≡◌, ◌≤◌, length}
use Rattle.std.specs.Prelude.{map}
use Rattle.wasm_context.specs.Contexts.{Locals, operands_in, field_of}
use Rattle.wasm_context.specs.ValidTypes.{matches_fields}
use Rattle.wasm_context.proofs.context.Context.matches_fields.Given as goal

abbrev pub invariant-loop-a : goal.invariant-loop-a
invariant-loop-a l = record {
  enough : length l.a-iterator.b.rest.now ≤ length l.a-iterator.a.rest.now;
  same : (locals : Locals)
      → matches_fields (operands_in l.self locals) (map field_of l.fn.given) (map field_of l.fn.wanted)
      ≡ matches_fields (operands_in l.self locals) (map field_of l.a-iterator.a.rest.now) (map field_of l.a-iterator.b.rest.now);
}
