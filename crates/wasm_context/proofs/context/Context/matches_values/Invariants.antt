-- The types so far match: what is left decides.
use Rattle.std.proofs.Common.{◌≡◌, length, drop}
use Rattle.wasm_typing.specs.Matching.{matches_values}
use Rattle.wasm_context.specs.Contexts.{Locals, operands_in}
use Rattle.wasm_context.proofs.context.Context.matches_values.Given as goal

abbrev pub invariant-loop-a : goal.invariant-loop-a
invariant-loop-a l = (locals : Locals)
    → matches_values (operands_in l.self locals) l.fn.given l.fn.wanted
    ≡ matches_values (operands_in l.self locals) (drop (length l.yielded) l.fn.given) (drop (length l.yielded) l.fn.wanted)
