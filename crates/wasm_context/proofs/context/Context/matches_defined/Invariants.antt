-- What is left to try decides.
use Rattle.std.proofs.Common.{◌≡◌, ◌-◌, ◌≤◌}
use Rattle.std.specs.Prelude.{Some}
use Rattle.wasm_typing.specs.Matching.{matches_defined, first_of}
use Rattle.wasm_context.specs.Contexts.{Locals, operands_in, without_locals}
use Rattle.wasm_context.proofs.Supertypes.{reaches}
use Rattle.wasm_context.proofs.context.Context.matches_defined.Given as goal

abbrev pub invariant-loop-step : goal.invariant-loop-step
invariant-loop-step l = record {
  counts : l._step ≤ l._step-end;
  same : (locals : Locals)
      → matches_defined (operands_in l.self locals) l.index l.wanted
      ≡ reaches (operands_in l.self locals) (first_of (without_locals l.self) l.wanted) (l._step-end - l._step) (Some l.current);
}
