use Rattle.std.proofs.Common.{sym, subst}
use Rattle.std.specs.List.Sorted.{IsNonDecreasingBy}
use Rattle.wasm_locals.specs.Runs.{end_of_runs}
use Rattle.wasm_locals.proofs.Runs.{ends_ascend}
use Rattle.wasm_locals.proofs.declared.DeclaredLocals.after.Goals as goal

pub invariant_of-result : goal.invariant_of-result
invariant_of-result c =
    let inside = c.self.inside in
    record { ascending = subst (IsNonDecreasingBy end_of_runs) (sym c.deref.ensures.value) (ends_ascend 0 inside.runs.items inside.count c.self.invariant) }
