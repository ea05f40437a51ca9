-- The remaining clauses decide.
use Rattle.std.proofs.Common.{◌≡◌, length}
use Rattle.std.specs.Prelude.{map}
use Rattle.wasm_body.specs.InstructionTable.{legacy_clause}
use Rattle.wasm_body.specs.FlatText.{are_handlers}
use Rattle.walrus_emit_state.proofs.clauses.are_handlers.Given as goal

abbrev pub invariant-clauses : goal.invariant-clauses
invariant-clauses l = are_handlers (map legacy_clause l.left) ≡ are_handlers (map legacy_clause l.fn.clauses)

abbrev pub decreases-clauses : goal.decreases-clauses
decreases-clauses l = length l.left
