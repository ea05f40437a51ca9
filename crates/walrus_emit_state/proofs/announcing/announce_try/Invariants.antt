-- The handlers after the remaining clauses are announced.
use Rattle.std.proofs.Common.{◌≡◌, length}
use Rattle.walrus_emit_state.proofs.TreeWriting.Announcing.{Remaining}
use Rattle.walrus_emit_state.proofs.announcing.announce_try.Given as goal

abbrev pub invariant-clauses : goal.invariant-clauses
invariant-clauses l = record {
  known : l.scopes.count ≡ length l.builder.sequences;
  remaining : Remaining l.builder.sequences l.construct.catches l.left l.fn.scopes l.scopes l.closer;
}

abbrev pub decreases-clauses : goal.decreases-clauses
decreases-clauses l = length l.left
