-- No clause so far catches the exception.
use Rattle.std.proofs.Common.{◌≡◌, ℕ, drop, map}
use Rattle.wasm_body.specs.Machine as M
use Rattle.walrus_machine.specs.Controls.{clause_meaning}
use Rattle.walrus_machine.proofs.machine.respond.jump.Given as goal

abbrev pub invariant-clauses : goal.invariant-clauses
invariant-clauses l = M.jump {A = ℕ} l.tags.keys l.i (map clause_meaning (drop l.i l.clauses)) ≡ M.jump {A = ℕ} l.fn.tags.keys 0 (map clause_meaning l.fn.clauses)
