use Rattle.std.proofs.Common.{◌≡◌, ◌++◌, length, take}
use Rattle.std.specs.List.{flat_map}
use Rattle.wasm_operators.specs.Shortest.{short_number, short_clause}
use Rattle.wasm_encode.proofs.immediates.write_clauses.Given as goal

abbrev pub invariant-loop-clause : goal.invariant-loop-clause
invariant-loop-clause l =
    (l.out.items ≡ (l.fn.out.items ++ short_number (length l.clauses)) ++ flat_map short_clause (take l.clause-index l.clauses))
    × (take (length l.fn.out.items) l.out.items ≡ l.fn.out.items)
