-- The clauses made so far come before the remaining ones.
use Rattle.std.proofs.Common.{◌≡◌, map}
use Rattle.wasm_numbers.specs.Results.{each}
use Rattle.wasm_body.specs.InstructionTable.{table_clause}
use Rattle.walrus_parser.specs.BodyParsers.{clause_in}
use Rattle.walrus_maps.proofs.Listed.{after_these}
use Rattle.walrus_parser.proofs.body_parser.BodyParser.clauses.Given as goal

abbrev pub invariant-clauses : goal.invariant-clauses
invariant-clauses l =
    (goal.iterator-clauses).can_next l.raw × (goal.iterator-clauses).is_finite l.raw × (after_these (map table_clause l.made.items) (each (clause_in l.self) l.raw) ≡ each (clause_in l.self) l.catches)
