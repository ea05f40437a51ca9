-- The named clauses come before the remaining ones.
use Rattle.std.proofs.Common.{◌≡◌, map}
use Rattle.wasm_numbers.specs.Results.{each}
use Rattle.wasm_body.specs.Translation.{translate_clause}
use Rattle.walrus_maps.proofs.Listed.{after_these}
use Rattle.walrus_machine.specs.NamedOperators.{named_clause}
use Rattle.walrus_run.specs.Namers.{env_of_namer, anywhere}
use Rattle.walrus_run.proofs.naming.Namer.clauses.Given as goal

abbrev pub invariant-clauses : goal.invariant-clauses
invariant-clauses l =
    (goal.iterator-clauses).can_next l.raw × (goal.iterator-clauses).is_finite l.raw × (after_these (map named_clause l.made.items) (each (translate_clause (anywhere (env_of_namer l.self))) l.raw) ≡ each (translate_clause (anywhere (env_of_namer l.self))) l.catches)
