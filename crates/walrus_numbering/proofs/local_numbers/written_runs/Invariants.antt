-- The declarations written so far come before those of the remaining runs, whose counts fit.
use Rattle.std.proofs.Common.{◌≡◌, ◌^◌, length, nat_lt, true}
use Rattle.std.specs.List.{list_all}
use Rattle.wasm_numbers.specs.Results.{each}
use Rattle.wasm_body.specs.LocalNumbers.{declaration}
use Rattle.walrus_numbering.specs.NumberMaps.{numbers_of}
use Rattle.walrus_maps.proofs.Listed.{after_these}
use Rattle.walrus_numbering.proofs.local_numbers.written_runs.Given as goal

abbrev pub invariant-runs : goal.invariant-runs
invariant-runs l =
    (after_these l.made.items (each (declaration (numbers_of l.numbers)) l.left) ≡ each (declaration (numbers_of l.numbers)) l.fn.runs)
    × (list_all (λ run. nat_lt run.0 (2 ^ 32)) l.left ≡ true)

abbrev pub decreases-runs : goal.decreases-runs
decreases-runs l = length l.left
