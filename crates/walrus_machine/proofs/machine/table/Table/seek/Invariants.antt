-- A search for any part continues as a search for the wanted part.
use Rattle.std.proofs.Common.{◌≡◌, ◌+◌, ◌≤◌, length}
use Rattle.wasm_body.specs.Machine.{seek}
use Rattle.walrus_machine.specs.Tables.{place_from, test_of}
use Rattle.walrus_machine.proofs.Tables.{from_part}
use Rattle.walrus_machine.proofs.machine.table.Table.seek.Given as goal

abbrev pub invariant-parts : goal.invariant-parts
invariant-parts l =
    (l.passed + length (place_from l.self l.position) ≤ length l.self)
    × (seek (test_of l.fn.sought) 0 0 (place_from l.self (l.fn.opener + 1)) ≡ from_part (test_of l.fn.sought) l.passed (place_from l.self l.position))

abbrev pub decreases-parts : goal.decreases-parts
decreases-parts l = length (place_from l.self l.position)
