-- It is known what is ahead for the operators from the position on, and for the place at the position.
use Rattle.std.proofs.Common.{◌≡◌, ◌+◌, length, map, reverse}
use Rattle.walrus_machine.specs.Controls.{control_meaning}
use Rattle.walrus_machine.specs.Tables.{LevelsAhead, AreAhead}
use Rattle.walrus_machine.proofs.machine.table.Table.new.Given as goal

abbrev pub invariant-operators : goal.invariant-operators
invariant-operators l =
    let cs = map control_meaning l.fn.controls.items in
    (l.controls.items ≡ l.fn.controls.items) × (l.levels.end ≡ length l.fn.controls.items)
    × (length l.ahead.items + l.position ≡ length l.fn.controls.items)
    × AreAhead cs l.position (reverse l.ahead.items) × LevelsAhead cs l.position l.levels

abbrev pub decreases-operators : goal.decreases-operators
decreases-operators l = l.position
