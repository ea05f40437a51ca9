use Rattle.std.proofs.Common.{◌≡◌, ◌-◌}
use Rattle.dwarf_line.specs.Operations.{numbers}
use Rattle.dwarf_line.proofs.reading.skip_numbers.Given as goal

abbrev pub invariant-loop : goal.invariant-loop
invariant-loop l = numbers l.count l.bytes ≡ numbers (l.count - l.counter) l.rest
