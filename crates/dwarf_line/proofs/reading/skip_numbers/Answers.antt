use Rattle.std.proofs.Common.{◌≡◌, ◌-◌, ◌∙◌, arith}
use Rattle.dwarf_line.proofs.NumberLemmas.{no_numbers}
use Rattle.dwarf_line.proofs.reading.skip_numbers.Goals as goal

pub returns : goal.returns
returns c = let none : c.args.count - c.loop.counter ≡ 0 = omega arith in c.loop.invariant ∙ rw none (no_numbers c.loop.rest.now)
