use Rattle.std.proofs.Common.{length}
use Rattle.dwarf_line.proofs.TableLemmas.{SectionSoFar}
use Rattle.dwarf_line.proofs.section.move_lines.Given as goal

abbrev pub invariant-tables : goal.invariant-tables
invariant-tables l = SectionSoFar l.moves.bodies.items l.section l.rest l.lines.bytes.items l.lines.tables.items l.lines.sequences.items

abbrev pub decreases-tables : goal.decreases-tables
decreases-tables l = length l.rest
