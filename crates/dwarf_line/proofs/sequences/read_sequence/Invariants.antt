use Rattle.std.proofs.Common.{length}
use Rattle.dwarf_line.specs.Views.{parameters}
use Rattle.dwarf_line.proofs.SequenceLemmas.{ReadSoFar}
use Rattle.dwarf_line.proofs.sequences.read_sequence.Given as goal

abbrev pub invariant-operations : goal.invariant-operations
invariant-operations l = ReadSoFar (parameters l.header) l.bytes l.rest l.address l.first

abbrev pub decreases-operations : goal.decreases-operations
decreases-operations l = length l.rest
