use Rattle.std.proofs.Common.{length}
use Rattle.dwarf.proofs.IndexTables.{KeptSoFar}
use Rattle.dwarf.proofs.index_abbreviations.read_attributes.Given as goal

abbrev pub invariant-specifications : goal.invariant-specifications
invariant-specifications l = KeptSoFar l.fn.input.rest.now l.input.rest.now l.fn.attributes.items l.attributes.items

abbrev pub decreases-specifications : goal.decreases-specifications
decreases-specifications l = length l.input.rest.now
