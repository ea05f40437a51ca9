use Rattle.std.proofs.Common.{length}
use Rattle.dwarf.proofs.IndexTables.{TableSoFar}
use Rattle.dwarf.proofs.index_abbreviations.read_table.Given as goal

abbrev pub invariant-declarations : goal.invariant-declarations
invariant-declarations l = TableSoFar l.fn.input.rest.now l.left.rest.now l.abbreviations.items l.attributes.items

abbrev pub decreases-declarations : goal.decreases-declarations
decreases-declarations l = length l.left.rest.now
