use Rattle.std.proofs.Common.{drop}
use Rattle.dwarf.proofs.PlacedLemmas.{AddedSoFar}
use Rattle.dwarf.proofs.lists.ListSection.add_lists.Given as goal

abbrev pub invariant-each : goal.invariant-each
invariant-each l = AddedSoFar l.self.kind l.self.contents.now l.uses l.fn.lists.items l.lists.items (drop l.list-index l.uses)
