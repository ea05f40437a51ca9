use Rattle.std.proofs.Common.{length}
use Rattle.dwarf_bytes.specs.Patches.{changes}
use Rattle.dwarf_lists.proofs.Loop.{SoFar}
use Rattle.dwarf_lists.proofs.list.move_list.Given as goal

abbrev pub invariant-entries : goal.invariant-entries
invariant-entries l = SoFar l.kind l.list.encoding l.moves.bodies.items l.section l.list.offset l.list.base l.base l.rest (changes l.fn.patches) (changes l.patches)

abbrev pub decreases-entries : goal.decreases-entries
decreases-entries l = length l.rest
