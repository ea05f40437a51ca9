use Rattle.std.proofs.Common.{◌≡◌, ℕ, List, length}
use Rattle.dwarf_bytes.specs.Uses.{told, lengthened}
use Rattle.dwarf_new_lists.specs.Tellings.{Tells, code_indices}
use Rattle.dwarf_new_lists.specs.Entries.{AnEntry}
use Rattle.dwarf_new_lists.specs.Refusals.{ArePassedEntries}
use Rattle.dwarf_new_lists.specs.Contexts.{bodies, addresses}
use Rattle.dwarf_new_lists.proofs.Steps.{SoFar, AreOpen}
use Rattle.dwarf_new_lists.proofs.moving.Context.append_list.Given as goal

abbrev pub invariant-loop-step : goal.invariant-loop-step
invariant-loop-step l =
    (olds news : List AnEntry) × (text : List ℕ)
    × SoFar l.self.lists l.self.encoding (bodies l.self) (addresses l.self) l.fn.base l.bytes l.fn.out.items olds news text l.rest l.out.items l.base.old l.base.new
    × AreOpen olds × AreOpen news
    × Tells (bodies l.self) l.self.addresses.now (told l.fn.uses) (told l.uses) (code_indices (bodies l.self) (addresses l.self) l.fn.base olds)
    × ArePassedEntries l.self.encoding (bodies l.self) l.self.addresses.now l.fn.base olds
    × (lengthened l.uses ≡ lengthened l.fn.uses)

abbrev pub decreases-loop-step : goal.decreases-loop-step
decreases-loop-step l = length l.rest
