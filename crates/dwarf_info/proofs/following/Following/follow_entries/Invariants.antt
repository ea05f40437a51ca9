use Rattle.std.proofs.Common.{◌≡◌, length}
use Rattle.dwarf_bytes.specs.Merging.{merging}
use Rattle.dwarf_info.specs.FollowViews.{follow_setting}
use Rattle.dwarf_info.proofs.FollowLemmas.{FollowingEntries}
use Rattle.dwarf_info.proofs.following.Following.follow_entries.Given as goal

abbrev pub invariant-entries : goal.invariant-entries
invariant-entries l = record {
  so_far : FollowingEntries (follow_setting l.self) l.self.unit.entries.rest.now (merging l.fn.out) l.input.rest.now (merging l.out);
  same_end : l.input.end ≡ l.self.unit.entries.end;
}

abbrev pub decreases-entries : goal.decreases-entries
decreases-entries l = length l.input.rest.now
