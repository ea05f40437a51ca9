use Rattle.std.proofs.Common.{◌≡◌, length}
use Rattle.dwarf_bytes.specs.Merging.{merging, none_merged}
use Rattle.dwarf_bytes.specs.Patches.{changes}
use Rattle.dwarf.proofs.ListTableLemmas.{FollowingTables}
use Rattle.dwarf.proofs.list_tables.follow_list_tables.Given as goal

abbrev pub invariant-tables : goal.invariant-tables
invariant-tables l = record {
  so_far : FollowingTables (changes l.own) (length l.section) l.section (none_merged (changes l.own)) l.input.rest.now (merging l.out);
  same_end : l.input.end ≡ length l.section;
}

abbrev pub decreases-tables : goal.decreases-tables
decreases-tables l = length l.input.rest.now
