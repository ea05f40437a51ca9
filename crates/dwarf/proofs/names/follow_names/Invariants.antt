use Rattle.std.proofs.Common.{◌≡◌, [], length}
use Rattle.dwarf_bytes.specs.Patches.{changes}
use Rattle.dwarf.specs.Names.{names_table_followed}
use Rattle.dwarf.proofs.Repeating.{ReplacedSoFar}
use Rattle.dwarf.proofs.names.follow_names.Given as goal

abbrev pub invariant-tables : goal.invariant-tables
invariant-tables l = record {
  so_far : ReplacedSoFar (names_table_followed (changes l.info) l.is_gnu (length l.section)) l.section [] l.input.rest.now (changes l.out);
  same_end : l.input.end ≡ length l.section;
}

abbrev pub decreases-tables : goal.decreases-tables
decreases-tables l = length l.input.rest.now
