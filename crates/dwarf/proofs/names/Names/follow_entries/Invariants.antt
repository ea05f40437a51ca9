use Rattle.std.proofs.Common.{◌≡◌, length}
use Rattle.dwarf_bytes.specs.Patches.{changes}
use Rattle.dwarf.specs.Names.{name_followed}
use Rattle.dwarf.specs.NamesViews.{names_of_unit}
use Rattle.dwarf.proofs.Repeating.{ReplacedSoFar}
use Rattle.dwarf.proofs.names.Names.follow_entries.Given as goal

abbrev pub invariant-entries : goal.invariant-entries
invariant-entries l = record {
  so_far : ReplacedSoFar (name_followed (names_of_unit l.self l.fn.input.end)) l.fn.input.rest.now (changes l.fn.out) l.input.rest.now (changes l.out);
  same_end : l.input.end ≡ l.fn.input.end;
}

abbrev pub decreases-entries : goal.decreases-entries
decreases-entries l = length l.input.rest.now
