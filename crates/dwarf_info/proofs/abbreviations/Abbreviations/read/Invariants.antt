use Rattle.std.proofs.Common.{◌≡◌, length}
use Rattle.dwarf_info.proofs.Tables.{TablesSoFar}
use Rattle.dwarf_info.proofs.abbreviations.Abbreviations.read.Given as goal

abbrev pub invariant-tables : goal.invariant-tables
invariant-tables l = record {
  so_far : TablesSoFar l.section l.input.rest.now l.tables.items l.abbreviations.items l.attributes.items;
  same_end : l.input.end ≡ length l.section;
}

abbrev pub decreases-tables : goal.decreases-tables
decreases-tables l = length l.input.rest.now
