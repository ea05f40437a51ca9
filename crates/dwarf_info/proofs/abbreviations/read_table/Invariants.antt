use Rattle.std.proofs.Common.{◌≡◌, length}
use Rattle.dwarf_info.proofs.Tables.{DeclarationsSoFar}
use Rattle.dwarf_info.proofs.abbreviations.read_table.Given as goal

abbrev pub invariant-declarations : goal.invariant-declarations
invariant-declarations l = record {
  so_far : DeclarationsSoFar l.fn.input.rest.now l.input.rest.now l.last l.fn.abbreviations.items l.abbreviations.items l.fn.attributes.items l.attributes.items;
  same_end : l.input.end ≡ l.fn.input.end;
}

abbrev pub decreases-declarations : goal.decreases-declarations
decreases-declarations l = length l.input.rest.now
