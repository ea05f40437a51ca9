use Rattle.std.proofs.Common.{◌≡◌, length}
use Rattle.dwarf_info.proofs.Tables.{AttributesSoFar}
use Rattle.dwarf_info.proofs.abbreviations.read_attributes.Given as goal

abbrev pub invariant-specifications : goal.invariant-specifications
invariant-specifications l = record {
  so_far : AttributesSoFar l.fn.input.rest.now l.input.rest.now l.fn.attributes.items l.attributes.items;
  same_end : l.input.end ≡ l.fn.input.end;
}

abbrev pub decreases-specifications : goal.decreases-specifications
decreases-specifications l = length l.input.rest.now
