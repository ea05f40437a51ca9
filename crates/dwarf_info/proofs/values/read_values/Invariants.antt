use Rattle.std.proofs.Common.{◌≡◌, map}
use Rattle.dwarf_info.specs.EntryViews.{attribute_spelled}
use Rattle.dwarf_info.proofs.AttributesRead.{ValuesSoFar}
use Rattle.dwarf_info.proofs.values.read_values.Given as goal

abbrev pub invariant-loop-attribute : goal.invariant-loop-attribute
invariant-loop-attribute l = record {
  so_far : ValuesSoFar l.encoding l.fn.input.end l.attributes l.fn.input.rest.now l.attribute-index (map attribute_spelled l.values.items) l.input.rest.now;
  same_end : l.input.end ≡ l.fn.input.end;
}
