use Rattle.std.proofs.Common.{map, drop}
use Rattle.dwarf_info.specs.Contexts.{context_of_entry}
use Rattle.dwarf_info.specs.EntryViews.{attribute_spelled, entries_moved}
use Rattle.dwarf_info.specs.Steps.{steps_of_attributes}
use Rattle.dwarf_info.proofs.Stepping.{StepsLeft}
use Rattle.dwarf_info.proofs.entries.move_attributes.Given as goal

abbrev pub invariant-loop-attribute : goal.invariant-loop-attribute
invariant-loop-attribute l =
    StepsLeft (steps_of_attributes (context_of_entry l.context) (map attribute_spelled l.attributes)) (entries_moved l.fn.out)
    (steps_of_attributes (context_of_entry l.context) (map attribute_spelled (drop l.attribute-index l.attributes))) (entries_moved l.out)
