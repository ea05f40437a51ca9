use Rattle.std.proofs.Common.{◌≡◌, map, drop, fold}
use Rattle.dwarf_info.specs.EntryViews.{attribute_spelled}
use Rattle.dwarf_info.specs.Steps.{places_after, entry_places}
use Rattle.dwarf_info.proofs.context.EntryPlaces.of.Given as goal

abbrev pub invariant-loop-attribute : goal.invariant-loop-attribute
invariant-loop-attribute l =
    fold places_after l.places (map attribute_spelled (drop l.attribute-index l.attributes)) ≡ entry_places (map attribute_spelled l.attributes)
