-- The places of operators, as a module is written.
use Rattle.std.specs.Prelude.{Bool}
use Rattle.module_debug.specs.declared.places.OperatorPlaces.{OperatorPlaces}

-- whether they are recorded
abbrev pub wants_places : OperatorPlaces → Bool
wants_places p = p.is_wanted
