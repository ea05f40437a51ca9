-- Mappings of a program whose operators have moved.
use Rattle.std.specs.Prelude.{ℕ, List, [], ◌∷◌, nat_lt, if◌then◌else◌, Option, Some, None}
use Rattle.source_map.specs.declared.mapping.Mapping.{Mapping}
use Rattle.source_map.specs.declared.moving.Move.{Move}

-- the first operator that still exists and whose old place is this place or after it
abbrev pub first_kept : List Move → (place : ℕ) → Option Move
first_kept [] place = None
first_kept (m ∷ ms) place = if nat_lt m.old place then first_kept ms place else Some m

-- its new place, if its function's body began at this place or before it
abbrev pub in_body : (place : ℕ) → Option Move → Option ℕ
in_body place None = None
in_body place (Some m) = if nat_lt place m.body then None else Some m.new

abbrev pub moved_to : List Move → (place : ℕ) → Option ℕ
moved_to moves place = in_body place (first_kept moves place)

-- each mapping at its new place, if it has one
abbrev pub with_place : Mapping → Option ℕ → List Mapping → List Mapping
with_place m None ms = ms
with_place m (Some place) ms = (record m { generated = place }) ∷ ms

abbrev pub moved_all : List Move → List Mapping → List Mapping
moved_all moves [] = []
moved_all moves (m ∷ ms) = with_place m (moved_to moves m.generated) (moved_all moves ms)
