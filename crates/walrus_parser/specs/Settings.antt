-- Parsing with a caller's location function and a caller's validator: the setting of a parse has what they return.
use Rattle.std.specs.Prelude.{◌≡◌, ℕ, ◌+◌, ◌-◌, ◌≤◌, ◌==◌, if◌then◌else◌, List, [], ◌∷◌, map, Option, Some, None, Result}
use Rattle.std.specs.Borrow.{Bor}
use Rattle.std.specs.Fn.{Shared}
use Rattle.std.specs.List.{AllByRecursion}
use Rattle.wasm_operators.specs.OperatorList.{Placed}
use Rattle.wasm_body.specs.SourceTree.{Body, body_text}
use Rattle.wasm_body.specs.Naming.{Environment, Occurrence}
use Rattle.wasm_body.specs.Parsing.Accepted.{Setting}
use Rattle.walrus_validators.specs.Locating.{Locates}

-- ---- the setting

abbrev pub given_with : {S : Type 0} → Environment → (start : ℕ) → (S → Placed → Result S ℕ) → S → Option (ℕ → ℕ) → Setting S
given_with env start check s locations = record { environment = env; start = start; locations = locations; check = check; first = s }

-- the setting has a location function exactly if the caller passed one
abbrev pub BothOrNone : {F G : Type 0} → Option F → Option G → Type 0
BothOrNone None None = Unit {0}
BothOrNone (Some f) (Some g) = Unit {0}
BothOrNone _ _ = ⊥

-- ---- the mapping

-- a place less the code offset, and the location
abbrev pub pair_of : ℕ → Occurrence → ℕ × ℕ
pair_of offset x = (x.place - offset, x.location)

-- the operators of a body, in order
abbrev pub operators_of : Body Occurrence → List Occurrence
operators_of b = map (λ m. m.shown) (body_text b)

-- the location of a place, or 0 if the mapping has none
abbrev pub location_found : List (ℕ × ℕ) → ℕ → ℕ
location_found [] k = 0
location_found (p ∷ ps) k = if p.0 == k then p.1 else location_found ps k

-- the location function of a mapping: it returns the mapping's location for each place
abbrev pub locations_in : {F : Type 0} → Option F → (offset : ℕ) → List (ℕ × ℕ) → Option (ℕ → ℕ)
locations_in None offset mapping = None
locations_in (Some f) offset mapping = Some (λ place. location_found mapping (place - offset))

-- the places rise, from `from` on and below `below`
abbrev pub RiseFrom : List Occurrence → (from below : ℕ) → Type 0
RiseFrom [] from below = from ≤ below
RiseFrom (x ∷ xs) from below = (from ≤ x.place) × RiseFrom xs (x.place + 1) below

-- The mapping has a pair for each operator, in order: its place less the offset, and its location, which is the caller's for
-- the place.
pub record IsMapping {F : Type 0} (g : Shared F (Bor ℕ × Unit {0}) ℕ) (on_instr_pos : Option (Bor F)) (offset from below : ℕ) (xs : List Occurrence) (mapping : List (ℕ × ℕ)) : Type 0 where
  pub pairs : mapping ≡ map (pair_of offset) xs
  pub rise : RiseFrom xs from below
  pub are_located : AllByRecursion (λ x. Locates g on_instr_pos x.place x.location) xs
