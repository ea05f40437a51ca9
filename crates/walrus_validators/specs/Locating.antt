-- The locations that a caller's location function returns.
use Rattle.std.specs.Prelude.{◌≡◌, ◌≤◌, ◌<◌, ◌+◌, ℕ, length, false, true, Option, Some, None}
use Rattle.std.specs.Borrow.{Bor}
use Rattle.std.specs.Fn.{Shared, FnReturnsAt}
use Rattle.wasm_ops.specs.Position.{Position}
use Rattle.wasm_body.specs.Parsing.Accepted.{has_location}

-- the place after the bytes that a reader has before it
abbrev pub end_of : Position → ℕ
end_of reader = reader.place + length reader.rest

-- The function, if there is one, may be called at each place from `from` on and below `to`.
abbrev pub MayCall : {F : Type 0} → (F → Bor ℕ → Type 0) → Option (Bor F) → (from to : ℕ) → Type 0
MayCall pre None from to = Unit {0}
MayCall pre (Some f) from to = (place : Bor ℕ) → from ≤ place.now → place.now < to → pre f.now place

-- The place has this location: the one that the function returns. Without a function it is the place itself, if that is small
-- enough.
abbrev pub Locates : {F : Type 0} → Shared F (Bor ℕ × Unit {0}) ℕ → Option (Bor F) → (place location : ℕ) → Type 0
Locates {F = F} g None place location = (has_location {F = Bor F} None place ≡ true) × (location ≡ place)
Locates g (Some f) place location = FnReturnsAt g f.now place location

-- The place has no location.
abbrev pub HasNoLocation : {F : Type 0} → Option (Bor F) → (place : ℕ) → Type 0
HasNoLocation on_instr_pos place = has_location on_instr_pos place ≡ false
