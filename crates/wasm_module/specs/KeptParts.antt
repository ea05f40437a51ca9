-- Where the bytes of kept bodies and their location pairs are, in the lists of all: what holds of each value of `KeptBodies`.
use Rattle.std.specs.Prelude.{◌≡◌, ◌≢◌, ◌≤◌, ℕ, List, [], length, slice_get, Some}
use Rattle.std.specs.List.{between}
use Rattle.location_pairs.specs.PackedPairs.{ArePackable, packed_pairs}
use Rattle.wasm_body.specs.Pairs.{Pair}
use Rattle.wasm_module.specs.declared.changing.kept_bodies.KeptBody.{KeptBody}
use Rattle.wasm_module.specs.declared.changing.kept_bodies.Part.{Part}

-- Each raw body ends within a list of this length.
abbrev pub AreWithin : (len : ℕ) → List KeptBody → Type 0
AreWithin len ks = (n : ℕ) (k : KeptBody) → slice_get ks n ≡ Some k → k.raw.to ≤ len

-- The bytes are nothing, or location pairs, packed; said so that there is at most one proof of it: it can't be that they are neither.
abbrev pub IsPack : List ℕ → Type 0
IsPack bytes = bytes ≢ [] → ((ps : List Pair) → ArePackable ps → bytes ≢ packed_pairs ps) → ⊥

-- The part ends within the list, and is so.
abbrev pub IsPackAt : (all : List ℕ) → Part → Type 0
IsPackAt all p = (p.to ≤ length all) × IsPack (between p.from p.to all)

-- It is so of each body.
abbrev pub ArePacks : (all : List ℕ) → List KeptBody → Type 0
ArePacks all ks = (n : ℕ) (k : KeptBody) → slice_get ks n ≡ Some k → IsPackAt all k.pairs
