-- Bodies that are kept from the first pass over a module to the second, as they are written (WebAssembly core specification 3.0,
-- binary format, code section).
use Rattle.std.specs.Prelude.{◌≡◌, ◌⊎◌, ◌+◌, ℕ, List, [], ◌∷◌, ◌++◌, length, slice_get, Some, Bool, true, if◌then◌else◌}
use Rattle.std.specs.List.{between}
use Rattle.location_pairs.specs.PackedPairs.{ArePackable, packed_pairs}
use Rattle.wasm_sections.specs.declared.code.Body.{Body}
use Rattle.wasm_module.specs.declared.changing.kept_bodies.KeptBodies.{KeptBodies}
use Rattle.wasm_module.specs.declared.changing.kept_bodies.KeptBody.{KeptBody}
use Rattle.wasm_module.specs.declared.parsed.ParsedModule.{ParsedModule}
use Rattle.wasm_sections.specs.CodeSections.{BodyAt, body_at}
use Rattle.wasm_module.specs.KeptParts.{IsPack}
use Rattle.wasm_module.specs.RewrittenCode.{OneChange, FunctionChange, IsChangedWith, AreChanged}
use Rattle.wasm_body.specs.Pairs.{Pair}
use Rattle.wasm_module.specs.WrittenModules.{BodyWriting, RawWriting, with_some_pairs, count_bodies}

-- the body of the source for which bytes are kept
abbrev pub kept_source : KeptBody → BodyAt
kept_source k = record { start = k.start; bytes = k.bytes.now }

-- all of them, in order
abbrev pub bodies_in : List KeptBody → List BodyAt
bodies_in [] = []
bodies_in (k ∷ ks) = kept_source k ∷ bodies_in ks

-- the bytes that are kept for one of them: a part of those of all
abbrev pub raw_in : (all : List ℕ) → KeptBody → List ℕ
raw_in all k = between k.raw.from k.raw.to all

-- the bytes that are kept for them
abbrev pub raws_in : (all : List ℕ) → List KeptBody → List (List ℕ)
raws_in all [] = []
raws_in all (k ∷ ks) = raw_in all k ∷ raws_in all ks

-- These are the bytes that are kept for the function with this index, and for this body of the source.
pub record IsKept (kept : KeptBodies) (source : ParsedModule) (function : ℕ) (b : BodyAt) (raw : List ℕ) : Type 0 where
  pub at : ℕ
  pub function_is : function ≡ kept.first + at
  pub body_is : slice_get (bodies_in kept.bodies.items) at ≡ Some b
  pub raw_is : slice_get (raws_in kept.raws.items kept.bodies.items) at ≡ Some raw

-- what is kept of the location pairs of one of them, packed: a part of that of all, and nothing if they aren't kept
abbrev pub packed_in : (all : List ℕ) → KeptBody → List ℕ
packed_in all k = between k.pairs.from k.pairs.to all

-- what is kept of the pairs of each of them
abbrev pub packs_in : (all : List ℕ) → List KeptBody → List (List ℕ)
packs_in all [] = []
packs_in all (k ∷ ks) = packed_in all k ∷ packs_in all ks

-- These bytes with these location pairs are kept for the function with this index, and for this body of the source.
pub record IsKeptWith (kept : KeptBodies) (source : ParsedModule) (function : ℕ) (b : BodyAt) (raw : List ℕ) (pairs : List Pair) : Type 0 where
  pub at : ℕ
  pub function_is : function ≡ kept.first + at
  pub body_is : slice_get (bodies_in kept.bodies.items) at ≡ Some b
  pub raw_is : slice_get (raws_in kept.raws.items kept.bodies.items) at ≡ Some raw
  pub fit : ArePackable pairs
  pub pairs_are : slice_get (packs_in kept.pairs.items kept.bodies.items) at ≡ Some (packed_pairs pairs)

-- These bytes are nothing, or what is kept of the location pairs of a body.
abbrev pub IsPackOf : KeptBodies → ParsedModule → (function : ℕ) → BodyAt → (raw : List ℕ) → (bytes : List ℕ) → Type 0
IsPackOf kept source function b raw bytes =
    ((pairs : List Pair) → ArePackable pairs → bytes ≡ packed_pairs pairs → IsKeptWith kept source function b raw pairs) × IsPack bytes

-- These are what is kept of these location pairs, for one body after the other.
abbrev pub ArePacksOf : (packs : List (List ℕ)) → (pairs : List (List Pair)) → Type 0
ArePacksOf [] [] = Unit {0}
ArePacksOf (pack ∷ packs) (ps ∷ pairs) = ArePackable ps × (pack ≡ packed_pairs ps) × ArePacksOf packs pairs
ArePacksOf _ _ = ⊥

-- For each function of the source that isn't imported the bytes of its body and its location pairs are kept, as the changes made
-- them: asked for once for each, in order, from the state `before` to the state `after`.
pub record AreKept {State : Type 0} (changes : FunctionChange State) (source : ParsedModule) (before : State) (kept : KeptBodies) (after : State) : Type 0 where
  pub first_is : kept.first ≡ source.imported
  pub are_all : length kept.bodies.items ≡ count_bodies source
  pub pairs : List (List Pair)
  pub packs_are : ArePacksOf (packs_in kept.pairs.items kept.bodies.items) pairs
  pub are_changed : AreChanged changes source before source.imported (bodies_in kept.bodies.items) (raws_in kept.raws.items kept.bodies.items) pairs after

-- Each body that is kept is written in this way, for the function and the body of the source for which it is kept.
abbrev pub AreKeptAs : RawWriting → (source : ParsedModule) → KeptBodies → Type 0
AreKeptAs writes source kept = (function : ℕ) (b : BodyAt) (raw : List ℕ) → IsKept kept source function b raw → writes source function b raw

-- A body is written as it is kept, and then nothing is said of its pairs; or it is written in this way.
abbrev pub kept_or : KeptBodies → BodyWriting → BodyWriting
kept_or kept writes source function b raw pairs = IsKept kept source function b raw ⊎ writes source function b raw pairs

-- Each body that is kept with its location pairs is written in this way, with these pairs.
abbrev pub AreKeptWithAs : BodyWriting → (source : ParsedModule) → KeptBodies → Type 0
AreKeptWithAs writes source kept =
    (function : ℕ) (b : BodyAt) (raw : List ℕ) (pairs : List Pair) → IsKeptWith kept source function b raw pairs → writes source function b raw pairs

-- A body is written as it is kept, with the pairs that are kept for it; or it is written in this way.
abbrev pub kept_with_or : KeptBodies → BodyWriting → BodyWriting
kept_with_or kept writes source function b raw pairs = IsKeptWith kept source function b raw pairs ⊎ writes source function b raw pairs

-- What is written for each body of a module as it is now is written for it as it was before.
abbrev pub StaysWritten : BodyWriting → (before now : ParsedModule) → Type 0
StaysWritten writes before now =
    (function : ℕ) (b : BodyAt) (raw : List ℕ) (pairs : List Pair) → writes now function b raw pairs → writes before function b raw pairs

-- Each body that is kept is written in this way: with some pairs, and where its pairs are kept, with these.
pub record AreKeptBodies (writes : BodyWriting) (source : ParsedModule) (kept : KeptBodies) : Type 0 where
  pub raws : AreKeptAs (with_some_pairs writes) source kept
  pub pairs : AreKeptWithAs writes source kept

-- If it is so of what was kept, it is of what is kept afterwards.
abbrev pub StayKept : BodyWriting → (source : ParsedModule) → (old new : KeptBodies) → Type 0
StayKept writes source old new = AreKeptBodies writes source old → AreKeptBodies writes source new

-- What is kept was kept before, or it is this raw body for this body of the source.
abbrev pub KeepsAtMost : Body → (raw : List ℕ) → (old new : KeptBodies) → Type 0
KeepsAtMost b raw old new =
    (source : ParsedModule) (function : ℕ) (c : BodyAt) (r : List ℕ) → IsKept new source function c r →
    IsKept old source function c r ⊎ (function ≡ b.func) × (c ≡ body_at b) × (r ≡ raw)

-- What is kept with its location pairs was kept so before; or, where pairs are kept, it is this raw body with these pairs for this body of
-- the source.
abbrev pub KeepsAtMostWith : (has_pairs : Bool) → Body → (raw : List ℕ) → List Pair → (old new : KeptBodies) → Type 0
KeepsAtMostWith has_pairs b raw pairs old new =
    (source : ParsedModule) (function : ℕ) (c : BodyAt) (r : List ℕ) (ps : List Pair) → IsKeptWith new source function c r ps →
    IsKeptWith old source function c r ps ⊎ (has_pairs ≡ true) × (function ≡ b.func) × (c ≡ body_at b) × (r ≡ raw) × (ps ≡ pairs)

-- what is kept of these location pairs, if they are kept
abbrev pub pack_if : (has_pairs : Bool) → List Pair → List ℕ
pack_if has_pairs pairs = if has_pairs then packed_pairs pairs else []

-- One body more is kept: the next one, as the bytes that a change makes of it, with their location pairs.
pub record KeepsChanged (changes : OneChange) (source : ParsedModule) (b : Body) (old new : KeptBodies) : Type 0 where
  pub raw : List ℕ
  pub pairs : List Pair
  pub is_changed : IsChangedWith changes source b.func (body_at b) raw pairs
  pub first : new.first ≡ old.first
  pub bodies : bodies_in new.bodies.items ≡ bodies_in old.bodies.items ++ body_at b ∷ []
  pub raws : raws_in new.raws.items new.bodies.items ≡ raws_in old.raws.items old.bodies.items ++ raw ∷ []
  pub fit : ArePackable pairs
  pub packs : packs_in new.pairs.items new.bodies.items ≡ packs_in old.pairs.items old.bodies.items ++ packed_pairs pairs ∷ []
  pub len : length new.bodies.items ≡ length old.bodies.items + 1
