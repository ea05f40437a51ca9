-- The contract of a call that writes a function's tree, and its location pairs if a list is lent for
-- them.
use Rattle.std.specs.Prelude.{◌≡◌, ◌⊎◌, ℕ, List, Option, Some, None}
use Rattle.std.specs.Borrow.{Bor, MutBor}
use Rattle.std.specs.Fn.{Shared}
use Rattle.std.specs.declared.vec.Vec.{Vec}
use Rattle.std.proofs.Common.{inl, inr}
use Rattle.walrus_ir.specs.Function.{Function}
use Rattle.walrus_ir.specs.Types.{ModuleType}
use Rattle.wasm_body.specs.declared.error.EmitError.{EmitError}
use Rattle.wasm_body.specs.declared.error.EmitError.TheVariants.{Memory}
use Rattle.wasm_body.specs.Bytes.{Numbers}
use Rattle.wasm_body.specs.EmissionFaults.{HasNoNumber}
use Rattle.wasm_body.specs.Pairs.{Pair}
use Rattle.walrus_maps.specs.declared.ids_to_indices.IdsToIndices.{IdsToIndices}
use Rattle.walrus_numbering.specs.NumberMaps.{numbers_by}
use Rattle.walrus_parser.specs.Bodies.{ParseInput, AcceptsBody}
use Rattle.walrus_body.specs.LocalFunctions.{first_slot}
use Rattle.walrus_emitter.specs.TreeWriting.Trees.{Appends, IsNotWritten}

-- a list of pairs that is lent
abbrev pub LentPairs : Type 0 → Type 0
LentPairs Z = MutBor (Vec Pair Z)

-- an `Option` after the call: without a value, or with one
abbrev pub Left : Type 0 → Type 0
Left A = Unit {0} ⊎ ((A × Unit {0}) ⊎ ⊥)

-- This holds of the list before and after the call, if there is one.
abbrev pub OfLists : {Z : Type 0} → (Option (List Pair × List Pair) → Type 0)
    → (entry : Option (LentPairs Z)) → (exit : Left (LentPairs Z)) → Type 0
OfLists P None (inl none) = P None
OfLists P (Some list) (inr (inl left)) = P (Some (list.now.items, left.0.now.items))
OfLists P _ _ = ⊥

-- The bytes of the function's tree were appended to the encoder, and its pairs to the list, if there
-- is one.
abbrev pub Emits : {Z : Type 0} → Function → Numbers → (old new : List ℕ)
    → (entry : Option (LentPairs Z)) → (exit : Left (LentPairs Z)) → Type 0
Emits f to old new entry exit = OfLists (Appends f.sequences (first_slot f) to old new) entry exit

-- the list is unchanged, if there is one
abbrev pub KeepsPairs : {Z : Type 0} → (entry : Option (LentPairs Z))
    → (exit : Left (LentPairs Z)) → Type 0
KeepsPairs None (inl none) = Unit {0}
KeepsPairs (Some list) (inr (inl left)) = left.0.now.items ≡ list.now.items
KeepsPairs _ _ = ⊥

-- Memory ran out, the builder has no tree, or this is the first fault of the tree in the order of
-- writing.
abbrev pub IsNotEmitted : Function → Numbers → EmitError → Type 0
IsNotEmitted f to e = IsNotWritten f.sequences (first_slot f) to e

-- ---- laws

-- The function that a parse made is emitted, unless memory runs out, or an id or a local has no number.
abbrev pub EmittedFaults : (S F : Type 0) → Shared F (Bor ℕ × Unit {0}) ℕ → Type 0
EmittedFaults S F calls =
    (i : ParseInput S F) (f : Function) (mapping : List (ℕ × ℕ)) → AcceptsBody calls i f mapping →
    (types : List ModuleType) (ids : IdsToIndices) (locals : List (ℕ × ℕ)) (e : EmitError) →
    IsNotEmitted f (numbers_by types ids locals) e → (e ≡ Memory) ⊎ HasNoNumber e
