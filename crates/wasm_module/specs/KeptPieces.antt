-- A body that is being kept: its bytes and its location pairs so far, at the end of those of all.
use Rattle.std.proofs.Common.{◌≡◌, ℕ, List, [], ◌++◌, length, take, Option, Some, None, true, sym, subst, append_assoc}
use Rattle.std.proofs.lemmas.List.{append-nil}
use Rattle.location_pairs.specs.declared.packing.Packer.{Packer}
use Rattle.location_pairs.specs.PackedPieces.{HasPacked}
use Rattle.wasm_body.specs.Pairs.{Pair}
use Rattle.wasm_module.specs.declared.changing.kept_bodies.KeptBodies.{KeptBodies}
use Rattle.wasm_module.specs.declared.keeping.LargeBody.{LargeBody}

-- These pairs are packed from this place on, if any are.
abbrev pub HasPackedFrom : (from : ℕ) → Option Packer → (bytes : List ℕ) → List Pair → Type 0
HasPackedFrom from None bytes pairs = Unit {0}
HasPackedFrom from (Some packer) bytes pairs = (packer.begin ≡ from) × HasPacked packer bytes pairs

-- To what was kept, these bytes and these pairs of one body more are appended.
pub record HasTaken (was now : KeptBodies) (from : ℕ) (packer : Option Packer) (raw : List ℕ) (pairs : List Pair) : Type 0 where
  pub first_is : now.first ≡ was.first
  pub bodies_are : now.bodies.items ≡ was.bodies.items
  pub from_is : from ≡ length was.raws.items
  pub raws_are : now.raws.items ≡ was.raws.items ++ raw
  pub front_is : take (length was.pairs.items) now.pairs.items ≡ was.pairs.items
  pub packed : HasPackedFrom (length was.pairs.items) packer now.pairs.items pairs

-- While all of a large body is kept, these bytes and these pairs follow the others.
abbrev pub TakesPiece : (old new : LargeBody) → (raw : List ℕ) → (pairs : List Pair) → Type 0
TakesPiece old new raw pairs =
    (was : KeptBodies) (before : List ℕ) (first : List Pair) → HasTaken was old.kept old.from old.packer before first →
    HasTaken was new.kept new.from new.packer (before ++ raw) (first ++ pairs)

abbrev pub TakesMore : (old new : LargeBody) → (raw : List ℕ) → (pairs : List Pair) → Type 0
TakesMore old new raw pairs = new.is_whole ≡ true → (old.is_whole ≡ true) × TakesPiece old new raw pairs

-- These pairs alone follow the others.
abbrev pub TakesPairs : (old new : LargeBody) → (pairs : List Pair) → Type 0
TakesPairs old new pairs =
    (was : KeptBodies) (raw : List ℕ) (first : List Pair) → HasTaken was old.kept old.from old.packer raw first → HasTaken was new.kept new.from new.packer raw (first ++ pairs)

pub takes_nothing : (s : LargeBody) → TakesMore s s [] []
takes_nothing s whole = (
  whole,
  λ was before first taken.
      subst (λ (l : List ℕ). HasTaken was s.kept s.from s.packer l (first ++ [])) (sym (append-nil before))
      (subst (λ (l : List Pair). HasTaken was s.kept s.from s.packer before l) (sym (append-nil first)) taken),
)

pub takes_both :
    (a b c : LargeBody) (raw more : List ℕ) (pairs others : List Pair) → TakesMore a b raw pairs → TakesMore b c more others → TakesMore a c (raw ++ more) (pairs ++ others)
takes_both a b c raw more pairs others p q whole =
    let later = q whole in
    let sooner = p later.0 in (
      sooner.0,
      λ was before first taken.
          subst (λ (l : List ℕ). HasTaken was c.kept c.from c.packer l (first ++ (pairs ++ others))) (append_assoc before raw more)
          (subst (λ (l : List Pair). HasTaken was c.kept c.from c.packer ((before ++ raw) ++ more) l) (append_assoc first pairs others)
          (later.1 was (before ++ raw) (first ++ pairs) (sooner.1 was before first taken))),
    )
