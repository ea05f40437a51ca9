-- A body that is kept in pieces.
use Rattle.std.proofs.Common.{◌≡◌, ℕ, ◌+◌, ◌≤◌, List, [], ◌∷◌, ◌++◌, length, length-take, take, Option, Some, is_some, Bool, true, false, sym, ap, subst, ◌∙◌, append_assoc, arith}
use Rattle.std.proofs.lemmas.List.{append-nil, take-take}
use Rattle.std.specs.Bool.{OnTrue}
use Rattle.std.specs.List.{between}
use Rattle.location_pairs.specs.declared.packing.Packer.{Packer}
use Rattle.location_pairs.specs.PackedPairs.{ArePackable}
use Rattle.wasm_body.specs.Pairs.{Pair}
use Rattle.wasm_module.specs.declared.changing.kept_bodies.KeptBodies.{KeptBodies}
use Rattle.wasm_module.specs.declared.changing.kept_bodies.KeptBody.{KeptBody}
use Rattle.wasm_module.specs.declared.changing.kept_bodies.Part.{Part}
use Rattle.wasm_sections.specs.declared.code.Body.{Body}
use Rattle.wasm_sections.specs.CodeSections.{body_at}
use Rattle.wasm_module.specs.KeptCode.{bodies_in, raws_in, packs_in, pack_if, KeepsAtMost, KeepsAtMostWith}
use Rattle.wasm_module.specs.KeptParts.{ArePacks}
use Rattle.wasm_module.specs.KeptPieces.{HasPackedFrom, HasTaken}
use Rattle.wasm_module.proofs.KeptLemmas.{raws_stay, keeps_one}
use Rattle.wasm_module.proofs.KeptPairLemmas.{packs_longer, packs_stay, last_part, keeps_one_with}

pub on_true : (b : Bool) (P : Type 0) → P → OnTrue b P
on_true true P p = p
on_true false P p = tt

-- the front of a list that is the front of a longer one
pub front_then : (first old new : List ℕ) → take (length first) old ≡ first → take (length old) new ≡ old → take (length first) new ≡ first
front_then first old new front longer =
    let le : length first ≤ length old = omega (arith, ap length front, length-take (length first) old) in
    sym (take-take (length first) (length old) new le) ∙ ap (λ (l : List ℕ). take (length first) l) longer ∙ front

-- nothing of it yet
pub nothing_taken :
    (was now : KeptBodies) (from : ℕ) (packer : Option Packer) → now.first ≡ was.first → now.bodies ≡ was.bodies → now.raws ≡ was.raws → from ≡ length was.raws.items →
    take (length was.pairs.items) now.pairs.items ≡ was.pairs.items → HasPackedFrom (length was.pairs.items) packer now.pairs.items [] → HasTaken was now from packer [] []
nothing_taken was now from packer first bodies raws at front packed = record {
  first_is = first;
  bodies_are = λ i. (bodies i).items;
  from_is = at;
  raws_are = (λ i. (raws i).items) ∙ sym (append-nil was.raws.items);
  front_is = front;
  packed = packed;
}

module _ (was old new : KeptBodies) (from : ℕ) (packer : Option Packer) (raw : List ℕ) (ps : List Pair) (taken : HasTaken was old from packer raw ps)
    (first : new.first ≡ old.first) (bodies : new.bodies ≡ old.bodies) where
  bodies_stay : new.bodies.items ≡ was.bodies.items
  bodies_stay = (λ i. (bodies i).items) ∙ taken.bodies_are

  pub bytes_taken :
      (bytes : List ℕ) → new.raws.items ≡ old.raws.items ++ bytes → new.pairs ≡ old.pairs → HasTaken was new from packer (raw ++ bytes) ps
  bytes_taken bytes raws pairs = record {
    first_is = first ∙ taken.first_is;
    bodies_are = bodies_stay;
    from_is = taken.from_is;
    raws_are = raws ∙ ap (λ (l : List ℕ). l ++ bytes) taken.raws_are ∙ append_assoc was.raws.items raw bytes;
    front_is = ap (λ (l : List ℕ). take (length was.pairs.items) l) (λ i. (pairs i).items) ∙ taken.front_is;
    packed = subst (λ (l : List ℕ). HasPackedFrom (length was.pairs.items) packer l ps) (sym (λ i. (pairs i).items)) taken.packed;
  }

  pub pairs_taken :
      (also : Option Packer) (more : List Pair) → new.raws ≡ old.raws → take (length old.pairs.items) new.pairs.items ≡ old.pairs.items →
      HasPackedFrom (length was.pairs.items) also new.pairs.items (ps ++ more) → HasTaken was new from also raw (ps ++ more)
  pairs_taken also more raws front packed = record {
    first_is = first ∙ taken.first_is;
    bodies_are = bodies_stay;
    from_is = taken.from_is;
    raws_are = (λ i. (raws i).items) ∙ taken.raws_are;
    front_is = front_then was.pairs.items old.pairs.items new.pairs.items taken.front_is front;
    packed = packed;
  }

module _ (was old : KeptBodies) (from : ℕ) (packer : Option Packer) (raw : List ℕ) (ps : List Pair) (taken : HasTaken was old from packer raw ps) where
  -- what is kept of the bodies before it stays
  pub packs_before : (longer : List ℕ) → take (length was.pairs.items) longer ≡ was.pairs.items → packs_in longer old.bodies.items ≡ packs_in was.pairs.items was.bodies.items
  packs_before longer front = ap (λ (ks : List KeptBody). packs_in longer ks) taken.bodies_are ∙ packs_stay was.pairs.items longer was.bodies.items front was.packs

  pub are_packs : (longer : List ℕ) → take (length was.pairs.items) longer ≡ was.pairs.items → ArePacks longer old.bodies.items
  are_packs longer front = subst (λ (ks : List KeptBody). ArePacks longer ks) (sym taken.bodies_are) (packs_longer was.pairs.items longer was.bodies.items front was.packs)

  pub raws_before : raws_in old.raws.items old.bodies.items ≡ raws_in was.raws.items was.bodies.items
  raws_before = (λ i. raws_in (taken.raws_are i) (taken.bodies_are i)) ∙ raws_stay was.raws.items raw was.bodies.items was.within

  -- and its bytes are the last
  pub raw_after : (to : ℕ) → to ≡ length old.raws.items → between from to old.raws.items ≡ raw
  raw_after to t = last_part was.raws.items raw old.raws.items from to taken.raws_are taken.from_is t

-- the number of pairs is put into its room, which the bodies before it don't have
pub room_filled :
    (was old : KeptBodies) (from : ℕ) (p : Packer) (raw : List ℕ) (ps : List Pair) → HasTaken was old from (Some p) raw ps → (longer : List ℕ) →
    take p.begin longer ≡ take p.begin old.pairs.items → take (length was.pairs.items) longer ≡ was.pairs.items
room_filled was old from p raw ps taken longer same =
    subst (λ (n : ℕ). take n longer ≡ take n old.pairs.items) taken.packed.0 same ∙ taken.front_is

-- The body is kept: `mid` is what is kept once the number of its pairs is there, and `new` what is kept then.
module _ (b : Body) (was old mid new : KeptBodies) (from to : ℕ) (packer : Option Packer) (part : Part) (raw : List ℕ) (ps : List Pair) (taken : HasTaken was old from packer raw ps)
    (next : b.func ≡ old.first + length old.bodies.items) (ends : to ≡ length old.raws.items) (mid_first : mid.first ≡ old.first) (mid_bodies : mid.bodies ≡ old.bodies)
    (mid_raws : mid.raws ≡ old.raws) (first : new.first ≡ mid.first) (raws_same : new.raws ≡ mid.raws) (pairs_same : new.pairs ≡ mid.pairs)
    (bodies : bodies_in new.bodies.items ≡ bodies_in mid.bodies.items ++ body_at b ∷ [])
    (raws : raws_in mid.raws.items new.bodies.items ≡ raws_in mid.raws.items mid.bodies.items ++ between from to mid.raws.items ∷ []) where
  is_first : new.first ≡ was.first
  is_first = first ∙ mid_first ∙ taken.first_is

  is_next : b.func ≡ was.first + length was.bodies.items
  is_next = omega (arith, taken.first_is, ap length taken.bodies_are)

  one_body : bodies_in new.bodies.items ≡ bodies_in was.bodies.items ++ body_at b ∷ []
  one_body = bodies ∙ ap (λ (ks : List KeptBody). bodies_in ks ++ body_at b ∷ []) ((λ i. (mid_bodies i).items) ∙ taken.bodies_are)

  one_more_raw : raws_in new.raws.items new.bodies.items ≡ raws_in was.raws.items was.bodies.items ++ raw ∷ []
  one_more_raw =
      ap (λ (l : List ℕ). raws_in l new.bodies.items) (λ i. (raws_same i).items) ∙ raws
      ∙ (λ i. raws_in (mid_raws i).items (mid_bodies i).items ++ between from to (mid_raws i).items ∷ [])
      ∙ (λ i. raws_before was old from packer raw ps taken i ++ raw_after was old from packer raw ps taken to ends i ∷ [])

  pub pushed_raw : KeepsAtMost b raw was new
  pushed_raw = keeps_one b raw was new is_first is_next one_body one_more_raw

  pub pushed_pairs :
      packs_in mid.pairs.items new.bodies.items ≡ packs_in mid.pairs.items mid.bodies.items ++ between part.from part.to mid.pairs.items ∷ [] →
      packs_in mid.pairs.items mid.bodies.items ≡ packs_in was.pairs.items was.bodies.items → between part.from part.to mid.pairs.items ≡ pack_if (is_some packer) ps →
      (is_some packer ≡ true → ArePackable ps) → KeepsAtMostWith (is_some packer) b raw ps was new
  pushed_pairs packs before last fit =
      keeps_one_with (is_some packer) b raw ps was new is_first is_next fit one_body one_more_raw
      (ap (λ (l : List ℕ). packs_in l new.bodies.items) (λ i. (pairs_same i).items) ∙ packs ∙ (λ i. before i ++ last i ∷ []))
