-- What is kept of location pairs, one body after the other.
use Rattle.std.proofs.Common.{◌≡◌, ◌≢◌, ◌⊎◌, inl, inr, ℕ, zero, suc, ◌+◌, ◌≤◌, List, [], ◌∷◌, ◌++◌, length, length-take, take, drop, slice_get, Option, Some, None, Bool, true, false, bytes_eq, if◌then◌else◌, option_map, refl, sym, ap, subst, ◌∙◌, arith}
use Rattle.std.specs.List.{between}
use Rattle.std.proofs.lemmas.List.{take-take, drop_at, drop_all}
use Rattle.std.proofs.lemmas.Slice.{between_is, between_to_end}
use Rattle.std.proofs.lemmas.Option.{same_Some}
use Rattle.std.proofs.lemmas.Slice.Eq.{bytes_eq-Decides}
use Rattle.location_pairs.specs.PackedPairs.{ArePackable, packed_pairs}
use Rattle.location_pairs.proofs.PackedPairs.{packed_once, never_empty}
use Rattle.location_pairs.proofs.UnpackedPairs.{unpacked, unpacked_again, unpacked_fit}
use Rattle.wasm_body.specs.Pairs.{Pair}
use Rattle.wasm_sections.specs.declared.code.Body.{Body}
use Rattle.wasm_module.specs.declared.changing.kept_bodies.KeptBodies.{KeptBodies}
use Rattle.wasm_module.specs.declared.changing.kept_bodies.KeptBody.{KeptBody}
use Rattle.wasm_module.specs.declared.changing.kept_bodies.Part.{Part}
use Rattle.wasm_module.specs.declared.parsed.ParsedModule.{ParsedModule}
use Rattle.wasm_sections.specs.CodeSections.{BodyAt, body_at}
use Rattle.wasm_module.specs.KeptParts.{AreWithin, IsPack, IsPackAt, ArePacks}
use Rattle.wasm_module.specs.KeptCode.{kept_source, bodies_in, raw_in, raws_in, packed_in, packs_in, pack_if, IsKept, IsKeptWith, IsPackOf, AreKeptWithAs, AreKeptBodies, StayKept, KeepsAtMost, KeepsAtMostWith}
use Rattle.wasm_module.specs.WrittenModules.{BodyWriting, with_some_pairs}
use Rattle.wasm_module.proofs.KeptLemmas.{body_of, raw_of, bodies_len, raws_len, within_more, within_longer, none_as, stay_kept}

-- ---- the parts of a list, and of a longer one

part_stays : (all longer : List ℕ) (p : Part) → take (length all) longer ≡ all → p.to ≤ length all → between p.from p.to longer ≡ between p.from p.to all
part_stays all longer p front le =
    let same : take p.to longer ≡ take p.to all = sym (take-take p.to (length all) longer le) ∙ ap (λ (l : List ℕ). take p.to l) front in
    between_is longer p.from p.to ∙ ap (λ (l : List ℕ). drop p.from l) same ∙ sym (between_is all p.from p.to)

pub no_part : (all : List ℕ) (n : ℕ) → between n n all ≡ []
no_part all n = between_is all n n ∙ drop_all n (take n all) (omega (arith, length-take n all))

-- the part from the end of a list to that of a longer one is what was appended
pub last_part : (all more longer : List ℕ) (from to : ℕ) → longer ≡ all ++ more → from ≡ length all → to ≡ length longer → between from to longer ≡ more
last_part all more longer from to long f t =
    between_to_end longer from to (omega (arith, t)) ∙ ap (λ (l : List ℕ). drop from l) long ∙ drop_at all more from (sym f)

-- ---- lists of them

packs_more : (all : List ℕ) (ks : List KeptBody) (k : KeptBody) → packs_in all (ks ++ k ∷ []) ≡ packs_in all ks ++ packed_in all k ∷ []
packs_more all [] k = refl
packs_more all (x ∷ ks) k = ap (λ (l : List (List ℕ)). packed_in all x ∷ l) (packs_more all ks k)

packs_len : (all : List ℕ) (ks : List KeptBody) → length (packs_in all ks) ≡ length ks
packs_len all [] = refl
packs_len all (k ∷ ks) = ap (λ (n : ℕ). suc n) (packs_len all ks)

pack_of : (all : List ℕ) (ks : List KeptBody) (n : ℕ) (k : KeptBody) → slice_get ks n ≡ Some k → slice_get (packs_in all ks) n ≡ Some (packed_in all k)
pack_of all [] n k e = let no : None ≡ Some k = e in absurd cc
pack_of all (x ∷ ks) zero k e = ap (λ (o : Option KeptBody). option_map (λ (k : KeptBody). packed_in all k) o) e
pack_of all (x ∷ ks) (suc n) k e = pack_of all ks n k e

pub packs_stay : (all longer : List ℕ) (ks : List KeptBody) → take (length all) longer ≡ all → ArePacks all ks → packs_in longer ks ≡ packs_in all ks
packs_stay all longer [] front h = refl
packs_stay all longer (k ∷ ks) front h = λ i.
    part_stays all longer k.pairs front (h zero k refl).0 i ∷ packs_stay all longer ks front (λ n x. h (suc n) x) i

-- one more
pub packs_then : (all : List ℕ) (ks more : List KeptBody) (k : KeptBody) → more ≡ ks ++ k ∷ [] → packs_in all more ≡ packs_in all ks ++ packed_in all k ∷ []
packs_then all ks more k m = ap (λ (l : List KeptBody). packs_in all l) m ∙ packs_more all ks k

-- ---- what holds of all of them

pub no_packs : (all : List ℕ) (ks : List KeptBody) → ks ≡ [] → ArePacks all ks
no_packs all ks none n k e = let no : None ≡ Some k = sym (ap (λ (l : List KeptBody). slice_get l n) none) ∙ e in absurd cc

pack_longer : (all longer : List ℕ) (p : Part) → take (length all) longer ≡ all → length all ≤ length longer → IsPackAt all p → IsPackAt longer p
pack_longer all longer p front le h =
    let same = part_stays all longer p front h.0 in
    let within : p.to ≤ length longer = let w = h.0 in omega arith in
    (within, subst (λ (l : List ℕ). IsPack l) (sym same) h.1)

-- nothing is a pack, and so are packed pairs
pub empty_pack : (bytes : List ℕ) → bytes ≡ [] → IsPack bytes
empty_pack bytes e some none = some e

pub pairs_pack : (bytes : List ℕ) (ps : List Pair) → ArePackable ps → bytes ≡ packed_pairs ps → IsPack bytes
pairs_pack bytes ps h e some none = none ps h e

same_or_not : (bytes : List ℕ) (ps : List Pair) (b : Bool) → bytes_eq bytes (packed_pairs ps) ≡ b → bytes ≢ [] → IsPack bytes
    → ((qs : List Pair) → ArePackable qs → bytes ≡ packed_pairs qs → ps ≡ qs) → bytes ≡ packed_pairs ps
same_or_not bytes ps true e some pack read = (bytes_eq-Decides bytes (packed_pairs ps)).0 e
same_or_not bytes ps false e some pack read =
    absurd (pack some (λ qs h f.
    let same : bytes ≡ packed_pairs ps = f ∙ ap packed_pairs (sym (read qs h f)) in
    let no : false ≡ true = sym e ∙ (bytes_eq-Decides bytes (packed_pairs ps)).1 same in
    cc))

-- what is unpacked was packed
pub unpacked_are : (bytes : List ℕ) (ps : List Pair) → bytes ≢ [] → IsPack bytes → ((qs : List Pair) → ArePackable qs → bytes ≡ packed_pairs qs → ps ≡ qs) → bytes ≡ packed_pairs ps
unpacked_are bytes ps some pack read = same_or_not bytes ps (bytes_eq bytes (packed_pairs ps)) refl some pack read

-- what is kept is nothing, or some pairs
pub pairs_in : (bytes : List ℕ) → bytes ≢ [] → IsPack bytes → (ps : List Pair) × ArePackable ps × (bytes ≡ packed_pairs ps)
pairs_in bytes some pack =
    let ps = unpacked bytes in
    (ps, unpacked_fit bytes, unpacked_are bytes ps some pack (λ qs h e. ap unpacked e ∙ unpacked_again qs h))

pub packs_longer : (all longer : List ℕ) (ks : List KeptBody) → take (length all) longer ≡ all → ArePacks all ks → ArePacks longer ks
packs_longer all longer ks front h n k e =
    let le : length all ≤ length longer = omega (arith, length-take (length all) longer, ap (λ (l : List ℕ). length l) front) in
    pack_longer all longer k.pairs front le (h n k e)

one_pack : (all : List ℕ) (ks : List KeptBody) (k : KeptBody) → ArePacks all ks → IsPackAt all k.pairs → ArePacks all (ks ++ k ∷ [])
one_pack all [] k h p zero x e = subst (λ (y : KeptBody). IsPackAt all y.pairs) (same_Some k x e) p
one_pack all [] k h p (suc n) x e = let no : None ≡ Some x = e in absurd cc
one_pack all (y ∷ ks) k h p zero x e = h zero x e
one_pack all (y ∷ ks) k h p (suc n) x e = one_pack all ks k (λ m z. h (suc m) z) p n x e

-- a list to which a body is pushed, or not
pub packs_pushed : (all : List ℕ) (ks new : List KeptBody) (k : KeptBody) (b : Bool) → new ≡ (if b then ks ++ k ∷ [] else ks) → ArePacks all ks → IsPackAt all k.pairs → ArePacks all new
packs_pushed all ks new k true e h p = subst (λ (l : List KeptBody). ArePacks all l) (sym e) (one_pack all ks k h p)
packs_pushed all ks new k false e h p = subst (λ (l : List KeptBody). ArePacks all l) (sym e) h

pub within_pushed : (ks new : List KeptBody) (k : KeptBody) (len more : ℕ) (b : Bool) → new ≡ (if b then ks ++ k ∷ [] else ks) → AreWithin len ks → len ≤ more → k.raw.to ≤ more
    → AreWithin more new
within_pushed ks new k len more true e h le t = subst (λ (l : List KeptBody). AreWithin more l) (sym e) (within_more ks k len more h le t)
within_pushed ks new k len more false e h le t = subst (λ (l : List KeptBody). AreWithin more l) (sym e) (within_longer ks len more h le)

-- ---- what is kept for a function

pub raw_kept : (kept : KeptBodies) (source : ParsedModule) (f : ℕ) (b : BodyAt) (raw : List ℕ) (ps : List Pair) → IsKeptWith kept source f b raw ps → IsKept kept source f b raw
raw_kept kept source f b raw ps h = record { at = h.at; function_is = h.function_is; body_is = h.body_is; raw_is = h.raw_is }

-- nothing is said of the state of the source
pub kept_with_then : (kept : KeptBodies) (source now : ParsedModule) (f : ℕ) (b : BodyAt) (raw : List ℕ) (ps : List Pair) → IsKeptWith kept now f b raw ps → IsKeptWith kept source f b raw ps
kept_with_then kept source now f b raw ps h =
    record { at = h.at; function_is = h.function_is; body_is = h.body_is; raw_is = h.raw_is; fit = h.fit; pairs_are = h.pairs_are }

-- what is kept at a position of the pairs is nothing, or those that are kept for the function and the body there
pub is_pack_of :
    (kept : KeptBodies) (source : ParsedModule) (function : ℕ) (b : BodyAt) (at : ℕ) (k : KeptBody) → function ≡ kept.first + at → slice_get kept.bodies.items at ≡ Some k →
    kept_source k ≡ b → IsPackOf kept source function b (raw_in kept.raws.items k) (packed_in kept.pairs.items k)
is_pack_of kept source function b at k f e same = (
  λ ps h q.
      record {
        at = at;
        function_is = f;
        body_is = body_of kept.bodies.items at k e ∙ ap (λ (b : BodyAt). Some b) same;
        raw_is = raw_of kept.raws.items kept.bodies.items at k e;
        fit = h;
        pairs_are = pack_of kept.pairs.items kept.bodies.items at k e ∙ ap (λ (l : List ℕ). Some l) q;
      },
  (kept.packs at k e).1,
)

-- ---- one body more

-- an item of three lists that are one longer: one of those before, or the last of each
abbrev IsTripleAt : {A B C : Type 0} → (xs : List A) → (ys : List B) → (zs : List C) → (a x : A) → (b y : B) → (c z : C) → (n : ℕ) → Type 0
IsTripleAt xs ys zs a x b y c z n =
    (slice_get xs n ≡ Some x) × (slice_get ys n ≡ Some y) × (slice_get zs n ≡ Some z) ⊎ (n ≡ length xs) × (x ≡ a) × (y ≡ b) × (z ≡ c)

later_triple :
    {A B C : Type 0} (xs : List A) (ys : List B) (zs : List C) (a x u : A) (b y v : B) (c z w : C) (n : ℕ) → IsTripleAt xs ys zs a x b y c z n →
    IsTripleAt (u ∷ xs) (v ∷ ys) (w ∷ zs) a x b y c z (suc n)
later_triple xs ys zs a x u b y v c z w n (inl p) = inl p
later_triple xs ys zs a x u b y v c z w n (inr p) = inr (ap (λ (m : ℕ). suc m) p.0, p.1, p.2, p.3)

triple_at :
    {A B C : Type 0} (xs : List A) (ys : List B) (zs : List C) (a x : A) (b y : B) (c z : C) (n : ℕ) → length xs ≡ length ys → length xs ≡ length zs →
    slice_get (xs ++ a ∷ []) n ≡ Some x → slice_get (ys ++ b ∷ []) n ≡ Some y → slice_get (zs ++ c ∷ []) n ≡ Some z → IsTripleAt xs ys zs a x b y c z n
triple_at [] [] [] a x b y c z zero l m e f g = inr (refl, sym (same_Some a x e), sym (same_Some b y f), sym (same_Some c z g))
triple_at [] [] [] a x b y c z (suc n) l m e f g = let no : None ≡ Some x = e in absurd cc
triple_at [] (v ∷ ys) zs a x b y c z n l m e f g = let no : 0 ≡ suc (length ys) = l in absurd (omega arith)
triple_at [] [] (w ∷ zs) a x b y c z n l m e f g = let no : 0 ≡ suc (length zs) = m in absurd (omega arith)
triple_at (u ∷ xs) [] zs a x b y c z n l m e f g = let no : suc (length xs) ≡ 0 = l in absurd (omega arith)
triple_at (u ∷ xs) (v ∷ ys) [] a x b y c z n l m e f g = let no : suc (length xs) ≡ 0 = m in absurd (omega arith)
triple_at (u ∷ xs) (v ∷ ys) (w ∷ zs) a x b y c z zero l m e f g = inl (e, f, g)
triple_at (u ∷ xs) (v ∷ ys) (w ∷ zs) a x b y c z (suc n) l m e f g =
    let one : length xs ≡ length ys = omega (arith, l) in
    let other : length xs ≡ length zs = omega (arith, m) in
    later_triple xs ys zs a x u b y v c z w n (triple_at xs ys zs a x b y c z n one other e f g)

-- the pairs that are packed as these are
pairs_of : (has : Bool) (ps qs : List Pair) → (has ≡ true → ArePackable ps) → ArePackable qs → packed_pairs qs ≡ pack_if has ps → (has ≡ true) × (qs ≡ ps)
pairs_of true ps qs h k e = (refl, packed_once qs ps k (h refl) e)
pairs_of false ps qs h k e = absurd (never_empty qs k e)

module _ (has : Bool) (b : Body) (raw : List ℕ) (pairs : List Pair) (old new : KeptBodies) (first : new.first ≡ old.first) (next : b.func ≡ old.first + length old.bodies.items)
    (fit : has ≡ true → ArePackable pairs) where
  with_one_of :
      (source : ParsedModule) (f : ℕ) (c : BodyAt) (r pack : List ℕ) (ps : List Pair) (at : ℕ) → f ≡ new.first + at → ArePackable ps → pack ≡ packed_pairs ps →
      IsTripleAt (bodies_in old.bodies.items) (raws_in old.raws.items old.bodies.items) (packs_in old.pairs.items old.bodies.items) (body_at b) c raw r (pack_if has pairs) pack at →
      IsKeptWith old source f c r ps ⊎ (has ≡ true) × (f ≡ b.func) × (c ≡ body_at b) × (r ≡ raw) × (ps ≡ pairs)
  with_one_of source f c r pack ps at place fits same (inl p) =
      inl (record {
        at = at;
        function_is = let i = first in omega arith;
        body_is = p.0;
        raw_is = p.1;
        fit = fits;
        pairs_are = p.2 ∙ ap (λ (l : List ℕ). Some l) same;
      })
  with_one_of source f c r pack ps at place fits same (inr p) =
      let of = pairs_of has pairs ps fit fits (sym same ∙ p.3) in
      inr (of.0, let i = first in let n = next in let m = p.0 in let l = bodies_len old.bodies.items in omega arith, p.1, p.2, of.1)

  pub keeps_one_with :
      bodies_in new.bodies.items ≡ bodies_in old.bodies.items ++ body_at b ∷ [] →
      raws_in new.raws.items new.bodies.items ≡ raws_in old.raws.items old.bodies.items ++ raw ∷ [] →
      packs_in new.pairs.items new.bodies.items ≡ packs_in old.pairs.items old.bodies.items ++ pack_if has pairs ∷ [] → KeepsAtMostWith has b raw pairs old new
  keeps_one_with bodies raws packs source f c r ps k =
      let ks = old.bodies.items in
      let body = subst (λ (l : List BodyAt). slice_get l k.at ≡ Some c) bodies k.body_is in
      let bytes = subst (λ (l : List (List ℕ)). slice_get l k.at ≡ Some r) raws k.raw_is in
      let pack = subst (λ (l : List (List ℕ)). slice_get l k.at ≡ Some (packed_pairs ps)) packs k.pairs_are in
      let one = bodies_len ks ∙ sym (raws_len old.raws.items ks) in
      let other = bodies_len ks ∙ sym (packs_len old.pairs.items ks) in
      with_one_of source f c r (packed_pairs ps) ps k.at k.function_is k.fit refl
      (triple_at (bodies_in ks) (raws_in old.raws.items ks) (packs_in old.pairs.items ks) (body_at b) c raw r (pack_if has pairs) (packed_pairs ps) k.at one other body bytes pack)

pub keeps_none_with : (has : Bool) (b : Body) (raw : List ℕ) (pairs : List Pair) (old new : KeptBodies) → new.bodies.items ≡ [] → KeepsAtMostWith has b raw pairs old new
keeps_none_with has b raw pairs old new none source f c r ps k =
    let no : None ≡ Some c = sym (ap (λ (ks : List KeptBody). slice_get (bodies_in ks) k.at) none) ∙ k.body_is in
    absurd cc

pub none_kept_as : (writes : BodyWriting) (source : ParsedModule) (kept : KeptBodies) → kept.bodies.items ≡ [] → AreKeptBodies writes source kept
none_kept_as writes source kept none = record {
  raws = none_as (with_some_pairs writes) source kept none;
  pairs = λ f b raw ps k.
      let no : None ≡ Some b = sym (ap (λ (ks : List KeptBody). slice_get (bodies_in ks) k.at) none) ∙ k.body_is in
      absurd cc;
}

kept_either_with :
    (writes : BodyWriting) (source : ParsedModule) (has : Bool) (b : Body) (raw : List ℕ) (pairs written : List Pair) (old : KeptBodies) (f : ℕ) (c : BodyAt) (r : List ℕ) (ps : List Pair) →
    AreKeptWithAs writes source old → writes source b.func (body_at b) raw written → (has ≡ true → pairs ≡ written) →
    IsKeptWith old source f c r ps ⊎ (has ≡ true) × (f ≡ b.func) × (c ≡ body_at b) × (r ≡ raw) × (ps ≡ pairs) → writes source f c r ps
kept_either_with writes source has b raw pairs written old f c r ps every here same (inl k) = every f c r ps k
kept_either_with writes source has b raw pairs written old f c r ps every here same (inr e) =
    let is : written ≡ ps = sym (same e.0) ∙ sym e.4 in
    subst (λ (n : ℕ). writes source n c r ps) (sym e.1)
    (subst (λ (x : BodyAt). writes source b.func x r ps) (sym e.2)
    (subst (λ (l : List ℕ). writes source b.func (body_at b) l ps) (sym e.3) (subst (λ (l : List Pair). writes source b.func (body_at b) raw l) is here)))

pub stay_kept_with :
    (writes : BodyWriting) (source : ParsedModule) (has : Bool) (b : Body) (raw : List ℕ) (pairs written : List Pair) (old new : KeptBodies) → KeepsAtMost b raw old new →
    KeepsAtMostWith has b raw pairs old new → writes source b.func (body_at b) raw written → (has ≡ true → pairs ≡ written) → StayKept writes source old new
stay_kept_with writes source has b raw pairs written old new most most_with here same every = record {
  raws = stay_kept (with_some_pairs writes) source b raw old new most (written, here) every.raws;
  pairs = λ f c r ps k. kept_either_with writes source has b raw pairs written old f c r ps every.pairs here same (most_with source f c r ps k);
}
