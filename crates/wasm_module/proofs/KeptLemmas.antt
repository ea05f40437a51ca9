-- Bodies that are kept, one after the other.
use Rattle.std.proofs.Common.{◌≡◌, ◌⊎◌, inl, inr, ℕ, zero, ◌+◌, ◌≤◌, List, [], ◌∷◌, ◌++◌, length, length-append, drop, slice_get, Option, Some, None, Result, Ok, Err, OnOk, option_map, refl, sym, ap, subst, ◌∙◌, suc, arith}
use Rattle.std.specs.List.{between}
use Rattle.std.proofs.lemmas.List.{take-append-le, drop_at}
use Rattle.std.proofs.lemmas.Slice.{between_is, between_to_end}
use Rattle.std.proofs.lemmas.Option.{same_Some}
use Rattle.wasm_sections.specs.declared.code.Body.{Body}
use Rattle.wasm_module.specs.declared.changing.kept_bodies.KeptBodies.{KeptBodies}
use Rattle.wasm_module.specs.declared.changing.kept_bodies.KeptBody.{KeptBody}
use Rattle.wasm_module.specs.declared.parsed.ParsedModule.{ParsedModule}
use Rattle.wasm_sections.specs.CodeSections.{BodyAt, body_at}
use Rattle.wasm_module.specs.KeptParts.{AreWithin}
use Rattle.wasm_module.specs.KeptCode.{kept_source, bodies_in, raw_in, raws_in, IsKept, AreKeptAs, KeepsAtMost}
use Rattle.wasm_module.specs.WrittenModules.{RawWriting}

-- ---- lists of them

pub bodies_more : (ks : List KeptBody) (k : KeptBody) → bodies_in (ks ++ k ∷ []) ≡ bodies_in ks ++ kept_source k ∷ []
bodies_more [] k = refl
bodies_more (x ∷ ks) k = ap (λ (l : List BodyAt). kept_source x ∷ l) (bodies_more ks k)

pub raws_more : (all : List ℕ) (ks : List KeptBody) (k : KeptBody) → raws_in all (ks ++ k ∷ []) ≡ raws_in all ks ++ raw_in all k ∷ []
raws_more all [] k = refl
raws_more all (x ∷ ks) k = ap (λ (l : List (List ℕ)). raw_in all x ∷ l) (raws_more all ks k)

pub bodies_len : (ks : List KeptBody) → length (bodies_in ks) ≡ length ks
bodies_len [] = refl
bodies_len (k ∷ ks) = ap (λ (n : ℕ). suc n) (bodies_len ks)

pub raws_len : (all : List ℕ) (ks : List KeptBody) → length (raws_in all ks) ≡ length ks
raws_len all [] = refl
raws_len all (k ∷ ks) = ap (λ (n : ℕ). suc n) (raws_len all ks)

pub body_of : (ks : List KeptBody) (n : ℕ) (k : KeptBody) → slice_get ks n ≡ Some k → slice_get (bodies_in ks) n ≡ Some (kept_source k)
body_of [] n k e = let no : None ≡ Some k = e in absurd cc
body_of (x ∷ ks) zero k e = ap (λ (o : Option KeptBody). option_map (λ (k : KeptBody). kept_source k) o) e
body_of (x ∷ ks) (suc n) k e = body_of ks n k e

pub raw_of : (all : List ℕ) (ks : List KeptBody) (n : ℕ) (k : KeptBody) → slice_get ks n ≡ Some k → slice_get (raws_in all ks) n ≡ Some (raw_in all k)
raw_of all [] n k e = let no : None ≡ Some k = e in absurd cc
raw_of all (x ∷ ks) zero k e = ap (λ (o : Option KeptBody). option_map (λ (k : KeptBody). raw_in all k) o) e
raw_of all (x ∷ ks) (suc n) k e = raw_of all ks n k e

-- what is kept at a position is what is kept for the function and the body there
pub is_kept :
    (kept : KeptBodies) (source : ParsedModule) (function : ℕ) (b : BodyAt) (at : ℕ) (k : KeptBody) → function ≡ kept.first + at → slice_get kept.bodies.items at ≡ Some k →
    kept_source k ≡ b → IsKept kept source function b (raw_in kept.raws.items k)
is_kept kept source function b at k f e same = record {
  at = at;
  function_is = f;
  body_is = body_of kept.bodies.items at k e ∙ ap (λ (b : BodyAt). Some b) same;
  raw_is = raw_of kept.raws.items kept.bodies.items at k e;
}

-- ---- one more: the parts of the bytes before stay the same

pub within_more :
    (ks : List KeptBody) (k : KeptBody) (len more : ℕ) → AreWithin len ks → len ≤ more → k.raw.to ≤ more → AreWithin more (ks ++ k ∷ [])
within_more [] k len more h le t zero x e = subst (λ (y : KeptBody). y.raw.to ≤ more) (same_Some k x e) t
within_more [] k len more h le t (suc n) x e = let no : None ≡ Some x = e in absurd cc
within_more (y ∷ ks) k len more h le t zero x e = let below = h zero x e in omega arith
within_more (y ∷ ks) k len more h le t (suc n) x e = within_more ks k len more (λ m z. h (suc m) z) le t n x e

pub within_longer : (ks : List KeptBody) (len more : ℕ) → AreWithin len ks → len ≤ more → AreWithin more ks
within_longer ks len more h le n k e = let below = h n k e in omega arith

raw_stays : (all more : List ℕ) (k : KeptBody) → k.raw.to ≤ length all → raw_in (all ++ more) k ≡ raw_in all k
raw_stays all more k le =
    between_is (all ++ more) k.raw.from k.raw.to ∙ ap (λ (l : List ℕ). drop k.raw.from l) (take-append-le k.raw.to all more le)
    ∙ sym (between_is all k.raw.from k.raw.to)

pub raws_stay : (all more : List ℕ) (ks : List KeptBody) → AreWithin (length all) ks → raws_in (all ++ more) ks ≡ raws_in all ks
raws_stay all more [] h = refl
raws_stay all more (k ∷ ks) h = λ i.
    raw_stays all more k (h zero k refl) i ∷ raws_stay all more ks (λ n x. h (suc n) x) i

-- the part from the end of a list to that of a longer one is what was appended
pub raw_last : (all raw : List ℕ) (from to : ℕ) → from ≡ length all → to ≡ length all + length raw → between from to (all ++ raw) ≡ raw
raw_last all raw from to f t =
    let whole : length (all ++ raw) ≤ to = let n = length-append all raw in omega arith in
    between_to_end (all ++ raw) from to whole ∙ drop_at all raw from (sym f)

pub raws_then :
    (all raw : List ℕ) (ks : List KeptBody) (k : KeptBody) → AreWithin (length all) ks → k.raw.from ≡ length all → k.raw.to ≡ length all + length raw →
    raws_in (all ++ raw) (ks ++ k ∷ []) ≡ raws_in all ks ++ raw ∷ []
raws_then all raw ks k h f t =
    raws_more (all ++ raw) ks k
    ∙ (λ i. raws_stay all raw ks h i ++ raw_last all raw k.raw.from k.raw.to f t i ∷ [])

module _ (raws longer raw : List ℕ) (ks more : List KeptBody) (k : KeptBody) (within : AreWithin (length raws) ks) (long : longer ≡ raws ++ raw) (to : k.raw.to ≡ length longer) where
  ends : length longer ≡ length raws + length raw
  ends = ap (λ (l : List ℕ). length l) long ∙ length-append raws raw

  pub one_within : AreWithin (length longer) (ks ++ k ∷ [])
  one_within = within_more ks k (length raws) (length longer) within (let e = ends in omega arith) (let t = to in omega arith)

  pub one_raw : more ≡ ks ++ k ∷ [] → k.raw.from ≡ length raws → raws_in longer more ≡ raws_in raws ks ++ raw ∷ []
  one_raw m from =
      (λ i. raws_in (long i) (m i)) ∙ raws_then raws raw ks k within from (to ∙ ends)

pub same_body : (a b : BodyAt) → a.start ≡ b.start → a.bytes ≡ b.bytes → a ≡ b
same_body a b s t = λ i. record { start = s i; bytes = t i }

-- ---- nothing is kept, or one body more

pub none_as : (writes : RawWriting) (source : ParsedModule) (kept : KeptBodies) → kept.bodies.items ≡ [] → AreKeptAs writes source kept
none_as writes source kept none f b raw k =
    let no : None ≡ Some b = sym (ap (λ (ks : List KeptBody). slice_get (bodies_in ks) k.at) none) ∙ k.body_is in
    absurd cc

pub keeps_none : (b : Body) (raw : List ℕ) (old new : KeptBodies) → new.bodies.items ≡ [] → KeepsAtMost b raw old new
keeps_none b raw old new none source f c r k =
    let no : None ≡ Some c = sym (ap (λ (ks : List KeptBody). slice_get (bodies_in ks) k.at) none) ∙ k.body_is in
    absurd cc

pub on_then : {A E : Type 0} (r : Result A E) (P Q : Type 0) → (P → Q) → OnOk r P → OnOk r Q
on_then (Ok x) P Q f h = f h
on_then (Err e) P Q f h = tt

-- an item of two lists that are one longer: one of those before, or the last of each
abbrev IsPairAt : {A B : Type 0} → (xs : List A) → (ys : List B) → (a x : A) → (b y : B) → (n : ℕ) → Type 0
IsPairAt xs ys a x b y n = (slice_get xs n ≡ Some x) × (slice_get ys n ≡ Some y) ⊎ (n ≡ length xs) × (x ≡ a) × (y ≡ b)

later_pair :
    {A B : Type 0} (xs : List A) (ys : List B) (a x u : A) (b y v : B) (n : ℕ) → IsPairAt xs ys a x b y n → IsPairAt (u ∷ xs) (v ∷ ys) a x b y (suc n)
later_pair xs ys a x u b y v n (inl p) = inl p
later_pair xs ys a x u b y v n (inr p) = inr (ap (λ (m : ℕ). suc m) p.0, p.1, p.2)

pair_at :
    {A B : Type 0} (xs : List A) (ys : List B) (a x : A) (b y : B) (n : ℕ) → length xs ≡ length ys → slice_get (xs ++ a ∷ []) n ≡ Some x →
    slice_get (ys ++ b ∷ []) n ≡ Some y → IsPairAt xs ys a x b y n
pair_at [] [] a x b y zero len e f = inr (refl, sym (same_Some a x e), sym (same_Some b y f))
pair_at [] [] a x b y (suc n) len e f = let no : None ≡ Some x = e in absurd cc
pair_at [] (v ∷ ys) a x b y n len e f = let no : 0 ≡ suc (length ys) = len in absurd (omega arith)
pair_at (u ∷ xs) [] a x b y n len e f = let no : suc (length xs) ≡ 0 = len in absurd (omega arith)
pair_at (u ∷ xs) (v ∷ ys) a x b y zero len e f = inl (e, f)
pair_at (u ∷ xs) (v ∷ ys) a x b y (suc n) len e f =
    let as_long : length xs ≡ length ys = omega (arith, len) in
    later_pair xs ys a x u b y v n (pair_at xs ys a x b y n as_long e f)

module _ (b : Body) (raw : List ℕ) (old new : KeptBodies) (first : new.first ≡ old.first) (next : b.func ≡ old.first + length old.bodies.items) where
  one_of :
      (source : ParsedModule) (f at : ℕ) (c : BodyAt) (r : List ℕ) → f ≡ new.first + at →
      IsPairAt (bodies_in old.bodies.items) (raws_in old.raws.items old.bodies.items) (body_at b) c raw r at →
      IsKept old source f c r ⊎ (f ≡ b.func) × (c ≡ body_at b) × (r ≡ raw)
  one_of source f at c r place (inl p) = inl (record { at = at; function_is = let i = first in omega arith; body_is = p.0; raw_is = p.1 })
  one_of source f at c r place (inr p) = inr (let i = first in let n = next in let m = p.0 in let l = bodies_len old.bodies.items in omega arith, p.1, p.2)

  pub keeps_one :
      bodies_in new.bodies.items ≡ bodies_in old.bodies.items ++ body_at b ∷ [] →
      raws_in new.raws.items new.bodies.items ≡ raws_in old.raws.items old.bodies.items ++ raw ∷ [] → KeepsAtMost b raw old new
  keeps_one bodies raws source f c r k =
      let bs = bodies_in old.bodies.items in
      let rs = raws_in old.raws.items old.bodies.items in
      let body = subst (λ (l : List BodyAt). slice_get l k.at ≡ Some c) bodies k.body_is in
      let bytes = subst (λ (l : List (List ℕ)). slice_get l k.at ≡ Some r) raws k.raw_is in
      let as_long : length bs ≡ length rs = bodies_len old.bodies.items ∙ sym (raws_len old.raws.items old.bodies.items) in
      one_of source f k.at c r k.function_is (pair_at bs rs (body_at b) c raw r k.at as_long body bytes)

kept_either :
    (writes : RawWriting) (source : ParsedModule) (b : Body) (raw : List ℕ) (old : KeptBodies) (f : ℕ) (c : BodyAt) (r : List ℕ) → AreKeptAs writes source old →
    writes source b.func (body_at b) raw → IsKept old source f c r ⊎ (f ≡ b.func) × (c ≡ body_at b) × (r ≡ raw) → writes source f c r
kept_either writes source b raw old f c r every here (inl k) = every f c r k
kept_either writes source b raw old f c r every here (inr e) =
    subst (λ (n : ℕ). writes source n c r) (sym e.0)
    (subst (λ (x : BodyAt). writes source b.func x r) (sym e.1) (subst (λ (l : List ℕ). writes source b.func (body_at b) l) (sym e.2) here))

pub stay_kept :
    (writes : RawWriting) (source : ParsedModule) (b : Body) (raw : List ℕ) (old new : KeptBodies) → KeepsAtMost b raw old new → writes source b.func (body_at b) raw →
    AreKeptAs writes source old → AreKeptAs writes source new
stay_kept writes source b raw old new most here every f c r k = kept_either writes source b raw old f c r every here (most source f c r k)
