-- The mapping of the operators read so far, and its location function.
use Rattle.std.specs.Prelude.{◌≡◌, ◌≢◌, ◌⊎◌, ℕ, ◌+◌, ◌-◌, ◌<◌, ◌≤◌, ◌==◌, if◌then◌else◌, List, [], ◌∷◌, ◌++◌, map, Bool, true, false, Option, Some, None}
use Rattle.std.specs.Borrow.{Bor}
use Rattle.std.specs.Fn.{Shared}
use Rattle.std.specs.List.{AllByRecursion}
use Rattle.std.proofs.lemmas.List.{map-append}
use Rattle.std.proofs.lemmas.Bool.Decides.{eqb_tells}
use Rattle.std.proofs.lemmas.Bool.{eq-eqb}
use Rattle.std.proofs.Common.{refl, ap, sym, ◌∙◌, arith, inl, inr}
use Rattle.wasm_body.specs.Naming.{Occurrence}
use Rattle.wasm_body.specs.Parsing.Accepted.{location_at}
use Rattle.walrus_validators.specs.Locating.{Locates, MayCall}
use Rattle.walrus_parser.specs.Settings.{pair_of, location_found, locations_in, BothOrNone, RiseFrom, IsMapping}

pub all-append : {A : Type 0} (P : A → Type 0) (xs : List A) (x : A) → AllByRecursion P xs → P x → AllByRecursion P (xs ++ x ∷ [])
all-append P [] x all p = (p, tt)
all-append P (y ∷ ys) x all p = (all.0, all-append P ys x all.1 p)

pub all-front : {A : Type 0} (P : A → Type 0) (xs : List A) (x : A) → AllByRecursion P (xs ++ x ∷ []) → AllByRecursion P xs × P x
all-front P [] x all = (tt, all.0)
all-front P (y ∷ ys) x all = let r = all-front P ys x all.1 in ((all.0, r.0), r.1)

all-mapped : {A : Type 0} (P Q : A → Type 0) → ((x : A) → P x → Q x) → (xs : List A) → AllByRecursion P xs → AllByRecursion Q xs
all-mapped P Q f [] all = tt
all-mapped P Q f (x ∷ xs) all = (f x all.0, all-mapped P Q f xs all.1)

rise-append : (xs : List Occurrence) (x : Occurrence) (from place next : ℕ) → RiseFrom xs from place → x.place ≡ place → place < next → RiseFrom (xs ++ x ∷ []) from next
rise-append [] x from place next rise at less = (omega arith, omega arith)
rise-append (y ∷ ys) x from place next rise at less = (rise.0, rise-append ys x (y.place + 1) place next rise.1 at less)

module _ {F : Type 0} (g : Shared F (Bor ℕ × Unit {0}) ℕ) (o : Option (Bor F)) where
  -- one more operator
  pub mapping-append : (offset from place next : ℕ) (xs : List Occurrence) (mapping : List (ℕ × ℕ)) (x : Occurrence) → IsMapping g o offset from place xs mapping →
      x.place ≡ place → place < next → Locates g o x.place x.location → IsMapping g o offset from next (xs ++ x ∷ []) (mapping ++ pair_of offset x ∷ [])
  mapping-append offset from place next xs mapping x m at less located = record {
    pairs = ap (λ ps. ps ++ pair_of offset x ∷ []) m.pairs ∙ sym (map-append (pair_of offset) xs (x ∷ []));
    rise = rise-append xs x from place next m.rise at less;
    are_located = all-append (λ y. Locates g o y.place y.location) xs x m.are_located located;
  }

-- ---- the locations in the mapping

other : (b : Bool) (k l : ℕ) → b ≡ false → (if b then k else l) ≡ l
other true k l e = absurd cc
other false k l e = refl

same : (b : Bool) (k l : ℕ) → b ≡ true → (if b then k else l) ≡ k
same true k l e = refl
same false k l e = absurd cc

either : {A B C : Type 0} → (A → C) → (B → C) → A ⊎ B → C
either f h (inl a) = f a
either f h (inr b) = h b

not_equal : (k l : ℕ) → k ≢ l → (k == l) ≡ false
not_equal k l apart = either (λ e. absurd (apart e.1)) (λ e. e.0) (eqb_tells k l)

found_all : (offset : ℕ) (xs : List Occurrence) (from below : ℕ) → offset ≤ from → RiseFrom xs from below →
    AllByRecursion (λ x. (x.location ≡ location_found (map (pair_of offset) xs) (x.place - offset)) × (from ≤ x.place)) xs
found_all offset [] from below fits rise = tt
found_all offset (x ∷ xs) from below fits rise =
    let least = rise.0 in (
      (sym (same (x.place - offset == (x.place - offset)) x.location (location_found (map (pair_of offset) xs) (x.place - offset)) (eq-eqb (x.place - offset) (x.place - offset) refl)), rise.0),
      all-mapped (λ y. (y.location ≡ location_found (map (pair_of offset) xs) (y.place - offset)) × (x.place + 1 ≤ y.place))
          (λ y. (y.location ≡ location_found (map (pair_of offset) (x ∷ xs)) (y.place - offset)) × (from ≤ y.place))
          (λ y p.
          let more = p.1 in
          let apart : (x.place - offset) ≢ (y.place - offset) = λ e. let h = e in omega arith in
          (p.0 ∙ sym (other (x.place - offset == (y.place - offset)) x.location (location_found (map (pair_of offset) xs) (y.place - offset)) (not_equal (x.place - offset) (y.place - offset) apart)), omega arith))
          xs (found_all offset xs (x.place + 1) below (omega arith) rise.1),
    )

module _ {F : Type 0} (g : Shared F (Bor ℕ × Unit {0}) ℕ) where
  -- the mapping has each operator's location
  pub mapped_locations : (o : Option (Bor F)) (offset from below : ℕ) (xs : List Occurrence) (mapping : List (ℕ × ℕ)) → offset ≤ from → IsMapping g o offset from below xs mapping →
      AllByRecursion (λ x. x.location ≡ location_at (locations_in o offset mapping) x.place) xs
  mapped_locations None offset from below xs mapping fits m = all-mapped (λ x. Locates g None x.place x.location) (λ x. x.location ≡ x.place) (λ x p. p.1) xs m.are_located
  mapped_locations (Some f) offset from below xs mapping fits m =
      all-mapped (λ x. (x.location ≡ location_found (map (pair_of offset) xs) (x.place - offset)) × (from ≤ x.place)) (λ x. x.location ≡ location_found mapping (x.place - offset))
      (λ x p. p.0 ∙ ap (λ ps. location_found ps (x.place - offset)) (sym m.pairs)) xs (found_all offset xs from below fits m.rise)

pub mapped_both : {F : Type 0} (o : Option F) (offset : ℕ) (mapping : List (ℕ × ℕ)) → BothOrNone o (locations_in o offset mapping)
mapped_both None offset mapping = tt
mapped_both (Some f) offset mapping = tt

-- the function may be called at the next operator
pub may_call_next : {F : Type 0} (pre : F → Bor ℕ → Type 0) (o : Option (Bor F)) (from to place : ℕ) → from ≤ place → place < to → MayCall pre o from to → MayCall pre o place (place + 1)
may_call_next pre None from to place low high may = tt
may_call_next pre (Some f) from to place low high may = λ p least most. may p (omega arith) (omega arith)

pub rise-wider : (xs : List Occurrence) (from below above : ℕ) → below ≤ above → RiseFrom xs from below → RiseFrom xs from above
rise-wider [] from below above less rise = omega arith
rise-wider (x ∷ xs) from below above less rise = (rise.0, rise-wider xs (x.place + 1) below above less rise.1)
