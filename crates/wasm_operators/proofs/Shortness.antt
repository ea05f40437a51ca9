-- How shortest encodings are combined.
use Rattle.std.proofs.Common.{◌≡◌, ℕ, zero, suc, List, [], ◌∷◌, ◌++◌, length, Result, Ok, refl, sym, ap, subst, ◌∙◌, arith, inl, inr, ℤ}
use Rattle.std.proofs.lemmas.List.{length-append}
use Rattle.std.specs.List.{flat_map}
use Rattle.wasm_numbers.specs.declared.fault.ReadFault.{ReadFault}
use Rattle.wasm_numbers.specs.Reading.{Then, Made, Many}
use Rattle.wasm_numbers.specs.Numbers.{IsU32, IsU64, IsS32, IsS33, IsS64}
use Rattle.wasm_operators.specs.Shortest.{IsLeast, short_number, short_integer}
use Rattle.wasm_operators.proofs.ShortestNumbers.{unsigned_shortest, signed_shortest}

-- If a value has an encoding, this one is the shortest, and every other is longer.
pub record Least (Spelt : List ℕ → Type 0) (short : List ℕ) : Type 0 where
  pub is : (text : List ℕ) → Spelt text → Spelt short × IsLeast short text

pub least_append : (a b x y : List ℕ) → IsLeast a x → IsLeast b y → IsLeast (a ++ b) (x ++ y)
least_append a b x y (inl p) (inl q) = inl (ap (λ (z : List ℕ). z ++ b) p ∙ ap (λ (z : List ℕ). x ++ z) q)
least_append a b x y (inl p) (inr q) = inr (omega (arith, length-append a b, length-append x y, ap length p))
least_append a b x y (inr p) (inl q) = inr (omega (arith, length-append a b, length-append x y, ap length q))
least_append a b x y (inr p) (inr q) = inr (omega (arith, length-append a b, length-append x y))

pub least_along : (short text other : List ℕ) → text ≡ other → IsLeast short text → IsLeast short other
least_along short text other e = subst (IsLeast short) e

-- the only encoding is the shortest
pub least_only : (Spelt : List ℕ → Type 0) (short : List ℕ) → ((text : List ℕ) → Spelt text → text ≡ short) → Least Spelt short
least_only Spelt short only = record { is = λ text h. (subst Spelt (only text h) h, inl (sym (only text h))) }

-- a relation that is the same as one whose shortest encoding is known
pub least_same : (Spelt Other : List ℕ → Type 0) (short : List ℕ) → ((text : List ℕ) → Other text → Spelt text) → ((text : List ℕ) → Spelt text → Other text) → Least Spelt short → Least Other short
least_same Spelt Other short into onto least = record { is = λ text h. let s = least.is text (into text h) in (onto short s.0, s.1) }

module _ {A B : Type 0} (First : A → List ℕ → Type 0) (Second : A → B → List ℕ → Type 0) (a : A) (b : B) (x y : List ℕ) (first : Least (First a) x) (second : Least (Second a b) y) where
  then_is : (text : List ℕ) → Then First Second (a, b) text → Then First Second (a, b) (x ++ y) × IsLeast (x ++ y) text
  then_is text h =
      let p = first.is h.0 h.3 in
      let q = second.is h.1 h.4 in
      ((x, y, refl, p.0, q.0), least_along (x ++ y) (h.0 ++ h.1) text (sym h.2) (least_append x y h.0 h.1 p.1 q.1))

  pub least_then : Least (Then First Second (a, b)) (x ++ y)
  least_then = record { is = then_is }

-- only one value is turned into this value
pub least_made : {A B : Type 0} (Raw : A → List ℕ → Type 0) (make : A → Result B ReadFault) (v : B) (raw : A) (short : List ℕ)
    → ((text : List ℕ) → Made Raw make v text → (make raw ≡ Ok v) × Raw raw text) → Least (Raw raw) short → Least (Made Raw make v) short
least_made Raw make v raw short only least = record {
  is = λ text h.
      let o = only text h in
      let s = least.is text o.1 in
      ((raw, o.0, s.0), s.1);
}

module _ {A : Type 0} (One : A → List ℕ → Type 0) (short : A → List ℕ) (one : (v : A) → Least (One v) (short v)) where
  many_is : (vs : List A) (text : List ℕ) → Many One (length vs) vs text → Many One (length vs) vs (flat_map short vs) × IsLeast (flat_map short vs) text
  many_is [] text h = (refl, inl (sym h))
  many_is (v ∷ vs) text h =
      let p = (one v).is h.0 h.3 in
      let q = many_is vs h.1 h.4 in
      ((short v, flat_map short vs, refl, p.0, q.0), least_along (short v ++ flat_map short vs) (h.0 ++ h.1) text (sym h.2) (least_append (short v) (flat_map short vs) h.0 h.1 p.1 q.1))

  pub least_many : (vs : List A) → Least (Many One (length vs) vs) (flat_map short vs)
  least_many vs = record { is = many_is vs }

pub many_length : {A : Type 0} (One : A → List ℕ → Type 0) (n : ℕ) (vs : List A) (text : List ℕ) → Many One n vs text → n ≡ length vs
many_length One zero [] text h = refl
many_length One zero (v ∷ vs) text h = absurd h
many_length One (suc n) [] text h = absurd h
many_length One (suc n) (v ∷ vs) text h = ap (λ (m : ℕ). suc m) (many_length One n vs h.1 h.4)

-- ---- numbers

pub least_u32 : (n : ℕ) → Least (IsU32 n) (short_number n)
least_u32 n = record { is = unsigned_shortest 9 32 (omega arith) n }

pub least_u64 : (n : ℕ) → Least (IsU64 n) (short_number n)
least_u64 n = record { is = unsigned_shortest 9 64 (omega arith) n }

pub least_s32 : (z : ℤ) → Least (IsS32 z) (short_integer z)
least_s32 z = record { is = signed_shortest 9 32 (omega arith) z }

pub least_s33 : (z : ℤ) → Least (IsS33 z) (short_integer z)
least_s33 z = record { is = signed_shortest 9 33 (omega arith) z }

pub least_s64 : (z : ℤ) → Least (IsS64 z) (short_integer z)
least_s64 z = record { is = signed_shortest 9 64 (omega arith) z }

pub least_moved : (Spelt : List ℕ → Type 0) (short other : List ℕ) → short ≡ other → Least Spelt short → Least Spelt other
least_moved Spelt short other e = subst (Least Spelt) e
