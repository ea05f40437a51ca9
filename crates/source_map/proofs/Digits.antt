-- Digits, and numbers made of them.
use Rattle.std.proofs.Common.{◌≡◌, ℕ, ◌+◌, ◌-◌, ◌*◌, ◌<◌, ◌≤◌, false, cond, eqb, ltb, leb, List, [], ◌∷◌, ◌++◌, Some, None, Result, Ok, Err, refl, sym, ap, subst, ◌∙◌, inl, inr, arith}
use Rattle.std.specs.List.{AllByRecursion}
use Rattle.std.proofs.lemmas.Bool.{ltb-true, ltb-false, lt-ltb, le-ltb, leb-false, lt-leb, eqb-true}
use Rattle.std.proofs.lemmas.Bool.Decides.{nat_tests}
use Rattle.source_map.specs.declared.fault.MappingsFault.{MappingsFault}
use Rattle.source_map.specs.declared.fault.MappingsFault.TheVariants.{BadDigit, LongNumber, SecondLine}
use Rattle.source_map.specs.Vlq.{digit_value, IsVlqNumber, max_digits}
use Rattle.wasm_numbers.specs.Results.{◌>>=◌, some_or}
use Rattle.source_map.specs.Reading.{digit_at, number_at, next_at}
use Rattle.source_map.proofs.Steps.{bind_ok, some_or_ok, ok_is, chosen, test_false}

pub digit_below : (c d : ℕ) → digit_value c ≡ Some d → d < 64
digit_below c d e = grind (arith, nat_tests)

no_value : (c d : ℕ) (x : ℕ) → digit_value x ≡ None → c ≡ x → digit_value c ≡ Some d → ⊥
no_value c d x n same e = let h : Some d ≡ None = sym e ∙ ap digit_value same ∙ n in absurd cc

-- neither a comma nor a semicolon is a digit
pub no_comma : (c d : ℕ) → digit_value c ≡ Some d → eqb c 44 ≡ false
no_comma c d e = test_false (eqb c 44) (λ h. no_value c d 44 refl (eqb-true c 44 h) e)

no_semicolon : (c d : ℕ) → digit_value c ≡ Some d → eqb c 59 ≡ false
no_semicolon c d e = test_false (eqb c 59) (λ h. no_value c d 59 refl (eqb-true c 59 h) e)

digit_taken : (c d : ℕ) → digit_at c ≡ Ok d → digit_value c ≡ Some d
digit_taken c d e =
    elim (chosen (eqb c 59) (Err SecondLine) (some_or (digit_value c) BadDigit) (Ok d) e) [
      | inl p ↦ absurd (let h = p.1 in cc)
      | inr p ↦ some_or_ok (digit_value c) BadDigit d p.1
    ]

digit_again : (c d : ℕ) → digit_value c ≡ Some d → digit_at c ≡ Ok d
digit_again c d e = rw (no_semicolon c d e, e) refl

-- ---- numbers

-- the digits that a reader took from the front
pub record Takes (Is : List ℕ → Type 0) (text rest : List ℕ) : Type 0 where
  pub front : List ℕ
  pub parts : text ≡ front ++ rest
  pub is : Is front

pub longer : (most c low high : ℕ) (text : List ℕ) → 1 < most → low < 32 → digit_value c ≡ Some (low + 32) → IsVlqNumber (most - 1) high text → IsVlqNumber most (low + 32 * high) (c ∷ text)
longer most c low high [] wide below e h = absurd h
longer most c low high (d ∷ cs) wide below e h = (wide, low, high, below, e, refl, h)

pub number_taken : (most : ℕ) (text : List ℕ) (n : ℕ) (rest : List ℕ) → number_at most text ≡ Ok (n, rest) → Takes (IsVlqNumber most n) text rest
unfolding number_at
number_taken most [] n rest e = absurd cc
number_taken most (c ∷ cs) n rest e =
    let more : ℕ → Result (ℕ × List ℕ) MappingsFault = λ d. number_at (most - 1) cs >>= λ high. Ok (d - 32 + 32 * high.0, high.1) in
    let digit = bind_ok (digit_at c) (λ d. cond (ltb d 32) (Ok (d, cs)) (cond (leb most 1) (Err LongNumber) (more d))) (n, rest) e in
    let d = digit.0 in
    let value = digit_taken c d digit.1 in
    elim (chosen (ltb d 32) (Ok (d, cs)) (cond (leb most 1) (Err LongNumber) (more d)) (Ok (n, rest)) digit.2) [
      | inl p ↦
          let one : Takes (IsVlqNumber most d) (c ∷ cs) cs = record { front = c ∷ []; parts = refl; is = (ltb-true d 32 p.0, value) } in
          subst (λ (x : ℕ × List ℕ). Takes (IsVlqNumber most x.0) (c ∷ cs) x.1) (ok_is (d, cs) (n, rest) p.1) one
      | inr p ↦
          elim (chosen (leb most 1) (Err LongNumber) (more d) (Ok (n, rest)) p.1) [
            | inl q ↦ absurd (let h = q.1 in cc)
            | inr q ↦
                let a = bind_ok (number_at (most - 1) cs) (λ high. Ok (d - 32 + 32 * high.0, high.1)) (n, rest) q.1 in
                let t = number_taken (most - 1) cs a.0.0 a.0.1 a.1 in
                let low : 32 ≤ d = ltb-false d 32 p.0 in
                let high : d < 64 = digit_below c d value in
                let split : d ≡ (d - 32) + 32 = omega arith in
                let spelt = longer most c (d - 32) a.0.0 t.front (leb-false most 1 q.0) (omega arith) (value ∙ ap (λ (x : ℕ). Some x) split) t.is in
                let one : Takes (IsVlqNumber most (d - 32 + 32 * a.0.0)) (c ∷ cs) a.0.1 = record { front = c ∷ t.front; parts = ap (λ (x : List ℕ). c ∷ x) t.parts; is = spelt } in
                subst (λ (x : ℕ × List ℕ). Takes (IsVlqNumber most x.0) (c ∷ cs) x.1) (ok_is (d - 32 + 32 * a.0.0, a.0.1) (n, rest) a.2) one
          ]
    ]

pub number_again : (most n : ℕ) (text rest : List ℕ) → IsVlqNumber most n text → number_at most (text ++ rest) ≡ Ok (n, rest)
unfolding number_at
number_again most n [] rest h = absurd h
number_again most n (c ∷ []) rest h = rw (digit_again c n h.1, lt-ltb n 32 h.0) refl
number_again most n (c ∷ d ∷ cs) rest h =
    let again = number_again (most - 1) h.2 (d ∷ cs) rest h.6 in
    let back : h.1 + 32 - 32 ≡ h.1 = omega arith in
    rw (digit_again c (h.1 + 32) h.4, le-ltb (h.1 + 32) 32 (omega arith), lt-leb most 1 h.0, again, back, h.5) refl

pub number_lacks : (most n : ℕ) (text : List ℕ) → IsVlqNumber most n text → AllByRecursion (λ x. eqb x 44 ≡ false) text
number_lacks most n [] h = tt
number_lacks most n (c ∷ []) h = (no_comma c n h.1, tt)
number_lacks most n (c ∷ d ∷ cs) h = (no_comma c (h.1 + 32) h.4, number_lacks (most - 1) h.2 (d ∷ cs) h.6)

-- ---- the next number of a segment

pub next_taken : (text : List ℕ) (n : ℕ) (rest : List ℕ) → next_at text ≡ Ok (n, rest) → Takes (IsVlqNumber max_digits n) text rest
unfolding next_at
next_taken [] n rest e = absurd cc
next_taken (c ∷ cs) n rest e = number_taken max_digits (c ∷ cs) n rest e

pub next_again : (n : ℕ) (text rest : List ℕ) → IsVlqNumber max_digits n text → next_at (text ++ rest) ≡ Ok (n, rest)
unfolding next_at
next_again n [] rest h = absurd h
next_again n (c ∷ cs) rest h = number_again max_digits n (c ∷ cs) rest h
