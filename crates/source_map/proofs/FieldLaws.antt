-- Fields, each after the one before.
use Rattle.std.proofs.Common.{◌≡◌, ℕ, ◌+◌, ◌-◌, ◌/◌, ◌%◌, ◌^◌, ◌≤◌, true, false, cond, eqb, ltb, List, ◌++◌, Some, None, Ok, Err, refl, subst, inl, inr, arith}
use Rattle.std.specs.List.{AllByRecursion}
use Rattle.std.proofs.lemmas.Bool.{ltb-false, eqb-false}
use Rattle.source_map.specs.declared.fault.MappingsFault.TheVariants.{FieldOutOfRange, UnsortedColumn}
use Rattle.source_map.specs.Vlq.{max_digits, within, lowered, moved_by, IsField}
use Rattle.wasm_numbers.specs.Results.{◌>>=◌, some_or}
use Rattle.source_map.specs.Reading.{next_at, field_at, column_after, column_at}
use Rattle.source_map.proofs.Steps.{bind_ok, some_or_ok, ok_is, some_is, chosen}
use Rattle.source_map.proofs.Digits.{Takes, next_taken, next_again, number_lacks}

pub field_taken : (before : ℕ) (text : List ℕ) (v : ℕ) (rest : List ℕ) → field_at before text ≡ Ok (v, rest) → Takes (IsField before v) text rest
unfolding field_at
field_taken before text v rest e =
    let n = bind_ok (next_at text) (λ n. some_or (moved_by n.0 before) FieldOutOfRange >>= λ field. Ok (field, n.1)) (v, rest) e in
    let f = bind_ok (some_or (moved_by n.0.0 before) FieldOutOfRange) (λ field. Ok (field, n.0.1)) (v, rest) n.2 in
    let t = next_taken text n.0.0 n.0.1 n.1 in
    let one : Takes (IsField before f.0) text n.0.1 = record { front = t.front; parts = t.parts; is = (n.0.0, some_or_ok (moved_by n.0.0 before) FieldOutOfRange f.0 f.1, t.is) } in
    subst (λ (x : ℕ × List ℕ). Takes (IsField before x.0) text x.1) (ok_is (f.0, n.0.1) (v, rest) f.2) one

pub field_again : (before v : ℕ) (text rest : List ℕ) → IsField before v text → field_at before (text ++ rest) ≡ Ok (v, rest)
unfolding field_at
field_again before v text rest h = rw (next_again h.0 text rest h.2, h.1) refl

pub field_lacks : (before v : ℕ) (text : List ℕ) → IsField before v text → AllByRecursion (λ x. eqb x 44 ≡ false) text
field_lacks before v text h = number_lacks max_digits h.0 text h.2

-- ---- columns

within_some : (x v : ℕ) → within x ≡ Some v → x ≡ v
within_some x v e =
    elim (chosen (ltb x (2 ^ 32)) (Some x) None (Some v) e) [
      | inl p ↦ some_is x v p.1
      | inr p ↦ absurd (let h = p.1 in cc)
    ]

lowered_some : (before k v : ℕ) → lowered before k ≡ Some v → before ≡ v + k
lowered_some before k v e =
    elim (chosen (ltb before k) None (Some (before - k)) (Some v) e) [
      | inl p ↦ absurd (let h = p.1 in cc)
      | inr p ↦
          let low = ltb-false before k p.0 in
          let is = some_is (before - k) v p.1 in
          omega arith
    ]

-- a column that isn't less than the one before is moved by an even number
even : (n before v : ℕ) → moved_by n before ≡ Some v → before ≤ v → (eqb (n % 2) 0 ≡ true) × (within (before + n / 2) ≡ Some v)
even n before v e up =
    elim (chosen (eqb (n % 2) 0) (within (before + n / 2)) (cond (eqb n 1) (lowered before (2 ^ 31)) (lowered before (n / 2))) (Some v) e) [
      | inl p ↦ p
      | inr p ↦
          elim (chosen (eqb n 1) (lowered before (2 ^ 31)) (lowered before (n / 2)) (Some v) p.1) [
            | inl q ↦ let h = lowered_some before (2 ^ 31) v q.1 in absurd (omega arith)
            | inr q ↦
                let h = lowered_some before (n / 2) v q.1 in
                let odd : n % 2 ≡ 0 → ⊥ = eqb-false (n % 2) 0 p.0 in
                let more : n ≡ 1 → ⊥ = eqb-false n 1 q.0 in
                absurd (omega arith)
          ]
    ]

column_ok : (n before v : ℕ) → column_after n before ≡ Ok v → (moved_by n before ≡ Some v) × (before ≤ v)
column_ok n before v e =
    elim (chosen (eqb (n % 2) 0) (some_or (within (before + n / 2)) FieldOutOfRange) (Err UnsortedColumn) (Ok v) e) [
      | inl p ↦
          let w = some_or_ok (within (before + n / 2)) FieldOutOfRange v p.1 in
          let is = within_some (before + n / 2) v w in
          (rw p.0 w, omega arith)
      | inr p ↦ absurd (let h = p.1 in cc)
    ]

column_some : (n before v : ℕ) → moved_by n before ≡ Some v → before ≤ v → column_after n before ≡ Ok v
column_some n before v e up = let h = even n before v e up in rw (h.0, h.1) refl

-- how a column is encoded after the one before
abbrev pub IsColumn : (before v : ℕ) → List ℕ → Type 0
IsColumn before v text = (before ≤ v) × IsField before v text

pub column_taken : (before : ℕ) (text : List ℕ) (v : ℕ) (rest : List ℕ) → column_at before text ≡ Ok (v, rest) → Takes (IsColumn before v) text rest
unfolding column_at
column_taken before text v rest e =
    let n = bind_ok (next_at text) (λ n. column_after n.0 before >>= λ field. Ok (field, n.1)) (v, rest) e in
    let f = bind_ok (column_after n.0.0 before) (λ field. Ok (field, n.0.1)) (v, rest) n.2 in
    let t = next_taken text n.0.0 n.0.1 n.1 in
    let c = column_ok n.0.0 before f.0 f.1 in
    let one : Takes (IsColumn before f.0) text n.0.1 = record { front = t.front; parts = t.parts; is = (c.1, (n.0.0, c.0, t.is)) } in
    subst (λ (x : ℕ × List ℕ). Takes (IsColumn before x.0) text x.1) (ok_is (f.0, n.0.1) (v, rest) f.2) one

pub column_again : (before v : ℕ) (text rest : List ℕ) → before ≤ v → IsField before v text → column_at before (text ++ rest) ≡ Ok (v, rest)
unfolding column_at
column_again before v text rest up h = rw (next_again h.0 text rest h.2, column_some h.0 before v h.1 up) refl
