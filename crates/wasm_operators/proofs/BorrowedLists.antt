-- Values that are read one after the other, as a loop and an iterator read them.
use Rattle.std.proofs.Common.{◌≡◌, ℕ, zero, suc, ◌-◌, ◌+◌, ◌≤◌, ◌<◌, List, [], ◌∷◌, ◌++◌, length, Result, Ok, Err, refl, sym, ap, ◌∙◌, append_assoc, arith}
use Rattle.std.proofs.lemmas.List.{append-nil}
use Rattle.wasm_numbers.specs.declared.fault.ReadFault.{ReadFault}
use Rattle.wasm_numbers.specs.Reading.{many}
use Rattle.wasm_operators.specs.Lists.{values, items_of, AreItems}
use Rattle.wasm_numbers.proofs.Agreement.{ok_is}
use Rattle.wasm_numbers.specs.Results.{◌>>=◌}
use Rattle.wasm_numbers.proofs.ResultLemmas.{bind_ok}

module _ {A : Type 0} (one : List ℕ → Result (A × List ℕ) ReadFault) where
  length_read : (n : ℕ) (bytes : List ℕ) (x : List A × List ℕ) → many one n bytes ≡ Ok x → length x.0 ≡ n
  unfolding many
  length_read zero bytes x e = ap (λ (p : List A × List ℕ). length p.0) (sym (ok_is ([], bytes) x e))
  length_read (suc n) bytes x e =
      let a = bind_ok (one bytes) (λ first. many one n first.1 >>= λ others. Ok (first.0 ∷ others.0, others.1)) x e in
      let b = bind_ok (many one n a.0.1) (λ others. Ok (a.0.0 ∷ others.0, others.1)) x a.2 in
      let made = ok_is (a.0.0 ∷ b.0.0, b.0.1) x b.2 in
      ap (λ (p : List A × List ℕ). length p.0) (sym made) ∙ ap suc (length_read n a.0.1 b.0 b.1)

  pub are_items : (n : ℕ) (bytes rest : List ℕ) → many one n bytes ≡ Ok (items_of one n bytes, rest) → AreItems one n bytes
  are_items n bytes rest e = record { all = length_read n bytes (items_of one n bytes, rest) e }

  none_read : (read : Result (List A × List ℕ) ReadFault) (n : ℕ) (f : ReadFault) → read ≡ Err f → length (values read) ≡ suc n → ⊥
  none_read (Ok x) n f e h = cc
  none_read (Err g) n f e h = cc

  pub no_item : (n : ℕ) (bytes : List ℕ) (f : ReadFault) → 0 < n → AreItems one n bytes → one bytes ≡ Err f → ⊥
  unfolding many
  no_item zero bytes f some all e = omega arith
  no_item (suc n) bytes f some all e =
      let whole : many one (suc n) bytes ≡ Err f = rw e refl in
      none_read (many one (suc n) bytes) n f whole all.all

  others_read : (others : Result (List A × List ℕ) ReadFault) (item : A) (n : ℕ) → length (values (others >>= λ x. Ok (item ∷ x.0, x.1))) ≡ suc n
      → (values (others >>= λ x. Ok (item ∷ x.0, x.1)) ≡ item ∷ values others) × (length (values others) ≡ n)
  others_read (Ok x) item n h = (refl, omega arith)
  others_read (Err e) item n h = absurd cc

  -- one item, and the remaining ones
  pub next_item : (n : ℕ) (bytes : List ℕ) (item : A) (rest : List ℕ) → 0 < n → AreItems one n bytes → one bytes ≡ Ok (item, rest) → (items_of one n bytes ≡ item ∷ items_of one (n - 1) rest) × AreItems one (n - 1) rest
  unfolding many
  next_item zero bytes item rest some all e = absurd (omega arith)
  next_item (suc n) bytes item rest some all e =
      let k : suc n - 1 ≡ n = omega arith in
      let whole : many one (suc n) bytes ≡ (many one n rest >>= λ x. Ok (item ∷ x.0, x.1)) = rw e refl in
      let size : length (values (many one n rest >>= λ x. Ok (item ∷ x.0, x.1))) ≡ suc n = rw whole at all.all in
      let p = others_read (many one n rest) item n size in
      rw k (ap values whole ∙ p.0, record { all = p.1 })

  -- ---- a loop over them

  -- the items read before, and those still to be read
  abbrev with_front : List A → Result (List A × List ℕ) ReadFault → Result (List A × List ℕ) ReadFault
  with_front front read = read >>= λ x. Ok (front ++ x.0, x.1)

  same_nil : (read : Result (List A × List ℕ) ReadFault) → with_front [] read ≡ read
  same_nil (Ok x) = refl
  same_nil (Err e) = refl

  regroup : (front : List A) (n : A) (read : Result (List A × List ℕ) ReadFault) → with_front front (read >>= λ x. Ok (n ∷ x.0, x.1)) ≡ with_front (front ++ n ∷ []) read
  regroup front n (Ok x) = ap (λ (ns : List A). Ok (ns, x.1)) (simp append_assoc)
  regroup front n (Err f) = refl

  -- the items read so far and the remaining ones are the whole list
  pub record Continues (left total : Result (List A × List ℕ) ReadFault) : Type 0 where
    pub front : List A
    pub same : with_front front left ≡ total

  pub starts : (count : ℕ) (bytes : List ℕ) → Continues (many one (count - 0) bytes) (many one count bytes)
  starts count bytes =
      let k : count - 0 ≡ count = omega arith in
      record { front = []; same = rw k (same_nil (many one count bytes)) }

  pub continues : (count i : ℕ) (bytes : List ℕ) (n : A) (after : List ℕ) (total : Result (List A × List ℕ) ReadFault) → i < count → one bytes ≡ Ok (n, after)
      → Continues (many one (count - i) bytes) total → Continues (many one (count - (i + 1)) after) total
  unfolding many
  continues count i bytes n after total lt h so_far =
      let k : count - i ≡ suc (count - (i + 1)) = omega arith in
      let step : with_front so_far.front (many one (count - i) bytes) ≡ with_front (so_far.front ++ n ∷ []) (many one (count - (i + 1)) after) = rw (k, h) (regroup so_far.front n (many one (count - (i + 1)) after)) in
      record { front = so_far.front ++ n ∷ []; same = sym step ∙ so_far.same }

  pub ends : (e : ReadFault) (count i : ℕ) (bytes : List ℕ) (total : Result (List A × List ℕ) ReadFault) → i < count → one bytes ≡ Err e
      → Continues (many one (count - i) bytes) total → total ≡ Err e
  unfolding many
  ends e count i bytes total lt h so_far =
      let k : count - i ≡ suc (count - (i + 1)) = omega arith in
      let step : with_front so_far.front (many one (count - i) bytes) ≡ Err e = rw (k, h) refl in
      sym so_far.same ∙ step

  pub is_done : (count i : ℕ) (bytes : List ℕ) (total : Result (List A × List ℕ) ReadFault) → count ≤ i → Continues (many one (count - i) bytes) total → total ≡ Ok (values total, bytes)
  unfolding many
  is_done count i bytes total le so_far =
      let k : count - i ≡ 0 = omega arith in
      let step : with_front so_far.front (many one (count - i) bytes) ≡ Ok (so_far.front, bytes) = rw k (ap (λ (ns : List A). Ok (ns, bytes)) (append-nil so_far.front)) in
      let whole : total ≡ Ok (so_far.front, bytes) = sym so_far.same ∙ step in
      rw whole refl
