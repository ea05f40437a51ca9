-- Values that are read one after the other, up to what ends them.
use Rattle.std.proofs.Common.{◌≡◌, ℕ, zero, suc, ◌<◌, ◌≤◌, List, [], ◌∷◌, ◌++◌, length, Option, Some, None, Result, Ok, Err, refl, sym, ap, ◌∙◌, append_assoc, arith}
use Rattle.wasm_numbers.specs.Results.{◌>>=◌}
use Rattle.dwarf_bytes.specs.declared.fault.DebugFault.{DebugFault}
use Rattle.dwarf_bytes.specs.declared.fault.DebugFault.TheVariants.{Truncated}
use Rattle.dwarf_bytes.specs.Faults.{DebugReader}
use Rattle.dwarf_info.specs.UpToEnd.{in_front_of, read_to_end, up_to_end}

-- results of equal steps
pub bind_same : {A B E : Type 0} (r : Result A E) (f g : A → Result B E) → ((x : A) → r ≡ Ok x → f x ≡ g x) → (r >>= f) ≡ (r >>= g)
bind_same (Ok x) f g h = h x refl
bind_same (Err e) f g h = refl

-- each value, and the end, takes at least one byte
pub record TakesBytes {A : Type 0} (one : Option A → DebugReader (Option A)) : Type 0 where
  pub shorter : (before : Option A) (bytes : List ℕ) (x : Option A) (rest : List ℕ) → one before bytes ≡ Ok (x, rest) → length rest < length bytes
  pub none : (before : Option A) → one before [] ≡ Err Truncated

-- the limit doesn't matter, if it is at least the number of bytes
same_limit : {A : Type 0} (one : Option A → DebugReader (Option A)) → TakesBytes one → (m n : ℕ) (before : Option A) (bytes : List ℕ) → length bytes ≤ m → length bytes ≤ n
    → read_to_end m one before bytes ≡ read_to_end n one before bytes
unfolding read_to_end
same_limit one t zero zero before bytes few less = refl
same_limit one t zero (suc n) before [] few less = rw (t.none before) refl
same_limit one t zero (suc n) before (b ∷ bytes) few less = absurd (omega arith)
same_limit one t (suc m) zero before [] few less = rw (t.none before) refl
same_limit one t (suc m) zero before (b ∷ bytes) few less = absurd (omega arith)
same_limit {A} one t (suc m) (suc n) before bytes few less =
    bind_same (one before bytes) (λ x. in_front_of x.0 x.1 (read_to_end m one x.0 x.1)) (λ x. in_front_of x.0 x.1 (read_to_end n one x.0 x.1))
    (λ x e.
    let k : length x.1 < length bytes = t.shorter before bytes x.0 x.1 e in
    ap (in_front_of x.0 x.1) (same_limit one t m n x.0 x.1 (omega arith) (omega arith)))

-- some values, and then those of these bytes
abbrev pub with_front : {A : Type 0} → List A → Result (List A × List ℕ) DebugFault → Result (List A × List ℕ) DebugFault
with_front xs r = r >>= λ ys. Ok (xs ++ ys.0, ys.1)

-- the first value, or the end
pub read_first : {A : Type 0} (one : Option A → DebugReader (Option A)) → TakesBytes one → (before : Option A) (bytes : List ℕ)
    → up_to_end one before bytes ≡ (one before bytes >>= λ x. in_front_of x.0 x.1 (up_to_end one x.0 x.1))
unfolding read_to_end
read_first one t before [] = rw (t.none before) refl
read_first one t before (b ∷ bytes) =
    bind_same (one before (b ∷ bytes)) (λ x. in_front_of x.0 x.1 (read_to_end (length bytes) one x.0 x.1)) (λ x. in_front_of x.0 x.1 (up_to_end one x.0 x.1))
    (λ x e.
    let k : length x.1 < length (b ∷ bytes) = t.shorter before (b ∷ bytes) x.0 x.1 e in
    ap (in_front_of x.0 x.1) (same_limit one t (length bytes) (length x.1) x.0 x.1 (omega arith) (omega arith)))

pub front_front : {A : Type 0} (xs : List A) (x : A) (r : Result (List A × List ℕ) DebugFault) → with_front xs (r >>= λ ys. Ok (x ∷ ys.0, ys.1)) ≡ with_front (xs ++ x ∷ []) r
front_front xs x (Ok ys) = ap (λ zs. Ok (zs, ys.1)) (sym (append_assoc xs (x ∷ []) ys.0))
front_front xs x (Err e) = refl

-- What is read of all bytes is these values and what is read of the bytes that are left, after this value.
pub record ReadSoFar {A : Type 0} (one : Option A → DebugReader (Option A)) (all : List ℕ) (done : List A) (before : Option A) (rest : List ℕ) : Type 0 where
  pub whole : up_to_end one None all ≡ with_front done (up_to_end one before rest)

pub front_none : {A : Type 0} (r : Result (List A × List ℕ) DebugFault) → r ≡ with_front [] r
front_none (Ok ys) = refl
front_none (Err e) = refl

pub read_none : {A : Type 0} (one : Option A → DebugReader (Option A)) (all : List ℕ) → ReadSoFar one all [] None all
read_none one all = record { whole = front_none (up_to_end one None all) }

module _ {A : Type 0} (one : Option A → DebugReader (Option A)) (t : TakesBytes one) (all : List ℕ) (done : List A) (before : Option A) (rest : List ℕ) (s : ReadSoFar one all done before rest) where
  pub read_one_more : (x : A) (after : List ℕ) → one before rest ≡ Ok (Some x, after) → ReadSoFar one all (done ++ x ∷ []) (Some x) after
  read_one_more x after e = record {
    whole = s.whole ∙ (ap (with_front done) (read_first one t before rest ∙ rw e refl) ∙ front_front done x (up_to_end one (Some x) after));
  }

  pub read_ended : (after : List ℕ) → one before rest ≡ Ok (None, after) → up_to_end one None all ≡ Ok (done ++ [], after)
  read_ended after e =
      let first : (one before rest >>= λ x. in_front_of x.0 x.1 (up_to_end one x.0 x.1)) ≡ Ok ([], after) = rw e refl in
      s.whole ∙ ap (with_front done) (read_first one t before rest ∙ first)

  pub read_refused : (fault : DebugFault) → one before rest ≡ Err fault → up_to_end one None all ≡ Err fault
  read_refused fault e =
      let first : (one before rest >>= λ x. in_front_of x.0 x.1 (up_to_end one x.0 x.1)) ≡ Err fault = rw e refl in
      s.whole ∙ ap (with_front done) (read_first one t before rest ∙ first)
