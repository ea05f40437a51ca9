-- How many bytes are left after a value.
use Rattle.std.proofs.Common.{◌≡◌, ℕ, zero, suc, ◌<◌, ◌≤◌, Bool, true, false, cond, List, [], ◌∷◌, length, Option, Some, None, Result, Ok, Err, refl, ap, arith}
use Rattle.wasm_numbers.specs.Numbers.{integer}
use Rattle.wasm_numbers.specs.Reading.{many}
use Rattle.wasm_numbers.specs.Results.{◌>>=◌}
use Rattle.wasm_numbers.proofs.ResultLemmas.{bind_ok, ok_same}
use Rattle.dwarf_bytes.specs.declared.fault.DebugFault.{DebugFault}
use Rattle.dwarf_bytes.specs.declared.fault.DebugFault.TheVariants.{Truncated}
use Rattle.dwarf_bytes.specs.Faults.{DebugReader}
use Rattle.dwarf_bytes.specs.Numbers.{fixed_number, unsigned_leb, signed_leb}
use Rattle.dwarf_bytes.proofs.Local.{fixed_local, shorter}
use Rattle.dwarf_bytes.proofs.Shorter.{unsigned_shorter, signed_shorter}
use Rattle.dwarf_info.specs.UpToEnd.{in_front_of, read_to_end}
use Rattle.dwarf_info.proofs.Reading.{TakesBytes}

-- no more than before
pub record LeavesNoMore {A : Type 0} (one : DebugReader A) : Type 0 where
  pub at : (bytes : List ℕ) (x : A) (rest : List ℕ) → one bytes ≡ Ok (x, rest) → length rest ≤ length bytes

-- fewer than before
pub record LeavesLess {A : Type 0} (one : DebugReader A) : Type 0 where
  pub at : (bytes : List ℕ) (x : A) (rest : List ℕ) → one bytes ≡ Ok (x, rest) → length rest < length bytes

pub less_no_more : {A : Type 0} (one : DebugReader A) → LeavesLess one → LeavesNoMore one
less_no_more one h = record { at = λ bytes x rest e. let k = h.at bytes x rest e in omega arith }

pub then_no_more : {A B : Type 0} (one : DebugReader A) (f : A → DebugReader B) → LeavesNoMore one → ((a : A) → LeavesNoMore (f a)) → LeavesNoMore (λ bytes. one bytes >>= λ x. f x.0 x.1)
then_no_more one f p q = record {
  at = λ bytes y rest e.
      let x = bind_ok (one bytes) (λ x. f x.0 x.1) (y, rest) e in
      let a = p.at bytes x.0.0 x.0.1 x.1 in
      let b = (q x.0.0).at x.0.1 y rest x.2 in
      omega arith;
}

pub then_less : {A B : Type 0} (one : DebugReader A) (f : A → DebugReader B) → LeavesLess one → ((a : A) → LeavesNoMore (f a)) → LeavesLess (λ bytes. one bytes >>= λ x. f x.0 x.1)
then_less one f p q = record {
  at = λ bytes y rest e.
      let x = bind_ok (one bytes) (λ x. f x.0 x.1) (y, rest) e in
      let a = p.at bytes x.0.0 x.0.1 x.1 in
      let b = (q x.0.0).at x.0.1 y rest x.2 in
      omega arith;
}

pub just_no_more : {A : Type 0} (v : A) → LeavesNoMore (λ bytes. Ok (v, bytes))
just_no_more {A} v = record {
  at = λ bytes x rest e.
      let same = ok_same {E = DebugFault} (v, bytes) (x, rest) e in
      let left : bytes ≡ rest = ap (λ (z : A × List ℕ). z.1) {x = (v, bytes)} same in
      omega (arith, ap length left);
}

pub fail_no_more : {A : Type 0} (d : DebugFault) → LeavesNoMore {A = A} (λ bytes. Err d)
fail_no_more d = record { at = λ bytes x rest e. absurd cc }

pub cond_no_more : {A : Type 0} (b : Bool) (one other : DebugReader A) → LeavesNoMore one → LeavesNoMore other → LeavesNoMore (λ bytes. cond b (one bytes) (other bytes))
cond_no_more true one other p q = p
cond_no_more false one other p q = q

-- what a result that takes no bytes decides
pub given_no_more : {A B : Type 0} (r : Result B DebugFault) (f : B → DebugReader A) → ((b : B) → LeavesNoMore (f b)) → LeavesNoMore (λ bytes. r >>= λ b. f b bytes)
given_no_more (Ok b) f h = h b
given_no_more (Err d) f h = fail_no_more d

-- ---- numbers

pub unsigned_less : LeavesLess unsigned_leb
unsigned_less = record { at = unsigned_shorter }

pub signed_less : LeavesLess signed_leb
signed_less = record { at = signed_shorter }

none_of_byte : fixed_number 1 [] ≡ Err Truncated
unfolding many
none_of_byte = refl

pub byte_less : LeavesLess (fixed_number 1)
byte_less = record { at = shorter (fixed_number 1) Truncated (fixed_local 1) none_of_byte }

pub none_unsigned : unsigned_leb [] ≡ Err Truncated
unfolding integer
none_unsigned = refl

-- ---- values up to what ends them

front_less : {A : Type 0} (o : Option A) (following : List ℕ) (r : Result (List A × List ℕ) DebugFault) (xs : List A) (rest : List ℕ)
    → ((ys : List A) (last : List ℕ) → r ≡ Ok (ys, last) → length last ≤ length following) → in_front_of o following r ≡ Ok (xs, rest) → length rest ≤ length following
front_less {A} None following r xs rest h e =
    let same = ok_same {E = DebugFault} ([], following) (xs, rest) e in
    let left : following ≡ rest = ap (λ (z : List A × List ℕ). z.1) {x = ([], following)} same in
    omega (arith, ap length left)
front_less {A} (Some x) following r xs rest h e =
    let ys = bind_ok r (λ ys. Ok (x ∷ ys.0, ys.1)) (xs, rest) e in
    let less = h ys.0.0 ys.0.1 ys.1 in
    let same = ok_same {E = DebugFault} (x ∷ ys.0.0, ys.0.1) (xs, rest) ys.2 in
    let left : ys.0.1 ≡ rest = ap (λ (z : List A × List ℕ). z.1) {x = (x ∷ ys.0.0, ys.0.1)} same in
    omega (arith, ap length left)

pub to_end_less : {A : Type 0} (one : Option A → DebugReader (Option A)) → TakesBytes one → (most : ℕ) (before : Option A) (bytes : List ℕ) (xs : List A) (rest : List ℕ)
    → read_to_end most one before bytes ≡ Ok (xs, rest) → length rest < length bytes
unfolding read_to_end
to_end_less one t zero before bytes xs rest e = absurd cc
to_end_less one t (suc most) before bytes xs rest e =
    let x = bind_ok (one before bytes) (λ x. in_front_of x.0 x.1 (read_to_end most one x.0 x.1)) (xs, rest) e in
    let first = t.shorter before bytes x.0.0 x.0.1 x.1 in
    let others = front_less x.0.0 x.0.1 (read_to_end most one x.0.0 x.0.1) xs rest
    (λ ys last g. let k = to_end_less one t most x.0.0 x.0.1 ys last g in omega arith) x.2 in
    omega arith
