-- Readers that read the bytes that they take as the same value, whatever follows these.
use Rattle.std.proofs.Common.{◌≡◌, ℕ, zero, suc, ◌-◌, ◌<◌, ◌≤◌, Bool, true, false, cond, ltb, leb, List, [], ◌∷◌, ◌++◌, length, take, drop, Option, Some, None, Result, Ok, Err, refl, sym, ap, subst, ◌∙◌, append_assoc, arith, inl, inr, length-append}
use Rattle.std.proofs.Math.Seq.{take-append_seam, drop-append_seam}
use Rattle.std.proofs.lemmas.Bool.{le-leb, leb-true}
use Rattle.std.proofs.lemmas.List.{take-append-drop, length-take}
use Rattle.wasm_numbers.proofs.Agreement.{chosen}
use Rattle.wasm_numbers.proofs.ResultLemmas.{bind_ok, with_fault_ok, ok_same}
use Rattle.wasm_numbers.specs.Numbers.{Encoding, integer, last_byte, byte, as_bits, bits, u64, s64, unsigned, signed}
use Rattle.wasm_numbers.specs.Reading.{many}
use Rattle.wasm_numbers.specs.Results.{◌>>=◌, with_fault}
use Rattle.wasm_numbers.specs.declared.fault.ReadFault.{ReadFault}
use Rattle.wasm_numbers.specs.declared.fault.ReadFault.TheVariants.{BadNumber}
use Rattle.dwarf_bytes.specs.declared.fault.DebugFault.{DebugFault}
use Rattle.dwarf_bytes.specs.declared.fault.DebugFault.TheVariants.{BadLength}
use Rattle.dwarf_bytes.specs.Faults.{debug_fault_of}
use Rattle.dwarf_bytes.specs.Numbers.{fixed_number, unsigned_leb, signed_leb, part_and_rest as parts}

-- The bytes begin with a text that is read as this value, whatever follows it.
pub record Takes {A E : Type 0} (one : List ℕ → Result (A × List ℕ) E) (bytes : List ℕ) (x : A) (rest : List ℕ) : Type 0 where
  pub text : List ℕ
  pub split : bytes ≡ text ++ rest
  pub again : (following : List ℕ) → one (text ++ following) ≡ Ok (x, following)

pub record IsLocal {A E : Type 0} (one : List ℕ → Result (A × List ℕ) E) : Type 0 where
  pub takes : (bytes : List ℕ) (x : A) (rest : List ℕ) → one bytes ≡ Ok (x, rest) → Takes one bytes x rest

-- the same of an equal result
takes_as : {A E : Type 0} (one : List ℕ → Result (A × List ℕ) E) (bytes : List ℕ) (x y : A) (r s : List ℕ) → (let p : A × List ℕ = (x, r) in p) ≡ (y, s)
    → Takes one bytes x r → Takes one bytes y s
takes_as {A} {E} one bytes x y r s e t = subst (λ (p : A × List ℕ). Takes one bytes p.0 p.1) {x = (x, r)} e t

-- ---- one after the other

pub then_local : {A B E : Type 0} (one : List ℕ → Result (A × List ℕ) E) (f : A → List ℕ → Result (B × List ℕ) E) → IsLocal one → ((a : A) → IsLocal (f a)) → IsLocal (λ bytes. one bytes >>= λ x. f x.0 x.1)
then_local one f first second = record {
  takes = λ bytes y rest e.
      let x = bind_ok (one bytes) (λ x. f x.0 x.1) (y, rest) e in
      let p = first.takes bytes x.0.0 x.0.1 x.1 in
      let q = (second x.0.0).takes x.0.1 y rest x.2 in
      record {
        text = p.text ++ q.text;
        split = p.split ∙ ap (λ (t : List ℕ). p.text ++ t) q.split ∙ sym (append_assoc p.text q.text rest);
        again = λ following. rw (append_assoc p.text q.text following, p.again (q.text ++ following)) (q.again following);
      };
}

pub just_local : {A E : Type 0} (v : A) → IsLocal {E = E} (λ bytes. Ok (v, bytes))
just_local {A} {E} v = record {
  takes = λ bytes x rest e.
      takes_as (λ bytes. Ok (v, bytes)) bytes v x bytes rest (ok_same {E = E} (v, bytes) (x, rest) e)
      (record { text = []; split = refl; again = λ following. refl });
}

pub fail_local : {A E : Type 0} (d : E) → IsLocal {A = A} (λ bytes. Err d)
fail_local d = record { takes = λ bytes x rest e. absurd cc }

pub cond_local : {A E : Type 0} (b : Bool) (one other : List ℕ → Result (A × List ℕ) E) → IsLocal one → IsLocal other → IsLocal (λ bytes. cond b (one bytes) (other bytes))
cond_local true one other p q = p
cond_local false one other p q = q

-- a value that doesn't depend on the bytes, or a fault
pub kept_local : {A E : Type 0} (r : Result A E) → IsLocal (λ bytes. r >>= λ v. Ok (v, bytes))
kept_local (Ok v) = just_local v
kept_local (Err d) = fail_local d

pub with_fault_local : {A E F : Type 0} (g : E → F) (one : List ℕ → Result (A × List ℕ) E) → IsLocal one → IsLocal (λ bytes. with_fault g (one bytes))
with_fault_local g one h = record {
  takes = λ bytes x rest e.
      let p = h.takes bytes x rest (with_fault_ok g (one bytes) (x, rest) e) in
      record { text = p.text; split = p.split; again = λ following. ap (with_fault g) (p.again following) };
}

-- ---- numbers

byte_local : IsLocal byte
byte_local = record { takes = byte_takes } where
  byte_takes : (bytes : List ℕ) (x : ℕ) (rest : List ℕ) → byte bytes ≡ Ok (x, rest) → Takes byte bytes x rest
  byte_takes [] x rest e = absurd cc
  byte_takes (b ∷ bytes) x rest e =
      takes_as byte (b ∷ bytes) b x bytes rest (ok_same {E = ReadFault} (b, bytes) (x, rest) e)
      (record { text = b ∷ []; split = refl; again = λ following. refl })

many_local : {A : Type 0} (one : List ℕ → Result (A × List ℕ) ReadFault) (n : ℕ) → IsLocal one → IsLocal (many one n)
unfolding many
many_local one zero h = just_local []
many_local one (suc n) h =
    then_local one (λ a bytes. many one n bytes >>= λ others. Ok (a ∷ others.0, others.1)) h
    (λ a. then_local (many one n) (λ others bytes. Ok (a ∷ others, bytes)) (many_local one n h) (λ others. just_local (a ∷ others)))

bits_local : (count : ℕ) → IsLocal (bits count)
bits_local count =
    then_local (many byte count) (λ bs bytes. as_bits bs >>= λ v. Ok (v, bytes)) (many_local byte count byte_local) (λ bs. kept_local (as_bits bs))

last_local : {V : Type 0} (o : Option V) → IsLocal (last_byte o)
last_local None = fail_local BadNumber
last_local (Some v) = just_local v

-- the bytes of a number
integer_takes : {V : Type 0} (e : Encoding V) (bits : ℕ) (bytes : List ℕ) (x : V) (rest : List ℕ) → integer e bits bytes ≡ Ok (x, rest) → Takes (integer e bits) bytes x rest
unfolding integer
integer_takes e bits [] x rest h = absurd cc
integer_takes {V} e bits (b ∷ bytes) x rest h =
    let more : Result (V × List ℕ) ReadFault = integer e (bits - 7) bytes >>= λ high. Ok (e.more (b - 128) high.0, high.1) in
    elim (chosen (ltb b 128) (last_byte (e.last bits b) bytes) (cond (leb bits 7) (Err BadNumber) more) (Ok (x, rest)) h) [
      | inl p ↦
          let q = (last_local (e.last bits b)).takes bytes x rest p.1 in
          record { text = b ∷ q.text; split = ap (λ (t : List ℕ). b ∷ t) q.split; again = λ following. rw p.0 (q.again following) }
      | inr p ↦
          elim (chosen (leb bits 7) (Err BadNumber) more (Ok (x, rest)) p.1) [
            | inl q ↦ absurd (let k = q.1 in cc)
            | inr q ↦
                let a = bind_ok (integer e (bits - 7) bytes) (λ high. Ok (e.more (b - 128) high.0, high.1)) (x, rest) q.1 in
                let both = ok_same {E = ReadFault} (e.more (b - 128) a.0.0, a.0.1) (x, rest) a.2 in
                let t = integer_takes e (bits - 7) bytes a.0.0 a.0.1 a.1 in
                takes_as (integer e bits) (b ∷ bytes) (e.more (b - 128) a.0.0) x a.0.1 rest both
                (record { text = b ∷ t.text; split = ap (λ (z : List ℕ). b ∷ z) t.split; again = λ following. rw (p.0, q.0, t.again following) refl })
          ]
    ]

integer_local : {V : Type 0} (e : Encoding V) (bits : ℕ) → IsLocal (integer e bits)
integer_local e bits = record { takes = integer_takes e bits }

-- ---- numbers of DWARF

pub fixed_local : (count : ℕ) → IsLocal (fixed_number count)
fixed_local count = with_fault_local debug_fault_of (bits count) (bits_local count)

pub unsigned_local : IsLocal unsigned_leb
unsigned_local = with_fault_local debug_fault_of u64 (integer_local unsigned 64)

pub signed_local : IsLocal signed_leb
signed_local = with_fault_local debug_fault_of s64 (integer_local signed 64)

-- ---- parts

-- a part with what follows it
pub parts_again : (text following : List ℕ) → parts (length text) (text ++ following) ≡ Ok (text, following)
parts_again text following =
    let fits : length text ≤ length (text ++ following) = omega (arith, length-append text following) in
    rw (le-leb (length text) (length (text ++ following)) fits, take-append_seam text following, drop-append_seam text following) refl

pub parts_local : (count : ℕ) → IsLocal (parts count)
parts_local count = record { takes = parts_takes } where
  parts_takes : (bytes : List ℕ) (x rest : List ℕ) → parts count bytes ≡ Ok (x, rest) → Takes (parts count) bytes x rest
  parts_takes bytes x rest e =
      elim (chosen (leb count (length bytes)) (Ok (take count bytes, drop count bytes)) (Err BadLength) (Ok (x, rest)) e) [
        | inl p ↦
            let fits : count ≤ length bytes = leb-true count (length bytes) p.0 in
            let size : length (take count bytes) ≡ count = omega (arith, length-take count bytes) in
            takes_as (parts count) bytes (take count bytes) x (drop count bytes) rest (ok_same {E = DebugFault} (take count bytes, drop count bytes) (x, rest) p.1)
            (record {
              text = take count bytes;
              split = sym (take-append-drop count bytes);
              again = λ following. subst (λ n. parts n (take count bytes ++ following) ≡ Ok (take count bytes, following)) size (parts_again (take count bytes) following);
            })
        | inr p ↦ absurd (let h = p.1 in cc)
      ]

-- ---- how many bytes are left

pub shorter_by : (text rest : List ℕ) (bytes : List ℕ) → (text ≡ [] → ⊥) → bytes ≡ text ++ rest → length rest < length bytes
shorter_by [] rest bytes some split = absurd (some refl)
shorter_by (b ∷ text) rest bytes some split = omega (arith, ap length split, length-append text rest)

-- what takes a value takes at least one byte, if there is none in no bytes
pub shorter : {A E : Type 0} (one : List ℕ → Result (A × List ℕ) E) (d : E) → IsLocal one → one [] ≡ Err d
    → (bytes : List ℕ) (x : A) (rest : List ℕ) → one bytes ≡ Ok (x, rest) → length rest < length bytes
shorter one d h none bytes x rest e =
    let t = h.takes bytes x rest e in
    shorter_by t.text rest bytes (λ empty. absurd (let again : one (t.text ++ []) ≡ Ok (x, []) = t.again [] in let same : t.text ++ [] ≡ [] = ap (λ (z : List ℕ). z ++ []) empty in cc)) t.split
