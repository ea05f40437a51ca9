-- Reading a number, a byte or bits agrees with their encodings.
use Rattle.std.proofs.Common.{◌≡◌, ℕ, ◌-◌, ◌<◌, ◌≤◌, cond, ltb, leb, List, [], ◌∷◌, ◌++◌, Option, Some, None, Result, Ok, Err, refl, ap, subst, inl, inr}
use Rattle.std.proofs.lemmas.Bool.{ltb-true, ltb-false, lt-ltb, le-ltb, leb-false, lt-leb}
use Rattle.wasm_numbers.specs.declared.fault.ReadFault.{ReadFault}
use Rattle.wasm_numbers.specs.declared.fault.ReadFault.TheVariants.{BadNumber}
use Rattle.wasm_numbers.specs.Results.{◌>>=◌}
use Rattle.wasm_numbers.specs.Numbers.{Encoding, IsInteger, last_byte, integer, IsByte, byte, as_bits, AreBits, bits}
use Rattle.wasm_numbers.proofs.Agreement.{IsBytes, IsBytes-rest, ok_is, chosen, Takes, Agrees, agrees_made, agrees_many, IsNeverEmpty}
use Rattle.wasm_numbers.proofs.ResultLemmas.{bind_ok}

last_ok : {V : Type 0} (o : Option V) (bs : List ℕ) (v : V) (rest : List ℕ) → last_byte o bs ≡ Ok (v, rest) → (o ≡ Some v) × (bs ≡ rest)
last_ok None bs v rest e = absurd cc
last_ok {V} (Some x) bs v rest e =
    let both = ok_is (x, bs) (v, rest) e in
    (ap (λ (p : V × List ℕ). Some p.0) both, ap (λ (p : V × List ℕ). p.1) both)

pub longer : {V : Type 0} (g : Encoding V) (w b : ℕ) (high : V) (text : List ℕ) → 128 ≤ b → b < 256 → 7 < w → IsInteger g (w - 7) high text → IsInteger g w (g.more (b - 128) high) (b ∷ text)
longer g w b high [] low fits wide h = absurd h
longer g w b high (c ∷ bs) low fits wide h = (low, fits, wide, high, refl, h)

integer_takes : {V : Type 0} (g : Encoding V) (w : ℕ) (bytes : List ℕ) (v : V) (rest : List ℕ) → IsBytes bytes → integer g w bytes ≡ Ok (v, rest) → Takes (IsInteger g w) bytes v rest
unfolding integer
integer_takes g w [] v rest fits e = absurd cc
integer_takes {V} g w (b ∷ bs) v rest fits e =
    let more : Result (V × List ℕ) ReadFault = integer g (w - 7) bs >>= λ high. Ok (g.more (b - 128) high.0, high.1) in
    elim (chosen (ltb b 128) (last_byte (g.last w b) bs) (cond (leb w 7) (Err BadNumber) more) (Ok (v, rest)) e) [
      | inl p ↦
          let q = last_ok (g.last w b) bs v rest p.1 in
          record { text = b ∷ []; parts = ap (λ (x : List ℕ). b ∷ x) q.1; spelt = (ltb-true b 128 p.0, q.0); rest_fits = subst IsBytes q.1 (IsBytes-rest b bs fits) }
      | inr p ↦
          elim (chosen (leb w 7) (Err BadNumber) more (Ok (v, rest)) p.1) [
            | inl q ↦ absurd (let h = q.1 in cc)
            | inr q ↦
                let a = bind_ok (integer g (w - 7) bs) (λ high. Ok (g.more (b - 128) high.0, high.1)) (v, rest) q.1 in
                let both = ok_is (g.more (b - 128) a.0.0, a.0.1) (v, rest) a.2 in
                let t = integer_takes g (w - 7) bs a.0.0 a.0.1 (IsBytes-rest b bs fits) a.1 in
                let spelt = longer g w b a.0.0 t.text (ltb-false b 128 p.0) (fits 0) (leb-false w 7 q.0) t.spelt in
                let one : Takes (IsInteger g w) (b ∷ bs) (g.more (b - 128) a.0.0) a.0.1 = record { text = b ∷ t.text; parts = ap (λ (x : List ℕ). b ∷ x) t.parts; spelt = spelt; rest_fits = t.rest_fits } in
                subst (λ (x : V × List ℕ). Takes (IsInteger g w) (b ∷ bs) x.0 x.1) both one
          ]
    ]

integer_again : {V : Type 0} (g : Encoding V) (w : ℕ) (v : V) (text rest : List ℕ) → IsInteger g w v text → integer g w (text ++ rest) ≡ Ok (v, rest)
unfolding integer
integer_again g w v [] rest h = absurd h
integer_again g w v (b ∷ []) rest h = rw (lt-ltb b 128 h.0, h.1) refl
integer_again g w v (b ∷ c ∷ bs) rest h =
    let again = integer_again g (w - 7) h.3 (c ∷ bs) rest h.5 in
    rw (le-ltb b 128 h.0, lt-leb w 7 h.2, again, h.4) refl

pub integers_agree : {V : Type 0} (g : Encoding V) (w : ℕ) → Agrees (IsInteger g w) (integer g w)
integers_agree g w = record { takes = integer_takes g w; again = integer_again g w }

byte_takes : (bytes : List ℕ) (b : ℕ) (rest : List ℕ) → IsBytes bytes → byte bytes ≡ Ok (b, rest) → Takes IsByte bytes b rest
byte_takes [] b rest fits e = absurd cc
byte_takes (a ∷ bytes) b rest fits e =
    let one : Takes IsByte (a ∷ bytes) a bytes = record { text = a ∷ []; parts = refl; spelt = (fits 0, refl {a = a ∷ []}); rest_fits = IsBytes-rest a bytes fits } in
    subst (λ (p : ℕ × List ℕ). Takes IsByte (a ∷ bytes) p.0 p.1) (ok_is (a, bytes) (b, rest) e) one

pub bytes_agree : Agrees IsByte byte
bytes_agree = record { takes = byte_takes; again = λ b text rest h. ap (λ (t : List ℕ). byte (t ++ rest)) h.1 }

pub bits_agree : (count : ℕ) → Agrees (AreBits count) (bits count)
bits_agree count = agrees_made _ _ as_bits (agrees_many _ _ bytes_agree count)

pub integer_some : {V : Type 0} (g : Encoding V) (w : ℕ) → IsNeverEmpty (IsInteger g w)
integer_some g w = record { none = λ v h. h }

pub byte_some : IsNeverEmpty IsByte
byte_some = record { none = λ v h. let e = h.1 in cc }
