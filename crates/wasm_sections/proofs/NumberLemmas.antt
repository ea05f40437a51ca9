-- Reading a number takes at least one byte from the front, and reads the same number whatever follows.
use Rattle.std.proofs.Common.{◌≡◌, ℕ, ◌-◌, ◌<◌, cond, ltb, leb, Bool, List, [], ◌∷◌, ◌++◌, length, take, length-append, Option, Some, None, Result, Ok, Err, sym, ap, ◌∙◌, arith, inl, inr}
use Rattle.std.proofs.Math.Seq.{take-append_seam}
use Rattle.std.specs.Prelude.{◌^◌}
use Rattle.wasm_numbers.specs.Results.{◌>>=◌}
use Rattle.wasm_numbers.proofs.ResultLemmas.{bind_ok}
use Rattle.wasm_numbers.specs.declared.fault.ReadFault.{ReadFault}
use Rattle.wasm_numbers.specs.declared.fault.ReadFault.TheVariants.{BadNumber}
use Rattle.wasm_numbers.specs.Numbers.{Encoding, last_byte, integer, u32, unsigned}
use Rattle.wasm_numbers.proofs.Agreement.{ok_is, chosen}
use Rattle.wasm_numbers.proofs.NumberLaws.{integers_agree}
use Rattle.wasm_operators.specs.Shortest.{short_number}
use Rattle.wasm_operators.proofs.ShortestNumbers.{unsigned_spelt}

last_rest : {V : Type 0} (o : Option V) (bs : List ℕ) (v : V) (rest : List ℕ) → last_byte o bs ≡ Ok (v, rest) → bs ≡ rest
last_rest None bs v rest e = absurd cc
last_rest {V} (Some x) bs v rest e = ap (λ (p : V × List ℕ). p.1) (ok_is (x, bs) (v, rest) e)

-- the bytes are at least one byte, and then these
pub record HasFront (bytes rest : List ℕ) : Type 0 where
  pub front : List ℕ
  pub is_some : 0 < length front
  pub parts : bytes ≡ front ++ rest

pub number_takes : {V : Type 0} (g : Encoding V) (w : ℕ) (bytes : List ℕ) (v : V) (rest : List ℕ) → integer g w bytes ≡ Ok (v, rest) → HasFront bytes rest
unfolding integer
number_takes g w [] v rest e = absurd cc
number_takes {V} g w (b ∷ bs) v rest e =
    let more : Result (V × List ℕ) ReadFault = integer g (w - 7) bs >>= λ high. Ok (g.more (b - 128) high.0, high.1) in
    elim (chosen (ltb b 128) (last_byte (g.last w b) bs) (cond (leb w 7) (Err BadNumber) more) (Ok (v, rest)) e) [
      | inl p ↦ record { front = b ∷ []; is_some = omega arith; parts = ap (λ (x : List ℕ). b ∷ x) (last_rest (g.last w b) bs v rest p.1) }
      | inr p ↦
          elim (chosen (leb w 7) (Err BadNumber) more (Ok (v, rest)) p.1) [
            | inl q ↦ absurd (let h = q.1 in cc)
            | inr q ↦
                let a = bind_ok (integer g (w - 7) bs) (λ high. Ok (g.more (b - 128) high.0, high.1)) (v, rest) q.1 in
                let same : a.0.1 ≡ rest = ap (λ (x : V × List ℕ). x.1) (ok_is (g.more (b - 128) a.0.0, a.0.1) (v, rest) a.2) in
                let t = number_takes g (w - 7) bs a.0.0 a.0.1 a.1 in
                record { front = b ∷ t.front; is_some = omega arith; parts = ap (λ (x : List ℕ). b ∷ x) t.parts ∙ ap (λ (x : List ℕ). (b ∷ t.front) ++ x) same }
          ]
    ]

pub is_shorter : (bytes rest : List ℕ) → HasFront bytes rest → length rest < length bytes
is_shorter bytes rest h = let all = ap length h.parts ∙ length-append h.front rest in let some = h.is_some in omega arith

-- the bytes before the last bytes of a list
pub before_last : (bytes front last : List ℕ) → bytes ≡ front ++ last → take (length bytes - length last) bytes ++ last ≡ bytes
before_last bytes front last e =
    let len : length bytes - length last ≡ length front = let all = ap length e ∙ length-append front last in omega arith in
    let is_front : take (length bytes - length last) bytes ≡ front =
    ap (λ (n : ℕ). take n bytes) len ∙ ap (λ (l : List ℕ). take (length front) l) e ∙ take-append_seam front last in
    ap (λ (l : List ℕ). l ++ last) is_front ∙ sym e

-- ---- whatever follows

-- The bytes are an encoding of this value, which is read whatever follows, and then these.
pub record HasEncoding {V : Type 0} (g : Encoding V) (w : ℕ) (bytes : List ℕ) (v : V) (rest : List ℕ) : Type 0 where
  pub front : List ℕ
  pub parts : bytes ≡ front ++ rest
  pub again : (other : List ℕ) → integer g w (front ++ other) ≡ Ok (v, other)

last_again : {V : Type 0} (o : Option V) (bs : List ℕ) (v : V) (rest : List ℕ) → last_byte o bs ≡ Ok (v, rest) → (other : List ℕ) → last_byte o other ≡ Ok (v, other)
last_again None bs v rest e other = absurd cc
last_again {V} (Some x) bs v rest e other = ap (λ (p : V × List ℕ). Ok (p.0, other)) (ok_is (x, bs) (v, rest) e)

pub number_again : {V : Type 0} (g : Encoding V) (w : ℕ) (bytes : List ℕ) (v : V) (rest : List ℕ) → integer g w bytes ≡ Ok (v, rest) → HasEncoding g w bytes v rest
unfolding integer
number_again g w [] v rest e = absurd cc
number_again {V} g w (b ∷ bs) v rest e =
    let after : List ℕ → Result (V × List ℕ) ReadFault = λ l. integer g (w - 7) l >>= λ high. Ok (g.more (b - 128) high.0, high.1) in
    let more : List ℕ → Result (V × List ℕ) ReadFault = λ l. cond (leb w 7) (Err BadNumber) (after l) in
    elim (chosen (ltb b 128) (last_byte (g.last w b) bs) (more bs) (Ok (v, rest)) e) [
      | inl p ↦ record {
        front = b ∷ [];
        parts = ap (λ (x : List ℕ). b ∷ x) (last_rest (g.last w b) bs v rest p.1);
        again = λ other.
            ap (λ (c : Bool). cond c (last_byte (g.last w b) other) (more other)) p.0 ∙ last_again (g.last w b) bs v rest p.1 other;
      }
      | inr p ↦
          elim (chosen (leb w 7) (Err BadNumber) (after bs) (Ok (v, rest)) p.1) [
            | inl q ↦ absurd (let h = q.1 in cc)
            | inr q ↦
                let a = bind_ok (integer g (w - 7) bs) (λ high. Ok (g.more (b - 128) high.0, high.1)) (v, rest) q.1 in
                let same = ok_is (g.more (b - 128) a.0.0, a.0.1) (v, rest) a.2 in
                let t = number_again g (w - 7) bs a.0.0 a.0.1 a.1 in
                record {
                  front = b ∷ t.front;
                  parts = ap (λ (x : List ℕ). b ∷ x) t.parts ∙ ap (λ (x : V × List ℕ). (b ∷ t.front) ++ x.1) same;
                  again = λ other.
                      ap (λ (c : Bool). cond c (last_byte (g.last w b) (t.front ++ other)) (more (t.front ++ other))) p.0
                      ∙ ap (λ (c : Bool). cond c (Err BadNumber) (after (t.front ++ other))) q.0
                      ∙ ap (λ (r : Result (V × List ℕ) ReadFault). r >>= λ high. Ok (g.more (b - 128) high.0, high.1)) (t.again other)
                      ∙ ap (λ (x : V × List ℕ). Ok (x.0, other)) same;
                }
          ]
    ]

-- the shortest encoding of a number is read
pub short_read : (n : ℕ) (following : List ℕ) → n < 2 ^ 32 → u32 (short_number n ++ following) ≡ Ok (n, following)
short_read n following h = (integers_agree unsigned 32).again n (short_number n) following (unsigned_spelt 9 32 n (omega arith) h)
