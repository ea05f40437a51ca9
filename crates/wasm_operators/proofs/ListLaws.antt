-- Lists of operators that the same bytes encode.
use Rattle.std.proofs.Common.{◌≡◌, ℕ, ◌+◌, ◌<◌, ◌≤◌, List, [], ◌∷◌, ◌++◌, length, refl, sym, ap, subst, ◌∙◌, append_assoc, add-zero, arith, inl, inr}
use Rattle.std.proofs.lemmas.List.{length-append, append_cancel_left, append-nil}
use Rattle.wasm_operators.specs.declared.types.Opcode.{Opcode}
use Rattle.wasm_operators.specs.declared.types.Opcode.TheVariants.{Byte, Prefixed}
use Rattle.wasm_operators.specs.Operations.{RawOperation}
use Rattle.wasm_operators.specs.Opcodes.{IsOpcode}
use Rattle.wasm_operators.specs.Spelling.{Spells}
use Rattle.wasm_operators.specs.OperatorList.{Placed, Lists}
use Rattle.wasm_operators.specs.Laws.{Continues, ListsAgree, OneList}
use Rattle.wasm_numbers.proofs.Agreement.{one_spelling}
use Rattle.wasm_operators.proofs.OperationLaws.{operations_agree}

-- ---- no operator has an empty encoding

opcode_length : (o : Opcode) (text : List ℕ) → IsOpcode o text → 0 < length text
opcode_length (Byte b) text h = omega (arith, ap length h.2)
opcode_length (Prefixed prefix n) text h = omega (arith, ap length h.3)

pub spelt_length : (o : RawOperation) (text : List ℕ) → Spells o text → 0 < length text
spelt_length o text h = omega (arith, opcode_length o.opcode h.first h.opcode, length-append h.first h.others, ap length h.parts)

rest_length : (xs : List Placed) (place : ℕ) (bytes rest : List ℕ) → Lists xs place bytes rest → length rest ≤ length bytes
rest_length [] place bytes rest h = omega (arith, ap length h)
rest_length (x ∷ xs) place bytes rest h = omega (arith, rest_length xs (place + length h.1) h.2 rest h.5, length-append h.1 h.2, ap length h.3)

none_between : (xs : List Placed) (place : ℕ) (rest : List ℕ) → Lists xs place rest rest → xs ≡ []
none_between [] place rest h = refl
none_between (x ∷ xs) place rest h =
    absurd (let some = spelt_length x.spelt h.1 h.4 in let less = rest_length xs (place + length h.1) h.2 rest h.5 in omega (arith, length-append h.1 h.2, ap length h.3))

-- ---- two lists

-- no operator comes before the second list
from_nothing : (ys : List Placed) (place : ℕ) (bytes rest others : List ℕ) → bytes ≡ rest → Lists ys place bytes others → Continues [] ys place bytes rest others
from_nothing ys place bytes rest others same h = record {
  more = ys;
  longer = refl;
  front = [];
  parts = same;
  following = rw add-zero (subst (λ (t : List ℕ). Lists ys place t others) same h);
}

-- the same operator comes before both lists
after_both : (x y : Placed) (xs ys : List Placed) (place : ℕ) (bytes text following rest others : List ℕ) → x ≡ y → bytes ≡ text ++ following → Continues xs ys (place + length text) following rest others
    → Continues (x ∷ xs) (y ∷ ys) place bytes rest others
after_both x y xs ys place bytes text following rest others same parts g =
    let places : place + length text + length g.front ≡ place + length (text ++ g.front) = omega (arith, length-append text g.front) in
    record {
      more = g.more;
      longer = ap (λ (z : Placed). z ∷ ys) (sym same) ∙ ap (λ (zs : List Placed). x ∷ zs) g.longer;
      front = text ++ g.front;
      parts = parts ∙ ap (λ (t : List ℕ). text ++ t) g.parts ∙ sym (append_assoc text g.front rest);
      following = subst (λ (p : ℕ). Lists g.more p rest others) places g.following;
    }

abbrev placed : RawOperation → ℕ → Placed
placed o place = record { spelt = o; place = place }

pub lists_agree : ListsAgree
lists_agree [] ys place bytes rest others h k = inl (from_nothing ys place bytes rest others h k)
lists_agree (x ∷ xs) [] place bytes rest others h k = inr (from_nothing (x ∷ xs) place bytes others rest k h)
lists_agree (x ∷ xs) (y ∷ ys) place bytes rest others h k =
    let both = one_spelling operations_agree x.spelt y.spelt h.1 k.1 h.2 k.2 h.4 k.4 (sym h.3 ∙ k.3) in
    let same : x ≡ y = ap (λ (o : RawOperation). placed o x.place) both.0 ∙ ap (placed y.spelt) (h.0 ∙ sym k.0) in
    let following : k.2 ≡ h.2 = append_cancel_left h.1 k.2 h.2 (ap (λ (t : List ℕ). t ++ k.2) both.1 ∙ sym k.3 ∙ h.3) in
    let moved : Lists ys (place + length h.1) h.2 others =
    subst (λ (t : List ℕ). Lists ys (place + length h.1) t others) following (subst (λ (t : List ℕ). Lists ys (place + length t) k.2 others) (sym both.1) k.5)
    in
    elim (lists_agree xs ys (place + length h.1) h.2 rest others h.5 moved) [
      | inl g ↦ inl (after_both x y xs ys place bytes h.1 h.2 rest others same h.3 g)
      | inr g ↦ inr (after_both y x ys xs place bytes h.1 h.2 others rest (sym same) h.3 g)
    ]

no_more : (xs ys : List Placed) (place : ℕ) (bytes rest : List ℕ) → Continues xs ys place bytes rest rest → ys ≡ xs
no_more xs ys place bytes rest g =
    g.longer ∙ ap (λ (zs : List Placed). xs ++ zs) (none_between g.more (place + length g.front) rest g.following) ∙ append-nil xs

pub one_list : OneList
one_list xs ys place bytes rest h k = elim (lists_agree xs ys place bytes rest rest h k) [
  | inl g ↦ sym (no_more xs ys place bytes rest g)
  | inr g ↦ no_more ys xs place bytes rest g
]
