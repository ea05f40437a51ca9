-- Operands that are popped, whatever their types.
use Rattle.std.proofs.Common.{◌≡◌, ◌≢◌, ℕ, List, [], ◌∷◌, ◌++◌, length, Bool, true, false, Result, Ok, refl, sym, ap, ◌∙◌, arith, eq-eqb}
use Rattle.std.specs.Prelude.{nat_eq, if◌then◌else◌}
use Rattle.std.proofs.lemmas.Bool.Decides.{nat_tests}
use Rattle.wasm_numbers.specs.Results.{◌>>=◌}
use Rattle.wasm_body.specs.Validity as algorithm
use Rattle.wasm_body.specs.Validity.{ControlFrame, Checked, demand}
use Rattle.wasm_typing.specs.Operands.{Popped}
use Rattle.wasm_validator.specs.declared.operand.Operand.{Operand}
use Rattle.wasm_validator.specs.States.{Known, known_of, operands_onto}
use Rattle.wasm_validator.specs.Popped.{popped, topmost, any_in}
use Rattle.wasm_validator.proofs.Lists.{onto_last, length_onto}

abbrev pub by_height : ControlFrame → List Known → Bool → Checked Popped
by_height f xs test = if test then (demand f.unreachable >>= λ u. Ok (popped algorithm.Unknown xs)) else topmost xs

-- nothing is above the height, or an operand is
pub any_at : (f : ControlFrame) (items : List Operand) (unreachable : Bool) → length items ≡ f.height → f.unreachable ≡ unreachable
    → any_in f (operands_onto items []) ≡ (demand unreachable >>= λ u. Ok (popped algorithm.Unknown (operands_onto items [])))
any_at f items unreachable h u =
    let xs = operands_onto items [] in
    let long = length_onto items [] in
    let is : length xs ≡ f.height = omega arith in
    ap (by_height f xs) (eq-eqb (length xs) f.height is) ∙ ap (λ b. demand b >>= λ w. Ok (popped algorithm.Unknown xs)) u

pub any_over : (f : ControlFrame) (items left : List Operand) (x : Operand) → length items ≢ f.height → items ≡ left ++ x ∷ []
    → any_in f (operands_onto items []) ≡ Ok (popped (known_of x) (operands_onto left []))
any_over f items left x h was =
    let xs = operands_onto items [] in
    let long = length_onto items [] in
    let e : xs ≡ known_of x ∷ operands_onto left [] = ap (λ l. operands_onto l []) was ∙ onto_last left x [] in
    let isnt : nat_eq (length xs) f.height ≡ false = grind (arith, nat_tests) in
    ap (by_height f xs) isnt ∙ ap topmost e
