-- Operands that are popped.
use Rattle.std.proofs.Common.{◌≡◌, ◌≢◌, ℕ, List, [], ◌∷◌, ◌++◌, length, Bool, true, false, Result, Ok, refl, sym, ap, ◌∙◌, subst, arith, eq-eqb}
use Rattle.std.specs.Prelude.{nat_eq, if◌then◌else◌}
use Rattle.std.proofs.lemmas.Bool.Decides.{nat_tests}
use Rattle.wasm_types.specs.declared.val_type.ValType.{ValType}
use Rattle.wasm_numbers.specs.Results.{◌>>=◌}
use Rattle.wasm_body.specs.Validity.{ControlFrame, demand, fitting, Checked}
use Rattle.wasm_typing.specs.StandardRules.{standard_rules}
use Rattle.wasm_context.specs.Validation.{BodyContext, typing_in}
use Rattle.wasm_validator.specs.declared.operand.Operand.{Operand}
use Rattle.wasm_validator.specs.declared.fault.Fault.{Fault}
use Rattle.wasm_validator.specs.States.{Known, known_of, operands_onto}
use Rattle.wasm_validator.specs.Steps.{ResultsIn, fits_in, pop_in, pop_each_in}
use Rattle.wasm_validator.proofs.Lists.{onto_last, length_onto}
use Rattle.wasm_validator.proofs.StepResults.{tested, fitting_is}

module _ (b : BodyContext) (f : ControlFrame) (t : ValType ℕ) where
  -- whether anything is above the height
  abbrev by_height : List Known → Bool → Checked (List Known)
  by_height xs test = if test then (demand f.unreachable >>= λ u. Ok xs) else fitting (typing_in b) (standard_rules b.operands) t xs

  pub at_height : (items : List Operand) (r : Result (Unit {0}) Fault) → length items ≡ f.height → ResultsIn (demand f.unreachable) r tt
      → ResultsIn (pop_in b f t (operands_onto items [])) r (operands_onto items [])
  at_height items r h d =
      let xs = operands_onto items [] in
      let long = length_onto items [] in
      let is : length xs ≡ f.height = omega arith in
      subst (λ test. ResultsIn (by_height xs test) r xs) (sym (eq-eqb (length xs) f.height is)) (tested (demand f.unreachable) xs r d)

  pub over_height : (items left : List Operand) (x : Operand) (r : Result (Unit {0}) Fault) → length items ≢ f.height → items ≡ left ++ x ∷ []
      → ResultsIn (fits_in b (known_of x) t) r tt → ResultsIn (pop_in b f t (operands_onto items [])) r (operands_onto left [])
  over_height items left x r h was d =
      let xs = operands_onto items [] in
      let ys = operands_onto left [] in
      let long = length_onto items [] in
      let e : xs ≡ known_of x ∷ ys = ap (λ l. operands_onto l []) was ∙ onto_last left x [] in
      let isnt : nat_eq (length xs) f.height ≡ false = grind (arith, nat_tests) in
      subst (λ test. ResultsIn (by_height xs test) r ys) (sym isnt)
      (subst (λ zs. ResultsIn (fitting (typing_in b) (standard_rules b.operands) t zs) r ys) (sym e)
      (subst (λ a. ResultsIn a r ys) (sym (fitting_is b t (known_of x) ys)) (tested (fits_in b (known_of x) t) ys r d)))

-- Nothing is left above the height of an unreachable frame: there any types can be popped.
pub nothing_left : (b : BodyContext) (f : ControlFrame) (ts : List (ValType ℕ)) (xs : List Known) → f.unreachable ≡ true → length xs ≡ f.height → pop_each_in b f ts xs ≡ Ok xs
nothing_left b f [] xs u h = refl
nothing_left b f (t ∷ ts) xs u h =
    ap (λ test. by_height b f t xs test >>= pop_each_in b f ts) (eq-eqb (length xs) f.height h)
    ∙ ap (λ test. (demand test >>= λ v. Ok xs) >>= pop_each_in b f ts) u
    ∙ nothing_left b f ts xs u h
