-- Operands that would be popped, and are not.
use Rattle.std.proofs.Common.{◌≡◌, ◌≢◌, ◌<◌, ◌≤◌, ◌+◌, ◌-◌, get_or, take, ℕ, List, [], ◌∷◌, ◌++◌, length, reverse, Bool, true, false, Ok, Err, refl, sym, ap, ◌∙◌, arith, eq-eqb}
use Rattle.std.specs.Prelude.{nat_eq, if◌then◌else◌}
use Rattle.std.proofs.lemmas.Bool.Decides.{nat_tests}
use Rattle.std.proofs.lemmas.List.{take_more, length-take-le}
use Rattle.wasm_types.specs.declared.val_type.ValType.{ValType}
use Rattle.wasm_types.specs.declared.val_type.ValType.TheVariants.{I32}
use Rattle.wasm_numbers.specs.Results.{◌>>=◌}
use Rattle.wasm_body.specs.Validity as algorithm
use Rattle.wasm_body.specs.Validity.{ControlFrame, Checked, demand, refused}
use Rattle.wasm_typing.specs.StandardRules.{standard_rules}
use Rattle.wasm_context.specs.Validation.{typing_in}
use Rattle.wasm_validator.specs.declared.state.Validator.{Validator}
use Rattle.wasm_validator.specs.declared.operand.Operand.{Operand}
use Rattle.wasm_validator.specs.States.{Known, known_of, operands_onto}
use Rattle.wasm_validator.specs.Steps.{setting_of, inner_of, fits_in, pop_all_in}
use Rattle.wasm_validator.specs.Core.{holds_from}
use Rattle.wasm_validator.proofs.StepResults.{fitting_is}
use Rattle.wasm_validator.proofs.Branches.{last_first}
use Rattle.wasm_validator.proofs.Lists.{onto_last, length_onto}
use Rattle.wasm_validator.proofs.Popping.{nothing_left}

module _ (v : Validator) (ts : List (ValType ℕ)) (t : ValType ℕ) where
  abbrev by_height : List Known → Bool → Checked (List Known)
  by_height xs test = if test then (demand v.inner.unreachable >>= λ u. Ok xs) else algorithm.fitting (typing_in (setting_of v)) (standard_rules (setting_of v).operands) t xs

  abbrev rest : Checked (List Known) → Checked (Unit {0})
  rest a = (a >>= pop_all_in (setting_of v) (inner_of v) ts) >>= λ xs. Ok tt

  abbrev left_with : List Known → Checked (Unit {0}) → Checked (Unit {0})
  left_with ys a = a >>= λ u. holds_from v ys ts

  abbrev fitted : List Known → Checked (Unit {0}) → Checked (List Known)
  fitted ys a = a >>= λ u. Ok ys

  by_fit : (ys : List Known) (a : Checked (Unit {0})) → rest (fitted ys a) ≡ left_with ys a
  by_fit ys (Ok u) = refl
  by_fit ys (Err e) = refl

  pub holds_last : (x : Known) (ys : List Known) → length (x ∷ ys) ≢ v.inner.height → holds_from v (x ∷ ys) (ts ++ t ∷ []) ≡ left_with ys (fits_in (setting_of v) x t)
  holds_last x ys h =
      let isnt : nat_eq (length (x ∷ ys)) v.inner.height ≡ false = grind (arith, nat_tests) in
      ap (λ a. a >>= λ xs. Ok tt) (last_first (setting_of v) (inner_of v) ts t (x ∷ ys))
      ∙ ap (λ test. rest (by_height (x ∷ ys) test)) isnt
      ∙ ap rest (fitting_is (setting_of v) t x ys)
      ∙ by_fit ys (fits_in (setting_of v) x t)

  by_unreachable : (xs : List Known) (test : Bool) → v.inner.unreachable ≡ test → length xs ≡ v.inner.height → rest (demand test >>= λ u. Ok xs) ≡ demand test
  by_unreachable xs false u h = refl
  by_unreachable xs true u h = ap (λ a. a >>= λ xs. Ok tt) (nothing_left (setting_of v) (inner_of v) (reverse ts) xs u h)

  pub holds_at_height : (xs : List Known) → length xs ≡ v.inner.height → holds_from v xs (ts ++ t ∷ []) ≡ demand v.inner.unreachable
  holds_at_height xs h =
      ap (λ a. a >>= λ xs. Ok tt) (last_first (setting_of v) (inner_of v) ts t xs)
      ∙ ap (λ test. rest (by_height xs test)) (eq-eqb (length xs) v.inner.height h)
      ∙ by_unreachable xs v.inner.unreachable refl h

-- ---- the next operand and the next type

next_type : (types : List (ValType ℕ)) (left : ℕ) → 0 < left → left ≤ length types → take left types ≡ take (left - 1) types ++ get_or types (left - 1) I32 ∷ []
next_type types left some within =
    let e : left ≡ left - 1 + 1 = omega arith in
    ap (λ n. take n types) e ∙ take_more types (left - 1) I32 (omega arith)

next_operand : (items : List Operand) (height : ℕ) (x : Operand) → 0 < height → height ≤ length items → x ≡ get_or items (height - 1) x → take height items ≡ take (height - 1) items ++ x ∷ []
next_operand items height x some within at =
    let e : height ≡ height - 1 + 1 = omega arith in
    ap (λ n. take n items) e ∙ take_more items (height - 1) x (omega arith) ∙ ap (λ y. take (height - 1) items ++ y ∷ []) (sym at)

pub holds_next : (v : Validator) (types : List (ValType ℕ)) (left height : ℕ) (x : Operand) → 0 < left → left ≤ length types → v.inner.height ≤ height → height ≢ v.inner.height
    → height ≤ length v.operands.items → x ≡ get_or v.operands.items (height - 1) x
    → holds_from v (operands_onto (take height v.operands.items) []) (take left types)
    ≡ (fits_in (setting_of v) (known_of x) (get_or types (left - 1) I32) >>= λ u. holds_from v (operands_onto (take (height - 1) v.operands.items) []) (take (left - 1) types))
holds_next v types left height x some within above over below at =
    let items = v.operands.items in
    let lower = take (height - 1) items in
    let t = get_or types (left - 1) I32 in
    let a = length_onto lower [] in
    let b = length-take-le (height - 1) items (omega arith) in
    let isnt : length (known_of x ∷ operands_onto lower []) ≢ v.inner.height = λ e. over (omega arith) in
    ap (λ l. holds_from v (operands_onto l []) (take left types)) (next_operand items height x (omega arith) below at)
    ∙ ap (λ l. holds_from v l (take left types)) (onto_last lower x [])
    ∙ ap (holds_from v (known_of x ∷ operands_onto lower [])) (next_type types left some within)
    ∙ holds_last v (take (left - 1) types) t (known_of x) (operands_onto lower []) isnt

pub holds_end : (v : Validator) (types : List (ValType ℕ)) (left height : ℕ) → 0 < left → left ≤ length types → height ≡ v.inner.height → height ≤ length v.operands.items
    → holds_from v (operands_onto (take height v.operands.items) []) (take left types) ≡ demand v.inner.unreachable
holds_end v types left height some within is below =
    let items = v.operands.items in
    let a = length_onto (take height items) [] in
    let b = length-take-le height items below in
    let long : length (operands_onto (take height items) []) ≡ v.inner.height = omega arith in
    ap (holds_from v (operands_onto (take height items) [])) (next_type types left some within)
    ∙ holds_at_height v (take (left - 1) types) (get_or types (left - 1) I32) (operands_onto (take height items) []) long
