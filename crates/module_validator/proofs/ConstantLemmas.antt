-- The operators of a constant expression, one after the other.
use Rattle.std.proofs.Common.{◌≡◌, ℕ, zero, suc, ◌+◌, ◌-◌, ◌<◌, ◌≤◌, Bool, true, false, List, [], ◌∷◌, length, Result, Ok, Err, refl, sym, ap, ◌∙◌, arith}
use Rattle.wasm_numbers.specs.declared.fault.ReadFault.{ReadFault}
use Rattle.wasm_numbers.specs.Results.{◌>>=◌, with_fault}
use Rattle.wasm_operators.specs.Operations.{RawOperation}
use Rattle.wasm_operators.specs.Spelling.{read_operation}
use Rattle.wasm_typing.specs.Contexts.{OperandContext}
use Rattle.wasm_sections.specs.declared.fault.ModuleError.{ModuleError}
use Rattle.wasm_sections.specs.declared.fault.ModuleFault.{ModuleFault}
use Rattle.wasm_sections.specs.declared.fault.ModuleFault.TheVariants as fault
use Rattle.module_validator.specs.CodeValidity.{fault_there}
use Rattle.module_validator.specs.ConstantRules.{only_if, is_constant, constant_from}
use Rattle.module_validator.specs.Checks.{after_constant}

abbrev Taken : Type 0
Taken = Result (RawOperation × List ℕ) ReadFault

-- ---- an operator that is constant, or not

tested : (b : Bool) (rest next : List ℕ) (there : ModuleFault → ModuleError) (k : List ℕ → Result (Unit {0}) ModuleError) → (only_if b fault.BadConstant >>= λ u. Ok rest) ≡ Ok next →
    (with_fault there (only_if b fault.BadConstant) >>= λ u. k rest) ≡ k next
tested true rest next there k e = let same : rest ≡ next = cc in ap k same
tested false rest next there k e = absurd cc

refused : (b : Bool) (rest : List ℕ) (f : ModuleFault) (there : ModuleFault → ModuleError) (k : List ℕ → Result (Unit {0}) ModuleError) →
    (only_if b fault.BadConstant >>= λ u. Ok rest) ≡ Err f → (with_fault there (only_if b fault.BadConstant) >>= λ u. k rest) ≡ Err (there f)
refused true rest f there k e = absurd cc
refused false rest f there k e = let same : fault.BadConstant ≡ f = cc in ap (λ (g : ModuleFault). Err (there g)) same

taken : (r : Taken) (test : RawOperation → Bool) (next : List ℕ) (there : ModuleFault → ModuleError) (k : List ℕ → Result (Unit {0}) ModuleError) →
    (with_fault fault.Read r >>= λ x. only_if (test x.0) fault.BadConstant >>= λ u. Ok x.1) ≡ Ok next →
    (with_fault (λ f. there (fault.Read f)) r >>= λ x. with_fault there (only_if (test x.0) fault.BadConstant) >>= λ u. k x.1) ≡ k next
taken (Ok x) test next there k e = tested (test x.0) x.1 next there k e
taken (Err f) test next there k e = absurd cc

not_taken : (r : Taken) (test : RawOperation → Bool) (f : ModuleFault) (there : ModuleFault → ModuleError) (k : List ℕ → Result (Unit {0}) ModuleError) →
    (with_fault fault.Read r >>= λ x. only_if (test x.0) fault.BadConstant >>= λ u. Ok x.1) ≡ Err f →
    (with_fault (λ f. there (fault.Read f)) r >>= λ x. with_fault there (only_if (test x.0) fault.BadConstant) >>= λ u. k x.1) ≡ Err (there f)
not_taken (Ok x) test f there k e = refused (test x.0) x.1 f there k e
not_taken (Err g) test f there k e = let same : fault.Read g ≡ f = cc in ap (λ (h : ModuleFault). Err (there h)) same

-- ---- the operators that are left

-- Some operators were passed, and these bytes are left.
pub record ConstantsLeft (c : OperandContext) (globals start : ℕ) (code : List ℕ) (at : ℕ) (rest : List ℕ) : Type 0 where
  pub most : ℕ
  pub enough : length rest ≤ most
  pub same : constant_from most c globals at rest ≡ constant_from (length code) c globals start code

pub all_left : (c : OperandContext) (globals start : ℕ) (code : List ℕ) → ConstantsLeft c globals start code start code
all_left c globals start code = record { most = length code; enough = omega arith; same = refl }

-- what follows an operator of these bytes
abbrev others : ℕ → OperandContext → (globals at : ℕ) → (bytes : List ℕ) → (following : List ℕ) → Result (Unit {0}) ModuleError
others most c globals at bytes following = constant_from most c globals (at + (length bytes - length following)) following

first_constant : (most : ℕ) (c : OperandContext) (globals at b : ℕ) (bs next : List ℕ) → after_constant c globals (b ∷ bs) ≡ Ok next →
    constant_from (suc most) c globals at (b ∷ bs) ≡ others most c globals at (b ∷ bs) next
unfolding constant_from
first_constant most c globals at b bs next e =
    taken (read_operation (b ∷ bs)) (is_constant c globals) next (fault_there at) (others most c globals at (b ∷ bs)) e

first_refused : (most : ℕ) (c : OperandContext) (globals at b : ℕ) (bs : List ℕ) (f : ModuleFault) → after_constant c globals (b ∷ bs) ≡ Err f →
    constant_from (suc most) c globals at (b ∷ bs) ≡ Err (fault_there at f)
unfolding constant_from
first_refused most c globals at b bs f e =
    not_taken (read_operation (b ∷ bs)) (is_constant c globals) f (fault_there at) (others most c globals at (b ∷ bs)) e

none_left : (most : ℕ) (c : OperandContext) (globals at : ℕ) → constant_from most c globals at [] ≡ Ok tt
unfolding constant_from
none_left zero c globals at = refl
none_left (suc most) c globals at = refl

pub one_constant : (c : OperandContext) (globals start : ℕ) (code : List ℕ) (at there : ℕ) (rest next : List ℕ) → ConstantsLeft c globals start code at rest →
    after_constant c globals rest ≡ Ok next → there + length next ≡ at + length rest → length next < length rest → ConstantsLeft c globals start code there next
one_constant c globals start code at there rest next p e place less = by p.most rest p.enough p.same e place less
  where
    by : (most : ℕ) (now : List ℕ) → length now ≤ most → constant_from most c globals at now ≡ constant_from (length code) c globals start code → after_constant c globals now ≡ Ok next →
        there + length next ≡ at + length now → length next < length now → ConstantsLeft c globals start code there next
    by most [] enough same e place less = absurd (omega arith)
    by zero (b ∷ bs) enough same e place less = absurd (omega arith)
    by (suc most) (b ∷ bs) enough same e place less =
        let here : at + (length (b ∷ bs) - length next) ≡ there = omega arith in
        record {
          most = most;
          enough = omega arith;
          same = ap (λ (n : ℕ). constant_from most c globals n next) (sym here) ∙ sym (first_constant most c globals at b bs next e) ∙ same;
        }

pub constant_refused : (c : OperandContext) (globals start : ℕ) (code : List ℕ) (at : ℕ) (rest : List ℕ) (f : ModuleFault) → ConstantsLeft c globals start code at rest →
    0 < length rest → after_constant c globals rest ≡ Err f → constant_from (length code) c globals start code ≡ Err (fault_there at f)
constant_refused c globals start code at rest f p some e = by p.most rest p.enough p.same some e
  where
    by : (most : ℕ) (now : List ℕ) → length now ≤ most → constant_from most c globals at now ≡ constant_from (length code) c globals start code → 0 < length now →
        after_constant c globals now ≡ Err f → constant_from (length code) c globals start code ≡ Err (fault_there at f)
    by most [] enough same some e = absurd (omega arith)
    by zero (b ∷ bs) enough same some e = absurd (omega arith)
    by (suc most) (b ∷ bs) enough same some e = sym same ∙ first_refused most c globals at b bs f e

pub all_constant : (c : OperandContext) (globals start : ℕ) (code : List ℕ) (at : ℕ) (rest : List ℕ) → ConstantsLeft c globals start code at rest → length rest ≡ 0 →
    constant_from (length code) c globals start code ≡ Ok tt
all_constant c globals start code at [] p none = sym p.same ∙ none_left p.most c globals at
all_constant c globals start code at (b ∷ bs) p none = absurd (omega arith)
