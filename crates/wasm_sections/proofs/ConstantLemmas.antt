-- Constant expressions, operator by operator.
use Rattle.std.proofs.Common.{◌≡◌, ℕ, zero, suc, ◌<◌, ◌≤◌, Bool, true, false, cond, List, [], ◌∷◌, length, Result, Ok, Err, refl, sym, ap, ◌∙◌, arith}
use Rattle.wasm_numbers.specs.Results.{◌>>=◌}
use Rattle.wasm_operators.specs.Opcodes.{opcode}
use Rattle.wasm_operators.specs.Spelling.{read_operation}
use Rattle.wasm_sections.specs.declared.fault.ModuleError.{ModuleError}
use Rattle.wasm_sections.specs.declared.fault.ModuleFault.TheVariants as faults
use Rattle.wasm_numbers.specs.declared.fault.ReadFault.TheVariants as unread
use Rattle.wasm_sections.specs.Format.{operator_part, ends_constant, operators_part}
use Rattle.wasm_sections.specs.Parts.{Part, fault_here, checked}

-- an operator, by whether it is the last one
abbrev pub constant_step : Part Bool
constant_step = checked operator_part ends_constant

-- the operators after this one, at most so many
abbrev after_operator : ℕ → (end : ℕ) → Result (Bool × List ℕ) ModuleError → Result (Unit {0} × List ℕ) ModuleError
after_operator n end r = r >>= λ x. cond x.0 (Ok (tt, x.1)) (operators_part n end x.1)

-- Some operators of a constant expression are read, and the others are left.
pub record OperatorsLeft (end : ℕ) (text now : List ℕ) : Type 0 where
  pub most : ℕ
  pub enough : length now ≤ most
  pub shorter : length now ≤ length text
  pub same : operators_part most end now ≡ operators_part (length text) end text

pub all_left : (end : ℕ) (text : List ℕ) → OperatorsLeft end text text
all_left end text = record { most = length text; enough = omega arith; shorter = omega arith; same = refl }

others_left :
    (most end : ℕ) (now next : List ℕ) → length now ≤ most → length next < length now → constant_step end now ≡ Ok (false, next) →
    (others : ℕ) × (length next ≤ others) × (operators_part most end now ≡ operators_part others end next)
unfolding operators_part
others_left zero end now next enough less e = absurd (omega arith)
others_left (suc n) end now next enough less e = (n, omega arith, ap (after_operator n end) e)

pub one_read :
    (end : ℕ) (text now next : List ℕ) → OperatorsLeft end text now → length next < length now → constant_step end now ≡ Ok (false, next) →
    OperatorsLeft end text next
one_read end text now next p less e =
    let others = others_left p.most end now next p.enough less e in
    record { most = others.0; enough = others.1; shorter = (let h = p.shorter in omega arith); same = sym others.2 ∙ p.same }

none_left :
    (most end : ℕ) (now next : List ℕ) → length now ≤ most → length next < length now → constant_step end now ≡ Ok (true, next) →
    operators_part most end now ≡ Ok (tt, next)
unfolding operators_part
none_left zero end now next enough less e = absurd (omega arith)
none_left (suc n) end now next enough less e = ap (after_operator n end) e

pub last_read :
    (end : ℕ) (text now next : List ℕ) → OperatorsLeft end text now → length next < length now → constant_step end now ≡ Ok (true, next) →
    operators_part (length text) end text ≡ Ok (tt, next)
last_read end text now next p less e = sym p.same ∙ none_left p.most end now next p.enough less e

err_same : {A : Type 0} (x y : ModuleError) → (let r : Result A ModuleError = Err x in r) ≡ Err y → x ≡ y
err_same x y e = cc

unread_left : (most end : ℕ) (now : List ℕ) (fault : ModuleError) → length now ≤ most → constant_step end now ≡ Err fault → operators_part most end now ≡ Err fault
unfolding operators_part read_operation opcode
unread_left zero end [] fault enough e =
    ap (λ (f : ModuleError). Err f) (err_same {A = Bool × List ℕ} (fault_here end [] (faults.Read unread.Truncated)) fault e)
unread_left zero end (b ∷ bs) fault enough e = absurd (omega arith)
unread_left (suc n) end now fault enough e = ap (after_operator n end) e

pub one_unread :
    (end : ℕ) (text now : List ℕ) (fault : ModuleError) → OperatorsLeft end text now → constant_step end now ≡ Err fault →
    operators_part (length text) end text ≡ Err fault
one_unread end text now fault p e = sym p.same ∙ unread_left p.most end now fault p.enough e
