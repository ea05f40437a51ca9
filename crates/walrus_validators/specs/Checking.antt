-- The meaning of a validator: a step function over states, which accepts an operator with its place or refuses it with a
-- number.
use Rattle.std.specs.Prelude.{◌≡◌, ℕ, Result, Ok, Err}
use Rattle.wasm_operators.specs.OperatorList.{Placed}
use Rattle.wasm_operators.specs.Operations.{RawOperation}
use Rattle.wasm_body.specs.declared.error.ParseError.{ParseError}
use Rattle.wasm_body.specs.declared.error.ParseError.TheVariants as parse
use Rattle.walrus_validators.specs.declared.check.CheckError.{CheckError}
use Rattle.walrus_validators.specs.declared.check.CheckError.TheVariants.{Refused, Memory}
use Rattle.walrus_validators.specs.declared.next.Refusal.{Refusal}
use Rattle.walrus_validators.specs.declared.next.Refusal.TheVariants.{PlaceTooGreat, Checked}

abbrev pub placed_at : RawOperation → ℕ → Placed
placed_at o place = record { spelt = o; place = place }

-- The result of a step from one state is that of the meaning, with the next state; or memory ran out.
abbrev pub Checks : {S : Type 0} → (S → Placed → Result S ℕ) → S → Placed → Result (Unit {0}) CheckError → S → Type 0
Checks check old x (Ok u) new = check old x ≡ Ok new
Checks check old x (Err (Refused n)) new = check old x ≡ Err n
Checks check old x (Err Memory) new = Unit {0}

-- the error of a parse for a validator's refusal
abbrev pub fault_of : CheckError → ParseError
fault_of (Refused n) = parse.Checked n
fault_of Memory = parse.Memory

-- the error of a parse for an operator that isn't accepted
abbrev pub fault_of_refusal : Refusal → ParseError
fault_of_refusal PlaceTooGreat = parse.PlaceTooGreat
fault_of_refusal (Checked e) = fault_of e
