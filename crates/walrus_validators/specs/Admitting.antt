-- Whether the next operator of a body is admitted.
use Rattle.std.specs.Prelude.{◌≡◌, ℕ, List, Option, Result, Ok}
use Rattle.wasm_operators.specs.Operations.{RawOperation}
use Rattle.wasm_operators.specs.OperatorList.{Placed}
use Rattle.wasm_operators.specs.Spelling.{read_operation}
use Rattle.wasm_body.specs.declared.error.ParseError.{ParseError}
use Rattle.wasm_body.specs.Parsing.Accepted.{Admitted, has_location, admitted}

-- At the front of whatever bytes the operator is read, this is the result of admitting it, by the bytes after it.
abbrev pub AdmitsAs : {S F : Type 0} → Option F → (S → Placed → Result S ℕ) → S → (place : ℕ) → RawOperation → (List ℕ → Result (Admitted S) ParseError) → Type 0
AdmitsAs on_instr_pos check s place o r =
    (bytes rest : List ℕ) → read_operation bytes ≡ Ok (o, rest) → admitted (has_location on_instr_pos) check s place bytes ≡ r rest

-- The operator is admitted, and this is the validator's next state.
abbrev pub IsAdmitted : {S F : Type 0} → Option F → (S → Placed → Result S ℕ) → (s t : S) → (place : ℕ) → RawOperation → Type 0
IsAdmitted on_instr_pos check s t place o = AdmitsAs on_instr_pos check s place o (λ rest. Ok (record { spelt = o; rest = rest; state = t }))
