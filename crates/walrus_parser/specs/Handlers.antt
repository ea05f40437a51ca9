-- The clauses of a legacy `try`: `catch`, which is for one tag, and `catch_all`, which is for all (legacy exception handling
-- proposal).
use Rattle.std.specs.Prelude.{ℕ, List, [], ◌∷◌, Bool, true, false, Option, Some, None, Result, Ok}
use Rattle.walrus_ir.specs.declared.control.BlockKind.{BlockKind}
use Rattle.walrus_ir.specs.declared.control.BlockKind.TheVariants as kind
use Rattle.walrus_ir.specs.declared.control.LegacyCatch.{LegacyCatch}
use Rattle.walrus_ir.specs.declared.control.LegacyCatch.TheVariants.{Catch, CatchAll}
use Rattle.wasm_types.specs.declared.val_type.ValType.{ValType}
use Rattle.wasm_numbers.specs.Results.{◌>>=◌}
use Rattle.wasm_operators.specs.declared.types.Space.TheVariants.{Tags}
use Rattle.wasm_operators.specs.Operations.{index, operation, Operation}
use Rattle.wasm_body.specs.declared.error.ParseError.{ParseError}
use Rattle.wasm_body.specs.Control.{catch_opcode, catch_all_operation}
use Rattle.wasm_body.specs.Naming.{Environment, id_at, tag_type}

-- the operator of a clause: for this tag, or for all
abbrev pub clause_operation : {L B : Type 0} → Option ℕ → Operation L B
clause_operation (Some tag) = operation catch_opcode (index Tags tag ∷ [])
clause_operation None = catch_all_operation

-- what a handler catches: its tag, as an id, if it has one; and the parameters of the tag
abbrev pub caught_tag : Environment → Option ℕ → Result (Option ℕ × List (ValType ℕ)) ParseError
caught_tag env None = Ok (None, [])
caught_tag env (Some n) = id_at env Tags n >>= λ tag. tag_type env tag >>= λ s. Ok (Some tag, s.parameters)

-- the kind of a handler in its `try`
abbrev pub handler_kind : {A : Type 0} → Option A → BlockKind
handler_kind (Some tag) = kind.Catch
handler_kind None = kind.CatchAll

abbrev pub handler_clause : Option ℕ → (place : ℕ) → LegacyCatch
handler_clause (Some tag) place = Catch tag place
handler_clause None place = CatchAll place

-- whether a clause is allowed after a sequence of this kind
abbrev pub has_clauses : BlockKind → Bool
has_clauses kind.Try = true
has_clauses kind.Catch = true
has_clauses _ = false
