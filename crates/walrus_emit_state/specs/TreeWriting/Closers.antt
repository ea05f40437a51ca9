-- The code's sequences as scopes of the emitter, while a tree is written.
use Rattle.std.specs.Prelude.{ℕ, List, [], ◌∷◌, map, Option, option_map}
use Rattle.wasm_operators.specs.declared.types.Space.TheVariants.{Tags}
use Rattle.wasm_operators.specs.Operations.{index, operation}
use Rattle.wasm_body.specs.Control.{end_operation, else_operation, catch_opcode, catch_all_operation, delegate_operation}
use Rattle.wasm_body.specs.Translation.{Located, at_location}
use Rattle.wasm_body.specs.FunctionTree.{LegacyClause, handles, handles_all, delegates}
use Rattle.wasm_body.specs.FlatText.{TextOperation}
use Rattle.walrus_emit_state.specs.declared.closing.Closer.{Closer}
use Rattle.walrus_emit_state.specs.declared.closing.Closer.TheVariants as closer
use Rattle.walrus_emit_state.specs.declared.closing.SequenceScope.{SequenceScope}
use Rattle.walrus_emit_state.specs.Emission.{Scope, slots_of}

-- the operator of a closer
abbrev pub closing : Closer → TextOperation
closing closer.End = end_operation
closing closer.Else = else_operation
closing (closer.Catch tag) = operation catch_opcode (index Tags tag ∷ [])
closing closer.CatchAll = catch_all_operation
closing (closer.Delegate depth) = delegate_operation depth

-- the operator with which a clause of a legacy `try` begins
abbrev pub opening_clause : LegacyClause → TextOperation
opening_clause (handles tag) = operation catch_opcode (index Tags tag ∷ [])
opening_clause handles_all = catch_all_operation
opening_clause (delegates depth) = delegate_operation depth

-- the operator that closes a sequence, with its location
abbrev pub closer_at : Option (Closer × ℕ) → Option (Located TextOperation)
closer_at c = option_map (λ (x : Closer × ℕ). at_location (closing x.0) x.1) c

abbrev pub scope_of : SequenceScope → Scope
scope_of s = record { slot = s.place; closer = closer_at s.closer }

abbrev pub scopes_of : List SequenceScope → List Scope
scopes_of ss = map scope_of ss

-- the slots of open sequences
abbrev pub places_of : List SequenceScope → List ℕ
places_of ss = slots_of (scopes_of ss)
