-- The name of each operator that opens, divides or closes a construct, or the first rule that it breaks, from the lookups.
use Rattle.std.specs.Prelude.{◌≡◌, ℕ, List, [], ◌∷◌, is_some, Bool, true, false, Result, Ok, Err}
use Rattle.std.proofs.Common.{refl}
use Rattle.walrus_ir.specs.Types.{Signature, signature}
use Rattle.wasm_operators.specs.declared.types.BlockType.{BlockType}
use Rattle.wasm_operators.specs.declared.types.Opcode.{Opcode}
use Rattle.wasm_operators.specs.declared.types.Opcode.TheVariants.{Byte}
use Rattle.wasm_operators.specs.declared.types.Space.TheVariants.{Tags}
use Rattle.wasm_operators.specs.Operations.{CatchClause, index, block, clauses, operation, RawOperation}
use Rattle.wasm_body.specs.declared.error.ParseError.{ParseError}
use Rattle.wasm_body.specs.declared.error.ParseError.TheVariants.{ElseOutsideIf, CatchOutsideTry, DelegateOutsideTry}
use Rattle.wasm_numbers.specs.Results.{◌>>=◌, unless, each}
use Rattle.wasm_body.specs.Control.{Construct, Does, Opens, Action, control_of, end_operation, else_operation, catch_opcode, catch_all_operation, delegate_operation}
use Rattle.wasm_body.specs.Frames.{SequenceFrame, else_moves, catch_moves, catch_all_moves, delegate_moves}
use Rattle.wasm_body.specs.Translation.{translate, translate_clause}
use Rattle.wasm_body.specs.Naming.{Environment, NamedOperation, Occurrence, id_at, name_block, naming, has_pick, tag_type, construct_results, open_label, named_in}

module _ (env : Environment) (f : SequenceFrame Occurrence) (fs : List (SequenceFrame Occurrence)) where
  -- ---- openers

  -- the name of an opener, from the signature of its block type
  abbrev pub opener_named : Opcode → Result Signature ParseError → Result NamedOperation ParseError
  opener_named opcode r = r >>= λ s. has_pick env s >>= λ _. Ok (operation opcode (block s ∷ []))

  module _ (opcode : Opcode) (construct : Construct) where
    pub named_opener : (b : BlockType) → control_of (operation opcode (block b ∷ [])) ≡ Opens construct → ((s : Signature) → control_of (operation opcode (block s ∷ [])) ≡ Opens construct) →
        named_in env (f ∷ fs) (operation opcode (block b ∷ [])) ≡ opener_named opcode (name_block env b)
    named_opener b raw named = by_result (name_block env b) refl
      where
        by_result : (r : Result Signature ParseError) → name_block env b ≡ r → named_in env (f ∷ fs) (operation opcode (block b ∷ [])) ≡ opener_named opcode r
        by_result (Ok s) e = rw (raw, e, named s) refl
        by_result (Err g) e = rw (raw, e) refl

  -- `try_table`: its clauses are looked up after the block type, and the picked type comes last
  abbrev pub table_named : Result Signature ParseError → Result (List (CatchClause ℕ)) ParseError → Result NamedOperation ParseError
  table_named r q = r >>= λ s. q >>= λ cs. has_pick env s >>= λ _. Ok (operation (Byte 0x1f) (block s ∷ clauses cs ∷ []))

  abbrev pub clauses_named : List (CatchClause ℕ) → Result (List (CatchClause ℕ)) ParseError
  clauses_named cs = each (translate_clause (naming env (f ∷ fs))) cs

  pub named_try_table : (b : BlockType) (cs : List (CatchClause ℕ)) → named_in env (f ∷ fs) (operation (Byte 0x1f) (block b ∷ clauses cs ∷ [])) ≡ table_named (name_block env b) (clauses_named cs)
  named_try_table b cs = by_results (name_block env b) refl (clauses_named cs) refl
    where
      by_results : (r : Result Signature ParseError) → name_block env b ≡ r → (q : Result (List (CatchClause ℕ)) ParseError) → clauses_named cs ≡ q →
          named_in env (f ∷ fs) (operation (Byte 0x1f) (block b ∷ clauses cs ∷ [])) ≡ table_named r q
      by_results (Ok s) e (Ok ds) d = rw (e, d) refl
      by_results (Ok s) e (Err g) d = rw (e, d) refl
      by_results (Err g) e q d = rw e refl

  -- ---- operators that divide a construct

  pub named_else : named_in env (f ∷ fs) else_operation ≡ (unless (is_some (else_moves f)) ElseOutsideIf >>= λ _. Ok else_operation)
  named_else = by_test (is_some (else_moves f)) refl
    where
      by_test : (b : Bool) → is_some (else_moves f) ≡ b → named_in env (f ∷ fs) else_operation ≡ (unless b ElseOutsideIf >>= λ _. Ok else_operation)
      by_test true e = rw e refl
      by_test false e = rw e refl

  -- a handler's tag is looked up, then the tag's type, then the picked type
  abbrev pub catch_types : ℕ → Result (Unit {0}) ParseError
  catch_types tag = tag_type env tag >>= λ s. has_pick env (signature s.parameters (construct_results (f ∷ fs)))

  abbrev pub catch_named : Result ℕ ParseError → Result NamedOperation ParseError
  catch_named r = r >>= λ tag. catch_types tag >>= λ _. Ok (operation catch_opcode (index Tags tag ∷ []))

  pub named_catch : (n : ℕ) → named_in env (f ∷ fs) (operation catch_opcode (index Tags n ∷ [])) ≡ (unless (is_some (catch_moves f)) CatchOutsideTry >>= λ _. catch_named (id_at env Tags n))
  named_catch n = by_results (is_some (catch_moves f)) refl (id_at env Tags n) refl
    where
      by_results : (b : Bool) → is_some (catch_moves f) ≡ b → (r : Result ℕ ParseError) → id_at env Tags n ≡ r →
          named_in env (f ∷ fs) (operation catch_opcode (index Tags n ∷ [])) ≡ (unless b CatchOutsideTry >>= λ _. catch_named r)
      by_results true e (Ok tag) d = rw (e, d) refl
      by_results true e (Err g) d = rw (e, d) refl
      by_results false e r d = rw e refl

  pub named_catch_all : named_in env (f ∷ fs) catch_all_operation
      ≡ (unless (is_some (catch_all_moves f)) CatchOutsideTry >>= λ _. has_pick env (signature [] (construct_results (f ∷ fs))) >>= λ _. Ok catch_all_operation)
  named_catch_all = by_test (is_some (catch_all_moves f)) refl
    where
      by_test : (b : Bool) → is_some (catch_all_moves f) ≡ b → named_in env (f ∷ fs) catch_all_operation
          ≡ (unless b CatchOutsideTry >>= λ _. has_pick env (signature [] (construct_results (f ∷ fs))) >>= λ _. Ok catch_all_operation)
      by_test true e = rw e refl
      by_test false e = rw e refl

  -- ---- operators that close one

  pub named_end : named_in env (f ∷ fs) end_operation ≡ Ok end_operation
  named_end = refl

  pub named_delegate : (n : ℕ) → named_in env (f ∷ fs) (delegate_operation n)
      ≡ (unless (is_some (delegate_moves fs f)) DelegateOutsideTry >>= λ _. open_label fs n >>= λ m. Ok (delegate_operation m))
  named_delegate n = by_results (is_some (delegate_moves fs f)) refl (open_label fs n) refl
    where
      by_results : (b : Bool) → is_some (delegate_moves fs f) ≡ b → (r : Result ℕ ParseError) → open_label fs n ≡ r →
          named_in env (f ∷ fs) (delegate_operation n) ≡ (unless b DelegateOutsideTry >>= λ _. r >>= λ m. Ok (delegate_operation m))
      by_results true e (Ok m) d = rw (e, d) refl
      by_results true e (Err g) d = rw (e, d) refl
      by_results false e r d = rw e refl

  -- ---- operators by themselves

  pub named_alone : (o : RawOperation) (action : Action) → control_of o ≡ Does action → ((named : NamedOperation) → translate (naming env (f ∷ fs)) o ≡ Ok named → (a : Action) × (control_of named ≡ Does a)) →
      named_in env (f ∷ fs) o ≡ translate (naming env (f ∷ fs)) o
  named_alone o action raw named = by_result (translate (naming env (f ∷ fs)) o) refl
    where
      by_result : (r : Result NamedOperation ParseError) → translate (naming env (f ∷ fs)) o ≡ r → named_in env (f ∷ fs) o ≡ r
      by_result (Ok x) e = rw (raw, e, (named x e).1) refl
      by_result (Err g) e = rw (raw, e) refl
