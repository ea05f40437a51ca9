-- The steps of the checker, operator by operator.
use Rattle.std.proofs.Common.{◌≡◌, ◌≢◌, ◌⊎◌, ℕ, List, [], ◌∷◌, Bool, true, Option, Some, None, Result, Ok, Err, OnOk, IfErr, MatchOption, refl, sym, ap, subst}
use Rattle.walrus_ir.specs.declared.control.BlockKind.{BlockKind}
use Rattle.walrus_ir.specs.declared.control.BlockKind.TheVariants as kind
use Rattle.wasm_types.specs.declared.unary.UnaryOp.{UnaryOp}
use Rattle.wasm_types.specs.declared.binary.BinaryOp.{BinaryOp}
use Rattle.walrus_ir.specs.Types.{Signature}
use Rattle.wasm_numbers.specs.Results.{◌>>=◌}
use Rattle.wasm_operators.specs.declared.types.BlockType.{BlockType}
use Rattle.wasm_operators.specs.declared.types.Opcode.TheVariants.{Byte}
use Rattle.wasm_operators.specs.declared.operator.Op.TheVariants as op
use Rattle.wasm_operators.specs.UnaryOperations.{unary_opcode, extract_lane}
use Rattle.wasm_operators.specs.BinaryOperations.{binary_opcode, replace_lane}
use Rattle.wasm_operators.specs.Meaning.{Listed, meaning}
use Rattle.wasm_operators.specs.Operations.{CatchClause, RawOperation, clauses, i32, i64, operation}
use Rattle.wasm_body.specs.declared.error.ParseError.{ParseError}
use Rattle.wasm_body.specs.declared.error.ParseError.TheVariants.{Memory}
use Rattle.wasm_body.specs.Control.{Block, Loop, If, Try, TryTable, catch_list}
use Rattle.wasm_body.specs.Naming.{naming}
use Rattle.walrus_from_operators.specs.OperatorKinds.{is_instruction}
use Rattle.walrus_parser.specs.OperatorKinds.{makes_unreachable}
use Rattle.walrus_parser.proofs.Roles.{fate_of_operator}
use Rattle.walrus_flat.specs.declared.checker.Checker.{Checker}
use Rattle.walrus_flat.specs.declared.open_sequence.OpenSequence.{OpenSequence}
use Rattle.walrus_flat.specs.Checked.{env_of_checker}
use Rattle.walrus_flat.specs.Checkers.{parts_in, ClosesSequence, BeginsConstruct, RefusesConstruct, PartsIf, RefusesElse, PartsTry, RefusesClause, ClosesTry, RefusesDelegate, NamesLocal, RefusesLocal, TakesOperator}
use Rattle.walrus_flat.proofs.CheckedOperators.{none_unary, none_binary, none_of_operator, unary_same, binary_same}
use Rattle.walrus_flat.proofs.CheckerSteps.{Steps, steps_opener, steps_alone, steps_else, steps_end, steps_delegate, steps_catch, steps_catch_all, steps_local, steps_plain, steps_nop}

module _ (old new : Checker) (some : old.«open».items ≢ []) (x : Listed) (r : Result (Unit {0}) ParseError) where
  abbrev Is : Listed → Type 0
  Is o = Steps old new some (meaning o) r

  -- ---- openers

  abbrev Opening : BlockKind → BlockType → Listed → Type 0
  Opening k b o = OnOk r (BeginsConstruct old new (meaning o) k b) → IfErr r (RefusesConstruct old (meaning o) b) → Is o

  pub at_block : (b : BlockType) → x ≡ op.Block b → Opening kind.Block b x
  at_block b is = subst (Opening kind.Block b) (sym is) (steps_opener old new some (meaning (op.Block b)) b [] kind.Block Block (λ js. Block) refl refl (λ js. refl) (λ js. tt) refl r)

  pub at_loop : (b : BlockType) → x ≡ op.Loop b → Opening kind.Loop b x
  at_loop b is = subst (Opening kind.Loop b) (sym is) (steps_opener old new some (meaning (op.Loop b)) b [] kind.Loop Loop (λ js. Loop) refl refl (λ js. refl) (λ js. tt) refl r)

  pub at_if : (b : BlockType) → x ≡ op.If b → Opening kind.If b x
  at_if b is = subst (Opening kind.If b) (sym is) (steps_opener old new some (meaning (op.If b)) b [] kind.If If (λ js. If) refl refl (λ js. refl) (λ js. refl) refl r)

  pub at_try : (b : BlockType) → x ≡ op.Try b → Opening kind.Try b x
  at_try b is = subst (Opening kind.Try b) (sym is) (steps_opener old new some (meaning (op.Try b)) b [] kind.Try Try (λ js. Try) refl refl (λ js. refl) (λ js. refl) refl r)

  pub at_try_table : (b : BlockType) (cs : List (CatchClause ℕ)) → x ≡ op.TryTable b cs → Opening kind.TryTable b x
  at_try_table b cs is =
      subst (Opening kind.TryTable b) (sym is)
      (steps_opener old new some (meaning (op.TryTable b cs)) b (clauses cs ∷ []) kind.TryTable (TryTable (catch_list (meaning (op.TryTable b cs)).immediates)) (λ js. TryTable (catch_list js)) refl refl (λ js. refl) (λ js. tt) refl r)

  -- ---- operators that part or close a construct

  pub at_else : x ≡ op.Else → OnOk r (PartsIf old new) → IfErr r (RefusesElse old) → Is x
  at_else is ok err = subst Is (sym is) (steps_else old new some r ok err)

  pub at_catch : (n : ℕ) → x ≡ op.Catch n → OnOk r (PartsTry old new (Some n)) → IfErr r (RefusesClause old (Some n)) → Is x
  at_catch n is ok err = subst Is (sym is) (steps_catch old new some n r ok err)

  pub at_catch_all : x ≡ op.CatchAll → OnOk r (PartsTry old new None) → IfErr r (RefusesClause old None) → Is x
  at_catch_all is ok err = subst Is (sym is) (steps_catch_all old new some r ok err)

  abbrev Delegating : Listed → Type 0
  Delegating o = OnOk r (ClosesTry old new (meaning o)) → IfErr r (RefusesDelegate old (meaning o)) → Is o

  pub at_delegate : (n : ℕ) → x ≡ op.Delegate n → Delegating x
  at_delegate n is = subst Delegating (sym is) (steps_delegate old new some n r)

  -- ---- operators by themselves

  pub at_local_get : (n : ℕ) → x ≡ op.LocalGet n → OnOk r (NamesLocal old new n) → IfErr r (RefusesLocal old n) → Is x
  at_local_get n is ok err = subst Is (sym is) (steps_local old new some 0x20 n refl r ok err)

  pub at_local_set : (n : ℕ) → x ≡ op.LocalSet n → OnOk r (NamesLocal old new n) → IfErr r (RefusesLocal old n) → Is x
  at_local_set n is ok err = subst Is (sym is) (steps_local old new some 0x21 n refl r ok err)

  pub at_local_tee : (n : ℕ) → x ≡ op.LocalTee n → OnOk r (NamesLocal old new n) → IfErr r (RefusesLocal old n) → Is x
  at_local_tee n is ok err = subst Is (sym is) (steps_local old new some 0x22 n refl r ok err)

  pub at_other : is_instruction x ≡ true → ((n : ℕ) → x ≢ op.LocalGet n) → ((n : ℕ) → x ≢ op.LocalSet n) → ((n : ℕ) → x ≢ op.LocalTee n) →
      OnOk r (TakesOperator old new (meaning x) (makes_unreachable x)) → IfErr r (λ e. (e ≡ Memory) ⊎ (parts_in old (meaning x) ≡ Err e)) → Is x
  at_other i g s t ok err = steps_alone old new some (meaning x) (makes_unreachable x) (fate_of_operator x i) (none_of_operator x g s t) r ok err

-- an `end`
pub at_end : (old new : Checker) (some : old.«open».items ≢ []) (x : Listed) → x ≡ op.End → (r : Option OpenSequence) → MatchOption r (old.«open».items ≡ []) (ClosesSequence old new) → Steps old new some (meaning x) (Ok tt)
at_end old new some x is (Some top) closes = subst (λ o. Steps old new some (meaning o) (Ok tt)) (sym is) (steps_end old new some top closes)
at_end old new some x is None none = absurd (some none)

-- operators after which nothing changes
module _ (old : Checker) (some : old.«open».items ≢ []) (x : Listed) where
  abbrev Stays : Listed → Type 0
  Stays o = Steps old old some (meaning o) (Ok tt)

  pub at_nop : x ≡ op.Nop → Stays x
  at_nop is = subst Stays (sym is) (steps_nop old some)

  pub at_drop : x ≡ op.Drop → Stays x
  at_drop is = subst Stays (sym is) (steps_plain old some (meaning op.Drop) (operation (Byte 0x1a) []) (λ g hs. refl) refl refl)

  pub at_i32 : (n : _) → x ≡ op.I32Const n → Stays x
  at_i32 n is = subst Stays (sym is) (steps_plain old some (meaning (op.I32Const n)) (operation (Byte 0x41) (i32 n ∷ [])) (λ g hs. refl) refl refl)

  pub at_i64 : (n : _) → x ≡ op.I64Const n → Stays x
  at_i64 n is = subst Stays (sym is) (steps_plain old some (meaning (op.I64Const n)) (operation (Byte 0x42) (i64 n ∷ [])) (λ g hs. refl) refl refl)

  pub at_unary : (u : UnaryOp) → x ≡ op.Unop u → Stays x
  at_unary u is =
      subst Stays (sym is)
      (steps_plain old some (meaning (op.Unop u)) (operation (unary_opcode u) (extract_lane u))
      (λ g hs. ap (λ s. s >>= λ js. Ok (operation (unary_opcode u) js)) (unary_same (naming (env_of_checker old) (g ∷ hs)) u)) (fate_of_operator (op.Unop u) refl) (none_unary ℕ Signature u))

  pub at_binary : (u : BinaryOp) → x ≡ op.Binop u → Stays x
  at_binary u is =
      subst Stays (sym is)
      (steps_plain old some (meaning (op.Binop u)) (operation (binary_opcode u) (replace_lane u))
      (λ g hs. ap (λ s. s >>= λ js. Ok (operation (binary_opcode u) js)) (binary_same (naming (env_of_checker old) (g ∷ hs)) u)) (fate_of_operator (op.Binop u) refl) (none_binary ℕ Signature u))

-- ---- the environment stays

module _ (old new : Checker) where
  abbrev IsSame : Type 0
  IsSame = env_of_checker new ≡ env_of_checker old

  pub same_opening : (o : RawOperation) (k : BlockKind) (b : BlockType) (r : Result (Unit {0}) ParseError) → OnOk r (BeginsConstruct old new o k b) → OnOk r IsSame
  same_opening o k b (Ok u) h = ap env_of_checker h.opens.is
  same_opening o k b (Err e) h = tt

  pub same_else : (r : Result (Unit {0}) ParseError) → OnOk r (PartsIf old new) → OnOk r IsSame
  same_else (Ok u) h = ap env_of_checker h.parts.is
  same_else (Err e) h = tt

  pub same_clause : (tag : Option ℕ) (r : Result (Unit {0}) ParseError) → OnOk r (PartsTry old new tag) → OnOk r IsSame
  same_clause tag (Ok u) h = ap env_of_checker h.parts.is
  same_clause tag (Err e) h = tt

  pub same_delegate : (o : RawOperation) (r : Result (Unit {0}) ParseError) → OnOk r (ClosesTry old new o) → OnOk r IsSame
  same_delegate o (Ok u) h = ap env_of_checker h.is
  same_delegate o (Err e) h = tt

  pub same_local : (n : ℕ) (r : Result (Unit {0}) ParseError) → OnOk r (NamesLocal old new n) → OnOk r IsSame
  same_local n (Ok u) h = ap env_of_checker h.is
  same_local n (Err e) h = tt

  pub same_taken : (o : RawOperation) (unreachable_after : Bool) (r : Result (Unit {0}) ParseError) → OnOk r (TakesOperator old new o unreachable_after) → OnOk r IsSame
  same_taken o unreachable_after (Ok u) h = ap env_of_checker h.is
  same_taken o unreachable_after (Err e) h = tt

  pub same_end : old.«open».items ≢ [] → (r : Option OpenSequence) → MatchOption r (old.«open».items ≡ []) (ClosesSequence old new) → IsSame
  same_end some (Some top) h = ap env_of_checker h.is
  same_end some None h = absurd (some h)
