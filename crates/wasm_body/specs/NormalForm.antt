-- The normal form of a body: the tree of the function that a parse makes of the body.
use Rattle.std.specs.Prelude.{ℕ, List, [], ◌∷◌, ◌^◌, Bool, false, Option, Some, None, unwrap_or, option_and_then, slice_get, Result, Ok, Err}
use Rattle.wasm_types.specs.declared.val_type.ValType.{ValType}
use Rattle.walrus_ir.specs.declared.val_type.InstrSeqType.{InstrSeqType}
use Rattle.walrus_ir.specs.declared.val_type.InstrSeqType.TheVariants.{Simple, MultiValue}
use Rattle.walrus_ir.specs.Types.{Signature, signature, signature_of, signature_of_type, pick, same_types}
use Rattle.walrus_ir.specs.Tree.{Items, no_items, item, Sequences, no_sequences, sequence}
use Rattle.wasm_body.specs.declared.error.ParseError.{ParseError}
use Rattle.wasm_numbers.specs.Results.{infallible}
use Rattle.walrus_ir.specs.Locations.{default_location}
use Rattle.wasm_body.specs.Control.{Action, Nop, Plain, Branch, ConditionalBranch, TableBranch, Return, Unreachable, Throw, ThrowRef, Rethrow, TailCall}
use Rattle.wasm_body.specs.SourceTree.{Sequence, Empty, Single, Wrapped, IfThen, IfElse, TryCatch, TryDelegate, Clauses, Ended, Catches, CatchesAll, Body, map_body}
use Rattle.wasm_body.specs.Translation.{Translation, keeping_numbers, translate_immediates, Located, at_location}
use Rattle.wasm_body.specs.Naming.{NamedOperation, Occurrence, Environment, block_signature, entry_type_id}
use Rattle.wasm_body.specs.FunctionTree.{Target, Depth, TreeOperation, Head, LegacyClause, handles, handles_all, delegates, Instruction, FunctionTree}

-- ---- types of sequences

-- The types of sequences in a module.
pub record Typing : Type 0 where
  pub picked : Signature → InstrSeqType  -- the type of a sequence with these parameters and results
  pub signature_of : InstrSeqType → Option Signature  -- the parameters and results of the type, if the module has it
  pub tag_parameters : ℕ → List (ValType ℕ)
  pub entry : InstrSeqType  -- the type of the function's own sequence

-- Balanced: the results are the parameters. Where a sequence of such a type has no instruction, its operands are its results.
abbrev pub is_balanced : Signature → Bool
is_balanced s = same_types s.parameters s.results

-- if the module has the type
abbrev pub is_balanced_type : Option Signature → Bool
is_balanced_type (Some s) = is_balanced s
is_balanced_type None = false

abbrev pub balances : Typing → InstrSeqType → Bool
balances m t = is_balanced_type (m.signature_of t)

abbrev pub parameters_or_none : Option Signature → List (ValType ℕ)
parameters_or_none (Some s) = s.parameters
parameters_or_none None = []

abbrev pub entry_type : Result ℕ ParseError → InstrSeqType
entry_type (Ok id) = MultiValue id
entry_type (Err e) = Simple None

-- The types of sequences in this environment. For an accepted body the module has each type that is needed.
abbrev pub typing_of : Environment → Typing
typing_of env = record {
  picked = λ s. unwrap_or (pick env.types s) (Simple None);
  signature_of = signature_of_type env.types;
  tag_parameters = λ tag. parameters_or_none (option_and_then (signature_of env.types) (slice_get env.tags tag));
  entry = entry_type (entry_type_id env);
}

abbrev pub construct_type : Typing → NamedOperation → InstrSeqType
construct_type m o = m.picked (block_signature o)

-- a handler has the results of its `try`
abbrev pub handler_type : Typing → NamedOperation → List (ValType ℕ) → InstrSeqType
handler_type m o parameters = m.picked (signature parameters (block_signature o).results)

-- ---- instructions

-- An operator in the tree: ids stay as they are, a depth becomes a target, a block type moves to the sequence, and the exponent
-- of an alignment becomes a number of bytes.
abbrev pub kept : Translation ℕ Signature Target (Unit {0}) ⊥
kept = keeping_numbers (λ n. Ok (Depth n)) (λ s. Ok tt) (λ e. 2 ^ e)

abbrev pub kept_operation : NamedOperation → TreeOperation
kept_operation o = record { opcode = o.opcode; immediates = infallible (translate_immediates kept o.immediates) }

abbrev pub instruction : Located NamedOperation → List LegacyClause → Instruction
instruction a cs = record { op = kept_operation a.op; clauses = cs; location = a.location }

-- What becomes of an operator that is not a construct: it is dropped; it is kept; or it is kept and the rest of its sequence is
-- dropped. A tail call counts as an operator that goes on.
pub data Fate : Type 0 where
  Drops : Fate
  Stays : Fate
  MakesUnreachable : Fate

abbrev pub fate : Action → Fate
fate Nop = Drops
fate Plain = Stays
fate (Branch n) = MakesUnreachable
fate (ConditionalBranch n) = Stays
fate (TableBranch ts d) = MakesUnreachable
fate Return = MakesUnreachable
fate Unreachable = MakesUnreachable
fate (Throw t) = MakesUnreachable
fate ThrowRef = MakesUnreachable
fate (Rethrow n) = MakesUnreachable
fate TailCall = Stays

-- an operator that is not a construct, before the normal form of the rest of its sequence
abbrev pub with_fate : Fate → Instruction → Items Head Instruction → Items Head Instruction
with_fate Drops i rest = rest
with_fate Stays i rest = item i no_sequences rest
with_fate MakesUnreachable i rest = item i no_sequences no_items

-- ---- trees

abbrev pub head : InstrSeqType → ℕ → Head
head t l = record { type = t; end_location = l }

abbrev pub legacy_clauses : {A : Type 0} → Clauses A → List LegacyClause
legacy_clauses (Ended e) = []
legacy_clauses (Catches a t b cs) = handles t ∷ legacy_clauses cs
legacy_clauses (CatchesAll a b e) = handles_all ∷ []

-- the location of the operator that closes the sequence before these clauses
abbrev pub closed_at : Clauses (Located NamedOperation) → ℕ
closed_at (Ended e) = e.location
closed_at (Catches a t b cs) = a.location
closed_at (CatchesAll a b e) = a.location

-- In each sequence by itself: `nop` is dropped, and so are all operators after the first one that cuts. An `if` without `else`
-- gets an empty alternative, whose end has the default location. The end of a sequence has the location of the operator that
-- closes it; if that is `delegate`, it has the default location.
abbrev mutual
  pub normal : Typing → Sequence (Located NamedOperation) → Items Head Instruction
  normal m Empty = no_items
  normal m (Single a action r) = with_fate (fate action) (instruction a []) (normal m r)
  normal m (Wrapped a w b e r) = item (instruction a []) (sequence (head (construct_type m a.op) e.location) (normal m b) no_sequences) (normal m r)
  normal m (IfThen a b e r) =
      item (instruction a [])
      (sequence (head (construct_type m a.op) e.location) (normal m b)
      (sequence (head (construct_type m a.op) default_location) no_items no_sequences))
      (normal m r)
  normal m (IfElse a b l c e r) =
      item (instruction a [])
      (sequence (head (construct_type m a.op) l.location) (normal m b)
      (sequence (head (construct_type m a.op) e.location) (normal m c) no_sequences))
      (normal m r)
  normal m (TryCatch a b cs r) =
      item (instruction a (legacy_clauses cs)) (sequence (head (construct_type m a.op) (closed_at cs)) (normal m b) (handler_sequences m a.op cs)) (normal m r)
  normal m (TryDelegate a b e n r) =
      item (instruction a (delegates n ∷ [])) (sequence (head (construct_type m a.op) default_location) (normal m b) no_sequences) (normal m r)

  -- the handlers of the `try` that o opens
  pub handler_sequences : Typing → NamedOperation → Clauses (Located NamedOperation) → Sequences Head Instruction
  handler_sequences m o (Ended e) = no_sequences
  handler_sequences m o (Catches a t b cs) = sequence (head (handler_type m o (m.tag_parameters t)) (closed_at cs)) (normal m b) (handler_sequences m o cs)
  handler_sequences m o (CatchesAll a b e) = sequence (head (handler_type m o []) e.location) (normal m b) no_sequences

abbrev pub normal_form : Typing → Body (Located NamedOperation) → FunctionTree
normal_form m b = record { head = head m.entry b.close.location; items = normal m b.sequence }

-- the name of an operator that occurs, at its location
abbrev pub name_at : Occurrence → Located NamedOperation
name_at x = at_location x.named x.location

abbrev pub named_body : Body Occurrence → Body (Located NamedOperation)
named_body b = map_body name_at b

-- the tree that a parse makes of a body in an environment
abbrev pub body_tree : Environment → Body Occurrence → FunctionTree
body_tree env b = normal_form (typing_of env) (named_body b)
