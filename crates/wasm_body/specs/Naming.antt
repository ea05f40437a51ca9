-- Naming: the name of an operator in its module, and the rules that it keeps in its place. The rules are tried in this order:
-- whether the operator is allowed there; its immediates, in the order in which they are written; the types that the module
-- must have. The first rule that fails is the fault.
use Rattle.std.specs.Prelude.{ℕ, List, [], ◌∷◌, length, nat_lt, Option, Some, None, is_some, slice_get, Result, Ok}
use Rattle.wasm_types.specs.declared.val_type.ValType.{ValType}
use Rattle.walrus_ir.specs.Types.{Signature, signature, ModuleType, signature_of, pick, find_entry}
use Rattle.wasm_operators.specs.declared.types.BlockType.{BlockType}
use Rattle.wasm_operators.specs.declared.types.BlockType.TheVariants.{Empty, Value, FuncType}
use Rattle.wasm_operators.specs.declared.types.Space.{Space}
use Rattle.wasm_operators.specs.declared.types.Space.TheVariants.{Types}
use Rattle.wasm_operators.specs.Operations.{Immediate, block, Operation, RawOperation}
use Rattle.wasm_body.specs.declared.error.IndexError.{IndexError}
use Rattle.wasm_body.specs.declared.error.ParseError.{ParseError}
use Rattle.wasm_body.specs.declared.error.ParseError.TheVariants.{Index, NoSuchLabel, NotAFunctionType, TypeMissing, EntryTypeMissing, ElseOutsideIf, CatchOutsideTry, DelegateOutsideTry, RethrowOutsideHandler, UnknownId}
use Rattle.wasm_numbers.specs.Results.{◌>>=◌, unless, some_or, with_fault}
use Rattle.wasm_body.specs.Control.{Control, Does, Opens, Else, Catch, CatchAll, End, Delegate, control_of}
use Rattle.wasm_body.specs.Frames.{SequenceFrame, handler_at, outside, opener_of, is_allowed}
use Rattle.wasm_body.specs.Translation.{Translation, keeping_numbers, translate, translate_value}

-- An operator by its name: with ids for indices, and with parameters and results for a block type. Depths stay as they are.
abbrev pub NamedOperation : Type 0
NamedOperation = Operation ℕ Signature

-- An operator as it occurs in a body: the operator as it is encoded, the place of its first byte, its location, and its name.
pub record Occurrence : Type 0 where
  pub spelt : RawOperation
  pub place : ℕ
  pub location : ℕ
  pub named : NamedOperation

-- The data by which a body is named: the types and tags of its module, by id, the maps from old indices to ids, and the
-- function's own type.
pub record Environment : Type 0 where
  pub types : List ModuleType
  pub tags : List ℕ  -- the type of each tag
  pub id_of : Space → ℕ → Result ℕ IndexError
  pub local_of : ℕ → Result ℕ IndexError
  pub type : ℕ

-- ---- 1: where an operator is allowed

abbrev pub position_fault : Control → ParseError
position_fault Else = ElseOutsideIf
position_fault (Delegate n) = DelegateOutsideTry
position_fault _ = CatchOutsideTry

abbrev pub allowed : {A : Type 0} → List (SequenceFrame A) → Control → Result (Unit {0}) ParseError
allowed fs c = unless (is_allowed fs c) (position_fault c)

-- ---- 2: the immediates, in the order in which they are written

abbrev pub id_at : Environment → Space → ℕ → Result ℕ ParseError
id_at env space n = with_fault Index (env.id_of space n)

-- a function type or an entry type
abbrev pub function_type : Environment → ℕ → Result Signature ParseError
function_type env id = some_or (signature_of env.types id) NotAFunctionType

abbrev pub name_block : Environment → BlockType → Result Signature ParseError
name_block env Empty = Ok (signature [] [])
name_block env (Value t) = translate_value (id_at env) t >>= λ u. Ok (signature [] (u ∷ []))
name_block env (FuncType n) = id_at env Types n >>= λ id. function_type env id

-- a label is open if it is less than the number of sequences around the operator, the function's own included
abbrev pub open_label : {A : Type 0} → List (SequenceFrame A) → ℕ → Result ℕ ParseError
open_label fs n = unless (nat_lt n (length fs)) NoSuchLabel >>= λ u. Ok n

abbrev pub handler_label : {A : Type 0} → List (SequenceFrame A) → ℕ → Result ℕ ParseError
handler_label fs n = open_label fs n >>= λ m. unless (handler_at fs n) RethrowOutsideHandler >>= λ u. Ok n

abbrev pub naming : {A : Type 0} → Environment → List (SequenceFrame A) → Translation ℕ BlockType ℕ Signature ParseError
naming env fs = record (keeping_numbers (open_label fs) (name_block env) (λ e. e)) {
  index = id_at env;
  local = λ n. with_fault Index (env.local_of n);
  handler = handler_label fs;
  outer = open_label (outside fs);
}

-- ---- 3 and 4: the types that the module must have

abbrev pub block_types : {L B : Type 0} → List (Immediate L B) → List B
block_types [] = []
block_types (block b ∷ is) = b ∷ block_types is
block_types (i ∷ is) = block_types is

abbrev pub first_signature : List Signature → Signature
first_signature [] = signature [] []
first_signature (s ∷ ss) = s

abbrev pub block_signature : NamedOperation → Signature
block_signature o = first_signature (block_types o.immediates)

-- the results of the innermost construct
abbrev pub results_around : Option Occurrence → List (ValType ℕ)
results_around (Some x) = (block_signature x.named).results
results_around None = []

abbrev pub construct_results : List (SequenceFrame Occurrence) → List (ValType ℕ)
construct_results [] = []
construct_results (f ∷ fs) = results_around (opener_of f)

-- the module has a type of a sequence with this signature
abbrev pub has_pick : Environment → Signature → Result (Unit {0}) ParseError
has_pick env s = unless (is_some (pick env.types s)) TypeMissing

abbrev pub tag_type : Environment → ℕ → Result Signature ParseError
tag_type env tag = some_or (slice_get env.tags tag) UnknownId >>= λ type. function_type env type

-- The module has the type of the sequence that an operator opens. The sequence of a construct has the parameters and results
-- of its block type. A handler has the parameters of its tag, or none if it catches all, and the results of its `try`.
abbrev pub has_types : Environment → List (SequenceFrame Occurrence) → Control → NamedOperation → Result (Unit {0}) ParseError
has_types env fs (Opens construct) o = has_pick env (block_signature o)
has_types env fs (Catch tag) o = tag_type env tag >>= λ s. has_pick env (signature s.parameters (construct_results fs))
has_types env fs CatchAll o = has_pick env (signature [] (construct_results fs))
has_types env fs (Does action) o = Ok tt
has_types env fs Else o = Ok tt
has_types env fs End o = Ok tt
has_types env fs (Delegate n) o = Ok tt

-- ---- an operator in its place

-- The name of an operator inside these frames, or the fault of the first rule that it breaks.
abbrev pub named_in : Environment → List (SequenceFrame Occurrence) → RawOperation → Result NamedOperation ParseError
named_in env fs o =
    allowed fs (control_of o) >>= λ _.
    translate (naming env fs) o >>= λ named.
    has_types env fs (control_of named) named >>= λ _.
    Ok named

-- ---- the function's own type

-- it is a function type, and the module has an entry type for its results: this is the id of the entry type
abbrev pub entry_type_id : Environment → Result ℕ ParseError
entry_type_id env = function_type env env.type >>= λ s. some_or (find_entry env.types s.results) EntryTypeMissing
