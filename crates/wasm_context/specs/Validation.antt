-- The validation algorithm over the operators of a module as they are encoded (WebAssembly core specification 3.0, appendix, validation
-- algorithm): indices are those of the module, and block types are looked up in it.
use Rattle.std.specs.Prelude.{◌≡◌, ◌≢◌, ℕ, ◌+◌, List, [], ◌∷◌, length, Result, Ok, Err, None}
use Rattle.std.specs.List.{range_with_len}
use Rattle.std.specs.Result.{result_ok}
use Rattle.std.specs.Prelude.{Option, Some, option_map, unwrap_or, slice_get}
use Rattle.wasm_types.specs.declared.val_type.ValType.{ValType}
use Rattle.walrus_ir.specs.Types.{Signature, signature}
use Rattle.walrus_ir.specs.declared.val_type.InstrSeqType.TheVariants.{Simple}
use Rattle.wasm_numbers.specs.Results.{◌>>=◌, with_fault}
use Rattle.wasm_operators.specs.declared.types.BlockType.{BlockType}
use Rattle.wasm_operators.specs.declared.types.BlockType.TheVariants.{Empty, Value, FuncType}
use Rattle.wasm_operators.specs.declared.types.Space.{Space}
use Rattle.wasm_operators.specs.declared.types.Space.TheVariants.{Tags}
use Rattle.wasm_operators.specs.Operations.{RawOperation}
use Rattle.wasm_operators.specs.OperatorList.{Placed}
use Rattle.wasm_body.specs.Control.{control_of}
use Rattle.wasm_body.specs.Translation.{Translation, keeping_numbers, translate}
use Rattle.wasm_body.specs.Naming.{NamedOperation}
use Rattle.wasm_body.specs.NormalForm.{Typing}
use Rattle.wasm_body.specs.Parsing.Accepted.{validated}
use Rattle.wasm_body.specs.Validity.{Stacks, State, state, Checked, Refusal, demand, required, step_in, start}
use Rattle.wasm_body.specs.ValidityLaws.{KnownOperand}
use Rattle.wasm_typing.specs.Contexts.{OperandContext, function_type_in, initial_locals}
use Rattle.wasm_typing.specs.Matching.{is_valid_value}
use Rattle.wasm_typing.specs.StandardRules.{standard_rules}

-- "context": what the types of operators depend on, and the type of each tag
pub record BodyContext : Type 0 where
  pub operands : OperandContext
  pub tags : List ℕ

-- ---- the name of an operator, by the indices of its own module

-- "blocktype": a value type has to be valid, and a type index has to be that of a function type
abbrev pub named_block_type : BodyContext → BlockType → Checked Signature
named_block_type c Empty = Ok (signature [] [])
named_block_type c (Value t) = demand (is_valid_value c.operands t) >>= λ u. Ok (signature [] (t ∷ []))
named_block_type c (FuncType n) = function_type_in c.operands n

abbrev pub tag_signature : BodyContext → ℕ → Checked Signature
tag_signature c tag = required (slice_get c.tags tag) >>= λ type. function_type_in c.operands type

-- A tag has to be there. Any other index is looked up by the rule of its operator.
abbrev pub checked_index : BodyContext → Space → ℕ → Checked ℕ
checked_index c Tags n = tag_signature c n >>= λ s. Ok n
checked_index c space n = Ok n

abbrev pub raw_naming : BodyContext → Translation ℕ BlockType ℕ Signature Refusal
raw_naming c = record (keeping_numbers (λ l. Ok l) (named_block_type c) (λ e. e)) { index = checked_index c }

abbrev pub raw_named : BodyContext → RawOperation → Checked NamedOperation
raw_named c o = translate (raw_naming c) o

-- ---- the step of the algorithm

abbrev pub parameters_of : Checked Signature → List (ValType ℕ)
parameters_of (Ok s) = s.parameters
parameters_of (Err e) = []

-- The algorithm asks only for the parameters of tags.
abbrev pub typing_in : BodyContext → Typing
typing_in c = record { picked = λ s. Simple None; signature_of = λ t. None; tag_parameters = λ tag. parameters_of (tag_signature c tag); entry = Simple None }

abbrev pub BodyState : Type 0
BodyState = State KnownOperand

abbrev pub named_step : BodyContext → NamedOperation → BodyState → Checked BodyState
named_step c o s = step_in (typing_in c) (standard_rules c.operands) (control_of o) o s.stacks s.controls

abbrev pub raw_step : BodyContext → RawOperation → BodyState → Checked BodyState
raw_step c o s = raw_named c o >>= λ n. named_step c n s

-- The function has so many parameters, which are its first locals, and these results.
abbrev pub body_start : BodyContext → (parameters : ℕ) → (results : List (ValType ℕ)) → BodyState
body_start c parameters results = start (typing_in c) (standard_rules c.operands) results (initial_locals c.operands (range_with_len 0 parameters))

-- ---- operators in a row

-- the number of a refusal, which has no reason
abbrev pub refusal_number : ℕ
refusal_number = 0

-- the same step as the meaning of a validator, by number
abbrev pub check_in : BodyContext → BodyState → Placed → Result BodyState ℕ
check_in c s x = with_fault (λ e. refusal_number) (raw_step c x.spelt s)

abbrev pub steps_through : BodyContext → BodyState → List Placed → Result BodyState ℕ
steps_through c s xs = validated (check_in c) s xs
