-- The algorithm over operators as they are encoded, and over their names: in an environment of the same module, whose ids are the indices,
-- both have the same verdicts.
use Rattle.std.specs.Prelude.{◌≡◌, ℕ, List, map, Some, slice_get, Result, Ok}
use Rattle.std.specs.Result.{result_ok}
use Rattle.wasm_types.specs.declared.val_type.ValType.{ValType}
use Rattle.walrus_ir.specs.Types.{Signature, signature_of}
use Rattle.wasm_numbers.specs.Results.{with_fault}
use Rattle.wasm_operators.specs.declared.types.Space.{Space}
use Rattle.wasm_operators.specs.declared.types.Space.TheVariants.{Types, Tags}
use Rattle.wasm_operators.specs.Operations.{RawOperation}
use Rattle.wasm_body.specs.SourceTree.{Body}
use Rattle.wasm_body.specs.Frames.{SequenceFrame}
use Rattle.wasm_body.specs.Translation.{translate}
use Rattle.wasm_body.specs.Naming.{Environment, NamedOperation, Occurrence, naming}
use Rattle.wasm_body.specs.NormalForm.{typing_of, name_at}
use Rattle.wasm_body.specs.Parsing.Accepted.{Lawful, placed}
use Rattle.wasm_body.specs.Validity.{validate}
use Rattle.wasm_typing.specs.Contexts.{DefinedType, function_type_in}
use Rattle.wasm_typing.specs.StandardRules.{standard_rules}
use Rattle.wasm_context.specs.Validation.{BodyContext, BodyState, tag_signature, raw_named, refusal_number, steps_through}

-- The environment is that of the module of the context: its ids are the indices, and it has the same function types and tags.
pub record IsModuleOfContext (env : Environment) (c : BodyContext) : Type 0 where
  pub index : (space : Space) (n m : ℕ) → env.id_of space n ≡ Ok m → m ≡ n
  pub local : (n m : ℕ) → env.local_of n ≡ Ok m → m ≡ n
  pub type : (n m : ℕ) → env.id_of Types n ≡ Ok m → (t : DefinedType) × (slice_get c.operands.types n ≡ Some t)
  pub function : (n : ℕ) → signature_of env.types n ≡ result_ok (function_type_in c.operands n)
  pub tags : env.tags ≡ c.tags
  pub tag : (n m : ℕ) → env.id_of Tags n ≡ Ok m → (s : Signature) × (tag_signature c n ≡ Ok s)

-- An operator that has a name there has the same one here.
abbrev pub SameNames : Type 0
SameNames =
    (env : Environment) (c : BodyContext) → IsModuleOfContext env c →
    (fs : List (SequenceFrame Occurrence)) (o : RawOperation) (n : NamedOperation) → translate (naming env fs) o ≡ Ok n → raw_named c o ≡ Ok n

-- So the operators of an accepted body have the same verdict, from any state on.
abbrev pub SameVerdicts : Type 0
SameVerdicts =
    (env : Environment) (c : BodyContext) → IsModuleOfContext env c → (xs : List Occurrence) (b : Body Occurrence) → Lawful env xs b → (s : BodyState) →
    steps_through c s (map placed xs) ≡ with_fault (λ e. refusal_number) (validate (typing_of env) (standard_rules c.operands) (map name_at xs) s)
