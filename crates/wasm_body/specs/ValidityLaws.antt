-- The law of validity: if the validation algorithm accepts the operators of a body, it accepts those of the text of its normal form, under
-- any rules for operands and in any function.
use Rattle.std.specs.Prelude.{ℕ, List, Bool, map}
use Rattle.std.specs.List.{AllByRecursion}
use Rattle.wasm_types.specs.declared.val_type.ValType.{ValType}
use Rattle.wasm_body.specs.SourceTree.{Body}
use Rattle.wasm_body.specs.Translation.{Located}
use Rattle.wasm_body.specs.Naming.{Environment, NamedOperation, Occurrence}
use Rattle.wasm_body.specs.Parsing.Accepted.{HasSpelling, Lawful}
use Rattle.wasm_body.specs.FunctionTree.{FunctionTree}
use Rattle.wasm_body.specs.NormalForm.{Typing, typing_of, normal_form, name_at, body_tree}
use Rattle.wasm_body.specs.Typed.{AreTyped}
use Rattle.wasm_body.specs.TextLaws.{IsNamedBody, IsTextOf}
use Rattle.wasm_body.specs.Validity.{OperandRules, IsValid}

-- Under any rules for operands and in any function, where the first list is valid, the second is. `T` is what is known of an operand.
abbrev pub StaysValid : Type 0 → Typing → (xs ys : List (Located NamedOperation)) → Type 0
StaysValid T m xs ys =
    (r : OperandRules T) (results : List (ValType ℕ)) (initialised : List ℕ) → IsValid m r results initialised xs → IsValid m r results initialised ys

-- What the standard knows of an operand that isn't unknown: its value type; or that it is a reference, to a heap type that is unknown
-- ("Ref(Bot)").
pub data KnownOperand : Type 0 where
  of_type : (type : ValType ℕ) → KnownOperand
  of_reference : (nullable : Bool) → KnownOperand

-- The tree has a text, which is valid where these operators are.
pub record HasValidText (T : Type 0) (m : Typing) (tree : FunctionTree) (xs : List (Located NamedOperation)) : Type 0 where
  pub text : List (Located NamedOperation)
  pub is_text : IsTextOf m tree text
  pub stays_valid : StaysValid T m xs text

-- The normal form of a typed body of named operators has a text, which is valid where the body is.
abbrev pub NamedValidityKept : Type 0 → Type 0
NamedValidityKept T =
    (m : Typing) (xs : List (Located NamedOperation)) (b : Body (Located NamedOperation)) → IsNamedBody xs b → AreTyped m xs →
    HasValidText T m (normal_form m b) xs

-- So it is of every accepted body.
abbrev pub ValidityKept : Type 0 → Type 0
ValidityKept T =
    (env : Environment) (xs : List Occurrence) (b : Body Occurrence) → AllByRecursion HasSpelling xs → Lawful env xs b →
    HasValidText T (typing_of env) (body_tree env b) (map name_at xs)
