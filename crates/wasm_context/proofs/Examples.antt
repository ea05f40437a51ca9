-- Examples that pin the definitions, by the standard's text (sections 3.2 and 3.4 and the appendix) and its test scripts `gc/type-subtyping.wast`,
-- `gc/type-rec.wast`, `throw.wast` and `block.wast`.
use Rattle.std.specs.Prelude.{◌≡◌, ℕ, List, [], ◌∷◌, Bool, true, false, Option, Some, None, Ok, Err, pos, refl}
use Rattle.wasm_types.specs.declared.val_type.AbstractHeapType.TheVariants as abstract
use Rattle.wasm_types.specs.declared.val_type.HeapType.TheVariants.{Abstract, Concrete}
use Rattle.wasm_types.specs.declared.val_type.ValType.{ValType}
use Rattle.wasm_types.specs.declared.val_type.ValType.TheVariants.{I32, I64}
use Rattle.walrus_ir.specs.Types.{signature}
use Rattle.wasm_numbers.specs.Results.{◌>>=◌}
use Rattle.wasm_operators.specs.declared.types.BlockType.{BlockType}
use Rattle.wasm_operators.specs.declared.types.BlockType.TheVariants.{Empty, Value, FuncType}
use Rattle.wasm_operators.specs.declared.types.Opcode.TheVariants.{Byte}
use Rattle.wasm_operators.specs.declared.types.Space.TheVariants.{Tags}
use Rattle.wasm_operators.specs.Operations.{RawOperation, operation, block, index, i32}
use Rattle.wasm_body.specs.Validity.{Checked, State, refused}
use Rattle.wasm_typing.specs.Contexts.{StorageType, I8, Unpacked, FieldType, CompositeType, Function, Struct, Array}
use Rattle.wasm_typing.specs.RecursiveTypes.{DeclaredType, Group}
use Rattle.wasm_typing.specs.Rules.{ref, ref_null}
use Rattle.wasm_typing.specs.StandardRules.{closes_all}
use Rattle.wasm_typing.proofs.Examples.Module.{context}
use Rattle.wasm_context.specs.Validation.{BodyContext, BodyState, named_block_type, raw_step, body_start}
use Rattle.wasm_context.specs.ValidTypes.{are_valid_types}

-- ---- operators as they are encoded

-- tag 0 has no parameters, tag 1 has an i32, and tag 2 has the type of a struct
abbrev module_of : BodyContext
module_of = record { operands = context; tags = 0 ∷ 1 ∷ 2 ∷ [] }

abbrev runs : List RawOperation → BodyState → Checked BodyState
runs [] s = Ok s
runs (o ∷ os) s = raw_step module_of o s >>= runs os

-- a body of a function without parameters and results
abbrev is_body : List RawOperation → Bool
is_body os = closes_all (runs os (body_start module_of 0 []))

abbrev opens : ℕ → BlockType → RawOperation
opens b t = operation (Byte b) (block t ∷ [])

abbrev throws : ℕ → RawOperation
throws tag = operation (Byte 0x08) (index Tags tag ∷ [])

abbrev end : RawOperation
end = operation (Byte 0x0b) []

abbrev unreachable : RawOperation
unreachable = operation (Byte 0x00) []

abbrev drop : RawOperation
drop = operation (Byte 0x1a) []

abbrev const : RawOperation
const = operation (Byte 0x41) (i32 (pos 0) ∷ [])

-- the type of a block: none, a value type, and a function type by its index
block_of_none : is_body (opens 0x02 Empty ∷ end ∷ end ∷ []) ≡ true
block_of_none = refl

block_of_value : is_body (opens 0x02 (Value (ref (Concrete 2))) ∷ unreachable ∷ end ∷ drop ∷ end ∷ []) ≡ true
block_of_value = refl

block_of_function : is_body (const ∷ opens 0x02 (FuncType 1) ∷ end ∷ drop ∷ end ∷ []) ≡ true
block_of_function = refl

-- a value type of a type that isn't there, the index of a type that isn't there, and that of a struct
block_of_missing_value : is_body (opens 0x02 (Value (ref (Concrete 99))) ∷ unreachable ∷ end ∷ drop ∷ end ∷ []) ≡ false
block_of_missing_value = refl

block_of_missing_type : is_body (opens 0x02 (FuncType 99) ∷ unreachable ∷ end ∷ end ∷ []) ≡ false
block_of_missing_type = refl

block_of_struct : is_body (opens 0x02 (FuncType 2) ∷ unreachable ∷ end ∷ end ∷ []) ≡ false
block_of_struct = refl

-- a tag, one whose parameter is missing, one that isn't there, and one that has no function type
thrown : is_body (const ∷ throws 1 ∷ end ∷ []) ≡ true
thrown = refl

thrown_nothing : is_body (throws 1 ∷ end ∷ []) ≡ false
thrown_nothing = refl

thrown_missing : is_body (unreachable ∷ throws 99 ∷ end ∷ []) ≡ false
thrown_missing = refl

thrown_struct : is_body (unreachable ∷ throws 2 ∷ end ∷ []) ≡ false
thrown_struct = refl

-- nothing follows the function's `end`
after_end : is_body (end ∷ end ∷ []) ≡ false
after_end = refl

-- ---- definitions of types

abbrev field : StorageType → FieldType
field s = record { mutable = false; storage = s }

abbrev variable : StorageType → FieldType
variable s = record { mutable = true; storage = s }

abbrev extensible : Option ℕ → CompositeType → DeclaredType
extensible super t = record { final = false; supertype = super; composite = t }

abbrev final : Option ℕ → CompositeType → DeclaredType
final super t = record { final = true; supertype = super; composite = t }

abbrev alone : DeclaredType → Group
alone t = t ∷ []

abbrev number : FieldType
number = field (Unpacked I32)

abbrev refers : ℕ → FieldType
refers n = field (Unpacked (ref (Concrete n)))

-- a struct and one with more fields; not one with fewer
wider : are_valid_types (alone (extensible None (Struct (number ∷ []))) ∷ alone (final (Some 0) (Struct (number ∷ number ∷ []))) ∷ []) ≡ true
wider = refl

narrower : are_valid_types (alone (extensible None (Struct (number ∷ number ∷ []))) ∷ alone (final (Some 0) (Struct (number ∷ []))) ∷ []) ≡ false
narrower = refl

-- not of a final type, not of one of another kind, and not of one that comes later
of_final : are_valid_types (alone (final None (Struct [])) ∷ alone (final (Some 0) (Struct [])) ∷ []) ≡ false
of_final = refl

of_other_kind : are_valid_types (alone (extensible None (Array number)) ∷ alone (final (Some 0) (Struct [])) ∷ []) ≡ false
of_other_kind = refl

of_later : are_valid_types ((final (Some 1) (Struct []) ∷ extensible None (Struct []) ∷ []) ∷ []) ≡ false
of_later = refl

of_itself : are_valid_types (alone (extensible (Some 0) (Struct [])) ∷ []) ≡ false
of_itself = refl

-- a constant field may hold less; a variable one may not, and a constant one isn't variable
deeper : are_valid_types (alone (extensible None (Struct (field (Unpacked (ref_null (Abstract abstract.Any))) ∷ []))) ∷ alone (final (Some 0) (Struct (field (Unpacked (ref (Abstract abstract.Eq))) ∷ []))) ∷ []) ≡ true
deeper = refl

deeper_variable : are_valid_types (alone (extensible None (Array (variable (Unpacked (ref_null (Abstract abstract.Any)))))) ∷ alone (final (Some 0) (Array (variable (Unpacked (ref (Abstract abstract.Eq)))))) ∷ []) ≡ false
deeper_variable = refl

same_variable : are_valid_types (alone (extensible None (Array (variable I8))) ∷ alone (final (Some 0) (Array (variable I8))) ∷ []) ≡ true
same_variable = refl

made_variable : are_valid_types (alone (extensible None (Array number)) ∷ alone (final (Some 0) (Array (variable (Unpacked I32)))) ∷ []) ≡ false
made_variable = refl

-- a function may take more and give less
functions : are_valid_types
    (alone (extensible None (Struct [])) ∷ alone (extensible (Some 0) (Struct (number ∷ [])))
    ∷ alone (extensible None (Function (signature (ref (Concrete 1) ∷ []) (ref (Concrete 0) ∷ []))))
    ∷ alone (final (Some 2) (Function (signature (ref (Concrete 0) ∷ []) (ref (Concrete 1) ∷ [])))) ∷ []) ≡ true
functions = refl

functions_otherwise : are_valid_types
    (alone (extensible None (Struct [])) ∷ alone (extensible (Some 0) (Struct (number ∷ [])))
    ∷ alone (extensible None (Function (signature (ref (Concrete 0) ∷ []) [])))
    ∷ alone (final (Some 2) (Function (signature (ref (Concrete 1) ∷ []) []))) ∷ []) ≡ false
functions_otherwise = refl

-- a group names its own types, also later ones, and none after its end
own_group : are_valid_types ((final None (Struct (refers 1 ∷ [])) ∷ final None (Struct (refers 0 ∷ [])) ∷ []) ∷ []) ≡ true
own_group = refl

after_group : are_valid_types (alone (final None (Struct (refers 1 ∷ []))) ∷ alone (final None (Struct [])) ∷ []) ≡ false
after_group = refl
