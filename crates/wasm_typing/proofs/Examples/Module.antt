-- The module of the examples, and the tests of a body in it.
use Rattle.std.specs.Prelude.{◌≡◌, ℕ, List, [], ◌∷◌, map, true, false, Option, Some, None, Err}
use Rattle.wasm_types.specs.declared.val_type.AbstractHeapType.TheVariants as abstract
use Rattle.wasm_types.specs.declared.val_type.HeapType.TheVariants.{Abstract, Concrete}
use Rattle.wasm_types.specs.declared.val_type.RefType.{RefType}
use Rattle.wasm_types.specs.declared.val_type.ValType.{ValType}
use Rattle.wasm_types.specs.declared.val_type.ValType.TheVariants.{I32, I64, F64, V128, Ref}
use Rattle.walrus_ir.specs.Types.{signature}
use Rattle.wasm_body.specs.Translation.{Located, at_location}
use Rattle.wasm_body.specs.Naming.{NamedOperation}
use Rattle.wasm_body.specs.NormalForm.{Typing, typing_of}
use Rattle.wasm_body.specs.Validity.{refused, start, validate}
use Rattle.wasm_body.proofs.Examples.Modules.{demo}
use Rattle.wasm_typing.specs.Contexts.{StorageType, I8, I16, Unpacked, FieldType, CompositeType, Function, Struct, Array, DefinedType, Address32, Address64, OperandContext, initial_locals}
use Rattle.wasm_typing.specs.Rules.{ref, ref_null}
use Rattle.wasm_typing.specs.StandardRules.{standard_rules, is_valid_body}

-- ---- types

abbrev pub func_null : RefType ℕ
func_null = record { nullable = true; heap_type = Abstract abstract.Func }

abbrev pub func_ref : RefType ℕ
func_ref = record { nullable = false; heap_type = Abstract abstract.Func }

abbrev pub extern_null : RefType ℕ
extern_null = record { nullable = true; heap_type = Abstract abstract.Extern }

abbrev constant : StorageType → FieldType
constant s = record { mutable = false; storage = s }

abbrev variable : StorageType → FieldType
variable s = record { mutable = true; storage = s }

abbrev type : CompositeType → Option ℕ → ℕ → DefinedType
type t super first = record { composite = t; supertype = super; first = first }

abbrev pair : List FieldType → List FieldType
pair more = variable (Unpacked I32) ∷ constant (Unpacked I64) ∷ more

-- 0: a function without parameters and results. 1, and again 5: a function from i32 to i32. 2: a struct of a variable i32 and a constant
-- i64. 3: one with a packed field besides, a subtype of 2. 4: an array of variable i8. 6: an array of constant references to functions.
-- 7: one of variables. 8: a subtype of 3, with a reference that has no default. 9: an array of variable references to functions that may
-- not be null. 10: a function that gives a struct of type 3.
abbrev types : List DefinedType
types =
    type (Function (signature [] [])) None 0 ∷
    type (Function (signature (I32 ∷ []) (I32 ∷ []))) None 1 ∷
    type (Struct (pair [])) None 2 ∷
    type (Struct (pair (variable I16 ∷ []))) (Some 2) 3 ∷
    type (Array (variable I8)) None 4 ∷
    type (Function (signature (I32 ∷ []) (I32 ∷ []))) None 1 ∷
    type (Array (constant (Unpacked (Ref func_null)))) None 6 ∷
    type (Array (variable (Unpacked (Ref func_null)))) None 7 ∷
    type (Struct (pair (variable I16 ∷ constant (Unpacked (ref (Concrete 2))) ∷ []))) (Some 3) 8 ∷
    type (Array (variable (Unpacked (Ref func_ref)))) None 9 ∷
    type (Function (signature [] (ref (Concrete 3) ∷ []))) None 10 ∷
    []

-- ---- the module

-- Functions 0 to 3 are of types 0, 1, 5 and 10, and `ref.func` may name function 1. Table 0 has references to functions, table 1 external
-- ones, with addresses of 64 bits, and table 2 references to functions that may not be null. Memory 1 has addresses of 64 bits. Global 0 is
-- a variable i32, and global 1 a constant i64. Element segment 0 has references to functions, and segment 1 external ones. Local 0 is an
-- i32, local 1 a reference that has no default, local 2 one that may be null, local 3 an f64, and local 4 a v128.
abbrev pub context : OperandContext
context = record {
  types = types;
  functions = 0 ∷ 1 ∷ 5 ∷ 10 ∷ [];
  referenced = 1 ∷ [];
  tables = record { address = Address32; element = func_null } ∷ record { address = Address64; element = extern_null }
      ∷ record { address = Address32; element = func_ref } ∷ [];
  memories = Address32 ∷ Address64 ∷ [];
  globals = record { mutable = true; type = I32 } ∷ record { mutable = false; type = I64 } ∷ [];
  elements = func_ref ∷ extern_null ∷ [];
  data_segments = 1;
  locals = I32 ∷ ref (Concrete 2) ∷ ref_null (Concrete 2) ∷ F64 ∷ V128 ∷ [];
}

-- tag 1 takes an i32
abbrev m : Typing
m = typing_of demo

-- ---- bodies of a function of this module without arguments

abbrev placed : List NamedOperation → List (Located NamedOperation)
placed os = map (λ o. at_location o 0) os

-- the operators are valid as the body of a function with these results
abbrev pub Takes : List (ValType ℕ) → List NamedOperation → Type 0
Takes results os = is_valid_body m context [] results (placed os) ≡ true

-- one of them is refused
abbrev pub Refuses : List (ValType ℕ) → List NamedOperation → Type 0
Refuses results os = validate m (standard_rules context) (placed os) (start m (standard_rules context) results (initial_locals context [])) ≡ Err refused
