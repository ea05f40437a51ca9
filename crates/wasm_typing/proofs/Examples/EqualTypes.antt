-- Equal types of a module, by the standard's text (section 3.1, recursive types) and its test script `gc/type-equivalence.wast`.
use Rattle.std.specs.Prelude.{◌≡◌, ℕ, List, [], ◌∷◌, true, false, Option, Some, None, refl}
use Rattle.wasm_types.specs.declared.val_type.HeapType.TheVariants.{Concrete}
use Rattle.wasm_types.specs.declared.val_type.ValType.{ValType}
use Rattle.wasm_types.specs.declared.val_type.ValType.TheVariants.{I32, I64}
use Rattle.walrus_ir.specs.Types.{signature}
use Rattle.wasm_typing.specs.Contexts.{OperandContext, Unpacked, FieldType, CompositeType, Function, Struct}
use Rattle.wasm_typing.specs.MatchingLaws.{are_types}
use Rattle.wasm_typing.specs.RecursiveTypes.{DeclaredType, Group, first_ids, defined_types}
use Rattle.wasm_typing.specs.Rules.{ref, ref_null}
use Rattle.wasm_typing.proofs.Examples.Module.{context}

abbrev final : CompositeType → DeclaredType
final t = record { final = true; supertype = None; composite = t }

abbrev takes : ValType ℕ → CompositeType
takes t = Function (signature (t ∷ []) [])

abbrev field : ValType ℕ → FieldType
field t = record { mutable = false; storage = Unpacked t }

abbrev First : List Group → List ℕ → Type 0
First gs ids = first_ids [] [] 0 gs ≡ ids

-- two function types that are the same, and one that isn't
functions : First ((final (takes I32) ∷ []) ∷ (final (takes I64) ∷ []) ∷ (final (takes I32) ∷ []) ∷ []) (0 ∷ 1 ∷ 0 ∷ [])
functions = refl

-- of functions that take references to these: 3 and 4 are the same
references : First
    ((final (takes I32) ∷ []) ∷ (final (takes I64) ∷ []) ∷ (final (takes I32) ∷ []) ∷ (final (takes (ref (Concrete 0))) ∷ [])
    ∷ (final (takes (ref (Concrete 2))) ∷ []) ∷ (final (takes (ref (Concrete 1))) ∷ []) ∷ [])
    (0 ∷ 1 ∷ 0 ∷ 3 ∷ 3 ∷ 5 ∷ [])
references = refl

-- a struct with a reference to itself, twice; the third refers to the first, and isn't the same
abbrev list_of : ℕ → DeclaredType
list_of id = final (Struct (field (ref_null (Concrete id)) ∷ []))

recursive : First ((list_of 0 ∷ []) ∷ (list_of 1 ∷ []) ∷ (list_of 0 ∷ []) ∷ []) (0 ∷ 0 ∷ 2 ∷ [])
recursive = refl

-- two groups of two structs with references to each other; the same two in another order; and one of them alone
mutual_groups : First
    ((list_of 1 ∷ list_of 0 ∷ []) ∷ (list_of 3 ∷ list_of 2 ∷ []) ∷ (list_of 4 ∷ list_of 5 ∷ []) ∷ (list_of 0 ∷ []) ∷ [])
    (0 ∷ 1 ∷ 0 ∷ 1 ∷ 4 ∷ 5 ∷ 6 ∷ [])
mutual_groups = refl

-- a type that isn't final, and one with a supertype, are others
abbrev extensible : Option ℕ → CompositeType → DeclaredType
extensible super t = record { final = false; supertype = super; composite = t }

declarations : First
    ((final (takes I32) ∷ []) ∷ (extensible None (takes I32) ∷ []) ∷ (extensible (Some 1) (takes I32) ∷ []) ∷ (extensible (Some 1) (takes I32) ∷ []) ∷ [])
    (0 ∷ 1 ∷ 2 ∷ 2 ∷ [])
declarations = refl

-- The types of the module of the examples, and those of a module that declares groups, are those of a module.
tested : are_types context ≡ true
tested = refl

abbrev declaring : List Group → OperandContext
declaring gs = record context { types = defined_types gs }

tested_groups : are_types (declaring ((list_of 1 ∷ list_of 0 ∷ []) ∷ (list_of 3 ∷ list_of 2 ∷ []) ∷ (extensible None (takes I32) ∷ []) ∷ (extensible (Some 4) (takes I32) ∷ []) ∷ [])) ≡ true
tested_groups = refl

-- a supertype of another kind
not_tested : are_types (declaring ((extensible None (takes I32) ∷ []) ∷ (extensible (Some 0) (Struct []) ∷ []) ∷ [])) ≡ false
not_tested = refl
