-- Bodies that are valid and bodies that are not, by the standard's text (section 3.4 and the appendix) and its test scripts `unreached-valid.wast`,
-- `unreached-invalid.wast`, `select.wast`, `local_init.wast`, `global.wast`, `ref_is_null.wast`, `ref_as_non_null.wast`, `br_on_null.wast`,
-- `br_on_non_null.wast`, `gc/br_on_cast.wast`, `gc/struct.wast`, `gc/array.wast`, `gc/extern.wast`, `return_call.wast` and others, by hand.
use Rattle.std.specs.Prelude.{ℕ, List, [], ◌∷◌, true, pos, refl}
use Rattle.wasm_types.specs.declared.val_type.AbstractHeapType.TheVariants as abstract
use Rattle.wasm_types.specs.declared.val_type.HeapType.{HeapType}
use Rattle.wasm_types.specs.declared.val_type.HeapType.TheVariants.{Abstract, Concrete}
use Rattle.wasm_types.specs.declared.val_type.ValType.{ValType}
use Rattle.wasm_types.specs.declared.val_type.ValType.TheVariants.{I32, I64, F32, F64, V128, Ref}
use Rattle.walrus_ir.specs.Types.{signature}
use Rattle.wasm_operators.specs.declared.types.Opcode.TheVariants.{Byte, Prefixed}
use Rattle.wasm_operators.specs.declared.types.Space.TheVariants.{Tables, Types, Funcs, Globals, Memories, Elements, Data}
use Rattle.wasm_operators.specs.Operations.{cast, index, local, number, heap, value, i64, lanes, operation}
use Rattle.wasm_body.specs.Naming.{NamedOperation}
use Rattle.wasm_body.proofs.Examples.Modules.{nothing}
use Rattle.wasm_body.proofs.Examples.Operators.{unreachable, block, end, br_if, return, throw_ref, try_table, catches_all_ref, return_call, return_call_ref, return_call_indirect, call, call_ref, call_indirect, drop, local_get, local_set, add, const, br_on_null, br_on_non_null, br_on_null_cast, br_on_cast, br_on_cast_fail, struct_get}
use Rattle.wasm_typing.specs.Rules.{Immediates, ref, ref_null}
use Rattle.wasm_typing.proofs.Examples.Module.{Takes, Refuses, func_null, extern_null}

-- ---- operators in short notation

abbrev plain : ℕ → NamedOperation
plain b = operation (Byte b) []

abbrev prefixed : ℕ → ℕ → Immediates → NamedOperation
prefixed prefix n is = operation (Prefixed prefix n) is

abbrev long : ℕ → NamedOperation
long n = operation (Byte 0x42) (i64 (pos n) ∷ [])

abbrev select : NamedOperation
select = plain 0x1b

abbrev select_of : ValType ℕ → NamedOperation
select_of t = operation (Byte 0x1c) (value t ∷ [])

abbrev local_tee : ℕ → NamedOperation
local_tee n = operation (Byte 0x22) (local n ∷ [])

abbrev global_get : ℕ → NamedOperation
global_get n = operation (Byte 0x23) (index Globals n ∷ [])

abbrev global_set : ℕ → NamedOperation
global_set n = operation (Byte 0x24) (index Globals n ∷ [])

abbrev table_get : ℕ → NamedOperation
table_get n = operation (Byte 0x25) (index Tables n ∷ [])

abbrev null : HeapType ℕ → NamedOperation
null h = operation (Byte 0xd0) (heap h ∷ [])

abbrev is_null : NamedOperation
is_null = plain 0xd1

abbrev func : ℕ → NamedOperation
func n = operation (Byte 0xd2) (index Funcs n ∷ [])

abbrev equal : NamedOperation
equal = plain 0xd3

abbrev as_non_null : NamedOperation
as_non_null = plain 0xd4

abbrev of_type : ℕ → ℕ → NamedOperation
of_type n type = prefixed 0xfb n (index Types type ∷ [])

abbrev struct_new : ℕ → NamedOperation
struct_new type = of_type 0 type

abbrev struct_new_default : ℕ → NamedOperation
struct_new_default type = of_type 1 type

abbrev struct_get_s : (type field : ℕ) → NamedOperation
struct_get_s type field = prefixed 0xfb 3 (index Types type ∷ number field ∷ [])

abbrev struct_set : (type field : ℕ) → NamedOperation
struct_set type field = prefixed 0xfb 5 (index Types type ∷ number field ∷ [])

abbrev array_new_default : ℕ → NamedOperation
array_new_default type = of_type 7 type

abbrev array_get : ℕ → NamedOperation
array_get type = of_type 11 type

abbrev array_get_u : ℕ → NamedOperation
array_get_u type = of_type 13 type

abbrev array_len : NamedOperation
array_len = prefixed 0xfb 15 []

abbrev array_copy : (target source : ℕ) → NamedOperation
array_copy target source = prefixed 0xfb 17 (index Types target ∷ index Types source ∷ [])

abbrev test : HeapType ℕ → NamedOperation
test h = prefixed 0xfb 20 (heap h ∷ [])

abbrev cast_to : HeapType ℕ → NamedOperation
cast_to h = prefixed 0xfb 22 (heap h ∷ [])

-- 24: br_on_cast, 25: br_on_cast_fail, from a reference that may be null to one that may
abbrev cast_with_null : ℕ → (l : ℕ) → (source target : HeapType ℕ) → NamedOperation
cast_with_null n l source target =
    prefixed 0xfb n (cast (record { from_nullable = true; to_nullable = true; label = l; source = source; target = target }) ∷ [])

abbrev convert_extern : NamedOperation
convert_extern = prefixed 0xfb 26 []

abbrev convert_any : NamedOperation
convert_any = prefixed 0xfb 27 []

abbrev i31 : NamedOperation
i31 = prefixed 0xfb 28 []

abbrev any : HeapType ℕ
any = Abstract abstract.Any

abbrev extern : HeapType ℕ
extern = Abstract abstract.Extern

abbrev to_func : HeapType ℕ
to_func = Abstract abstract.Func

abbrev eq : HeapType ℕ
eq = Abstract abstract.Eq

-- ---- numeric operators

added : Takes (I32 ∷ []) (const 1 ∷ const 2 ∷ add ∷ end ∷ [])
added = refl

added_to_long : Refuses (I32 ∷ []) (long 1 ∷ const 2 ∷ add ∷ end ∷ [])
added_to_long = refl

-- i32.wrap_i64, i64.extend_i32_s
wrapped : Takes (I64 ∷ []) (long 1 ∷ plain 0xa7 ∷ plain 0xac ∷ end ∷ [])
wrapped = refl

wrapped_number : Refuses (I32 ∷ []) (const 1 ∷ plain 0xa7 ∷ end ∷ [])
wrapped_number = refl

-- i64.add128, i64.mul_wide_s
wide : Takes (I64 ∷ I64 ∷ []) (long 1 ∷ long 2 ∷ long 3 ∷ long 4 ∷ prefixed 0xfc 19 [] ∷ prefixed 0xfc 21 [] ∷ end ∷ [])
wide = refl

-- an opcode that no operator has, and one that has no rule here
no_operator : Refuses [] (plain 0xc5 ∷ end ∷ [])
no_operator = refl

no_vector_operator : Refuses [] (unreachable ∷ prefixed 0xfd 154 [] ∷ end ∷ [])
no_vector_operator = refl

-- i8x16.shuffle, with a lane that isn't there
shuffled : Takes (V128 ∷ []) (local_get 4 ∷ local_get 4 ∷ prefixed 0xfd 13 (lanes (0 ∷ 31 ∷ []) ∷ []) ∷ end ∷ [])
shuffled = refl

shuffled_outside : Refuses (V128 ∷ []) (local_get 4 ∷ local_get 4 ∷ prefixed 0xfd 13 (lanes (0 ∷ 32 ∷ []) ∷ []) ∷ end ∷ [])
shuffled_outside = refl

-- ---- drop and select

-- in code that can't be reached they take what isn't there
dropped : Takes [] (unreachable ∷ drop ∷ end ∷ [])
dropped = refl

drops_nothing : Refuses [] (drop ∷ end ∷ [])
drops_nothing = refl

selected : Takes (I64 ∷ []) (long 1 ∷ long 2 ∷ const 0 ∷ select ∷ end ∷ [])
selected = refl

selects_different : Refuses (I64 ∷ []) (long 1 ∷ const 2 ∷ const 0 ∷ select ∷ end ∷ [])
selects_different = refl

selects_different_below : Refuses (I64 ∷ []) (const 2 ∷ long 1 ∷ const 0 ∷ select ∷ end ∷ [])
selects_different_below = refl

selects_references : Refuses (ref_null to_func ∷ []) (null to_func ∷ null to_func ∷ const 0 ∷ select ∷ end ∷ [])
selects_references = refl

selects_references_of : Takes (ref_null to_func ∷ []) (null to_func ∷ func 1 ∷ const 0 ∷ select_of (ref_null to_func) ∷ end ∷ [])
selects_references_of = refl

-- What is selected of one operand that is known and one that isn't is of the known type; of two that aren't known it isn't known.
dead_select : Takes (I64 ∷ []) (unreachable ∷ long 1 ∷ const 0 ∷ select ∷ end ∷ [])
dead_select = refl

dead_select_of_another_type : Refuses (I32 ∷ []) (unreachable ∷ long 1 ∷ const 0 ∷ select ∷ end ∷ [])
dead_select_of_another_type = refl

dead_select_of_any : Takes (F32 ∷ []) (unreachable ∷ select ∷ end ∷ [])
dead_select_of_any = refl

dead_select_of_reference : Refuses (ref_null to_func ∷ []) (unreachable ∷ null to_func ∷ const 0 ∷ select ∷ end ∷ [])
dead_select_of_reference = refl

-- ---- locals and globals

-- numbers and references that may be null are initialised, others aren't
default_locals : Takes (I32 ∷ ref_null (Concrete 2) ∷ F64 ∷ []) (local_get 0 ∷ local_get 2 ∷ local_get 3 ∷ end ∷ [])
default_locals = refl

not_initialised : Refuses (ref (Concrete 2) ∷ []) (local_get 1 ∷ end ∷ [])
not_initialised = refl

initialised : Takes (ref (Concrete 2) ∷ []) (struct_new_default 2 ∷ local_set 1 ∷ local_get 1 ∷ end ∷ [])
initialised = refl

initialised_by_tee : Takes (ref (Concrete 2) ∷ []) (struct_new_default 2 ∷ local_tee 1 ∷ drop ∷ local_get 1 ∷ end ∷ [])
initialised_by_tee = refl

initialised_inside : Refuses (ref (Concrete 2) ∷ []) (block nothing ∷ struct_new_default 2 ∷ local_set 1 ∷ end ∷ local_get 1 ∷ end ∷ [])
initialised_inside = refl

-- ---- caught exceptions

abbrev exn : HeapType ℕ
exn = Abstract abstract.Exn

-- a block of this type that a clause `catch_all_ref` hands to
abbrev catching : ValType ℕ → NamedOperation → List NamedOperation
catching t after = block (signature [] (t ∷ [])) ∷ try_table nothing (catches_all_ref 0 ∷ []) ∷ return ∷ end ∷ return ∷ end ∷ after ∷ end ∷ []

-- a caught exception isn't null
caught : Takes [] (catching (ref exn) throw_ref)
caught = refl

caught_or_null : Takes [] (catching (ref_null exn) throw_ref)
caught_or_null = refl

caught_as_none : Refuses [] (catching (ref_null (Abstract abstract.NoExn)) throw_ref)
caught_as_none = refl

set_to_null : Refuses [] (null (Concrete 2) ∷ local_set 1 ∷ end ∷ [])
set_to_null = refl

no_local : Refuses [] (local_get 9 ∷ drop ∷ end ∷ [])
no_local = refl

set_global : Takes (I64 ∷ []) (const 1 ∷ global_set 0 ∷ global_get 1 ∷ end ∷ [])
set_global = refl

set_constant_global : Refuses [] (long 1 ∷ global_set 1 ∷ end ∷ [])
set_constant_global = refl

-- ---- calls

called : Takes (I32 ∷ []) (call 0 ∷ const 1 ∷ call 1 ∷ end ∷ [])
called = refl

called_without : Refuses (I32 ∷ []) (call 1 ∷ end ∷ [])
called_without = refl

no_function : Refuses [] (call 4 ∷ end ∷ [])
no_function = refl

called_indirectly : Takes (I32 ∷ []) (const 1 ∷ const 0 ∷ call_indirect 1 0 ∷ end ∷ [])
called_indirectly = refl

-- in a table of references that may not be null
called_in_table_without_null : Takes (I32 ∷ []) (const 1 ∷ const 0 ∷ call_indirect 1 2 ∷ end ∷ [])
called_in_table_without_null = refl

called_in_table_of_others : Refuses (I32 ∷ []) (const 1 ∷ long 0 ∷ call_indirect 1 1 ∷ end ∷ [])
called_in_table_of_others = refl

-- type 5 is type 1, and type 0 isn't
called_reference : Takes (I32 ∷ []) (const 1 ∷ func 1 ∷ call_ref 5 ∷ end ∷ [])
called_reference = refl

called_other_reference : Refuses [] (func 1 ∷ call_ref 0 ∷ end ∷ [])
called_other_reference = refl

-- function 2 isn't declared
not_declared : Refuses [] (func 2 ∷ drop ∷ end ∷ [])
not_declared = refl

tail_called : Takes (I32 ∷ []) (const 1 ∷ return_call 1 ∷ end ∷ [])
tail_called = refl

tail_called_with_more : Takes (I32 ∷ []) (long 2 ∷ const 1 ∷ return_call 1 ∷ end ∷ [])
tail_called_with_more = refl

tail_called_for_others : Refuses (I64 ∷ []) (const 1 ∷ return_call 1 ∷ end ∷ [])
tail_called_for_others = refl

-- what is given has to match the results: type 3 is one of type 2, and not of type 8
tail_called_for_supertype : Takes (ref (Concrete 2) ∷ []) (return_call 3 ∷ end ∷ [])
tail_called_for_supertype = refl

tail_called_for_subtype : Refuses (ref (Concrete 8) ∷ []) (return_call 3 ∷ end ∷ [])
tail_called_for_subtype = refl

tail_called_without : Refuses (I32 ∷ []) (return_call 1 ∷ end ∷ [])
tail_called_without = refl

tail_called_reference : Takes (I32 ∷ []) (const 1 ∷ func 1 ∷ return_call_ref 5 ∷ end ∷ [])
tail_called_reference = refl

tail_called_indirectly : Takes (I32 ∷ []) (const 1 ∷ const 0 ∷ return_call_indirect 1 0 ∷ end ∷ [])
tail_called_indirectly = refl

-- ---- tables, memories and segments

read_tables : Takes (Ref func_null ∷ Ref extern_null ∷ []) (const 0 ∷ table_get 0 ∷ long 0 ∷ table_get 1 ∷ end ∷ [])
read_tables = refl

-- table.init from segment 0, of references that may not be null, and not from segment 1
initialised_table : Takes [] (const 0 ∷ const 0 ∷ const 0 ∷ prefixed 0xfc 12 (index Elements 0 ∷ index Tables 0 ∷ []) ∷ end ∷ [])
initialised_table = refl

initialised_from_others : Refuses [] (const 0 ∷ const 0 ∷ const 0 ∷ prefixed 0xfc 12 (index Elements 1 ∷ index Tables 0 ∷ []) ∷ end ∷ [])
initialised_from_others = refl

-- table.copy between tables of other types
copied_table : Refuses [] (long 0 ∷ const 0 ∷ const 0 ∷ prefixed 0xfc 14 (index Tables 1 ∷ index Tables 0 ∷ []) ∷ end ∷ [])
copied_table = refl

-- memory.copy from a memory with addresses of 64 bits to one with addresses of 32 bits: the length has 32
copied_memory : Takes [] (const 0 ∷ long 0 ∷ const 0 ∷ prefixed 0xfc 10 (index Memories 0 ∷ index Memories 1 ∷ []) ∷ end ∷ [])
copied_memory = refl

copied_back : Takes [] (long 0 ∷ const 0 ∷ const 0 ∷ prefixed 0xfc 10 (index Memories 1 ∷ index Memories 0 ∷ []) ∷ end ∷ [])
copied_back = refl

copied_too_long : Refuses [] (const 0 ∷ long 0 ∷ long 0 ∷ prefixed 0xfc 10 (index Memories 0 ∷ index Memories 1 ∷ []) ∷ end ∷ [])
copied_too_long = refl

-- memory.init, memory.grow, data.drop of a segment that isn't there
initialised_memory : Takes (I64 ∷ []) (long 0 ∷ const 0 ∷ const 0 ∷ prefixed 0xfc 8 (index Data 0 ∷ index Memories 1 ∷ []) ∷ long 1 ∷ operation (Byte 0x40) (index Memories 1 ∷ []) ∷ end ∷ [])
initialised_memory = refl

no_segment : Refuses [] (prefixed 0xfc 9 (index Data 1 ∷ []) ∷ end ∷ [])
no_segment = refl

-- ---- references

tested_null : Takes (I32 ∷ []) (null extern ∷ is_null ∷ end ∷ [])
tested_null = refl

tested_number : Refuses (I32 ∷ []) (const 1 ∷ is_null ∷ end ∷ [])
tested_number = refl

-- what was null is so no longer: type 2 and not null matches `(ref any)`
asserted : Takes (ref any ∷ []) (local_get 2 ∷ as_non_null ∷ end ∷ [])
asserted = refl

not_asserted : Refuses (ref any ∷ []) (local_get 2 ∷ end ∷ [])
not_asserted = refl

-- in code that can't be reached it gives a reference to an unknown heap type, which isn't null and is no number
dead_as_non_null : Takes (ref to_func ∷ []) (unreachable ∷ as_non_null ∷ end ∷ [])
dead_as_non_null = refl

dead_as_non_null_number : Refuses (I32 ∷ []) (unreachable ∷ as_non_null ∷ end ∷ [])
dead_as_non_null_number = refl

compared : Takes (I32 ∷ []) (local_get 2 ∷ const 3 ∷ i31 ∷ equal ∷ end ∷ [])
compared = refl

compared_functions : Refuses (I32 ∷ []) (func 1 ∷ func 1 ∷ equal ∷ end ∷ [])
compared_functions = refl

-- the nullability is kept
converted : Takes (ref extern ∷ []) (const 1 ∷ i31 ∷ convert_any ∷ end ∷ [])
converted = refl

dead_converted : Takes (ref any ∷ []) (unreachable ∷ convert_extern ∷ end ∷ [])
dead_converted = refl

converted_null : Refuses (ref any ∷ []) (null extern ∷ convert_extern ∷ end ∷ [])
converted_null = refl

converted_from_any : Refuses (ref_null any ∷ []) (null any ∷ convert_extern ∷ end ∷ [])
converted_from_any = refl

-- ---- structs and arrays

-- type 3 is a subtype of type 2
new_struct : Takes (ref (Concrete 2) ∷ []) (const 1 ∷ long 2 ∷ const 3 ∷ struct_new 3 ∷ end ∷ [])
new_struct = refl

new_struct_of_supertype : Refuses (ref (Concrete 3) ∷ []) (const 1 ∷ long 2 ∷ struct_new 2 ∷ end ∷ [])
new_struct_of_supertype = refl

-- type 8 is one of type 2 by type 3
two_steps : Takes (ref (Concrete 2) ∷ []) (const 1 ∷ long 2 ∷ const 3 ∷ struct_new_default 2 ∷ struct_new 8 ∷ end ∷ [])
two_steps = refl

no_default : Refuses (ref (Concrete 8) ∷ []) (struct_new_default 8 ∷ end ∷ [])
no_default = refl

no_struct : Refuses [] (const 1 ∷ struct_new_default 4 ∷ drop ∷ drop ∷ end ∷ [])
no_struct = refl

read_field : Takes (I64 ∷ []) (local_get 2 ∷ struct_get 2 1 ∷ end ∷ [])
read_field = refl

read_packed_field : Takes (I32 ∷ []) (null (Concrete 3) ∷ struct_get_s 3 2 ∷ end ∷ [])
read_packed_field = refl

read_packed_without_sign : Refuses (I32 ∷ []) (null (Concrete 3) ∷ struct_get 3 2 ∷ end ∷ [])
read_packed_without_sign = refl

read_with_sign : Refuses (I32 ∷ []) (local_get 2 ∷ struct_get_s 2 0 ∷ end ∷ [])
read_with_sign = refl

set_field : Takes [] (local_get 2 ∷ const 1 ∷ struct_set 2 0 ∷ end ∷ [])
set_field = refl

set_constant_field : Refuses [] (local_get 2 ∷ long 1 ∷ struct_set 2 1 ∷ end ∷ [])
set_constant_field = refl

read_array : Takes (I32 ∷ I32 ∷ []) (const 3 ∷ array_new_default 4 ∷ array_len ∷ null (Concrete 4) ∷ const 0 ∷ array_get_u 4 ∷ end ∷ [])
read_array = refl

read_packed_array_without_sign : Refuses (I32 ∷ []) (null (Concrete 4) ∷ const 0 ∷ array_get 4 ∷ end ∷ [])
read_packed_array_without_sign = refl

-- array.new_fixed, array.new_data, array.new_elem, array.new_data of references
made_arrays : Takes (ref (Concrete 4) ∷ ref (Concrete 4) ∷ ref (Concrete 6) ∷ [])
    (const 1 ∷ const 2 ∷ prefixed 0xfb 8 (index Types 4 ∷ number 2 ∷ [])
    ∷ const 0 ∷ const 2 ∷ prefixed 0xfb 9 (index Types 4 ∷ index Data 0 ∷ [])
    ∷ const 0 ∷ const 2 ∷ prefixed 0xfb 10 (index Types 6 ∷ index Elements 0 ∷ []) ∷ end ∷ [])
made_arrays = refl

references_from_data : Refuses (ref (Concrete 6) ∷ []) (const 0 ∷ const 2 ∷ prefixed 0xfb 9 (index Types 6 ∷ index Data 0 ∷ []) ∷ end ∷ [])
references_from_data = refl

-- array.copy to an array of variables, from one with the same elements
copied_array : Takes [] (null (Concrete 7) ∷ const 0 ∷ null (Concrete 6) ∷ const 0 ∷ const 1 ∷ array_copy 7 6 ∷ end ∷ [])
copied_array = refl

copied_packed_array : Takes [] (null (Concrete 4) ∷ const 0 ∷ null (Concrete 4) ∷ const 0 ∷ const 1 ∷ array_copy 4 4 ∷ end ∷ [])
copied_packed_array = refl

copied_to_constants : Refuses [] (null (Concrete 6) ∷ const 0 ∷ null (Concrete 7) ∷ const 0 ∷ const 1 ∷ array_copy 6 7 ∷ end ∷ [])
copied_to_constants = refl

-- the elements that are copied have to match: those that may not be null match those that may be
copied_supertype : Takes [] (null (Concrete 7) ∷ const 0 ∷ null (Concrete 9) ∷ const 0 ∷ const 1 ∷ array_copy 7 9 ∷ end ∷ [])
copied_supertype = refl

copied_subtype : Refuses [] (null (Concrete 9) ∷ const 0 ∷ null (Concrete 7) ∷ const 0 ∷ const 1 ∷ array_copy 9 7 ∷ end ∷ [])
copied_subtype = refl

copied_other_elements : Refuses [] (null (Concrete 7) ∷ const 0 ∷ null (Concrete 4) ∷ const 0 ∷ const 1 ∷ array_copy 7 4 ∷ end ∷ [])
copied_other_elements = refl

-- ---- casts

cast_down : Takes (ref (Concrete 3) ∷ I32 ∷ []) (local_get 2 ∷ cast_to (Concrete 3) ∷ local_get 2 ∷ test (Abstract abstract.I31) ∷ end ∷ [])
cast_down = refl

cast_across : Refuses (ref to_func ∷ []) (local_get 2 ∷ cast_to to_func ∷ end ∷ [])
cast_across = refl

-- ---- conditional branches

branched_if : Takes (I32 ∷ []) (const 1 ∷ const 0 ∷ br_if 0 ∷ end ∷ [])
branched_if = refl

branched_if_by_long : Refuses (I32 ∷ []) (const 1 ∷ long 0 ∷ br_if 0 ∷ end ∷ [])
branched_if_by_long = refl

-- After br_if the operands have the types of the label.
branched_if_to_supertype : Refuses (ref (Concrete 2) ∷ []) (block (signature [] (ref any ∷ [])) ∷ struct_new_default 2 ∷ const 0 ∷ br_if 0 ∷ end ∷ end ∷ [])
branched_if_to_supertype = refl

-- after br_on_null the reference isn't null
branched_on_null : Takes [] (block nothing ∷ local_get 2 ∷ br_on_null 0 ∷ local_set 1 ∷ end ∷ end ∷ [])
branched_on_null = refl

branched_on_null_number : Refuses [] (block nothing ∷ const 1 ∷ br_on_null 0 ∷ drop ∷ end ∷ end ∷ [])
branched_on_null_number = refl

dead_branch_on_null : Takes [] (block nothing ∷ unreachable ∷ br_on_null 0 ∷ local_set 1 ∷ end ∷ end ∷ [])
dead_branch_on_null = refl

-- br_on_non_null passes the reference on
branched_on_non_null : Takes (ref (Concrete 2) ∷ []) (block (signature [] (ref (Concrete 2) ∷ [])) ∷ local_get 2 ∷ br_on_non_null 0 ∷ unreachable ∷ end ∷ end ∷ [])
branched_on_non_null = refl

branched_on_non_null_to_number : Refuses (I32 ∷ []) (local_get 2 ∷ br_on_non_null 0 ∷ const 1 ∷ end ∷ [])
branched_on_non_null_to_number = refl

-- br_on_cast from `(ref null 2)` to `(ref 3)`: where it goes on the reference may be null
branched_on_cast : Takes (ref (Concrete 3) ∷ [])
    (block (signature [] (ref (Concrete 3) ∷ [])) ∷ local_get 2 ∷ br_on_null_cast 0 (Concrete 2) (Concrete 3) ∷ drop ∷ unreachable ∷ end ∷ end ∷ [])
branched_on_cast = refl

goes_on_with_null : Refuses (ref (Concrete 3) ∷ [])
    (block (signature [] (ref (Concrete 3) ∷ [])) ∷ local_get 2 ∷ br_on_null_cast 0 (Concrete 2) (Concrete 3) ∷ local_set 1 ∷ unreachable ∷ end ∷ end ∷ [])
goes_on_with_null = refl

-- from `(ref null 2)` to `(ref null 3)`: null branches, and where it goes on the reference isn't null
branched_with_null : Takes (ref_null (Concrete 3) ∷ [])
    (block (signature [] (ref_null (Concrete 3) ∷ [])) ∷ local_get 2 ∷ cast_with_null 24 0 (Concrete 2) (Concrete 3) ∷ local_set 1 ∷ unreachable ∷ end ∷ end ∷ [])
branched_with_null = refl

branched_with_null_to_others : Refuses (ref (Concrete 3) ∷ [])
    (block (signature [] (ref (Concrete 3) ∷ [])) ∷ local_get 2 ∷ cast_with_null 24 0 (Concrete 2) (Concrete 3) ∷ drop ∷ unreachable ∷ end ∷ end ∷ [])
branched_with_null_to_others = refl

-- where such a cast fails, the reference that branches isn't null, and the one that goes on may be
branched_on_failure_with_null : Takes (ref (Concrete 2) ∷ [])
    (block (signature [] (ref (Concrete 2) ∷ [])) ∷ local_get 2 ∷ cast_with_null 25 0 (Concrete 2) (Concrete 3) ∷ drop ∷ unreachable ∷ end ∷ end ∷ [])
branched_on_failure_with_null = refl

-- what branches has to match the label
branched_to_others : Refuses (ref (Concrete 4) ∷ [])
    (block (signature [] (ref (Concrete 4) ∷ [])) ∷ local_get 2 ∷ br_on_null_cast 0 (Concrete 2) (Concrete 3) ∷ unreachable ∷ end ∷ end ∷ [])
branched_to_others = refl

branched_to_others_on_failure : Refuses (ref (Concrete 3) ∷ [])
    (block (signature [] (ref (Concrete 3) ∷ [])) ∷ struct_new_default 2 ∷ br_on_cast_fail 0 (Concrete 2) (Concrete 3) ∷ end ∷ end ∷ [])
branched_to_others_on_failure = refl

-- The target has to match the source.
cast_to_supertype : Refuses (ref (Concrete 2) ∷ [])
    (block (signature [] (ref (Concrete 2) ∷ [])) ∷ struct_new_default 3 ∷ br_on_cast 0 (Concrete 3) (Concrete 2) ∷ end ∷ end ∷ [])
cast_to_supertype = refl

-- br_on_cast_fail passes on what isn't of type 3, and goes on with what is
branched_on_failure : Takes (ref (Concrete 2) ∷ [])
    (block (signature [] (ref (Concrete 2) ∷ [])) ∷ struct_new_default 2 ∷ br_on_cast_fail 0 (Concrete 2) (Concrete 3) ∷ end ∷ end ∷ [])
branched_on_failure = refl
