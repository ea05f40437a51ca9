-- Operators on references, structs and arrays, on locals, and the calls that go with them, as they are read from bytes and
-- written.
use Rattle.std.specs.Prelude.{◌≡◌, ℕ, List, [], ◌∷◌, true, false, Ok, Err, refl}
use Rattle.wasm_types.specs.declared.val_type.AbstractHeapType.TheVariants as abstract
use Rattle.wasm_types.specs.declared.val_type.HeapType.TheVariants.{Abstract, Concrete}
use Rattle.wasm_types.specs.declared.val_type.ValType.TheVariants.{Ref}
use Rattle.wasm_numbers.specs.declared.fault.ReadFault.TheVariants.{Truncated, UnknownOperator, BadType, BadCastFlags}
use Rattle.wasm_operators.specs.declared.types.BlockType.TheVariants.{Value}
use Rattle.wasm_operators.specs.declared.types.Opcode.TheVariants.{Byte, Prefixed}
use Rattle.wasm_operators.specs.declared.types.Space.TheVariants.{Types, Funcs, Tables, Elements, Data}
use Rattle.wasm_numbers.specs.Numbers.{integer}
use Rattle.wasm_numbers.specs.Reading.{many}
use Rattle.wasm_operators.specs.Types.{value_at, nullable_at, heap_at}
use Rattle.wasm_operators.specs.Immediates.{cast_parts}
use Rattle.wasm_operators.specs.Opcodes.{kinds_of_byte, kinds_after, opcode}
use Rattle.wasm_operators.specs.Operations.{RawImmediate, index, local, label, number, block, heap, cast, lanes, RawOperation, operation}
use Rattle.wasm_operators.specs.Shortest.{short_unsigned, short_signed, short_cast, short}
use Rattle.wasm_operators.specs.Spelling.{read_operation}

abbrev aggregate : ℕ → List RawImmediate → RawOperation
aggregate n is = operation (Prefixed 0xfb n) is

-- ---- 12 to 15, and 20 to 22

-- 12 01; 13 03 00, the type, then the table; 14 02; 15 02
of_return_call : read_operation (0x12 ∷ 0x01 ∷ []) ≡ Ok (operation (Byte 0x12) (index Funcs 1 ∷ []), [])
unfolding read_operation opcode kinds_of_byte integer
of_return_call = refl

of_return_call_indirect : read_operation (0x13 ∷ 0x03 ∷ 0x00 ∷ []) ≡ Ok (operation (Byte 0x13) (index Types 3 ∷ index Tables 0 ∷ []), [])
unfolding read_operation opcode kinds_of_byte integer
of_return_call_indirect = refl

of_call_ref : read_operation (0x14 ∷ 0x02 ∷ 0x0b ∷ []) ≡ Ok (operation (Byte 0x14) (index Types 2 ∷ []), 0x0b ∷ [])
unfolding read_operation opcode kinds_of_byte integer
of_call_ref = refl

of_return_call_ref : read_operation (0x15 ∷ 0x02 ∷ []) ≡ Ok (operation (Byte 0x15) (index Types 2 ∷ []), [])
unfolding read_operation opcode kinds_of_byte integer
of_return_call_ref = refl

-- 20 80 01: the local 128; 21 01; 22 00
of_local_get : read_operation (0x20 ∷ 0x80 ∷ 0x01 ∷ []) ≡ Ok (operation (Byte 0x20) (local 128 ∷ []), [])
unfolding read_operation opcode kinds_of_byte integer
of_local_get = refl

of_local_set : read_operation (0x21 ∷ 0x01 ∷ []) ≡ Ok (operation (Byte 0x21) (local 1 ∷ []), [])
unfolding read_operation opcode kinds_of_byte integer
of_local_set = refl

of_local_tee : read_operation (0x22 ∷ 0x00 ∷ []) ≡ Ok (operation (Byte 0x22) (local 0 ∷ []), [])
unfolding read_operation opcode kinds_of_byte integer
of_local_tee = refl

local_get_written : short (operation (Byte 0x20) (local 128 ∷ [])) ≡ 0x20 ∷ 0x80 ∷ 0x01 ∷ []
unfolding short_unsigned
local_get_written = refl

-- ---- references in the place of a value type

-- 02 70 and 02 63 70: a nullable reference to a function, by one byte and by two
of_nullable_block : read_operation (0x02 ∷ 0x70 ∷ []) ≡ Ok (operation (Byte 0x02) (block (Value (Ref (record { nullable = true; heap_type = Abstract abstract.Func }))) ∷ []), [])
unfolding read_operation opcode kinds_of_byte integer value_at nullable_at heap_at
of_nullable_block = refl

of_longer_block : read_operation (0x02 ∷ 0x63 ∷ 0x70 ∷ []) ≡ Ok (operation (Byte 0x02) (block (Value (Ref (record { nullable = true; heap_type = Abstract abstract.Func }))) ∷ []), [])
unfolding read_operation opcode kinds_of_byte integer value_at nullable_at heap_at
of_longer_block = refl

-- 02 64 c0 00: a reference to the type 64 that is not null
of_typed_block : read_operation (0x02 ∷ 0x64 ∷ 0xc0 ∷ 0x00 ∷ []) ≡ Ok (operation (Byte 0x02) (block (Value (Ref (record { nullable = false; heap_type = Concrete 64 }))) ∷ []), [])
unfolding read_operation opcode kinds_of_byte integer value_at nullable_at heap_at
of_typed_block = refl

-- 02 64 40: a heap type is no negative number
bad_reference : read_operation (0x02 ∷ 0x64 ∷ 0x40 ∷ []) ≡ Err BadType
unfolding read_operation opcode kinds_of_byte integer value_at nullable_at heap_at
bad_reference = refl

-- ---- d0 to d6

-- d0 6e and d0 05: of an abstract heap type, and of a type; d0 40; d0
of_null : read_operation (0xd0 ∷ 0x6e ∷ []) ≡ Ok (operation (Byte 0xd0) (heap (Abstract abstract.Any) ∷ []), [])
unfolding read_operation opcode kinds_of_byte integer heap_at
of_null = refl

of_typed_null : read_operation (0xd0 ∷ 0x05 ∷ []) ≡ Ok (operation (Byte 0xd0) (heap (Concrete 5) ∷ []), [])
unfolding read_operation opcode kinds_of_byte integer heap_at
of_typed_null = refl

bad_null : read_operation (0xd0 ∷ 0x40 ∷ []) ≡ Err BadType
unfolding read_operation opcode kinds_of_byte integer heap_at
bad_null = refl

null_ends : read_operation (0xd0 ∷ []) ≡ Err Truncated
unfolding read_operation opcode kinds_of_byte integer heap_at
null_ends = refl

-- d1 to d6
of_is_null : read_operation (0xd1 ∷ []) ≡ Ok (operation (Byte 0xd1) [], [])
unfolding read_operation opcode kinds_of_byte integer
of_is_null = refl

of_func : read_operation (0xd2 ∷ 0x02 ∷ []) ≡ Ok (operation (Byte 0xd2) (index Funcs 2 ∷ []), [])
unfolding read_operation opcode kinds_of_byte integer
of_func = refl

of_eq : read_operation (0xd3 ∷ 0x0b ∷ []) ≡ Ok (operation (Byte 0xd3) [], 0x0b ∷ [])
unfolding read_operation opcode kinds_of_byte integer
of_eq = refl

of_as_non_null : read_operation (0xd4 ∷ []) ≡ Ok (operation (Byte 0xd4) [], [])
unfolding read_operation opcode kinds_of_byte integer
of_as_non_null = refl

of_on_null : read_operation (0xd5 ∷ 0x01 ∷ []) ≡ Ok (operation (Byte 0xd5) (label 1 ∷ []), [])
unfolding read_operation opcode kinds_of_byte integer
of_on_null = refl

of_on_non_null : read_operation (0xd6 ∷ 0x00 ∷ []) ≡ Ok (operation (Byte 0xd6) (label 0 ∷ []), [])
unfolding read_operation opcode kinds_of_byte integer
of_on_non_null = refl

-- d7, and c5: no operator
past_references : read_operation (0xd7 ∷ 0x00 ∷ []) ≡ Err UnknownOperator
unfolding read_operation opcode kinds_of_byte integer
past_references = refl

before_references : read_operation (0xc5 ∷ 0x00 ∷ []) ≡ Err UnknownOperator
unfolding read_operation opcode kinds_of_byte integer
before_references = refl

-- ---- structs and arrays, after fb

-- fb 00 to fb 05: a type, and a field
of_struct_new : read_operation (0xfb ∷ 0x00 ∷ 0x07 ∷ []) ≡ Ok (aggregate 0 (index Types 7 ∷ []), [])
unfolding read_operation opcode kinds_after integer
of_struct_new = refl

of_struct_new_default : read_operation (0xfb ∷ 0x01 ∷ 0x07 ∷ []) ≡ Ok (aggregate 1 (index Types 7 ∷ []), [])
unfolding read_operation opcode kinds_after integer
of_struct_new_default = refl

of_struct_get : read_operation (0xfb ∷ 0x02 ∷ 0x07 ∷ 0x01 ∷ []) ≡ Ok (aggregate 2 (index Types 7 ∷ number 1 ∷ []), [])
unfolding read_operation opcode kinds_after integer
of_struct_get = refl

of_struct_set : read_operation (0xfb ∷ 0x05 ∷ 0x07 ∷ 0x01 ∷ []) ≡ Ok (aggregate 5 (index Types 7 ∷ number 1 ∷ []), [])
unfolding read_operation opcode kinds_after integer
of_struct_set = refl

-- fb 06 to fb 0a: a type; and a length, a data segment or an element segment
of_array_new : read_operation (0xfb ∷ 0x06 ∷ 0x03 ∷ []) ≡ Ok (aggregate 6 (index Types 3 ∷ []), [])
unfolding read_operation opcode kinds_after integer
of_array_new = refl

of_array_new_default : read_operation (0xfb ∷ 0x07 ∷ 0x03 ∷ []) ≡ Ok (aggregate 7 (index Types 3 ∷ []), [])
unfolding read_operation opcode kinds_after integer
of_array_new_default = refl

of_array_new_fixed : read_operation (0xfb ∷ 0x08 ∷ 0x03 ∷ 0x02 ∷ []) ≡ Ok (aggregate 8 (index Types 3 ∷ number 2 ∷ []), [])
unfolding read_operation opcode kinds_after integer
of_array_new_fixed = refl

of_array_new_data : read_operation (0xfb ∷ 0x09 ∷ 0x03 ∷ 0x02 ∷ []) ≡ Ok (aggregate 9 (index Types 3 ∷ index Data 2 ∷ []), [])
unfolding read_operation opcode kinds_after integer
of_array_new_data = refl

of_array_new_elem : read_operation (0xfb ∷ 0x0a ∷ 0x03 ∷ 0x02 ∷ []) ≡ Ok (aggregate 10 (index Types 3 ∷ index Elements 2 ∷ []), [])
unfolding read_operation opcode kinds_after integer
of_array_new_elem = refl

-- fb 0b to fb 13
of_array_get : read_operation (0xfb ∷ 0x0b ∷ 0x03 ∷ []) ≡ Ok (aggregate 11 (index Types 3 ∷ []), [])
unfolding read_operation opcode kinds_after integer
of_array_get = refl

of_array_set : read_operation (0xfb ∷ 0x0e ∷ 0x03 ∷ []) ≡ Ok (aggregate 14 (index Types 3 ∷ []), [])
unfolding read_operation opcode kinds_after integer
of_array_set = refl

of_array_len : read_operation (0xfb ∷ 0x0f ∷ []) ≡ Ok (aggregate 15 [], [])
unfolding read_operation opcode kinds_after integer
of_array_len = refl

of_array_fill : read_operation (0xfb ∷ 0x10 ∷ 0x03 ∷ []) ≡ Ok (aggregate 16 (index Types 3 ∷ []), [])
unfolding read_operation opcode kinds_after integer
of_array_fill = refl

of_array_copy : read_operation (0xfb ∷ 0x11 ∷ 0x03 ∷ 0x04 ∷ []) ≡ Ok (aggregate 17 (index Types 3 ∷ index Types 4 ∷ []), [])
unfolding read_operation opcode kinds_after integer
of_array_copy = refl

of_array_init_data : read_operation (0xfb ∷ 0x12 ∷ 0x03 ∷ 0x04 ∷ []) ≡ Ok (aggregate 18 (index Types 3 ∷ index Data 4 ∷ []), [])
unfolding read_operation opcode kinds_after integer
of_array_init_data = refl

of_array_init_elem : read_operation (0xfb ∷ 0x13 ∷ 0x03 ∷ 0x04 ∷ []) ≡ Ok (aggregate 19 (index Types 3 ∷ index Elements 4 ∷ []), [])
unfolding read_operation opcode kinds_after integer
of_array_init_elem = refl

array_copy_written : short (aggregate 17 (index Types 3 ∷ index Types 4 ∷ [])) ≡ 0xfb ∷ 0x11 ∷ 0x03 ∷ 0x04 ∷ []
unfolding short_unsigned
array_copy_written = refl

-- ---- tests, casts and conversions, after fb

-- fb 14 6b; fb 15 01, where it may be null; fb 16 6b; fb 17 01
of_test : read_operation (0xfb ∷ 0x14 ∷ 0x6b ∷ []) ≡ Ok (aggregate 20 (heap (Abstract abstract.Struct) ∷ []), [])
unfolding read_operation opcode kinds_after integer heap_at
of_test = refl

of_test_null : read_operation (0xfb ∷ 0x15 ∷ 0x01 ∷ []) ≡ Ok (aggregate 21 (heap (Concrete 1) ∷ []), [])
unfolding read_operation opcode kinds_after integer heap_at
of_test_null = refl

of_cast : read_operation (0xfb ∷ 0x16 ∷ 0x6b ∷ []) ≡ Ok (aggregate 22 (heap (Abstract abstract.Struct) ∷ []), [])
unfolding read_operation opcode kinds_after integer heap_at
of_cast = refl

of_cast_null : read_operation (0xfb ∷ 0x17 ∷ 0x01 ∷ []) ≡ Ok (aggregate 23 (heap (Concrete 1) ∷ []), [])
unfolding read_operation opcode kinds_after integer heap_at
of_cast_null = refl

-- fb 18 01 02 6e 05: the source may be null; flags, label, source, target
of_branch_on_cast : read_operation (0xfb ∷ 0x18 ∷ 0x01 ∷ 0x02 ∷ 0x6e ∷ 0x05 ∷ []) ≡ Ok (aggregate 24 (cast (record { from_nullable = true; to_nullable = false; label = 2; source = Abstract abstract.Any; target = Concrete 5 }) ∷ []), [])
unfolding read_operation opcode kinds_after integer heap_at cast_parts
of_branch_on_cast = refl

branch_on_cast_written : short (aggregate 24 (cast (record { from_nullable = true; to_nullable = false; label = 2; source = Abstract abstract.Any; target = Concrete 5 }) ∷ [])) ≡ 0xfb ∷ 0x18 ∷ 0x01 ∷ 0x02 ∷ 0x6e ∷ 0x05 ∷ []
unfolding short_unsigned short_signed short_cast
branch_on_cast_written = refl

-- fb 19 02 00 6d 6c: the target may be null
of_branch_on_failed_cast : read_operation (0xfb ∷ 0x19 ∷ 0x02 ∷ 0x00 ∷ 0x6d ∷ 0x6c ∷ []) ≡ Ok (aggregate 25 (cast (record { from_nullable = false; to_nullable = true; label = 0; source = Abstract abstract.Eq; target = Abstract abstract.I31 }) ∷ []), [])
unfolding read_operation opcode kinds_after integer heap_at cast_parts
of_branch_on_failed_cast = refl

-- fb 18 04 00 70 70 0b: the flags decide, whatever follows; fb 18
bad_cast_flags : read_operation (0xfb ∷ 0x18 ∷ 0x04 ∷ 0x00 ∷ 0x70 ∷ 0x70 ∷ 0x0b ∷ []) ≡ Err BadCastFlags
unfolding read_operation opcode kinds_after integer heap_at cast_parts
bad_cast_flags = refl

cast_ends : read_operation (0xfb ∷ 0x18 ∷ []) ≡ Err Truncated
unfolding read_operation opcode kinds_after integer heap_at cast_parts
cast_ends = refl

-- fb 1a to fb 1e; no operator has the number 31
of_any : read_operation (0xfb ∷ 0x1a ∷ []) ≡ Ok (aggregate 26 [], [])
unfolding read_operation opcode kinds_after integer
of_any = refl

of_extern : read_operation (0xfb ∷ 0x1b ∷ []) ≡ Ok (aggregate 27 [], [])
unfolding read_operation opcode kinds_after integer
of_extern = refl

of_i31 : read_operation (0xfb ∷ 0x1c ∷ []) ≡ Ok (aggregate 28 [], [])
unfolding read_operation opcode kinds_after integer
of_i31 = refl

of_i31_get_u : read_operation (0xfb ∷ 0x1e ∷ []) ≡ Ok (aggregate 30 [], [])
unfolding read_operation opcode kinds_after integer
of_i31_get_u = refl

past_aggregates : read_operation (0xfb ∷ 0x1f ∷ []) ≡ Err UnknownOperator
unfolding read_operation opcode kinds_after integer
past_aggregates = refl

aggregate_number_missing : read_operation (0xfb ∷ []) ≡ Err Truncated
unfolding read_operation opcode integer
aggregate_number_missing = refl

-- ---- i8x16.shuffle

-- fd 0d, and sixteen lanes; and fifteen
abbrev sixteen : List ℕ
sixteen = 0 ∷ 16 ∷ 1 ∷ 17 ∷ 2 ∷ 18 ∷ 3 ∷ 19 ∷ 4 ∷ 20 ∷ 5 ∷ 21 ∷ 6 ∷ 22 ∷ 7 ∷ 255 ∷ []

of_shuffle : read_operation (0xfd ∷ 0x0d ∷ sixteen) ≡ Ok (operation (Prefixed 0xfd 13) (lanes sixteen ∷ []), [])
unfolding read_operation opcode kinds_after integer many
of_shuffle = refl

shuffle_written : short (operation (Prefixed 0xfd 13) (lanes sixteen ∷ [])) ≡ 0xfd ∷ 0x0d ∷ sixteen
unfolding short_unsigned
shuffle_written = refl

lane_missing : read_operation (0xfd ∷ 0x0d ∷ 0 ∷ 16 ∷ 1 ∷ 17 ∷ 2 ∷ 18 ∷ 3 ∷ 19 ∷ 4 ∷ 20 ∷ 5 ∷ 21 ∷ 6 ∷ 22 ∷ 7 ∷ []) ≡ Err Truncated
unfolding read_operation opcode kinds_after integer many
lane_missing = refl
