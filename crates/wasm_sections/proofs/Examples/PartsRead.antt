-- Parts by hand: what they spell, and the bytes that follow them; and first faults, with their places.
use Rattle.std.specs.Prelude.{◌≡◌, ℕ, ◌+◌, true, false, List, [], ◌∷◌, length, Option, Some, None, Result, Ok, Err, refl}
use Rattle.wasm_types.specs.declared.val_type.AbstractHeapType.TheVariants as abstract
use Rattle.wasm_types.specs.declared.val_type.HeapType.TheVariants.{Abstract}
use Rattle.wasm_types.specs.declared.val_type.ValType.TheVariants.{I32, Ref}
use Rattle.wasm_numbers.specs.declared.fault.ReadFault.TheVariants as unread
use Rattle.wasm_numbers.specs.Numbers.{integer}
use Rattle.wasm_operators.specs.Opcodes.{kinds_of_byte, opcode}
use Rattle.wasm_operators.specs.Spelling.{read_operation}
use Rattle.wasm_operators.specs.Types.{value_at, nullable_at, heap_at}
use Rattle.wasm_sections.specs.declared.fault.ModuleError.{ModuleError}
use Rattle.wasm_sections.specs.declared.fault.ModuleFault.{ModuleFault}
use Rattle.wasm_sections.specs.declared.fault.ModuleFault.TheVariants as fault
use Rattle.wasm_sections.specs.declared.imports.Imported.TheVariants as imported
use Rattle.wasm_sections.specs.declared.limits.Limits.{Limits}
use Rattle.wasm_sections.specs.Format.{limits_part, mutability_part, global_type_part, constant_part, operators_part, table_part, tag_part, imported_part, element_segment_part, data_segment_part}
use Rattle.wasm_sections.specs.Parts.{Part, repeated}

-- the part at the end of a file of so many bytes before it
abbrev from : {A : Type 0} → Part A → (place : ℕ) → List ℕ → Result (A × List ℕ) ModuleError
from part place bytes = part (place + length bytes) bytes

abbrev error : ModuleFault → (place : ℕ) → ModuleError
error f place = record { fault = f; at = place }

-- ---- limits

-- flags 0 to 7, but there are no flags 2 and 6: a shared memory has a maximum
abbrev unshared : (min : ℕ) → Option ℕ → Limits
unshared min max = record { min = min; max = max; is_shared = false; is_64 = false }

limits_0 : from limits_part 5 (0x00 ∷ 0x03 ∷ 0x09 ∷ []) ≡ Ok (unshared 3 None, 0x09 ∷ [])
unfolding integer
limits_0 = refl

limits_1 : from limits_part 5 (0x01 ∷ 0x03 ∷ 0x04 ∷ []) ≡ Ok (unshared 3 (Some 4), [])
unfolding integer
limits_1 = refl

limits_2 : from limits_part 5 (0x02 ∷ 0x03 ∷ []) ≡ Err (error fault.BadLimits 5)
unfolding integer
limits_2 = refl

limits_3 : from limits_part 5 (0x03 ∷ 0x03 ∷ 0x04 ∷ []) ≡ Ok (record { min = 3; max = Some 4; is_shared = true; is_64 = false }, [])
unfolding integer
limits_3 = refl

-- a minimum of 2^32, of 64 bits
limits_4 :
    from limits_part 5 (0x04 ∷ 0x80 ∷ 0x80 ∷ 0x80 ∷ 0x80 ∷ 0x10 ∷ []) ≡ Ok (record { min = 0x1_0000_0000; max = None; is_shared = false; is_64 = true }, [])
unfolding integer
limits_4 = refl

-- the same of 32 bits: the place is that of the number
limits_too_great : from limits_part 5 (0x00 ∷ 0x80 ∷ 0x80 ∷ 0x80 ∷ 0x80 ∷ 0x10 ∷ []) ≡ Err (error (fault.Read unread.BadNumber) 6)
unfolding integer
limits_too_great = refl

limits_7 : from limits_part 5 (0x07 ∷ 0x03 ∷ 0x04 ∷ []) ≡ Ok (record { min = 3; max = Some 4; is_shared = true; is_64 = true }, [])
unfolding integer
limits_7 = refl

-- the bytes end inside the maximum: the place is the end
limits_cut : from limits_part 5 (0x01 ∷ 0x03 ∷ 0x80 ∷ []) ≡ Err (error fault.Truncated 8)
unfolding integer
limits_cut = refl

-- ---- globals, tags, imports and exports

mutable_global : from global_type_part 5 (0x7f ∷ 0x01 ∷ []) ≡ Ok (record { value = I32; is_mutable = true }, [])
unfolding value_at nullable_at heap_at
mutable_global = refl

neither_mutable : from mutability_part 5 (0x02 ∷ []) ≡ Err (error fault.BadMutability 5)
neither_mutable = refl

tag_attribute_1 : from tag_part 5 (0x01 ∷ 0x00 ∷ []) ≡ Err (error fault.BadTagAttribute 5)
unfolding integer
tag_attribute_1 = refl

imported_tag : from imported_part 5 (0x04 ∷ 0x00 ∷ 0x07 ∷ []) ≡ Ok (imported.Tag 7, [])
unfolding integer
imported_tag = refl

no_import_kind : from imported_part 5 (0x05 ∷ []) ≡ Err (error fault.BadImportKind 5)
unfolding integer
no_import_kind = refl

-- ---- constant expressions

-- `i32.const 42`, `i32.const 1`, `i32.add`, `end`, and another byte
constant_sum :
    from constant_part 5 (0x41 ∷ 0x2a ∷ 0x41 ∷ 0x01 ∷ 0x6a ∷ 0x0b ∷ 0x0b ∷ []) ≡ Ok (0x41 ∷ 0x2a ∷ 0x41 ∷ 0x01 ∷ 0x6a ∷ 0x0b ∷ [], 0x0b ∷ [])
unfolding integer read_operation opcode kinds_of_byte operators_part
constant_sum = refl

-- no `end`, after one operator and after operators of one byte: the place is the end
constant_cut : from constant_part 5 (0x41 ∷ 0x2a ∷ []) ≡ Err (error (fault.Read unread.Truncated) 7)
unfolding integer read_operation opcode kinds_of_byte operators_part
constant_cut = refl

constant_endless : from constant_part 5 (0x01 ∷ 0x01 ∷ []) ≡ Err (error (fault.Read unread.Truncated) 7)
unfolding integer read_operation opcode kinds_of_byte operators_part
constant_endless = refl

-- an operator that the bytes end in: the place is where it begins
operator_cut : from constant_part 5 (0x01 ∷ 0x41 ∷ []) ≡ Err (error (fault.Read unread.Truncated) 6)
unfolding integer read_operation opcode kinds_of_byte operators_part
operator_cut = refl

-- a `block`
constant_block : from constant_part 5 (0x01 ∷ 0x02 ∷ 0x40 ∷ 0x0b ∷ 0x0b ∷ []) ≡ Err (error fault.BadConstant 6)
unfolding integer read_operation opcode kinds_of_byte operators_part value_at nullable_at heap_at
constant_block = refl

-- ---- element and data segments

-- flags 0: an offset, and indices of functions
elements_0 : from element_segment_part 5 (0x00 ∷ 0x41 ∷ 0x00 ∷ 0x0b ∷ 0x02 ∷ 0x03 ∷ 0x04 ∷ 0x09 ∷ []) ≡ Ok (tt, 0x09 ∷ [])
unfolding integer repeated read_operation opcode kinds_of_byte operators_part
elements_0 = refl

-- flags 1: a kind, and indices
elements_1 : from element_segment_part 5 (0x01 ∷ 0x00 ∷ 0x01 ∷ 0x03 ∷ 0x09 ∷ []) ≡ Ok (tt, 0x09 ∷ [])
unfolding integer repeated read_operation opcode kinds_of_byte operators_part
elements_1 = refl

elements_kind_1 : from element_segment_part 5 (0x01 ∷ 0x01 ∷ 0x00 ∷ []) ≡ Err (error fault.BadElementKind 6)
unfolding integer repeated read_operation opcode kinds_of_byte operators_part
elements_kind_1 = refl

-- flags 2: the index of a table, an offset, a kind, and indices
elements_2 : from element_segment_part 5 (0x02 ∷ 0x05 ∷ 0x41 ∷ 0x00 ∷ 0x0b ∷ 0x00 ∷ 0x01 ∷ 0x03 ∷ 0x09 ∷ []) ≡ Ok (tt, 0x09 ∷ [])
unfolding integer repeated read_operation opcode kinds_of_byte operators_part
elements_2 = refl

-- flags 4: an offset, and expressions; here of one `ref.func 3`
elements_4 : from element_segment_part 5 (0x04 ∷ 0x41 ∷ 0x00 ∷ 0x0b ∷ 0x01 ∷ 0xd2 ∷ 0x03 ∷ 0x0b ∷ 0x09 ∷ []) ≡ Ok (tt, 0x09 ∷ [])
unfolding integer repeated read_operation opcode kinds_of_byte operators_part
elements_4 = refl

-- flags 6: the index of a table, an offset, a reference type, and expressions
elements_6 :
    from element_segment_part 5 (0x06 ∷ 0x05 ∷ 0x41 ∷ 0x00 ∷ 0x0b ∷ 0x70 ∷ 0x01 ∷ 0xd2 ∷ 0x03 ∷ 0x0b ∷ 0x09 ∷ []) ≡ Ok (tt, 0x09 ∷ [])
unfolding integer repeated read_operation opcode kinds_of_byte operators_part value_at nullable_at heap_at
elements_6 = refl

elements_8 : from element_segment_part 5 (0x08 ∷ []) ≡ Err (error fault.BadSegmentFlags 5)
unfolding integer repeated
elements_8 = refl

-- flags 0: an offset, and bytes; flags 1: bytes alone; flags 2: the index of a memory, an offset, and bytes
data_0 : from data_segment_part 5 (0x00 ∷ 0x41 ∷ 0x00 ∷ 0x0b ∷ 0x01 ∷ 0x61 ∷ 0x09 ∷ []) ≡ Ok (tt, 0x09 ∷ [])
unfolding integer read_operation opcode kinds_of_byte operators_part
data_0 = refl

data_1 : from data_segment_part 5 (0x01 ∷ 0x01 ∷ 0x61 ∷ 0x09 ∷ []) ≡ Ok (tt, 0x09 ∷ [])
unfolding integer read_operation opcode kinds_of_byte operators_part
data_1 = refl

data_2 : from data_segment_part 5 (0x02 ∷ 0x05 ∷ 0x41 ∷ 0x00 ∷ 0x0b ∷ 0x01 ∷ 0x61 ∷ 0x09 ∷ []) ≡ Ok (tt, 0x09 ∷ [])
unfolding integer read_operation opcode kinds_of_byte operators_part
data_2 = refl

-- the bytes are fewer than their number says: the place is that of the first one
data_cut : from data_segment_part 5 (0x01 ∷ 0x02 ∷ 0x61 ∷ []) ≡ Err (error fault.Truncated 7)
unfolding integer read_operation opcode kinds_of_byte operators_part
data_cut = refl

-- ---- tables

-- a table of `funcref` with an initial value, `ref.null func`
table_with_initial :
    from table_part 5 (0x40 ∷ 0x00 ∷ 0x70 ∷ 0x00 ∷ 0x01 ∷ 0xd0 ∷ 0x70 ∷ 0x0b ∷ [])
    ≡ Ok (
      (
        record { element = Ref (record { nullable = true; heap_type = Abstract abstract.Func }); limits = unshared 1 None },
        Some (0xd0 ∷ 0x70 ∷ 0x0b ∷ []),
      ),
      [],
    )
unfolding integer read_operation opcode kinds_of_byte operators_part value_at nullable_at heap_at
table_with_initial = refl

-- a table of `i32`
table_of_numbers : from table_part 5 (0x7f ∷ 0x00 ∷ 0x01 ∷ []) ≡ Err (error (fault.Read unread.BadType) 5)
unfolding integer value_at nullable_at heap_at
table_of_numbers = refl
