-- Operators for exceptions, as they are read from bytes and written.
use Rattle.std.specs.Prelude.{◌≡◌, [], ◌∷◌, Ok, Err, refl}
use Rattle.wasm_types.specs.declared.val_type.ValType.TheVariants.{I32}
use Rattle.wasm_numbers.specs.declared.fault.ReadFault.TheVariants.{Truncated, BadNumber, BadType, BadCatchKind}
use Rattle.wasm_operators.specs.declared.types.BlockType.TheVariants.{Empty, Value, FuncType}
use Rattle.wasm_numbers.specs.Numbers.{integer}
use Rattle.wasm_numbers.specs.Reading.{many}
use Rattle.wasm_operators.specs.Types.{value_at, nullable_at, heap_at}
use Rattle.wasm_operators.specs.Immediates.{catch_clauses}
use Rattle.wasm_operators.specs.Opcodes.{kinds_of_byte, opcode}
use Rattle.wasm_operators.specs.Operations.{RawOperation}
use Rattle.wasm_operators.specs.Shortest.{short_unsigned, short_signed, short_clauses, short}
use Rattle.wasm_operators.specs.Spelling.{read_operation}
use Rattle.wasm_body.proofs.Examples.Operators.{try, catch, throw, rethrow, throw_ref, delegate, catch_all, try_table, catches, catches_ref, catches_all, catches_all_ref}

-- ---- 06 to 0a, 18 and 19

-- 06 7f 0b
of_try : read_operation (0x06 ∷ 0x7f ∷ 0x0b ∷ []) ≡ Ok (try (Value I32), 0x0b ∷ [])
unfolding read_operation opcode kinds_of_byte value_at nullable_at
of_try = refl

-- 07 81 00: a number may be longer than needed
of_catch : read_operation (0x07 ∷ 0x81 ∷ 0x00 ∷ []) ≡ Ok (catch 1, [])
unfolding read_operation opcode kinds_of_byte integer
of_catch = refl

-- 08 80 01
of_throw : read_operation (0x08 ∷ 0x80 ∷ 0x01 ∷ []) ≡ Ok (throw 128, [])
unfolding read_operation opcode kinds_of_byte integer
of_throw = refl

-- 09 02
of_rethrow : read_operation (0x09 ∷ 0x02 ∷ []) ≡ Ok (rethrow 2, [])
unfolding read_operation opcode kinds_of_byte integer
of_rethrow = refl

-- 0a 0b
of_throw_ref : read_operation (0x0a ∷ 0x0b ∷ []) ≡ Ok (throw_ref, 0x0b ∷ [])
unfolding read_operation opcode kinds_of_byte
of_throw_ref = refl

-- 18 03
of_delegate : read_operation (0x18 ∷ 0x03 ∷ []) ≡ Ok (delegate 3, [])
unfolding read_operation opcode kinds_of_byte integer
of_delegate = refl

-- 19 0b
of_catch_all : read_operation (0x19 ∷ 0x0b ∷ []) ≡ Ok (catch_all, 0x0b ∷ [])
unfolding read_operation opcode kinds_of_byte
of_catch_all = refl

-- 09, and 18 80: a byte is missing
depth_missing : read_operation (0x09 ∷ []) ≡ Err Truncated
unfolding read_operation opcode kinds_of_byte integer
depth_missing = refl

depth_ends : read_operation (0x18 ∷ 0x80 ∷ []) ≡ Err Truncated
unfolding read_operation opcode kinds_of_byte integer
depth_ends = refl

-- ---- 1f

-- 1f 02 04 00 01 05 01 02 06 02 07 03 08 0b: a clause of each kind
abbrev of_all_kinds : RawOperation
of_all_kinds = try_table (FuncType 2) (catches 1 5 ∷ catches_ref 2 6 ∷ catches_all 7 ∷ catches_all_ref 8 ∷ [])

of_clauses : read_operation (0x1f ∷ 0x02 ∷ 0x04 ∷ 0x00 ∷ 0x01 ∷ 0x05 ∷ 0x01 ∷ 0x02 ∷ 0x06 ∷ 0x02 ∷ 0x07 ∷ 0x03 ∷ 0x08 ∷ 0x0b ∷ []) ≡ Ok (of_all_kinds, 0x0b ∷ [])
unfolding read_operation opcode kinds_of_byte integer value_at nullable_at heap_at catch_clauses many
of_clauses = refl

-- and so it is written
clauses_written : short of_all_kinds ≡ 0x1f ∷ 0x02 ∷ 0x04 ∷ 0x00 ∷ 0x01 ∷ 0x05 ∷ 0x01 ∷ 0x02 ∷ 0x06 ∷ 0x02 ∷ 0x07 ∷ 0x03 ∷ 0x08 ∷ []
unfolding short_clauses short_unsigned short_signed
clauses_written = refl

-- 1f 40 80 00: without clauses
of_no_clauses : read_operation (0x1f ∷ 0x40 ∷ 0x80 ∷ 0x00 ∷ []) ≡ Ok (try_table Empty [], [])
unfolding read_operation opcode kinds_of_byte integer catch_clauses many
of_no_clauses = refl

-- 1f 40 02 02 00 04: the kind of the second clause decides, whatever follows
bad_kind : read_operation (0x1f ∷ 0x40 ∷ 0x02 ∷ 0x02 ∷ 0x00 ∷ 0x04 ∷ []) ≡ Err BadCatchKind
unfolding read_operation opcode kinds_of_byte integer catch_clauses many
bad_kind = refl

-- 1f 40 02 02 00, 1f 40 01 00 01 and 1f: a byte is missing, of a kind, of a label, of the block type
kind_missing : read_operation (0x1f ∷ 0x40 ∷ 0x02 ∷ 0x02 ∷ 0x00 ∷ []) ≡ Err Truncated
unfolding read_operation opcode kinds_of_byte integer catch_clauses many
kind_missing = refl

label_missing : read_operation (0x1f ∷ 0x40 ∷ 0x01 ∷ 0x00 ∷ 0x01 ∷ []) ≡ Err Truncated
unfolding read_operation opcode kinds_of_byte integer catch_clauses many
label_missing = refl

type_missing : read_operation (0x1f ∷ []) ≡ Err Truncated
unfolding read_operation opcode kinds_of_byte integer
type_missing = refl

-- 1f 41 04: the block type is read before the clauses
type_before_clauses : read_operation (0x1f ∷ 0x41 ∷ 0x04 ∷ []) ≡ Err BadType
unfolding read_operation opcode kinds_of_byte integer value_at nullable_at heap_at
type_before_clauses = refl

-- 1f 40 01 00 80 80 80 80 10: the tag before the label
tag_before_label : read_operation (0x1f ∷ 0x40 ∷ 0x01 ∷ 0x00 ∷ 0x80 ∷ 0x80 ∷ 0x80 ∷ 0x80 ∷ 0x10 ∷ []) ≡ Err BadNumber
unfolding read_operation opcode kinds_of_byte integer catch_clauses many
tag_before_label = refl
