-- Operators with a prefix byte, as they are read from bytes and written.
use Rattle.std.specs.Prelude.{◌≡◌, ℕ, List, [], ◌∷◌, Ok, Err, refl}
use Rattle.wasm_numbers.specs.declared.fault.ReadFault.TheVariants.{Truncated, UnknownOperator, BadMemArg, BadFence}
use Rattle.wasm_operators.specs.declared.types.Opcode.TheVariants.{Prefixed}
use Rattle.wasm_numbers.specs.Numbers.{integer}
use Rattle.wasm_numbers.specs.Reading.{many}
use Rattle.wasm_operators.specs.Immediates.{memory_access}
use Rattle.wasm_operators.specs.Opcodes.{kinds_after, opcode}
use Rattle.wasm_operators.specs.Operations.{access, lane, v128, zero_byte, RawOperation, operation}
use Rattle.wasm_operators.specs.Shortest.{short_unsigned, short_access, short_vector, short}
use Rattle.wasm_operators.specs.Spelling.{read_operation}

abbrev prefixed : ℕ → ℕ → RawOperation
prefixed prefix n = operation (Prefixed prefix n) []

-- ---- wide arithmetic, after fc

-- fc 13: i64.add128
of_add128 : read_operation (0xfc ∷ 0x13 ∷ 0x0b ∷ []) ≡ Ok (prefixed 0xfc 19, 0x0b ∷ [])
unfolding read_operation opcode kinds_after integer
of_add128 = refl

-- fc 12: no operator has the number 18
no_operator : read_operation (0xfc ∷ 0x12 ∷ 0x00 ∷ []) ≡ Err UnknownOperator
unfolding read_operation opcode kinds_after integer
no_operator = refl

-- ---- vectors, after fd

-- fd 80 82 00: a number may be longer than needed, and is written shortest
of_relaxed_swizzle : read_operation (0xfd ∷ 0x80 ∷ 0x82 ∷ 0x00 ∷ 0x0b ∷ []) ≡ Ok (prefixed 0xfd 256, 0x0b ∷ [])
unfolding read_operation opcode kinds_after integer
of_relaxed_swizzle = refl

relaxed_swizzle_written : short (prefixed 0xfd 256) ≡ 0xfd ∷ 0x80 ∷ 0x02 ∷ []
unfolding short_unsigned
relaxed_swizzle_written = refl

-- fd 22 00: f64x2.replace_lane, of lane 0; and without the lane
of_replace_lane : read_operation (0xfd ∷ 0x22 ∷ 0x00 ∷ 0x0b ∷ []) ≡ Ok (operation (Prefixed 0xfd 34) (lane 0 ∷ []), 0x0b ∷ [])
unfolding read_operation opcode kinds_after integer
of_replace_lane = refl

lane_missing : read_operation (0xfd ∷ 0x22 ∷ []) ≡ Err Truncated
unfolding read_operation opcode kinds_after integer
lane_missing = refl

-- fd 0c, and the bytes of 1 + 2 * 256
abbrev constant_bytes : List ℕ
constant_bytes = 1 ∷ 2 ∷ 0 ∷ 0 ∷ 0 ∷ 0 ∷ 0 ∷ 0 ∷ 0 ∷ 0 ∷ 0 ∷ 0 ∷ 0 ∷ 0 ∷ 0 ∷ 0 ∷ []

of_constant : read_operation (0xfd ∷ 0x0c ∷ constant_bytes) ≡ Ok (operation (Prefixed 0xfd 12) (v128 513 ∷ []), [])
unfolding read_operation opcode kinds_after integer many
of_constant = refl

constant_written : short (operation (Prefixed 0xfd 12) (v128 513 ∷ [])) ≡ 0xfd ∷ 0x0c ∷ constant_bytes
unfolding short_unsigned short_vector
constant_written = refl

-- fd 54 00 04 03: v128.load8_lane at an offset of 4, of lane 3; its memory argument is read before its lane
abbrev access_of_lane : RawOperation
access_of_lane = operation (Prefixed 0xfd 84) (access (record { alignment = 0; memory = 0; offset = 4 }) ∷ lane 3 ∷ [])

of_lane_access : read_operation (0xfd ∷ 0x54 ∷ 0x00 ∷ 0x04 ∷ 0x03 ∷ []) ≡ Ok (access_of_lane, [])
unfolding read_operation opcode kinds_after integer memory_access
of_lane_access = refl

lane_access_written : short access_of_lane ≡ 0xfd ∷ 0x54 ∷ 0x00 ∷ 0x04 ∷ 0x03 ∷ []
unfolding short_unsigned short_access
lane_access_written = refl

bad_flags : read_operation (0xfd ∷ 0x55 ∷ 0x20 ∷ []) ≡ Err BadMemArg
unfolding read_operation opcode kinds_after integer memory_access
bad_flags = refl

-- fd d2 01: no operator has the number 210; fd 94 02: nor 276
between_operators : read_operation (0xfd ∷ 0xd2 ∷ 0x01 ∷ []) ≡ Err UnknownOperator
unfolding read_operation opcode kinds_after integer
between_operators = refl

past_operators : read_operation (0xfd ∷ 0x94 ∷ 0x02 ∷ []) ≡ Err UnknownOperator
unfolding read_operation opcode kinds_after integer
past_operators = refl

-- fd, and no number
number_missing : read_operation (0xfd ∷ []) ≡ Err Truncated
unfolding read_operation opcode integer
number_missing = refl

-- ---- atomic operators, after fe

-- fe 10 02 00: i32.atomic.load
of_atomic_load : read_operation (0xfe ∷ 0x10 ∷ 0x02 ∷ 0x00 ∷ 0x1a ∷ []) ≡ Ok (operation (Prefixed 0xfe 16) (access (record { alignment = 2; memory = 0; offset = 0 }) ∷ []), 0x1a ∷ [])
unfolding read_operation opcode kinds_after integer memory_access
of_atomic_load = refl

-- fe 03 00: a fence; fe 03 01; fe 03
of_fence : read_operation (0xfe ∷ 0x03 ∷ 0x00 ∷ 0x0b ∷ []) ≡ Ok (operation (Prefixed 0xfe 3) (zero_byte ∷ []), 0x0b ∷ [])
unfolding read_operation opcode kinds_after integer
of_fence = refl

fence_written : short (operation (Prefixed 0xfe 3) (zero_byte ∷ [])) ≡ 0xfe ∷ 0x03 ∷ 0x00 ∷ []
unfolding short_unsigned
fence_written = refl

bad_fence : read_operation (0xfe ∷ 0x03 ∷ 0x01 ∷ 0x0b ∷ []) ≡ Err BadFence
unfolding read_operation opcode kinds_after integer
bad_fence = refl

fence_ends : read_operation (0xfe ∷ 0x03 ∷ []) ≡ Err Truncated
unfolding read_operation opcode kinds_after integer
fence_ends = refl

-- fe 4f: no operator has the number
past_atomics : read_operation (0xfe ∷ 0x4f ∷ []) ≡ Err UnknownOperator
unfolding read_operation opcode kinds_after integer
past_atomics = refl
