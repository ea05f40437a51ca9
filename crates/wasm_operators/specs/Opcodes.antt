-- The opcodes, and the immediates that follow each: one row for each opcode or range of opcodes (WebAssembly core
-- specification 3.0, binary format, instructions). An operator is supported if its opcode has a row here.
use Rattle.std.specs.Prelude.{◌≡◌, ℕ, ◌<◌, Bool, true, false, ◌||◌, List, [], ◌∷◌, Option, Some, None, Ok, Err, nat_le, ◌==◌, if◌then◌else◌}
use Rattle.wasm_numbers.specs.declared.fault.ReadFault.TheVariants.{Truncated}
use Rattle.wasm_operators.specs.declared.types.Opcode.{Opcode}
use Rattle.wasm_operators.specs.declared.types.Opcode.TheVariants.{Byte, Prefixed}
use Rattle.wasm_operators.specs.declared.types.Space.TheVariants.{Tables, Types, Funcs, Globals, Memories, Elements, Data, Tags}
use Rattle.wasm_numbers.specs.Reading.{Spelling, Reader}
use Rattle.wasm_numbers.specs.Numbers.{IsU32, u32}
use Rattle.wasm_operators.specs.Types.{row_at}
use Rattle.wasm_operators.specs.Immediates.{Kind, an_index, a_local, a_label, a_handler, an_outer, a_number, a_branch_table, an_access, some_clauses, a_block, a_heap, a_value, a_cast, an_i32, an_i64, an_f32, an_f64, a_v128, a_lane, sixteen_lanes, a_zero_byte}
use Rattle.wasm_numbers.specs.Results.{◌>>=◌}

-- ---- opcodes of one byte

-- 0x00 to 0x1f
abbrev pub control_rows : List (ℕ × List Kind)
control_rows =
    (0x00, []) ∷  -- unreachable
    (0x01, []) ∷  -- nop
    (0x02, a_block ∷ []) ∷  -- block
    (0x03, a_block ∷ []) ∷  -- loop
    (0x04, a_block ∷ []) ∷  -- if
    (0x05, []) ∷  -- else
    (0x06, a_block ∷ []) ∷  -- try
    (0x07, an_index Tags ∷ []) ∷  -- catch
    (0x08, an_index Tags ∷ []) ∷  -- throw
    (0x09, a_handler ∷ []) ∷  -- rethrow
    (0x0a, []) ∷  -- throw_ref
    (0x0b, []) ∷  -- end
    (0x0c, a_label ∷ []) ∷  -- br
    (0x0d, a_label ∷ []) ∷  -- br_if
    (0x0e, a_branch_table ∷ []) ∷  -- br_table
    (0x0f, []) ∷  -- return
    (0x10, an_index Funcs ∷ []) ∷  -- call
    (0x11, an_index Types ∷ an_index Tables ∷ []) ∷  -- call_indirect
    (0x12, an_index Funcs ∷ []) ∷  -- return_call
    (0x13, an_index Types ∷ an_index Tables ∷ []) ∷  -- return_call_indirect
    (0x14, an_index Types ∷ []) ∷  -- call_ref
    (0x15, an_index Types ∷ []) ∷  -- return_call_ref
    (0x18, an_outer ∷ []) ∷  -- delegate
    (0x19, []) ∷  -- catch_all
    (0x1a, []) ∷  -- drop
    (0x1b, []) ∷  -- select
    (0x1c, a_value ∷ []) ∷  -- select with a type
    (0x1f, a_block ∷ some_clauses ∷ []) ∷  -- try_table
    []

-- 0x20 to 0x27
abbrev pub variable_rows : List (ℕ × List Kind)
variable_rows =
    (0x20, a_local ∷ []) ∷  -- local.get
    (0x21, a_local ∷ []) ∷  -- local.set
    (0x22, a_local ∷ []) ∷  -- local.tee
    (0x23, an_index Globals ∷ []) ∷  -- global.get
    (0x24, an_index Globals ∷ []) ∷  -- global.set
    (0x25, an_index Tables ∷ []) ∷  -- table.get
    (0x26, an_index Tables ∷ []) ∷  -- table.set
    []

-- 0x3f to 0x44
abbrev pub constant_rows : List (ℕ × List Kind)
constant_rows =
    (0x3f, an_index Memories ∷ []) ∷  -- memory.size
    (0x40, an_index Memories ∷ []) ∷  -- memory.grow
    (0x41, an_i32 ∷ []) ∷  -- i32.const
    (0x42, an_i64 ∷ []) ∷  -- i64.const
    (0x43, an_f32 ∷ []) ∷  -- f32.const
    (0x44, an_f64 ∷ []) ∷  -- f64.const
    []

-- the value of a table of ranges at a number: each row has the last number of its range, and the next range follows it
abbrev pub range_at : {V : Type 0} → List (ℕ × Option V) → ℕ → Option V
range_at [] n = None
range_at (row ∷ rows) n = if nat_le n row.0 then row.1 else range_at rows n

-- 0xc5 to 0xd6: ranges of opcodes, with and without an operator
abbrev pub reference_ranges : List (ℕ × Option (List Kind))
reference_ranges =
    (0xcf, None) ∷
    (0xd0, Some (a_heap ∷ [])) ∷  -- ref.null
    (0xd1, Some []) ∷  -- ref.is_null
    (0xd2, Some (an_index Funcs ∷ [])) ∷  -- ref.func
    (0xd4, Some []) ∷  -- ref.eq, ref.as_non_null
    (0xd6, Some (a_label ∷ [])) ∷  -- br_on_null, br_on_non_null
    []

unfoldable pub kinds_of_byte : ℕ → Option (List Kind)
kinds_of_byte b =
    if nat_le b 0x1f then row_at control_rows b
    else if nat_le b 0x27 then row_at variable_rows b
    else if nat_le b 0x3e then Some (an_access ∷ [])  -- loads and stores
    else if nat_le b 0x44 then row_at constant_rows b
    else if nat_le b 0xc4 then Some []  -- numeric operators
    else range_at reference_ranges b

-- ---- opcodes of a prefix byte and a number

-- the prefix bytes that the number of a supported operator follows
abbrev pub is_prefix : ℕ → Bool
is_prefix b = b == 0xfb || b == 0xfc || b == 0xfd || b == 0xfe

-- 0xfc 8 to 22
abbrev pub bulk_rows : List (ℕ × List Kind)
bulk_rows =
    (8, an_index Data ∷ an_index Memories ∷ []) ∷  -- memory.init
    (9, an_index Data ∷ []) ∷  -- data.drop
    (10, an_index Memories ∷ an_index Memories ∷ []) ∷  -- memory.copy
    (11, an_index Memories ∷ []) ∷  -- memory.fill
    (12, an_index Elements ∷ an_index Tables ∷ []) ∷  -- table.init
    (13, an_index Elements ∷ []) ∷  -- elem.drop
    (14, an_index Tables ∷ an_index Tables ∷ []) ∷  -- table.copy
    (15, an_index Tables ∷ []) ∷  -- table.grow
    (16, an_index Tables ∷ []) ∷  -- table.size
    (17, an_index Tables ∷ []) ∷  -- table.fill
    (19, []) ∷  -- i64.add128
    (20, []) ∷  -- i64.sub128
    (21, []) ∷  -- i64.mul_wide_s
    (22, []) ∷  -- i64.mul_wide_u
    []

-- 0xfb 0 to 30
abbrev pub aggregate_ranges : List (ℕ × Option (List Kind))
aggregate_ranges =
    (1, Some (an_index Types ∷ [])) ∷  -- struct.new, struct.new_default
    (5, Some (an_index Types ∷ a_number ∷ [])) ∷  -- fields of structs
    (7, Some (an_index Types ∷ [])) ∷  -- array.new, array.new_default
    (8, Some (an_index Types ∷ a_number ∷ [])) ∷  -- array.new_fixed
    (9, Some (an_index Types ∷ an_index Data ∷ [])) ∷  -- array.new_data
    (10, Some (an_index Types ∷ an_index Elements ∷ [])) ∷  -- array.new_elem
    (14, Some (an_index Types ∷ [])) ∷  -- elements of arrays
    (15, Some []) ∷  -- array.len
    (16, Some (an_index Types ∷ [])) ∷  -- array.fill
    (17, Some (an_index Types ∷ an_index Types ∷ [])) ∷  -- array.copy
    (18, Some (an_index Types ∷ an_index Data ∷ [])) ∷  -- array.init_data
    (19, Some (an_index Types ∷ an_index Elements ∷ [])) ∷  -- array.init_elem
    (23, Some (a_heap ∷ [])) ∷  -- ref.test, ref.cast
    (25, Some (a_cast ∷ [])) ∷  -- br_on_cast, br_on_cast_fail
    (30, Some []) ∷  -- conversions, i31
    []

-- 0xfd 0 to 275: ranges of numbers, with and without an operator
abbrev pub vector_ranges : List (ℕ × Option (List Kind))
vector_ranges =
    (11, Some (an_access ∷ [])) ∷  -- loads and stores of whole vectors
    (12, Some (a_v128 ∷ [])) ∷  -- v128.const
    (13, Some (sixteen_lanes ∷ [])) ∷  -- i8x16.shuffle
    (20, Some []) ∷  -- i8x16.swizzle, splats
    (34, Some (a_lane ∷ [])) ∷  -- extract or replace a lane
    (83, Some []) ∷  -- comparisons, operators on all bits
    (91, Some (an_access ∷ a_lane ∷ [])) ∷  -- loads and stores of one lane
    (93, Some (an_access ∷ [])) ∷  -- loads that pad with zeros
    (153, Some []) ∷
    (154, None) ∷
    (161, Some []) ∷
    (162, None) ∷
    (164, Some []) ∷
    (166, None) ∷
    (174, Some []) ∷
    (176, None) ∷
    (177, Some []) ∷
    (180, None) ∷
    (186, Some []) ∷
    (187, None) ∷
    (193, Some []) ∷
    (194, None) ∷
    (196, Some []) ∷
    (198, None) ∷
    (206, Some []) ∷
    (208, None) ∷
    (209, Some []) ∷
    (212, None) ∷
    (225, Some []) ∷
    (226, None) ∷
    (237, Some []) ∷
    (238, None) ∷
    (275, Some []) ∷  -- and relaxed operators
    []

-- 0xfe 0 to 0x4e: ranges of numbers, with and without an operator
abbrev pub atomic_ranges : List (ℕ × Option (List Kind))
atomic_ranges =
    (2, Some (an_access ∷ [])) ∷  -- memory.atomic.notify, wait32, wait64
    (3, Some (a_zero_byte ∷ [])) ∷  -- atomic.fence
    (0xf, None) ∷
    (0x4e, Some (an_access ∷ [])) ∷  -- loads, stores, and read-modify-write operators
    []

unfoldable pub kinds_after : ℕ → ℕ → Option (List Kind)
kinds_after prefix n =
    if prefix == 0xfc then
    (if nat_le n 7 then Some []  -- saturating conversions
    else row_at bulk_rows n)
    else if prefix == 0xfd then range_at vector_ranges n
    else if prefix == 0xfe then range_at atomic_ranges n
    else if prefix == 0xfb then range_at aggregate_ranges n
    else None

-- ---- any opcode

abbrev pub kinds_of : Opcode → Option (List Kind)
kinds_of (Byte b) = kinds_of_byte b
kinds_of (Prefixed prefix n) = kinds_after prefix n

-- a byte that is not a prefix, or a prefix and any encoding of the number
abbrev pub IsOpcode : Spelling Opcode
IsOpcode (Byte b) text = (is_prefix b ≡ false) × (b < 256) × (text ≡ b ∷ [])
IsOpcode (Prefixed prefix n) text = (is_prefix prefix ≡ true) × (prefix < 256) × (rest : List ℕ) × (text ≡ prefix ∷ rest) × IsU32 n rest

unfoldable pub opcode : Reader Opcode
opcode [] = Err Truncated
opcode (b ∷ bytes) = if is_prefix b then (u32 bytes >>= λ n. Ok (Prefixed b n.0, n.1)) else Ok (Byte b, bytes)
