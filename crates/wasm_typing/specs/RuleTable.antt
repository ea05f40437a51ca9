-- The table of rules: which rule each plain operator has, by its opcode. An operator without a row is refused. A row has the last opcode of
-- its range, and the range of the next row follows it.
use Rattle.std.specs.Prelude.{ℕ, ◌-◌, ◌%◌, ◌==◌, if◌then◌else◌, List, [], ◌∷◌, true, false, Option, Some, None, unwrap_or, slice_get}
use Rattle.wasm_types.specs.declared.val_type.AbstractHeapType.TheVariants as abstract
use Rattle.wasm_types.specs.declared.val_type.HeapType.TheVariants.{Abstract}
use Rattle.wasm_types.specs.declared.val_type.ValType.{ValType}
use Rattle.wasm_types.specs.declared.val_type.ValType.TheVariants.{I32, I64, F32, F64, V128}
use Rattle.wasm_operators.specs.declared.types.Opcode.{Opcode}
use Rattle.wasm_operators.specs.declared.types.Opcode.TheVariants.{Byte, Prefixed}
use Rattle.wasm_operators.specs.Opcodes.{range_at}
use Rattle.wasm_typing.specs.Rules.{Rule, by_type, by_point, fixed, of_index, of_indices, of_index_and_number, of_local, of_heap, ref, ref_null, dropped, selected_type, selected_of, call, call_ref, call_indirect, local_get, local_set, local_tee, global_get, global_set, table_get, table_set, table_size, table_grow, table_fill, table_copy, table_init, elem_drop, accesses_lane, load, store, atomic, memory_size, memory_grow, memory_fill, memory_copy, memory_init, data_drop, null_reference, function_reference, is_null, as_non_null, reference_test, reference_cast, converted, struct_new, struct_new_default, struct_get, struct_set, array_new, array_new_default, array_new_fixed, from_data, from_elements, array_new_from, array_get, array_set, array_fill, array_copy, array_init_from, at_lane, at_lanes}

-- ---- numeric and vector operators: t1* -> t2*

abbrev pub Row : Type 0
Row = Option Rule

abbrev pub no_rule : Row
no_rule = None

-- unop : t -> t
abbrev pub unary : ValType ℕ → Row
unary t = Some (fixed (t ∷ []) (t ∷ []))

-- binop : t t -> t
abbrev pub binary : ValType ℕ → Row
binary t = Some (fixed (t ∷ t ∷ []) (t ∷ []))

-- ternop : t t t -> t
abbrev pub ternary : ValType ℕ → Row
ternary t = Some (fixed (t ∷ t ∷ t ∷ []) (t ∷ []))

-- testop : t -> i32
abbrev pub test : ValType ℕ → Row
test t = Some (fixed (t ∷ []) (I32 ∷ []))

-- relop : t t -> i32
abbrev pub comparison : ValType ℕ → Row
comparison t = Some (fixed (t ∷ t ∷ []) (I32 ∷ []))

-- cvtop : t -> u; also splats
abbrev pub conversion : (from to : ValType ℕ) → Row
conversion t u = Some (fixed (t ∷ []) (u ∷ []))

-- const : eps -> t
abbrev pub constant : ValType ℕ → Row
constant t = Some (fixed [] (t ∷ []))

-- vshiftop : v128 i32 -> v128
abbrev pub shift : Row
shift = Some (fixed (V128 ∷ I32 ∷ []) (V128 ∷ []))

-- extract_lane : v128 -> t and replace_lane : v128 t -> v128, in vectors of so many lanes
abbrev pub extract_lane_row : ℕ → ValType ℕ → Row
extract_lane_row n t = Some (by_type (at_lane n (V128 ∷ []) (t ∷ [])))

abbrev pub replace_lane_row : ℕ → ValType ℕ → Row
replace_lane_row n t = Some (by_type (at_lane n (V128 ∷ t ∷ []) (V128 ∷ [])))

-- v128.loadN_lane : at v128 -> v128 and v128.storeN_lane : at v128 -> eps
abbrev pub load_lane : (exponent bound : ℕ) → Row
load_lane exponent bound = Some (by_type (accesses_lane exponent bound (V128 ∷ []) (V128 ∷ [])))

abbrev pub store_lane : (exponent bound : ℕ) → Row
store_lane exponent bound = Some (by_type (accesses_lane exponent bound (V128 ∷ []) []))

-- ---- opcodes of one byte

abbrev pub byte_rules : List (ℕ × Row)
byte_rules =
    (0x0f, no_rule) ∷  -- control
    (0x10, Some (by_type (of_index call))) ∷
    (0x11, Some (by_type (of_indices call_indirect))) ∷
    (0x13, no_rule) ∷  -- tail calls
    (0x14, Some (by_type (of_index call_ref))) ∷
    (0x19, no_rule) ∷  -- return_call_ref, delegate, catch_all
    (0x1a, Some (by_point dropped)) ∷  -- drop
    (0x1b, Some (by_point selected_type)) ∷  -- select
    (0x1c, Some (by_type selected_of)) ∷  -- select t
    (0x1f, no_rule) ∷  -- try_table
    (0x20, Some (by_point local_get)) ∷
    (0x21, Some (by_type (of_local local_set))) ∷
    (0x22, Some (by_type (of_local local_tee))) ∷
    (0x23, Some (by_type (of_index global_get))) ∷
    (0x24, Some (by_type (of_index global_set))) ∷
    (0x25, Some (by_type (of_index table_get))) ∷
    (0x26, Some (by_type (of_index table_set))) ∷
    (0x27, no_rule) ∷
    (0x28, Some (load 2 I32)) ∷  -- i32.load
    (0x29, Some (load 3 I64)) ∷  -- i64.load
    (0x2a, Some (load 2 F32)) ∷  -- f32.load
    (0x2b, Some (load 3 F64)) ∷  -- f64.load
    (0x2d, Some (load 0 I32)) ∷  -- i32.load8_sx
    (0x2f, Some (load 1 I32)) ∷  -- i32.load16_sx
    (0x31, Some (load 0 I64)) ∷  -- i64.load8_sx
    (0x33, Some (load 1 I64)) ∷  -- i64.load16_sx
    (0x35, Some (load 2 I64)) ∷  -- i64.load32_sx
    (0x36, Some (store 2 I32)) ∷  -- i32.store
    (0x37, Some (store 3 I64)) ∷  -- i64.store
    (0x38, Some (store 2 F32)) ∷  -- f32.store
    (0x39, Some (store 3 F64)) ∷  -- f64.store
    (0x3a, Some (store 0 I32)) ∷  -- i32.store8
    (0x3b, Some (store 1 I32)) ∷  -- i32.store16
    (0x3c, Some (store 0 I64)) ∷  -- i64.store8
    (0x3d, Some (store 1 I64)) ∷  -- i64.store16
    (0x3e, Some (store 2 I64)) ∷  -- i64.store32
    (0x3f, Some (by_type (of_index memory_size))) ∷
    (0x40, Some (by_type (of_index memory_grow))) ∷
    (0x41, constant I32) ∷
    (0x42, constant I64) ∷
    (0x43, constant F32) ∷
    (0x44, constant F64) ∷
    (0x45, test I32) ∷  -- i32.eqz
    (0x4f, comparison I32) ∷  -- eq, ne, lt_sx, gt_sx, le_sx, ge_sx
    (0x50, test I64) ∷  -- i64.eqz
    (0x5a, comparison I64) ∷
    (0x60, comparison F32) ∷  -- eq, ne, lt, gt, le, ge
    (0x66, comparison F64) ∷
    (0x69, unary I32) ∷  -- clz, ctz, popcnt
    (0x78, binary I32) ∷  -- add, sub, mul, div_sx, rem_sx, and, or, xor, shl, shr_sx, rotl, rotr
    (0x7b, unary I64) ∷
    (0x8a, binary I64) ∷
    (0x91, unary F32) ∷  -- abs, neg, ceil, floor, trunc, nearest, sqrt
    (0x98, binary F32) ∷  -- add, sub, mul, div, min, max, copysign
    (0x9f, unary F64) ∷
    (0xa6, binary F64) ∷
    (0xa7, conversion I64 I32) ∷  -- i32.wrap_i64
    (0xa9, conversion F32 I32) ∷  -- i32.trunc_f32_sx
    (0xab, conversion F64 I32) ∷  -- i32.trunc_f64_sx
    (0xad, conversion I32 I64) ∷  -- i64.extend_i32_sx
    (0xaf, conversion F32 I64) ∷  -- i64.trunc_f32_sx
    (0xb1, conversion F64 I64) ∷  -- i64.trunc_f64_sx
    (0xb3, conversion I32 F32) ∷  -- f32.convert_i32_sx
    (0xb5, conversion I64 F32) ∷  -- f32.convert_i64_sx
    (0xb6, conversion F64 F32) ∷  -- f32.demote_f64
    (0xb8, conversion I32 F64) ∷  -- f64.convert_i32_sx
    (0xba, conversion I64 F64) ∷  -- f64.convert_i64_sx
    (0xbb, conversion F32 F64) ∷  -- f64.promote_f32
    (0xbc, conversion F32 I32) ∷  -- i32.reinterpret_f32
    (0xbd, conversion F64 I64) ∷  -- i64.reinterpret_f64
    (0xbe, conversion I32 F32) ∷  -- f32.reinterpret_i32
    (0xbf, conversion I64 F64) ∷  -- f64.reinterpret_i64
    (0xc1, unary I32) ∷  -- i32.extend8_s, i32.extend16_s
    (0xc4, unary I64) ∷  -- i64.extend8_s, i64.extend16_s, i64.extend32_s
    (0xcf, no_rule) ∷
    (0xd0, Some (by_type (of_heap null_reference))) ∷  -- ref.null
    (0xd1, Some (by_point is_null)) ∷  -- ref.is_null
    (0xd2, Some (by_type (of_index function_reference))) ∷  -- ref.func
    (0xd3, Some (fixed (ref_null (Abstract abstract.Eq) ∷ ref_null (Abstract abstract.Eq) ∷ []) (I32 ∷ []))) ∷  -- ref.eq
    (0xd4, Some (by_point as_non_null)) ∷  -- ref.as_non_null
    []

-- ---- 0xfb: structs, arrays, casts and i31

abbrev pub aggregate_rules : List (ℕ × Row)
aggregate_rules =
    (0, Some (by_type (of_index struct_new))) ∷
    (1, Some (by_type (of_index struct_new_default))) ∷
    (2, Some (by_type (of_index_and_number (struct_get false)))) ∷
    (4, Some (by_type (of_index_and_number (struct_get true)))) ∷  -- struct.get_s, struct.get_u
    (5, Some (by_type (of_index_and_number struct_set))) ∷
    (6, Some (by_type (of_index array_new))) ∷
    (7, Some (by_type (of_index array_new_default))) ∷
    (8, Some (by_type (of_index_and_number array_new_fixed))) ∷
    (9, Some (by_type (of_indices (array_new_from from_data)))) ∷  -- array.new_data
    (10, Some (by_type (of_indices (array_new_from from_elements)))) ∷  -- array.new_elem
    (11, Some (by_type (of_index (array_get false)))) ∷
    (13, Some (by_type (of_index (array_get true)))) ∷  -- array.get_s, array.get_u
    (14, Some (by_type (of_index array_set))) ∷
    (15, Some (fixed (ref_null (Abstract abstract.Array) ∷ []) (I32 ∷ []))) ∷  -- array.len
    (16, Some (by_type (of_index array_fill))) ∷
    (17, Some (by_type (of_indices array_copy))) ∷
    (18, Some (by_type (of_indices (array_init_from from_data)))) ∷  -- array.init_data
    (19, Some (by_type (of_indices (array_init_from from_elements)))) ∷  -- array.init_elem
    (21, Some (by_type (of_heap reference_test))) ∷  -- ref.test (ref ht), ref.test (ref null ht)
    (22, Some (by_type (of_heap (reference_cast false)))) ∷  -- ref.cast (ref ht)
    (23, Some (by_type (of_heap (reference_cast true)))) ∷  -- ref.cast (ref null ht)
    (25, no_rule) ∷  -- br_on_cast, br_on_cast_fail
    (26, Some (by_point (converted abstract.Extern abstract.Any))) ∷  -- any.convert_extern
    (27, Some (by_point (converted abstract.Any abstract.Extern))) ∷  -- extern.convert_any
    (28, Some (fixed (I32 ∷ []) (ref (Abstract abstract.I31) ∷ []))) ∷  -- ref.i31
    (30, Some (fixed (ref_null (Abstract abstract.I31) ∷ []) (I32 ∷ []))) ∷  -- i31.get_s, i31.get_u
    []

-- ---- 0xfc: saturating conversions, bulk operators on memories and tables, wide arithmetic

-- i64.add128, i64.sub128 : i64 i64 i64 i64 -> i64 i64
abbrev pub wide_binary : Row
wide_binary = Some (fixed (I64 ∷ I64 ∷ I64 ∷ I64 ∷ []) (I64 ∷ I64 ∷ []))

-- i64.mul_wide_sx : i64 i64 -> i64 i64
abbrev pub widening : Row
widening = Some (fixed (I64 ∷ I64 ∷ []) (I64 ∷ I64 ∷ []))

abbrev pub bulk_rules : List (ℕ × Row)
bulk_rules =
    (1, conversion F32 I32) ∷  -- i32.trunc_sat_f32_sx
    (3, conversion F64 I32) ∷  -- i32.trunc_sat_f64_sx
    (5, conversion F32 I64) ∷  -- i64.trunc_sat_f32_sx
    (7, conversion F64 I64) ∷  -- i64.trunc_sat_f64_sx
    (8, Some (by_type (of_indices memory_init))) ∷
    (9, Some (by_type (of_index data_drop))) ∷
    (10, Some (by_type (of_indices memory_copy))) ∷
    (11, Some (by_type (of_index memory_fill))) ∷
    (12, Some (by_type (of_indices table_init))) ∷
    (13, Some (by_type (of_index elem_drop))) ∷
    (14, Some (by_type (of_indices table_copy))) ∷
    (15, Some (by_type (of_index table_grow))) ∷
    (16, Some (by_type (of_index table_size))) ∷
    (17, Some (by_type (of_index table_fill))) ∷
    (18, no_rule) ∷
    (20, wide_binary) ∷
    (22, widening) ∷
    []

-- ---- 0xfd: vectors

abbrev pub vector_rules : List (ℕ × Row)
vector_rules =
    (0, Some (load 4 V128)) ∷  -- v128.load
    (6, Some (load 3 V128)) ∷  -- v128.loadNxM_sx
    (7, Some (load 0 V128)) ∷  -- v128.load8_splat
    (8, Some (load 1 V128)) ∷  -- v128.load16_splat
    (9, Some (load 2 V128)) ∷  -- v128.load32_splat
    (10, Some (load 3 V128)) ∷  -- v128.load64_splat
    (11, Some (store 4 V128)) ∷  -- v128.store
    (12, constant V128) ∷
    (13, Some (by_type (at_lanes (V128 ∷ V128 ∷ []) (V128 ∷ [])))) ∷  -- i8x16.shuffle
    (14, binary V128) ∷  -- i8x16.swizzle
    (17, conversion I32 V128) ∷  -- i8x16.splat, i16x8.splat, i32x4.splat
    (18, conversion I64 V128) ∷  -- i64x2.splat
    (19, conversion F32 V128) ∷  -- f32x4.splat
    (20, conversion F64 V128) ∷  -- f64x2.splat
    (22, extract_lane_row 16 I32) ∷  -- i8x16
    (23, replace_lane_row 16 I32) ∷
    (25, extract_lane_row 8 I32) ∷  -- i16x8
    (26, replace_lane_row 8 I32) ∷
    (27, extract_lane_row 4 I32) ∷  -- i32x4
    (28, replace_lane_row 4 I32) ∷
    (29, extract_lane_row 2 I64) ∷  -- i64x2
    (30, replace_lane_row 2 I64) ∷
    (31, extract_lane_row 4 F32) ∷  -- f32x4
    (32, replace_lane_row 4 F32) ∷
    (33, extract_lane_row 2 F64) ∷  -- f64x2
    (34, replace_lane_row 2 F64) ∷
    (76, binary V128) ∷  -- comparisons
    (77, unary V128) ∷  -- not
    (81, binary V128) ∷  -- and, andnot, or, xor
    (82, ternary V128) ∷  -- bitselect
    (83, test V128) ∷  -- any_true
    (84, load_lane 0 16) ∷
    (85, load_lane 1 8) ∷
    (86, load_lane 2 4) ∷
    (87, load_lane 3 2) ∷
    (88, store_lane 0 16) ∷
    (89, store_lane 1 8) ∷
    (90, store_lane 2 4) ∷
    (91, store_lane 3 2) ∷
    (92, Some (load 2 V128)) ∷  -- v128.load32_zero
    (93, Some (load 3 V128)) ∷  -- v128.load64_zero
    (98, unary V128) ∷  -- demote, promote; i8x16: abs, neg, popcnt
    (100, test V128) ∷  -- all_true, bitmask
    (102, binary V128) ∷  -- narrow
    (106, unary V128) ∷  -- f32x4: ceil, floor, trunc, nearest
    (109, shift) ∷  -- i8x16: shl, shr_sx
    (115, binary V128) ∷  -- add, sub and their kind
    (117, unary V128) ∷  -- f64x2: ceil, floor
    (121, binary V128) ∷  -- min_sx, max_sx
    (122, unary V128) ∷  -- f64x2.trunc
    (123, binary V128) ∷  -- i8x16.avgr_u
    (129, unary V128) ∷  -- extadd_pairwise; i16x8: abs, neg
    (130, binary V128) ∷  -- q15mulr_sat_s
    (132, test V128) ∷  -- all_true, bitmask
    (134, binary V128) ∷  -- narrow
    (138, unary V128) ∷  -- extend
    (141, shift) ∷  -- i16x8
    (147, binary V128) ∷
    (148, unary V128) ∷  -- f64x2.nearest
    (153, binary V128) ∷
    (154, no_rule) ∷
    (159, binary V128) ∷  -- avgr_u, extmul
    (161, unary V128) ∷  -- i32x4: abs, neg
    (162, no_rule) ∷
    (164, test V128) ∷  -- all_true, bitmask
    (166, no_rule) ∷
    (170, unary V128) ∷  -- extend
    (173, shift) ∷  -- i32x4
    (174, binary V128) ∷  -- add
    (176, no_rule) ∷
    (177, binary V128) ∷  -- sub
    (180, no_rule) ∷
    (186, binary V128) ∷  -- mul, min_sx, max_sx, dot
    (187, no_rule) ∷
    (191, binary V128) ∷  -- extmul
    (193, unary V128) ∷  -- i64x2: abs, neg
    (194, no_rule) ∷
    (196, test V128) ∷  -- all_true, bitmask
    (198, no_rule) ∷
    (202, unary V128) ∷  -- extend
    (205, shift) ∷  -- i64x2
    (206, binary V128) ∷  -- add
    (208, no_rule) ∷
    (209, binary V128) ∷  -- sub
    (212, no_rule) ∷
    (223, binary V128) ∷  -- mul, comparisons, extmul
    (225, unary V128) ∷  -- f32x4: abs, neg
    (226, no_rule) ∷
    (227, unary V128) ∷  -- sqrt
    (235, binary V128) ∷  -- add, sub, mul, div, min, max, pmin, pmax
    (237, unary V128) ∷  -- f64x2: abs, neg
    (238, no_rule) ∷
    (239, unary V128) ∷  -- sqrt
    (247, binary V128) ∷
    (255, unary V128) ∷  -- trunc_sat, convert
    (256, binary V128) ∷  -- i8x16.relaxed_swizzle
    (260, unary V128) ∷  -- relaxed_trunc
    (268, ternary V128) ∷  -- relaxed_madd, relaxed_nmadd, relaxed_laneselect
    (274, binary V128) ∷  -- relaxed_min, relaxed_max, relaxed_q15mulr_s, relaxed_dot_i8x16_i7x16_s
    (275, ternary V128) ∷  -- relaxed_dot_i8x16_i7x16_add_s
    []

-- ---- 0xfe: atomic operators

-- The exponents and value types of the seven widths, in the order of opcodes: i32, i64, i32 of 8 and 16 bits, i64 of 8, 16 and 32 bits.
abbrev pub Width : Type 0
Width = ℕ × ValType ℕ

abbrev pub widths : List Width
widths = (2, I32) ∷ (3, I64) ∷ (0, I32) ∷ (1, I32) ∷ (0, I64) ∷ (1, I64) ∷ (2, I64) ∷ []

-- From 0x10 on each operator has seven opcodes.
abbrev pub width_at : ℕ → Width
width_at n = unwrap_or (slice_get widths ((n - 0x10) % 7)) (2, I32)

-- load : at -> t
abbrev pub atomic_load : Width → Row
atomic_load w = Some (atomic w.0 [] (w.1 ∷ []))

-- store : at t -> eps
abbrev pub atomic_store : Width → Row
atomic_store w = Some (atomic w.0 (w.1 ∷ []) [])

-- rmw.op : at t -> t
abbrev pub atomic_update : Width → Row
atomic_update w = Some (atomic w.0 (w.1 ∷ []) (w.1 ∷ []))

-- rmw.cmpxchg : at t t -> t
abbrev pub atomic_exchange : Width → Row
atomic_exchange w = Some (atomic w.0 (w.1 ∷ w.1 ∷ []) (w.1 ∷ []))

abbrev pub atomic_rules : Width → List (ℕ × Row)
atomic_rules w =
    (0, Some (atomic 2 (I32 ∷ []) (I32 ∷ []))) ∷  -- memory.atomic.notify : at i32 -> i32
    (1, Some (atomic 2 (I32 ∷ I64 ∷ []) (I32 ∷ []))) ∷  -- memory.atomic.wait32 : at i32 i64 -> i32
    (2, Some (atomic 3 (I64 ∷ I64 ∷ []) (I32 ∷ []))) ∷  -- memory.atomic.wait64 : at i64 i64 -> i32
    (3, Some (fixed [] [])) ∷  -- atomic.fence
    (0xf, no_rule) ∷
    (0x16, atomic_load w) ∷
    (0x1d, atomic_store w) ∷
    (0x47, atomic_update w) ∷  -- add, sub, and, or, xor, xchg
    (0x4e, atomic_exchange w) ∷
    []

-- ---- any opcode

abbrev pub prefixed_rule : (prefix n : ℕ) → Row
prefixed_rule prefix n =
    if prefix == 0xfc then range_at bulk_rules n
    else if prefix == 0xfd then range_at vector_rules n
    else if prefix == 0xfe then range_at (atomic_rules (width_at n)) n
    else if prefix == 0xfb then range_at aggregate_rules n
    else None

abbrev pub rule_of : Opcode → Row
rule_of (Byte b) = range_at byte_rules b
rule_of (Prefixed prefix n) = prefixed_rule prefix n
