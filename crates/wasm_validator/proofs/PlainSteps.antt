-- The step of the algorithm at each plain operator of the code, as the methods take it.
use Rattle.std.proofs.Common.{◌≡◌, ℕ, List, [], ◌∷◌, Bool, true, false, Some, Ok, refl, ap, ◌∙◌}
use Rattle.std.specs.Prelude.{ℤ}
use Rattle.wasm_types.specs.declared.unary.UnaryOp.{UnaryOp}
use Rattle.wasm_types.specs.declared.unary.UnaryOp.TheVariants as unary
use Rattle.wasm_types.specs.declared.binary.BinaryOp.{BinaryOp}
use Rattle.wasm_types.specs.declared.binary.BinaryOp.TheVariants as binary
use Rattle.wasm_types.specs.declared.ternary.TernaryOp.{TernaryOp}
use Rattle.wasm_types.specs.declared.memory.LoadKind.{LoadKind}
use Rattle.wasm_types.specs.declared.memory.StoreKind.{StoreKind}
use Rattle.wasm_types.specs.declared.memory.LoadSimdKind.{LoadSimdKind}
use Rattle.wasm_types.specs.declared.memory.LoadSimdKind.TheVariants as vector_access
use Rattle.wasm_types.specs.declared.val_type.AbstractHeapType.TheVariants as abstract
use Rattle.wasm_types.specs.declared.val_type.HeapType.{HeapType}
use Rattle.wasm_types.specs.declared.val_type.HeapType.TheVariants.{Abstract, Concrete}
use Rattle.wasm_types.specs.declared.val_type.ValType.{ValType}
use Rattle.wasm_types.specs.declared.val_type.ValType.TheVariants.{I32, I64, F32, F64, V128, Ref}
use Rattle.wasm_numbers.specs.Results.{◌>>=◌}
use Rattle.wasm_operators.specs.declared.operator.Op.TheVariants as operator
use Rattle.wasm_operators.specs.declared.reference_operator.ReferenceOp.TheVariants as reference
use Rattle.wasm_operators.specs.declared.types.AtomicKind.{AtomicKind}
use Rattle.wasm_operators.specs.declared.types.Opcode.{Opcode}
use Rattle.wasm_operators.specs.declared.types.Opcode.TheVariants.{Byte, Prefixed}
use Rattle.wasm_operators.specs.declared.types.RawMemArg.{RawMemArg}
use Rattle.wasm_operators.specs.declared.types.Space.TheVariants.{Tables, Types, Funcs, Globals, Memories, Elements, Data}
use Rattle.wasm_operators.specs.AccessOperations.{access_of, load_operation, store_operation}
use Rattle.wasm_operators.specs.AtomicOpcodes.{atomic_operation}
use Rattle.wasm_operators.specs.BinaryOperations.{binary_operation, binary_opcode, replace_lane}
use Rattle.wasm_operators.specs.Meaning.{Listed, meaning}
use Rattle.wasm_operators.specs.Operations.{Access, index, local, number, access, heap, value, i32, i64, f32, f64, v128, lanes, zero_byte, operation}
use Rattle.wasm_operators.specs.TernaryOperations.{ternary_operation}
use Rattle.wasm_operators.specs.UnaryOperations.{unary_operation, unary_opcode, extract_lane}
use Rattle.wasm_operators.specs.VectorAccessOpcodes.{vector_access_operation, vector_access_opcode, access_lane}
use Rattle.wasm_body.specs.Control.{role_of}
use Rattle.wasm_body.specs.Naming.{NamedOperation}
use Rattle.wasm_body.specs.Translation.{translate_heap, translate_value, translate_immediates}
use Rattle.wasm_body.specs.Validity.{Point, Change, Checked}
use Rattle.wasm_body.specs.ValidityLaws.{KnownOperand}
use Rattle.wasm_typing.specs.Contexts.{OperandContext}
use Rattle.wasm_typing.specs.Operands.{InstructionType, ◌⟶◌}
use Rattle.wasm_typing.specs.Rules.{Immediates, by_point, ref, ref_null, dropped, selected_type, selected_of, call, call_ref, call_indirect, local_get, local_set, local_tee, global_get, global_set, table_get, table_set, table_size, table_grow, table_fill, table_copy, table_init, elem_drop, memory_size, memory_grow, memory_fill, memory_copy, memory_init, data_drop, null_reference, function_reference, is_null, as_non_null, reference_test, reference_cast, converted, struct_new, struct_new_default, struct_get, struct_set, array_new, array_new_default, array_new_fixed, from_data, from_elements, array_new_from, array_get, array_set, array_fill, array_copy, array_init_from, at_lanes}
use Rattle.wasm_typing.specs.RuleTable.{rule_of}
use Rattle.wasm_typing.specs.RuleLaws.{is_plain, type_of_operator}
use Rattle.wasm_context.specs.Validation.{BodyContext, BodyState, checked_index, raw_naming, raw_named, named_step, raw_step}
use Rattle.wasm_validator.specs.declared.state.Validator.{Validator}
use Rattle.wasm_validator.specs.Steps.{setting_of, open_state, ReachesHeight}
use Rattle.wasm_validator.specs.Plain.{plain_in, pointed_in, local_get_in}
use Rattle.wasm_validator.specs.Popped.{drops_in, selects_in, tests_null_in, non_null_in, converts_in}
use Rattle.wasm_validator.proofs.PlainOperators.{gives_type, plain_step}
use Rattle.wasm_validator.proofs.PlainOpcodes.{typed_is_plain, unary_gives, binary_gives, ternary_gives, load_gives, store_gives, vector_access_gives, atomic_gives}
use Rattle.wasm_validator.proofs.PointRules.{point_step, dropped_whole, selected_whole, local_get_whole, is_null_whole, as_non_null_whole, converted_whole}

-- ---- the name of a plain operator is the operator itself

module _ (b : BodyContext) where
  heap_kept : (h : HeapType ℕ) → translate_heap (checked_index b) h ≡ Ok h
  heap_kept (Abstract a) = refl
  heap_kept (Concrete n) = refl

  value_kept : (t : ValType ℕ) → translate_value (checked_index b) t ≡ Ok t
  value_kept (Ref r) = ap (λ a. a >>= λ h. Ok (Ref (record { nullable = r.nullable; heap_type = h }))) (heap_kept r.heap_type)
  value_kept _ = refl

  with_heap : (o : Opcode) (h : HeapType ℕ) → raw_named b (operation o (heap h ∷ [])) ≡ Ok (operation o (heap h ∷ []))
  with_heap o (Abstract a) = refl
  with_heap o (Concrete n) = refl

  abbrev from_value : Opcode → Checked (ValType ℕ) → Checked NamedOperation
  from_value o a = ((a >>= λ t. Ok (value t)) >>= λ i. Ok (i ∷ [])) >>= λ is. Ok (operation o is)

  with_value : (o : Opcode) (t : ValType ℕ) → raw_named b (operation o (value t ∷ [])) ≡ Ok (operation o (value t ∷ []))
  with_value o t = ap (from_value o) (value_kept t)

  extract_kept : (op : UnaryOp) → translate_immediates (raw_naming b) (extract_lane op) ≡ Ok (extract_lane op)
  extract_kept (unary.I8x16ExtractLaneS idx) = refl
  extract_kept _ = refl

  replace_kept : (op : BinaryOp) → translate_immediates (raw_naming b) (replace_lane op) ≡ Ok (replace_lane op)
  replace_kept (binary.I8x16ReplaceLane idx) = refl
  replace_kept _ = refl

  lane_kept : (kind : LoadSimdKind) → translate_immediates (raw_naming b) (access_lane kind) ≡ Ok (access_lane kind)
  lane_kept (vector_access.V128Load8Lane n) = refl
  lane_kept _ = refl

  abbrev from_immediates : Opcode → Checked Immediates → Checked NamedOperation
  from_immediates o a = a >>= λ is. Ok (operation o is)

  abbrev from_access : Opcode → Access → Checked Immediates → Checked NamedOperation
  from_access o m a = (a >>= λ is. Ok (access m ∷ is)) >>= λ is. Ok (operation o is)

  unary_named : (op : UnaryOp) → raw_named b (unary_operation op) ≡ Ok (unary_operation op)
  unary_named op = ap (from_immediates (unary_opcode op)) (extract_kept op)

  binary_named : (op : BinaryOp) → raw_named b (binary_operation op) ≡ Ok (binary_operation op)
  binary_named op = ap (from_immediates (binary_opcode op)) (replace_kept op)

  vector_access_named : (kind : LoadSimdKind) (m : Access) → raw_named b (vector_access_operation kind m) ≡ Ok (vector_access_operation kind m)
  vector_access_named kind m = ap (from_access (vector_access_opcode kind) m) (lane_kept kind)

-- ---- steps

module _ (v : Validator) (reach : ReachesHeight v) where
  abbrev c : OperandContext
  c = (setting_of v).operands

  abbrev b : BodyContext
  b = setting_of v

  abbrev step : Listed → Checked BodyState
  step p = raw_step b (meaning p) (open_state v)

  abbrev from_name : Checked NamedOperation → Checked BodyState
  from_name a = a >>= λ n. named_step b n (open_state v)

  -- an operator by a type
  by_type : (p : Listed) (n : NamedOperation) (type : Checked InstructionType) → raw_named b (meaning p) ≡ Ok n → gives_type (rule_of n.opcode) ≡ true
      → type_of_operator c n ≡ type → step p ≡ plain_in v type
  by_type p n type named gives is = ap from_name named ∙ plain_step v reach n (typed_is_plain n.opcode gives) gives ∙ ap (plain_in v) is

  -- an operator by a rule for operands
  by_rule : (p : Listed) (n : NamedOperation) (rule : OperandContext → Immediates → Point KnownOperand → Checked (Change KnownOperand)) (want : Checked BodyState)
      → raw_named b (meaning p) ≡ Ok n → is_plain (role_of n.opcode) ≡ true → rule_of n.opcode ≡ Some (by_point rule) → pointed_in v (rule c n.immediates) ≡ want → step p ≡ want
  by_rule p n rule want named plain row is = ap from_name named ∙ point_step v reach n rule plain row ∙ is

  -- ---- parametric operators

  pub drop_step : step operator.Drop ≡ drops_in v
  drop_step = by_rule operator.Drop (operation (Byte 0x1a) []) dropped (drops_in v) refl refl refl (dropped_whole v reach)

  pub select_step : step operator.Select ≡ selects_in v
  select_step = by_rule operator.Select (operation (Byte 0x1b) []) selected_type (selects_in v) refl refl refl (selected_whole v reach)

  pub typed_select_step : (t : ValType ℕ) → step (operator.TypedSelect t) ≡ plain_in v (selected_of c (value t ∷ []))
  typed_select_step t = by_type (operator.TypedSelect t) (operation (Byte 0x1c) (value t ∷ [])) (selected_of c (value t ∷ [])) (with_value b (Byte 0x1c) t) refl refl

  -- ---- calls and variables

  pub call_step : (n : ℕ) → step (operator.Call n) ≡ plain_in v (call c n)
  call_step n = by_type (operator.Call n) (operation (Byte 0x10) (index Funcs n ∷ [])) (call c n) refl refl refl

  pub call_ref_step : (n : ℕ) → step (operator.CallRef n) ≡ plain_in v (call_ref c n)
  call_ref_step n = by_type (operator.CallRef n) (operation (Byte 0x14) (index Types n ∷ [])) (call_ref c n) refl refl refl

  pub call_indirect_step : (type table : ℕ) → step (operator.CallIndirect type table) ≡ plain_in v (call_indirect c type table)
  call_indirect_step type table = by_type (operator.CallIndirect type table) (operation (Byte 0x11) (index Types type ∷ index Tables table ∷ [])) (call_indirect c type table) refl refl refl

  pub local_get_step : (n : ℕ) → step (operator.LocalGet n) ≡ local_get_in v n
  local_get_step n = by_rule (operator.LocalGet n) (operation (Byte 0x20) (local n ∷ [])) local_get (local_get_in v n) refl refl refl (local_get_whole v reach n)

  pub local_set_step : (n : ℕ) → step (operator.LocalSet n) ≡ plain_in v (local_set c n)
  local_set_step n = by_type (operator.LocalSet n) (operation (Byte 0x21) (local n ∷ [])) (local_set c n) refl refl refl

  pub local_tee_step : (n : ℕ) → step (operator.LocalTee n) ≡ plain_in v (local_tee c n)
  local_tee_step n = by_type (operator.LocalTee n) (operation (Byte 0x22) (local n ∷ [])) (local_tee c n) refl refl refl

  pub global_get_step : (n : ℕ) → step (operator.GlobalGet n) ≡ plain_in v (global_get c n)
  global_get_step n = by_type (operator.GlobalGet n) (operation (Byte 0x23) (index Globals n ∷ [])) (global_get c n) refl refl refl

  pub global_set_step : (n : ℕ) → step (operator.GlobalSet n) ≡ plain_in v (global_set c n)
  global_set_step n = by_type (operator.GlobalSet n) (operation (Byte 0x24) (index Globals n ∷ [])) (global_set c n) refl refl refl

  -- ---- tables

  pub table_get_step : (n : ℕ) → step (operator.TableGet n) ≡ plain_in v (table_get c n)
  table_get_step n = by_type (operator.TableGet n) (operation (Byte 0x25) (index Tables n ∷ [])) (table_get c n) refl refl refl

  pub table_set_step : (n : ℕ) → step (operator.TableSet n) ≡ plain_in v (table_set c n)
  table_set_step n = by_type (operator.TableSet n) (operation (Byte 0x26) (index Tables n ∷ [])) (table_set c n) refl refl refl

  pub table_init_step : (m n : ℕ) → step (operator.TableInit m n) ≡ plain_in v (table_init c m n)
  table_init_step m n = by_type (operator.TableInit m n) (operation (Prefixed 0xfc 12) (index Elements m ∷ index Tables n ∷ [])) (table_init c m n) refl refl refl

  pub elem_drop_step : (n : ℕ) → step (operator.ElemDrop n) ≡ plain_in v (elem_drop c n)
  elem_drop_step n = by_type (operator.ElemDrop n) (operation (Prefixed 0xfc 13) (index Elements n ∷ [])) (elem_drop c n) refl refl refl

  pub table_copy_step : (m n : ℕ) → step (operator.TableCopy m n) ≡ plain_in v (table_copy c m n)
  table_copy_step m n = by_type (operator.TableCopy m n) (operation (Prefixed 0xfc 14) (index Tables m ∷ index Tables n ∷ [])) (table_copy c m n) refl refl refl

  pub table_grow_step : (n : ℕ) → step (operator.TableGrow n) ≡ plain_in v (table_grow c n)
  table_grow_step n = by_type (operator.TableGrow n) (operation (Prefixed 0xfc 15) (index Tables n ∷ [])) (table_grow c n) refl refl refl

  pub table_size_step : (n : ℕ) → step (operator.TableSize n) ≡ plain_in v (table_size c n)
  table_size_step n = by_type (operator.TableSize n) (operation (Prefixed 0xfc 16) (index Tables n ∷ [])) (table_size c n) refl refl refl

  pub table_fill_step : (n : ℕ) → step (operator.TableFill n) ≡ plain_in v (table_fill c n)
  table_fill_step n = by_type (operator.TableFill n) (operation (Prefixed 0xfc 17) (index Tables n ∷ [])) (table_fill c n) refl refl refl

  -- ---- memories

  pub load_step : (kind : LoadKind) (memarg : RawMemArg) → step (operator.Load kind memarg) ≡ plain_in v (type_of_operator c (load_operation kind (access_of memarg)))
  load_step kind memarg = by_type (operator.Load kind memarg) (load_operation kind (access_of memarg)) (type_of_operator c (load_operation kind (access_of memarg))) refl (load_gives kind) refl

  pub store_step : (kind : StoreKind) (memarg : RawMemArg) → step (operator.Store kind memarg) ≡ plain_in v (type_of_operator c (store_operation kind (access_of memarg)))
  store_step kind memarg = by_type (operator.Store kind memarg) (store_operation kind (access_of memarg)) (type_of_operator c (store_operation kind (access_of memarg))) refl (store_gives kind) refl

  pub vector_access_step : (kind : LoadSimdKind) (memarg : RawMemArg) → step (operator.LoadSimd kind memarg) ≡ plain_in v (type_of_operator c (vector_access_operation kind (access_of memarg)))
  vector_access_step kind memarg = by_type (operator.LoadSimd kind memarg) (vector_access_operation kind (access_of memarg)) (type_of_operator c (vector_access_operation kind (access_of memarg))) (vector_access_named b kind (access_of memarg)) (vector_access_gives kind) refl

  pub atomic_step : (kind : AtomicKind) (memarg : RawMemArg) → step (operator.Atomic kind memarg) ≡ plain_in v (type_of_operator c (atomic_operation kind (access_of memarg)))
  atomic_step kind memarg = by_type (operator.Atomic kind memarg) (atomic_operation kind (access_of memarg)) (type_of_operator c (atomic_operation kind (access_of memarg))) refl (atomic_gives kind) refl

  pub memory_size_step : (n : ℕ) → step (operator.MemorySize n) ≡ plain_in v (memory_size c n)
  memory_size_step n = by_type (operator.MemorySize n) (operation (Byte 0x3f) (index Memories n ∷ [])) (memory_size c n) refl refl refl

  pub memory_grow_step : (n : ℕ) → step (operator.MemoryGrow n) ≡ plain_in v (memory_grow c n)
  memory_grow_step n = by_type (operator.MemoryGrow n) (operation (Byte 0x40) (index Memories n ∷ [])) (memory_grow c n) refl refl refl

  pub memory_init_step : (m n : ℕ) → step (operator.MemoryInit m n) ≡ plain_in v (memory_init c m n)
  memory_init_step m n = by_type (operator.MemoryInit m n) (operation (Prefixed 0xfc 8) (index Data m ∷ index Memories n ∷ [])) (memory_init c m n) refl refl refl

  pub data_drop_step : (n : ℕ) → step (operator.DataDrop n) ≡ plain_in v (data_drop c n)
  data_drop_step n = by_type (operator.DataDrop n) (operation (Prefixed 0xfc 9) (index Data n ∷ [])) (data_drop c n) refl refl refl

  pub memory_copy_step : (m n : ℕ) → step (operator.MemoryCopy m n) ≡ plain_in v (memory_copy c m n)
  memory_copy_step m n = by_type (operator.MemoryCopy m n) (operation (Prefixed 0xfc 10) (index Memories m ∷ index Memories n ∷ [])) (memory_copy c m n) refl refl refl

  pub memory_fill_step : (n : ℕ) → step (operator.MemoryFill n) ≡ plain_in v (memory_fill c n)
  memory_fill_step n = by_type (operator.MemoryFill n) (operation (Prefixed 0xfc 11) (index Memories n ∷ [])) (memory_fill c n) refl refl refl

  pub fence_step : step operator.AtomicFence ≡ plain_in v (Ok ([] ⟶ []))
  fence_step = by_type operator.AtomicFence (operation (Prefixed 0xfe 3) (zero_byte ∷ [])) (Ok ([] ⟶ [])) refl refl refl

  -- ---- numbers and vectors

  pub i32_const_step : (z : ℤ) → step (operator.I32Const z) ≡ plain_in v (Ok ([] ⟶ I32 ∷ []))
  i32_const_step z = by_type (operator.I32Const z) (operation (Byte 0x41) (i32 z ∷ [])) (Ok ([] ⟶ I32 ∷ [])) refl refl refl

  pub i64_const_step : (z : ℤ) → step (operator.I64Const z) ≡ plain_in v (Ok ([] ⟶ I64 ∷ []))
  i64_const_step z = by_type (operator.I64Const z) (operation (Byte 0x42) (i64 z ∷ [])) (Ok ([] ⟶ I64 ∷ [])) refl refl refl

  pub f32_const_step : (bits : ℕ) → step (operator.F32Const bits) ≡ plain_in v (Ok ([] ⟶ F32 ∷ []))
  f32_const_step bits = by_type (operator.F32Const bits) (operation (Byte 0x43) (f32 bits ∷ [])) (Ok ([] ⟶ F32 ∷ [])) refl refl refl

  pub f64_const_step : (bits : ℕ) → step (operator.F64Const bits) ≡ plain_in v (Ok ([] ⟶ F64 ∷ []))
  f64_const_step bits = by_type (operator.F64Const bits) (operation (Byte 0x44) (f64 bits ∷ [])) (Ok ([] ⟶ F64 ∷ [])) refl refl refl

  pub v128_const_step : (bits : ℕ) → step (operator.V128Const bits) ≡ plain_in v (Ok ([] ⟶ V128 ∷ []))
  v128_const_step bits = by_type (operator.V128Const bits) (operation (Prefixed 0xfd 12) (v128 bits ∷ [])) (Ok ([] ⟶ V128 ∷ [])) refl refl refl

  pub unary_step : (op : UnaryOp) → step (operator.Unop op) ≡ plain_in v (type_of_operator c (unary_operation op))
  unary_step op = by_type (operator.Unop op) (unary_operation op) (type_of_operator c (unary_operation op)) (unary_named b op) (unary_gives op) refl

  pub binary_step : (op : BinaryOp) → step (operator.Binop op) ≡ plain_in v (type_of_operator c (binary_operation op))
  binary_step op = by_type (operator.Binop op) (binary_operation op) (type_of_operator c (binary_operation op)) (binary_named b op) (binary_gives op) refl

  pub ternary_step : (op : TernaryOp) → step (operator.TernOp op) ≡ plain_in v (type_of_operator c (ternary_operation op))
  ternary_step op = by_type (operator.TernOp op) (ternary_operation op) (type_of_operator c (ternary_operation op)) refl (ternary_gives op) refl

  pub add128_step : step operator.I64Add128 ≡ plain_in v (Ok (I64 ∷ I64 ∷ I64 ∷ I64 ∷ [] ⟶ I64 ∷ I64 ∷ []))
  add128_step = by_type operator.I64Add128 (operation (Prefixed 0xfc 19) []) (Ok (I64 ∷ I64 ∷ I64 ∷ I64 ∷ [] ⟶ I64 ∷ I64 ∷ [])) refl refl refl

  pub sub128_step : step operator.I64Sub128 ≡ plain_in v (Ok (I64 ∷ I64 ∷ I64 ∷ I64 ∷ [] ⟶ I64 ∷ I64 ∷ []))
  sub128_step = by_type operator.I64Sub128 (operation (Prefixed 0xfc 20) []) (Ok (I64 ∷ I64 ∷ I64 ∷ I64 ∷ [] ⟶ I64 ∷ I64 ∷ [])) refl refl refl

  pub mul_wide_s_step : step operator.I64MulWideS ≡ plain_in v (Ok (I64 ∷ I64 ∷ [] ⟶ I64 ∷ I64 ∷ []))
  mul_wide_s_step = by_type operator.I64MulWideS (operation (Prefixed 0xfc 21) []) (Ok (I64 ∷ I64 ∷ [] ⟶ I64 ∷ I64 ∷ [])) refl refl refl

  pub mul_wide_u_step : step operator.I64MulWideU ≡ plain_in v (Ok (I64 ∷ I64 ∷ [] ⟶ I64 ∷ I64 ∷ []))
  mul_wide_u_step = by_type operator.I64MulWideU (operation (Prefixed 0xfc 22) []) (Ok (I64 ∷ I64 ∷ [] ⟶ I64 ∷ I64 ∷ [])) refl refl refl

  pub shuffle_step : (ns : List ℕ) → step (operator.I8x16Shuffle ns) ≡ plain_in v (at_lanes (V128 ∷ V128 ∷ []) (V128 ∷ []) c (lanes ns ∷ []))
  shuffle_step ns = by_type (operator.I8x16Shuffle ns) (operation (Prefixed 0xfd 13) (lanes ns ∷ [])) (at_lanes (V128 ∷ V128 ∷ []) (V128 ∷ []) c (lanes ns ∷ [])) refl refl refl

  pub swizzle_step : step operator.I8x16Swizzle ≡ plain_in v (Ok (V128 ∷ V128 ∷ [] ⟶ V128 ∷ []))
  swizzle_step = by_type operator.I8x16Swizzle (operation (Prefixed 0xfd 14) []) (Ok (V128 ∷ V128 ∷ [] ⟶ V128 ∷ [])) refl refl refl

  pub bitselect_step : step operator.V128Bitselect ≡ plain_in v (Ok (V128 ∷ V128 ∷ V128 ∷ [] ⟶ V128 ∷ []))
  bitselect_step = by_type operator.V128Bitselect (operation (Prefixed 0xfd 82) []) (Ok (V128 ∷ V128 ∷ V128 ∷ [] ⟶ V128 ∷ [])) refl refl refl

  -- ---- references

  pub ref_null_step : (h : HeapType ℕ) → step (operator.Reference (reference.RefNull h)) ≡ plain_in v (null_reference c h)
  ref_null_step h = by_type (operator.Reference (reference.RefNull h)) (operation (Byte 0xd0) (heap h ∷ [])) (null_reference c h) (with_heap b (Byte 0xd0) h) refl refl

  pub ref_is_null_step : step (operator.Reference reference.RefIsNull) ≡ tests_null_in v
  ref_is_null_step = by_rule (operator.Reference reference.RefIsNull) (operation (Byte 0xd1) []) is_null (tests_null_in v) refl refl refl (is_null_whole v reach)

  pub ref_func_step : (n : ℕ) → step (operator.Reference (reference.RefFunc n)) ≡ plain_in v (function_reference c n)
  ref_func_step n = by_type (operator.Reference (reference.RefFunc n)) (operation (Byte 0xd2) (index Funcs n ∷ [])) (function_reference c n) refl refl refl

  pub ref_eq_step : step (operator.Reference reference.RefEq) ≡ plain_in v (Ok (ref_null (Abstract abstract.Eq) ∷ ref_null (Abstract abstract.Eq) ∷ [] ⟶ I32 ∷ []))
  ref_eq_step = by_type (operator.Reference reference.RefEq) (operation (Byte 0xd3) []) (Ok (ref_null (Abstract abstract.Eq) ∷ ref_null (Abstract abstract.Eq) ∷ [] ⟶ I32 ∷ [])) refl refl refl

  pub ref_as_non_null_step : step (operator.Reference reference.RefAsNonNull) ≡ non_null_in v
  ref_as_non_null_step = by_rule (operator.Reference reference.RefAsNonNull) (operation (Byte 0xd4) []) as_non_null (non_null_in v) refl refl refl (as_non_null_whole v reach)

  pub ref_test_step : (nullable : Bool) (h : HeapType ℕ) → step (operator.Reference (reference.RefTest nullable h)) ≡ plain_in v (reference_test c h)
  ref_test_step false h = by_type (operator.Reference (reference.RefTest false h)) (operation (Prefixed 0xfb 20) (heap h ∷ [])) (reference_test c h) (with_heap b (Prefixed 0xfb 20) h) refl refl
  ref_test_step true h = by_type (operator.Reference (reference.RefTest true h)) (operation (Prefixed 0xfb 21) (heap h ∷ [])) (reference_test c h) (with_heap b (Prefixed 0xfb 21) h) refl refl

  pub ref_cast_step : (nullable : Bool) (h : HeapType ℕ) → step (operator.Reference (reference.RefCast nullable h)) ≡ plain_in v (reference_cast nullable c h)
  ref_cast_step false h = by_type (operator.Reference (reference.RefCast false h)) (operation (Prefixed 0xfb 22) (heap h ∷ [])) (reference_cast false c h) (with_heap b (Prefixed 0xfb 22) h) refl refl
  ref_cast_step true h = by_type (operator.Reference (reference.RefCast true h)) (operation (Prefixed 0xfb 23) (heap h ∷ [])) (reference_cast true c h) (with_heap b (Prefixed 0xfb 23) h) refl refl

  pub any_convert_extern_step : step (operator.Reference reference.AnyConvertExtern) ≡ converts_in v abstract.Extern abstract.Any
  any_convert_extern_step = by_rule (operator.Reference reference.AnyConvertExtern) (operation (Prefixed 0xfb 26) []) (converted abstract.Extern abstract.Any) (converts_in v abstract.Extern abstract.Any) refl refl refl (converted_whole v reach abstract.Extern abstract.Any)

  pub extern_convert_any_step : step (operator.Reference reference.ExternConvertAny) ≡ converts_in v abstract.Any abstract.Extern
  extern_convert_any_step = by_rule (operator.Reference reference.ExternConvertAny) (operation (Prefixed 0xfb 27) []) (converted abstract.Any abstract.Extern) (converts_in v abstract.Any abstract.Extern) refl refl refl (converted_whole v reach abstract.Any abstract.Extern)

  pub ref_i31_step : step (operator.Reference reference.RefI31) ≡ plain_in v (Ok (I32 ∷ [] ⟶ ref (Abstract abstract.I31) ∷ []))
  ref_i31_step = by_type (operator.Reference reference.RefI31) (operation (Prefixed 0xfb 28) []) (Ok (I32 ∷ [] ⟶ ref (Abstract abstract.I31) ∷ [])) refl refl refl

  pub i31_get_s_step : step (operator.Reference reference.I31GetS) ≡ plain_in v (Ok (ref_null (Abstract abstract.I31) ∷ [] ⟶ I32 ∷ []))
  i31_get_s_step = by_type (operator.Reference reference.I31GetS) (operation (Prefixed 0xfb 29) []) (Ok (ref_null (Abstract abstract.I31) ∷ [] ⟶ I32 ∷ [])) refl refl refl

  pub i31_get_u_step : step (operator.Reference reference.I31GetU) ≡ plain_in v (Ok (ref_null (Abstract abstract.I31) ∷ [] ⟶ I32 ∷ []))
  i31_get_u_step = by_type (operator.Reference reference.I31GetU) (operation (Prefixed 0xfb 30) []) (Ok (ref_null (Abstract abstract.I31) ∷ [] ⟶ I32 ∷ [])) refl refl refl

  -- ---- structs and arrays

  pub struct_new_step : (n : ℕ) → step (operator.Reference (reference.StructNew n)) ≡ plain_in v (struct_new c n)
  struct_new_step n = by_type (operator.Reference (reference.StructNew n)) (operation (Prefixed 0xfb 0) (index Types n ∷ [])) (struct_new c n) refl refl refl

  pub struct_new_default_step : (n : ℕ) → step (operator.Reference (reference.StructNewDefault n)) ≡ plain_in v (struct_new_default c n)
  struct_new_default_step n = by_type (operator.Reference (reference.StructNewDefault n)) (operation (Prefixed 0xfb 1) (index Types n ∷ [])) (struct_new_default c n) refl refl refl

  pub struct_get_step : (m n : ℕ) → step (operator.Reference (reference.StructGet m n)) ≡ plain_in v (struct_get false c m n)
  struct_get_step m n = by_type (operator.Reference (reference.StructGet m n)) (operation (Prefixed 0xfb 2) (index Types m ∷ number n ∷ [])) (struct_get false c m n) refl refl refl

  pub struct_get_s_step : (m n : ℕ) → step (operator.Reference (reference.StructGetS m n)) ≡ plain_in v (struct_get true c m n)
  struct_get_s_step m n = by_type (operator.Reference (reference.StructGetS m n)) (operation (Prefixed 0xfb 3) (index Types m ∷ number n ∷ [])) (struct_get true c m n) refl refl refl

  pub struct_get_u_step : (m n : ℕ) → step (operator.Reference (reference.StructGetU m n)) ≡ plain_in v (struct_get true c m n)
  struct_get_u_step m n = by_type (operator.Reference (reference.StructGetU m n)) (operation (Prefixed 0xfb 4) (index Types m ∷ number n ∷ [])) (struct_get true c m n) refl refl refl

  pub struct_set_step : (m n : ℕ) → step (operator.Reference (reference.StructSet m n)) ≡ plain_in v (struct_set c m n)
  struct_set_step m n = by_type (operator.Reference (reference.StructSet m n)) (operation (Prefixed 0xfb 5) (index Types m ∷ number n ∷ [])) (struct_set c m n) refl refl refl

  pub array_new_step : (n : ℕ) → step (operator.Reference (reference.ArrayNew n)) ≡ plain_in v (array_new c n)
  array_new_step n = by_type (operator.Reference (reference.ArrayNew n)) (operation (Prefixed 0xfb 6) (index Types n ∷ [])) (array_new c n) refl refl refl

  pub array_new_default_step : (n : ℕ) → step (operator.Reference (reference.ArrayNewDefault n)) ≡ plain_in v (array_new_default c n)
  array_new_default_step n = by_type (operator.Reference (reference.ArrayNewDefault n)) (operation (Prefixed 0xfb 7) (index Types n ∷ [])) (array_new_default c n) refl refl refl

  pub array_new_fixed_step : (m n : ℕ) → step (operator.Reference (reference.ArrayNewFixed m n)) ≡ plain_in v (array_new_fixed c m n)
  array_new_fixed_step m n = by_type (operator.Reference (reference.ArrayNewFixed m n)) (operation (Prefixed 0xfb 8) (index Types m ∷ number n ∷ [])) (array_new_fixed c m n) refl refl refl

  pub array_new_data_step : (m n : ℕ) → step (operator.Reference (reference.ArrayNewData m n)) ≡ plain_in v (array_new_from from_data c m n)
  array_new_data_step m n = by_type (operator.Reference (reference.ArrayNewData m n)) (operation (Prefixed 0xfb 9) (index Types m ∷ index Data n ∷ [])) (array_new_from from_data c m n) refl refl refl

  pub array_new_elem_step : (m n : ℕ) → step (operator.Reference (reference.ArrayNewElem m n)) ≡ plain_in v (array_new_from from_elements c m n)
  array_new_elem_step m n = by_type (operator.Reference (reference.ArrayNewElem m n)) (operation (Prefixed 0xfb 10) (index Types m ∷ index Elements n ∷ [])) (array_new_from from_elements c m n) refl refl refl

  pub array_get_step : (n : ℕ) → step (operator.Reference (reference.ArrayGet n)) ≡ plain_in v (array_get false c n)
  array_get_step n = by_type (operator.Reference (reference.ArrayGet n)) (operation (Prefixed 0xfb 11) (index Types n ∷ [])) (array_get false c n) refl refl refl

  pub array_get_s_step : (n : ℕ) → step (operator.Reference (reference.ArrayGetS n)) ≡ plain_in v (array_get true c n)
  array_get_s_step n = by_type (operator.Reference (reference.ArrayGetS n)) (operation (Prefixed 0xfb 12) (index Types n ∷ [])) (array_get true c n) refl refl refl

  pub array_get_u_step : (n : ℕ) → step (operator.Reference (reference.ArrayGetU n)) ≡ plain_in v (array_get true c n)
  array_get_u_step n = by_type (operator.Reference (reference.ArrayGetU n)) (operation (Prefixed 0xfb 13) (index Types n ∷ [])) (array_get true c n) refl refl refl

  pub array_set_step : (n : ℕ) → step (operator.Reference (reference.ArraySet n)) ≡ plain_in v (array_set c n)
  array_set_step n = by_type (operator.Reference (reference.ArraySet n)) (operation (Prefixed 0xfb 14) (index Types n ∷ [])) (array_set c n) refl refl refl

  pub array_len_step : step (operator.Reference reference.ArrayLen) ≡ plain_in v (Ok (ref_null (Abstract abstract.Array) ∷ [] ⟶ I32 ∷ []))
  array_len_step = by_type (operator.Reference reference.ArrayLen) (operation (Prefixed 0xfb 15) []) (Ok (ref_null (Abstract abstract.Array) ∷ [] ⟶ I32 ∷ [])) refl refl refl

  pub array_fill_step : (n : ℕ) → step (operator.Reference (reference.ArrayFill n)) ≡ plain_in v (array_fill c n)
  array_fill_step n = by_type (operator.Reference (reference.ArrayFill n)) (operation (Prefixed 0xfb 16) (index Types n ∷ [])) (array_fill c n) refl refl refl

  pub array_copy_step : (m n : ℕ) → step (operator.Reference (reference.ArrayCopy m n)) ≡ plain_in v (array_copy c m n)
  array_copy_step m n = by_type (operator.Reference (reference.ArrayCopy m n)) (operation (Prefixed 0xfb 17) (index Types m ∷ index Types n ∷ [])) (array_copy c m n) refl refl refl

  pub array_init_data_step : (m n : ℕ) → step (operator.Reference (reference.ArrayInitData m n)) ≡ plain_in v (array_init_from from_data c m n)
  array_init_data_step m n = by_type (operator.Reference (reference.ArrayInitData m n)) (operation (Prefixed 0xfb 18) (index Types m ∷ index Data n ∷ [])) (array_init_from from_data c m n) refl refl refl

  pub array_init_elem_step : (m n : ℕ) → step (operator.Reference (reference.ArrayInitElem m n)) ≡ plain_in v (array_init_from from_elements c m n)
  array_init_elem_step m n = by_type (operator.Reference (reference.ArrayInitElem m n)) (operation (Prefixed 0xfb 19) (index Types m ∷ index Elements n ∷ [])) (array_init_from from_elements c m n) refl refl refl
