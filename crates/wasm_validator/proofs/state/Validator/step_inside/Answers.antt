use Rattle.std.proofs.Common.{Ok, refl, ap}
use Rattle.wasm_operators.specs.declared.operator.Op.TheVariants as operator
use Rattle.wasm_operators.specs.declared.types.Opcode.TheVariants.{Byte}
use Rattle.wasm_operators.specs.Meaning.{meaning}
use Rattle.wasm_validator.specs.declared.state.Validator.{Validator}
use Rattle.wasm_validator.specs.Steps.{setting_of, open_state, whole_state_of}
use Rattle.wasm_validator.proofs.Constructs.{raw_tag, block_is, loop_is, try_is, if_is}
use Rattle.wasm_validator.proofs.Clauses.{try_table_is}
use Rattle.wasm_validator.proofs.Leaving.{branch_is, return_is, throw_ref_is}
use Rattle.wasm_validator.proofs.ControlSteps.{table_is, rethrow_is, branch_if_is, return_call_is, return_call_indirect_is, return_call_ref_is}
use Rattle.wasm_validator.proofs.PlainSteps.{add128_step, atomic_step, binary_step, bitselect_step, call_indirect_step, call_ref_step, call_step, data_drop_step, drop_step, elem_drop_step, f32_const_step, f64_const_step, global_get_step, global_set_step, i32_const_step, i64_const_step, load_step, local_get_step, local_set_step, local_tee_step, memory_copy_step, memory_fill_step, memory_grow_step, memory_init_step, memory_size_step, mul_wide_s_step, mul_wide_u_step, select_step, shuffle_step, store_step, sub128_step, swizzle_step, table_copy_step, table_fill_step, table_get_step, table_grow_step, table_init_step, table_set_step, table_size_step, ternary_step, typed_select_step, unary_step, v128_const_step, vector_access_step, fence_step}
use Rattle.wasm_validator.proofs.Stepping.{by_equation, by_method}
use Rattle.wasm_validator.proofs.state.Validator.step_inside.Goals as goal

pub returns-in-Unreachable-clause-step : goal.returns-in-Unreachable-clause-step
returns-in-Unreachable-clause-step c =
    let v = c.args.self.now in
    by_method meaning v c.unreachable.new.self c.args.op.now operator.Unreachable c.unreachable.result c.in-Unreachable.is _ c.requires.open c.unreachable.ensures.open refl c.unreachable.ensures.leaves

pub returns-in-Block-clause-step : goal.returns-in-Block-clause-step
returns-in-Block-clause-step c =
    let v = c.args.self.now in
    by_method meaning v c.begin.new.self c.args.op.now (operator.Block c.in-Block.ty) c.begin.result c.in-Block.is _ c.requires.open c.begin.ensures.open (block_is v c.in-Block.ty) c.begin.ensures.begins

pub returns-in-Loop-clause-step : goal.returns-in-Loop-clause-step
returns-in-Loop-clause-step c =
    let v = c.args.self.now in
    by_method meaning v c.begin-in-Loop.new.self c.args.op.now (operator.Loop c.in-Loop.ty) c.begin-in-Loop.result c.in-Loop.is _ c.requires.open c.begin-in-Loop.ensures.open (loop_is v c.in-Loop.ty) c.begin-in-Loop.ensures.begins

pub returns-in-If-clause-step : goal.returns-in-If-clause-step
returns-in-If-clause-step c =
    let v = c.args.self.now in
    by_method meaning v c.begin_if.new.self c.args.op.now (operator.If c.in-If.ty) c.begin_if.result c.in-If.is _ c.requires.open c.begin_if.ensures.open (if_is v c.in-If.ty) c.begin_if.ensures.begins

pub returns-in-Else-clause-step : goal.returns-in-Else-clause-step
returns-in-Else-clause-step c =
    let v = c.args.self.now in
    by_method meaning v c.else_sequence.new.self c.args.op.now operator.Else c.else_sequence.result c.in-Else.is _ c.requires.open (ap (λ (u : Validator). u.ended) c.else_sequence.ensures.same) refl c.else_sequence.ensures.goes_on

pub returns-in-Try-clause-step : goal.returns-in-Try-clause-step
returns-in-Try-clause-step c =
    let v = c.args.self.now in
    by_method meaning v c.begin-in-Try.new.self c.args.op.now (operator.Try c.in-Try.ty) c.begin-in-Try.result c.in-Try.is _ c.requires.open c.begin-in-Try.ensures.open (try_is v c.in-Try.ty) c.begin-in-Try.ensures.begins

pub returns-in-Catch-clause-step : goal.returns-in-Catch-clause-step
returns-in-Catch-clause-step c =
    let v = c.args.self.now in
    by_method meaning v c.catch.new.self c.args.op.now (operator.Catch c.in-Catch.tag) c.catch.result c.in-Catch.is _ c.requires.open c.catch.ensures.open (raw_tag (setting_of v) (Byte 0x07) c.in-Catch.tag (open_state v)) c.catch.ensures.goes_on

pub returns-in-Throw-clause-step : goal.returns-in-Throw-clause-step
returns-in-Throw-clause-step c =
    let v = c.args.self.now in
    by_method meaning v c.throw.new.self c.args.op.now (operator.Throw c.in-Throw.tag) c.throw.result c.in-Throw.is _ c.requires.open c.throw.ensures.open (raw_tag (setting_of v) (Byte 0x08) c.in-Throw.tag (open_state v)) c.throw.ensures.leaves

pub returns-in-Rethrow-clause-step : goal.returns-in-Rethrow-clause-step
returns-in-Rethrow-clause-step c =
    let v = c.args.self.now in
    by_method meaning v c.rethrow.new.self c.args.op.now (operator.Rethrow c.in-Rethrow.depth) c.rethrow.result c.in-Rethrow.is _ c.requires.open c.rethrow.ensures.open (rethrow_is v c.in-Rethrow.depth) c.rethrow.ensures.leaves

pub returns-in-ThrowRef-clause-step : goal.returns-in-ThrowRef-clause-step
returns-in-ThrowRef-clause-step c =
    let v = c.args.self.now in
    by_method meaning v c.throw_ref.new.self c.args.op.now operator.ThrowRef c.throw_ref.result c.in-ThrowRef.is _ c.requires.open c.throw_ref.ensures.open (throw_ref_is v) c.throw_ref.ensures.leaves

pub returns-in-Br-clause-step : goal.returns-in-Br-clause-step
returns-in-Br-clause-step c =
    let v = c.args.self.now in
    by_method meaning v c.branch-self.new.self c.args.op.now (operator.Br c.in-Br.label) c.branch-self.result c.in-Br.is _ c.requires.open c.branch-self.ensures.open (branch_is v c.in-Br.label) c.branch-self.ensures.branches

pub returns-in-BrIf-clause-step : goal.returns-in-BrIf-clause-step
returns-in-BrIf-clause-step c =
    let v = c.args.self.now in
    by_method meaning v c.branch_if.new.self c.args.op.now (operator.BrIf c.in-BrIf.label) c.branch_if.result c.in-BrIf.is _ c.requires.open c.branch_if.ensures.open (branch_if_is v c.in-BrIf.label c.requires.reach) c.branch_if.ensures.branches

pub returns-in-BrTable-clause-step : goal.returns-in-BrTable-clause-step
returns-in-BrTable-clause-step c =
    let v = c.args.self.now in
    by_method meaning v c.branch_table.new.self c.args.op.now (operator.BrTable c.in-BrTable.table) c.branch_table.result c.in-BrTable.is _ c.requires.open c.branch_table.ensures.open (table_is v c.in-BrTable.table.0 c.in-BrTable.table.1) c.branch_table.ensures.branches

pub returns-in-Return-clause-step : goal.returns-in-Return-clause-step
returns-in-Return-clause-step c =
    let v = c.args.self.now in
    by_method meaning v c.return_results.new.self c.args.op.now operator.Return c.return_results.result c.in-Return.is _ c.requires.open c.return_results.ensures.open (return_is v) c.return_results.ensures.leaves

pub returns-in-Call-clause-step : goal.returns-in-Call-clause-step
returns-in-Call-clause-step c =
    let v = c.args.self.now in
    by_method meaning v c.call.new.self c.args.op.now (operator.Call c.in-Call.func) c.call.result c.in-Call.is _ c.requires.open c.call.ensures.open (call_step v c.requires.reach c.in-Call.func) c.call.ensures.plain

pub returns-in-CallIndirect-clause-step : goal.returns-in-CallIndirect-clause-step
returns-in-CallIndirect-clause-step c =
    let v = c.args.self.now in
    by_method meaning v c.call_indirect.new.self c.args.op.now (operator.CallIndirect c.in-CallIndirect.ty c.in-CallIndirect.table) c.call_indirect.result c.in-CallIndirect.is _ c.requires.open c.call_indirect.ensures.open (call_indirect_step v c.requires.reach c.in-CallIndirect.ty c.in-CallIndirect.table) c.call_indirect.ensures.plain

pub returns-in-ReturnCall-clause-step : goal.returns-in-ReturnCall-clause-step
returns-in-ReturnCall-clause-step c =
    let v = c.args.self.now in
    by_method meaning v c.return_call.new.self c.args.op.now (operator.ReturnCall c.in-ReturnCall.func) c.return_call.result c.in-ReturnCall.is _ c.requires.open c.return_call.ensures.open (return_call_is v c.in-ReturnCall.func c.requires.reach) c.return_call.ensures.leaves

pub returns-in-ReturnCallIndirect-clause-step : goal.returns-in-ReturnCallIndirect-clause-step
returns-in-ReturnCallIndirect-clause-step c =
    let v = c.args.self.now in
    by_method meaning v c.return_call_indirect.new.self c.args.op.now (operator.ReturnCallIndirect c.in-ReturnCallIndirect.ty c.in-ReturnCallIndirect.table) c.return_call_indirect.result c.in-ReturnCallIndirect.is _ c.requires.open c.return_call_indirect.ensures.open (return_call_indirect_is v c.in-ReturnCallIndirect.ty c.in-ReturnCallIndirect.table c.requires.reach) c.return_call_indirect.ensures.leaves

pub returns-in-CallRef-clause-step : goal.returns-in-CallRef-clause-step
returns-in-CallRef-clause-step c =
    let v = c.args.self.now in
    by_method meaning v c.call_ref.new.self c.args.op.now (operator.CallRef c.in-CallRef.ty) c.call_ref.result c.in-CallRef.is _ c.requires.open c.call_ref.ensures.open (call_ref_step v c.requires.reach c.in-CallRef.ty) c.call_ref.ensures.plain

pub returns-in-ReturnCallRef-clause-step : goal.returns-in-ReturnCallRef-clause-step
returns-in-ReturnCallRef-clause-step c =
    let v = c.args.self.now in
    by_method meaning v c.return_call_ref.new.self c.args.op.now (operator.ReturnCallRef c.in-ReturnCallRef.ty) c.return_call_ref.result c.in-ReturnCallRef.is _ c.requires.open c.return_call_ref.ensures.open (return_call_ref_is v c.in-ReturnCallRef.ty c.requires.reach) c.return_call_ref.ensures.leaves

pub returns-in-Delegate-clause-step : goal.returns-in-Delegate-clause-step
returns-in-Delegate-clause-step c =
    let v = c.args.self.now in
    by_method meaning v c.delegate.new.self c.args.op.now (operator.Delegate c.in-Delegate.depth) c.delegate.result c.in-Delegate.is _ c.requires.open c.delegate.ensures.open refl c.delegate.ensures.goes_on

pub returns-in-CatchAll-clause-step : goal.returns-in-CatchAll-clause-step
returns-in-CatchAll-clause-step c =
    let v = c.args.self.now in
    by_method meaning v c.catch_all.new.self c.args.op.now operator.CatchAll c.catch_all.result c.in-CatchAll.is _ c.requires.open c.catch_all.ensures.open refl c.catch_all.ensures.goes_on

pub returns-in-Drop-clause-step : goal.returns-in-Drop-clause-step
returns-in-Drop-clause-step c =
    let v = c.args.self.now in
    by_method meaning v c.drop_operand.new.self c.args.op.now operator.Drop c.drop_operand.result c.in-Drop.is _ c.requires.open c.drop_operand.ensures.open (drop_step v c.requires.reach) c.drop_operand.ensures.plain

pub returns-in-Select-clause-step : goal.returns-in-Select-clause-step
returns-in-Select-clause-step c =
    let v = c.args.self.now in
    by_method meaning v c.select.new.self c.args.op.now operator.Select c.select.result c.in-Select.is _ c.requires.open c.select.ensures.open (select_step v c.requires.reach) c.select.ensures.plain

pub returns-in-TypedSelect-clause-step : goal.returns-in-TypedSelect-clause-step
returns-in-TypedSelect-clause-step c =
    let v = c.args.self.now in
    by_method meaning v c.select_typed.new.self c.args.op.now (operator.TypedSelect c.in-TypedSelect.ty) c.select_typed.result c.in-TypedSelect.is _ c.requires.open c.select_typed.ensures.open (typed_select_step v c.requires.reach c.in-TypedSelect.ty) c.select_typed.ensures.plain

pub returns-in-TryTable-clause-step : goal.returns-in-TryTable-clause-step
returns-in-TryTable-clause-step c =
    let v = c.args.self.now in
    by_method meaning v c.begin_try_table.new.self c.args.op.now (operator.TryTable c.in-TryTable.ty c.in-TryTable.catches) c.begin_try_table.result c.in-TryTable.is _ c.requires.open c.begin_try_table.ensures.open (try_table_is v c.in-TryTable.ty c.in-TryTable.catches) c.begin_try_table.ensures.begins

pub returns-in-LocalGet-clause-step : goal.returns-in-LocalGet-clause-step
returns-in-LocalGet-clause-step c =
    let v = c.args.self.now in
    by_method meaning v c.local_get.new.self c.args.op.now (operator.LocalGet c.in-LocalGet.local) c.local_get.result c.in-LocalGet.is _ c.requires.open c.local_get.ensures.open (local_get_step v c.requires.reach c.in-LocalGet.local) c.local_get.ensures.plain

pub returns-in-LocalSet-clause-step : goal.returns-in-LocalSet-clause-step
returns-in-LocalSet-clause-step c =
    let v = c.args.self.now in
    by_method meaning v c.local_set.new.self c.args.op.now (operator.LocalSet c.in-LocalSet.local) c.local_set.result c.in-LocalSet.is _ c.requires.open c.local_set.ensures.open (local_set_step v c.requires.reach c.in-LocalSet.local) c.local_set.ensures.plain

pub returns-in-LocalTee-clause-step : goal.returns-in-LocalTee-clause-step
returns-in-LocalTee-clause-step c =
    let v = c.args.self.now in
    by_method meaning v c.local_tee.new.self c.args.op.now (operator.LocalTee c.in-LocalTee.local) c.local_tee.result c.in-LocalTee.is _ c.requires.open c.local_tee.ensures.open (local_tee_step v c.requires.reach c.in-LocalTee.local) c.local_tee.ensures.plain

pub returns-in-GlobalGet-clause-step : goal.returns-in-GlobalGet-clause-step
returns-in-GlobalGet-clause-step c =
    let v = c.args.self.now in
    by_method meaning v c.global_get.new.self c.args.op.now (operator.GlobalGet c.in-GlobalGet.global) c.global_get.result c.in-GlobalGet.is _ c.requires.open c.global_get.ensures.open (global_get_step v c.requires.reach c.in-GlobalGet.global) c.global_get.ensures.plain

pub returns-in-GlobalSet-clause-step : goal.returns-in-GlobalSet-clause-step
returns-in-GlobalSet-clause-step c =
    let v = c.args.self.now in
    by_method meaning v c.global_set.new.self c.args.op.now (operator.GlobalSet c.in-GlobalSet.global) c.global_set.result c.in-GlobalSet.is _ c.requires.open c.global_set.ensures.open (global_set_step v c.requires.reach c.in-GlobalSet.global) c.global_set.ensures.plain

pub returns-in-TableGet-clause-step : goal.returns-in-TableGet-clause-step
returns-in-TableGet-clause-step c =
    let v = c.args.self.now in
    by_method meaning v c.table_get.new.self c.args.op.now (operator.TableGet c.in-TableGet.table) c.table_get.result c.in-TableGet.is _ c.requires.open c.table_get.ensures.open (table_get_step v c.requires.reach c.in-TableGet.table) c.table_get.ensures.plain

pub returns-in-TableSet-clause-step : goal.returns-in-TableSet-clause-step
returns-in-TableSet-clause-step c =
    let v = c.args.self.now in
    by_method meaning v c.table_set.new.self c.args.op.now (operator.TableSet c.in-TableSet.table) c.table_set.result c.in-TableSet.is _ c.requires.open c.table_set.ensures.open (table_set_step v c.requires.reach c.in-TableSet.table) c.table_set.ensures.plain

pub returns-in-Load-clause-step : goal.returns-in-Load-clause-step
returns-in-Load-clause-step c =
    let v = c.args.self.now in
    by_method meaning v c.load.new.self c.args.op.now (operator.Load c.in-Load.kind c.in-Load.memarg) c.load.result c.in-Load.is _ c.requires.open c.load.ensures.open (load_step v c.requires.reach c.in-Load.kind c.in-Load.memarg) c.load.ensures.plain

pub returns-in-Store-clause-step : goal.returns-in-Store-clause-step
returns-in-Store-clause-step c =
    let v = c.args.self.now in
    by_method meaning v c.store.new.self c.args.op.now (operator.Store c.in-Store.kind c.in-Store.memarg) c.store.result c.in-Store.is _ c.requires.open c.store.ensures.open (store_step v c.requires.reach c.in-Store.kind c.in-Store.memarg) c.store.ensures.plain

pub returns-in-LoadSimd-clause-step : goal.returns-in-LoadSimd-clause-step
returns-in-LoadSimd-clause-step c =
    let v = c.args.self.now in
    by_method meaning v c.vector_access.new.self c.args.op.now (operator.LoadSimd c.in-LoadSimd.kind c.in-LoadSimd.memarg) c.vector_access.result c.in-LoadSimd.is _ c.requires.open c.vector_access.ensures.open (vector_access_step v c.requires.reach c.in-LoadSimd.kind c.in-LoadSimd.memarg) c.vector_access.ensures.plain

pub returns-in-Atomic-clause-step : goal.returns-in-Atomic-clause-step
returns-in-Atomic-clause-step c =
    let v = c.args.self.now in
    by_method meaning v c.atomic.new.self c.args.op.now (operator.Atomic c.in-Atomic.kind c.in-Atomic.memarg) c.atomic.result c.in-Atomic.is _ c.requires.open c.atomic.ensures.open (atomic_step v c.requires.reach c.in-Atomic.kind c.in-Atomic.memarg) c.atomic.ensures.plain

pub returns-in-MemorySize-clause-step : goal.returns-in-MemorySize-clause-step
returns-in-MemorySize-clause-step c =
    let v = c.args.self.now in
    by_method meaning v c.memory_size.new.self c.args.op.now (operator.MemorySize c.in-MemorySize.memory) c.memory_size.result c.in-MemorySize.is _ c.requires.open c.memory_size.ensures.open (memory_size_step v c.requires.reach c.in-MemorySize.memory) c.memory_size.ensures.plain

pub returns-in-MemoryGrow-clause-step : goal.returns-in-MemoryGrow-clause-step
returns-in-MemoryGrow-clause-step c =
    let v = c.args.self.now in
    by_method meaning v c.memory_grow.new.self c.args.op.now (operator.MemoryGrow c.in-MemoryGrow.memory) c.memory_grow.result c.in-MemoryGrow.is _ c.requires.open c.memory_grow.ensures.open (memory_grow_step v c.requires.reach c.in-MemoryGrow.memory) c.memory_grow.ensures.plain

pub returns-in-I32Const-clause-step : goal.returns-in-I32Const-clause-step
returns-in-I32Const-clause-step c =
    let v = c.args.self.now in
    by_method meaning v c.constant.new.self c.args.op.now (operator.I32Const c.in-I32Const.value) c.constant.result c.in-I32Const.is _ c.requires.open c.constant.ensures.open (i32_const_step v c.requires.reach c.in-I32Const.value) c.constant.ensures.plain

pub returns-in-I64Const-clause-step : goal.returns-in-I64Const-clause-step
returns-in-I64Const-clause-step c =
    let v = c.args.self.now in
    by_method meaning v c.constant-in-I64Const.new.self c.args.op.now (operator.I64Const c.in-I64Const.value) c.constant-in-I64Const.result c.in-I64Const.is _ c.requires.open c.constant-in-I64Const.ensures.open (i64_const_step v c.requires.reach c.in-I64Const.value) c.constant-in-I64Const.ensures.plain

pub returns-in-F32Const-clause-step : goal.returns-in-F32Const-clause-step
returns-in-F32Const-clause-step c =
    let v = c.args.self.now in
    by_method meaning v c.constant-in-F32Const.new.self c.args.op.now (operator.F32Const c.in-F32Const.bits) c.constant-in-F32Const.result c.in-F32Const.is _ c.requires.open c.constant-in-F32Const.ensures.open (f32_const_step v c.requires.reach c.in-F32Const.bits) c.constant-in-F32Const.ensures.plain

pub returns-in-F64Const-clause-step : goal.returns-in-F64Const-clause-step
returns-in-F64Const-clause-step c =
    let v = c.args.self.now in
    by_method meaning v c.constant-in-F64Const.new.self c.args.op.now (operator.F64Const c.in-F64Const.bits) c.constant-in-F64Const.result c.in-F64Const.is _ c.requires.open c.constant-in-F64Const.ensures.open (f64_const_step v c.requires.reach c.in-F64Const.bits) c.constant-in-F64Const.ensures.plain

pub returns-in-Unop-clause-step : goal.returns-in-Unop-clause-step
returns-in-Unop-clause-step c =
    let v = c.args.self.now in
    by_method meaning v c.unary.new.self c.args.op.now (operator.Unop c.in-Unop.op) c.unary.result c.in-Unop.is _ c.requires.open c.unary.ensures.open (unary_step v c.requires.reach c.in-Unop.op) c.unary.ensures.plain

pub returns-in-Binop-clause-step : goal.returns-in-Binop-clause-step
returns-in-Binop-clause-step c =
    let v = c.args.self.now in
    by_method meaning v c.binary.new.self c.args.op.now (operator.Binop c.in-Binop.op) c.binary.result c.in-Binop.is _ c.requires.open c.binary.ensures.open (binary_step v c.requires.reach c.in-Binop.op) c.binary.ensures.plain

pub returns-in-TernOp-clause-step : goal.returns-in-TernOp-clause-step
returns-in-TernOp-clause-step c =
    let v = c.args.self.now in
    by_method meaning v c.ternary.new.self c.args.op.now (operator.TernOp c.in-TernOp.op) c.ternary.result c.in-TernOp.is _ c.requires.open c.ternary.ensures.open (ternary_step v c.requires.reach c.in-TernOp.op) c.ternary.ensures.plain

pub returns-in-MemoryInit-clause-step : goal.returns-in-MemoryInit-clause-step
returns-in-MemoryInit-clause-step c =
    let v = c.args.self.now in
    by_method meaning v c.memory_init.new.self c.args.op.now (operator.MemoryInit c.in-MemoryInit.data c.in-MemoryInit.memory) c.memory_init.result c.in-MemoryInit.is _ c.requires.open c.memory_init.ensures.open (memory_init_step v c.requires.reach c.in-MemoryInit.data c.in-MemoryInit.memory) c.memory_init.ensures.plain

pub returns-in-DataDrop-clause-step : goal.returns-in-DataDrop-clause-step
returns-in-DataDrop-clause-step c =
    let v = c.args.self.now in
    by_method meaning v c.data_drop.new.self c.args.op.now (operator.DataDrop c.in-DataDrop.data) c.data_drop.result c.in-DataDrop.is _ c.requires.open c.data_drop.ensures.open (data_drop_step v c.requires.reach c.in-DataDrop.data) c.data_drop.ensures.plain

pub returns-in-MemoryCopy-clause-step : goal.returns-in-MemoryCopy-clause-step
returns-in-MemoryCopy-clause-step c =
    let v = c.args.self.now in
    by_method meaning v c.memory_copy.new.self c.args.op.now (operator.MemoryCopy c.in-MemoryCopy.target c.in-MemoryCopy.source) c.memory_copy.result c.in-MemoryCopy.is _ c.requires.open c.memory_copy.ensures.open (memory_copy_step v c.requires.reach c.in-MemoryCopy.target c.in-MemoryCopy.source) c.memory_copy.ensures.plain

pub returns-in-MemoryFill-clause-step : goal.returns-in-MemoryFill-clause-step
returns-in-MemoryFill-clause-step c =
    let v = c.args.self.now in
    by_method meaning v c.memory_fill.new.self c.args.op.now (operator.MemoryFill c.in-MemoryFill.memory) c.memory_fill.result c.in-MemoryFill.is _ c.requires.open c.memory_fill.ensures.open (memory_fill_step v c.requires.reach c.in-MemoryFill.memory) c.memory_fill.ensures.plain

pub returns-in-TableInit-clause-step : goal.returns-in-TableInit-clause-step
returns-in-TableInit-clause-step c =
    let v = c.args.self.now in
    by_method meaning v c.table_init.new.self c.args.op.now (operator.TableInit c.in-TableInit.element c.in-TableInit.table) c.table_init.result c.in-TableInit.is _ c.requires.open c.table_init.ensures.open (table_init_step v c.requires.reach c.in-TableInit.element c.in-TableInit.table) c.table_init.ensures.plain

pub returns-in-ElemDrop-clause-step : goal.returns-in-ElemDrop-clause-step
returns-in-ElemDrop-clause-step c =
    let v = c.args.self.now in
    by_method meaning v c.elem_drop.new.self c.args.op.now (operator.ElemDrop c.in-ElemDrop.element) c.elem_drop.result c.in-ElemDrop.is _ c.requires.open c.elem_drop.ensures.open (elem_drop_step v c.requires.reach c.in-ElemDrop.element) c.elem_drop.ensures.plain

pub returns-in-TableCopy-clause-step : goal.returns-in-TableCopy-clause-step
returns-in-TableCopy-clause-step c =
    let v = c.args.self.now in
    by_method meaning v c.table_copy.new.self c.args.op.now (operator.TableCopy c.in-TableCopy.target c.in-TableCopy.source) c.table_copy.result c.in-TableCopy.is _ c.requires.open c.table_copy.ensures.open (table_copy_step v c.requires.reach c.in-TableCopy.target c.in-TableCopy.source) c.table_copy.ensures.plain

pub returns-in-TableGrow-clause-step : goal.returns-in-TableGrow-clause-step
returns-in-TableGrow-clause-step c =
    let v = c.args.self.now in
    by_method meaning v c.table_grow.new.self c.args.op.now (operator.TableGrow c.in-TableGrow.table) c.table_grow.result c.in-TableGrow.is _ c.requires.open c.table_grow.ensures.open (table_grow_step v c.requires.reach c.in-TableGrow.table) c.table_grow.ensures.plain

pub returns-in-TableSize-clause-step : goal.returns-in-TableSize-clause-step
returns-in-TableSize-clause-step c =
    let v = c.args.self.now in
    by_method meaning v c.table_size.new.self c.args.op.now (operator.TableSize c.in-TableSize.table) c.table_size.result c.in-TableSize.is _ c.requires.open c.table_size.ensures.open (table_size_step v c.requires.reach c.in-TableSize.table) c.table_size.ensures.plain

pub returns-in-TableFill-clause-step : goal.returns-in-TableFill-clause-step
returns-in-TableFill-clause-step c =
    let v = c.args.self.now in
    by_method meaning v c.table_fill.new.self c.args.op.now (operator.TableFill c.in-TableFill.table) c.table_fill.result c.in-TableFill.is _ c.requires.open c.table_fill.ensures.open (table_fill_step v c.requires.reach c.in-TableFill.table) c.table_fill.ensures.plain

pub returns-in-I64Add128-clause-step : goal.returns-in-I64Add128-clause-step
returns-in-I64Add128-clause-step c =
    let v = c.args.self.now in
    by_method meaning v c.wide_binary.new.self c.args.op.now operator.I64Add128 c.wide_binary.result c.in-I64Add128.is _ c.requires.open c.wide_binary.ensures.open (add128_step v c.requires.reach) c.wide_binary.ensures.plain

pub returns-in-I64Sub128-clause-step : goal.returns-in-I64Sub128-clause-step
returns-in-I64Sub128-clause-step c =
    let v = c.args.self.now in
    by_method meaning v c.wide_binary-in-I64Sub128.new.self c.args.op.now operator.I64Sub128 c.wide_binary-in-I64Sub128.result c.in-I64Sub128.is _ c.requires.open c.wide_binary-in-I64Sub128.ensures.open (sub128_step v c.requires.reach) c.wide_binary-in-I64Sub128.ensures.plain

pub returns-in-I64MulWideS-clause-step : goal.returns-in-I64MulWideS-clause-step
returns-in-I64MulWideS-clause-step c =
    let v = c.args.self.now in
    by_method meaning v c.widening.new.self c.args.op.now operator.I64MulWideS c.widening.result c.in-I64MulWideS.is _ c.requires.open c.widening.ensures.open (mul_wide_s_step v c.requires.reach) c.widening.ensures.plain

pub returns-in-I64MulWideU-clause-step : goal.returns-in-I64MulWideU-clause-step
returns-in-I64MulWideU-clause-step c =
    let v = c.args.self.now in
    by_method meaning v c.widening-in-I64MulWideU.new.self c.args.op.now operator.I64MulWideU c.widening-in-I64MulWideU.result c.in-I64MulWideU.is _ c.requires.open c.widening-in-I64MulWideU.ensures.open (mul_wide_u_step v c.requires.reach) c.widening-in-I64MulWideU.ensures.plain

pub returns-in-V128Const-clause-step : goal.returns-in-V128Const-clause-step
returns-in-V128Const-clause-step c =
    let v = c.args.self.now in
    by_method meaning v c.constant-in-V128Const.new.self c.args.op.now (operator.V128Const c.in-V128Const.bits) c.constant-in-V128Const.result c.in-V128Const.is _ c.requires.open c.constant-in-V128Const.ensures.open (v128_const_step v c.requires.reach c.in-V128Const.bits) c.constant-in-V128Const.ensures.plain

pub returns-in-I8x16Shuffle-clause-step : goal.returns-in-I8x16Shuffle-clause-step
returns-in-I8x16Shuffle-clause-step c =
    let v = c.args.self.now in
    by_method meaning v c.shuffle.new.self c.args.op.now (operator.I8x16Shuffle c.in-I8x16Shuffle.indices) c.shuffle.result c.in-I8x16Shuffle.is _ c.requires.open c.shuffle.ensures.open (shuffle_step v c.requires.reach c.in-I8x16Shuffle.indices) c.shuffle.ensures.plain

pub returns-in-I8x16Swizzle-clause-step : goal.returns-in-I8x16Swizzle-clause-step
returns-in-I8x16Swizzle-clause-step c =
    let v = c.args.self.now in
    by_method meaning v c.swizzle.new.self c.args.op.now operator.I8x16Swizzle c.swizzle.result c.in-I8x16Swizzle.is _ c.requires.open c.swizzle.ensures.open (swizzle_step v c.requires.reach) c.swizzle.ensures.plain

pub returns-in-V128Bitselect-clause-step : goal.returns-in-V128Bitselect-clause-step
returns-in-V128Bitselect-clause-step c =
    let v = c.args.self.now in
    by_method meaning v c.bitselect.new.self c.args.op.now operator.V128Bitselect c.bitselect.result c.in-V128Bitselect.is _ c.requires.open c.bitselect.ensures.open (bitselect_step v c.requires.reach) c.bitselect.ensures.plain

pub returns-in-AtomicFence-clause-step : goal.returns-in-AtomicFence-clause-step
returns-in-AtomicFence-clause-step c =
    let v = c.args.self.now in
    by_method meaning v c.fence.new.self c.args.op.now operator.AtomicFence c.fence.result c.in-AtomicFence.is _ c.requires.open c.fence.ensures.open (fence_step v c.requires.reach) c.fence.ensures.plain

pub returns-in-Nop-clause-step : goal.returns-in-Nop-clause-step
returns-in-Nop-clause-step c =
    let v = c.args.self.now in
    by_method meaning v v c.args.op.now operator.Nop (Ok tt) c.in-Nop.is (Ok (open_state v)) c.requires.open refl refl refl

pub returns-in-End-clause-step : goal.returns-in-End-clause-step
returns-in-End-clause-step c =
    let v = c.args.self.now in
    by_equation meaning v c.end.new.self c.args.op.now operator.End c.end.result c.in-End.is (whole_state_of c.end.new.self) _ refl c.end.ensures.goes_on

pub returns-in-Reference-clause-step : goal.returns-in-Reference-clause-step
returns-in-Reference-clause-step c =
    let v = c.args.self.now in
    let w = c.step_reference.new.self in
    by_method meaning v w c.args.op.now (operator.Reference c.in-Reference.op) c.step_reference.result c.in-Reference.is _ c.requires.open c.step_reference.ensures.open refl c.step_reference.ensures.goes_on
