use Rattle.std.proofs.Common.{refl, ap}
use Rattle.wasm_operators.specs.Operations.{RawOperation}
use Rattle.wasm_operators.specs.Meaning.{meaning}
use Rattle.wasm_ops.specs.declared.common.CommonOperator.{CommonOperator}
use Rattle.wasm_ops.specs.declared.common.CommonOperator.TheVariants as common
use Rattle.wasm_ops.specs.CommonOperators.{common_listed}
use Rattle.wasm_validator.specs.Steps.{setting_of, open_state, whole_state_of}
use Rattle.wasm_validator.proofs.Leaving.{branch_is}
use Rattle.wasm_validator.proofs.ControlSteps.{branch_if_is}
use Rattle.wasm_validator.proofs.PlainSteps.{binary_step, call_step, drop_step, global_get_step, global_set_step, i32_const_step, i64_const_step, load_step, local_get_step, local_set_step, local_tee_step, store_step, unary_step}
use Rattle.wasm_validator.proofs.Stepping.{by_method}
use Rattle.wasm_validator.proofs.state.Validator.step_common_inside.Goals as goal

abbrev common_meaning : CommonOperator → RawOperation
common_meaning o = meaning (common_listed o)

pub returns-in-Br-clause-step : goal.returns-in-Br-clause-step
returns-in-Br-clause-step c =
    let v = c.args.self.now in
    by_method common_meaning v c.branch-self.new.self c.args.op (common.Br c.in-Br.label) c.branch-self.result c.in-Br.is _ c.requires.open c.branch-self.ensures.open (branch_is v c.in-Br.label) c.branch-self.ensures.branches

pub returns-in-BrIf-clause-step : goal.returns-in-BrIf-clause-step
returns-in-BrIf-clause-step c =
    let v = c.args.self.now in
    by_method common_meaning v c.branch_if.new.self c.args.op (common.BrIf c.in-BrIf.label) c.branch_if.result c.in-BrIf.is _ c.requires.open c.branch_if.ensures.open (branch_if_is v c.in-BrIf.label c.requires.reach) c.branch_if.ensures.branches

pub returns-in-Call-clause-step : goal.returns-in-Call-clause-step
returns-in-Call-clause-step c =
    let v = c.args.self.now in
    by_method common_meaning v c.call.new.self c.args.op (common.Call c.in-Call.func) c.call.result c.in-Call.is _ c.requires.open c.call.ensures.open (call_step v c.requires.reach c.in-Call.func) c.call.ensures.plain

pub returns-in-Drop-clause-step : goal.returns-in-Drop-clause-step
returns-in-Drop-clause-step c =
    let v = c.args.self.now in
    by_method common_meaning v c.drop_operand.new.self c.args.op common.Drop c.drop_operand.result c.in-Drop.is _ c.requires.open c.drop_operand.ensures.open (drop_step v c.requires.reach) c.drop_operand.ensures.plain

pub returns-in-LocalGet-clause-step : goal.returns-in-LocalGet-clause-step
returns-in-LocalGet-clause-step c =
    let v = c.args.self.now in
    by_method common_meaning v c.local_get.new.self c.args.op (common.LocalGet c.in-LocalGet.local) c.local_get.result c.in-LocalGet.is _ c.requires.open c.local_get.ensures.open (local_get_step v c.requires.reach c.in-LocalGet.local) c.local_get.ensures.plain

pub returns-in-LocalSet-clause-step : goal.returns-in-LocalSet-clause-step
returns-in-LocalSet-clause-step c =
    let v = c.args.self.now in
    by_method common_meaning v c.local_set.new.self c.args.op (common.LocalSet c.in-LocalSet.local) c.local_set.result c.in-LocalSet.is _ c.requires.open c.local_set.ensures.open (local_set_step v c.requires.reach c.in-LocalSet.local) c.local_set.ensures.plain

pub returns-in-LocalTee-clause-step : goal.returns-in-LocalTee-clause-step
returns-in-LocalTee-clause-step c =
    let v = c.args.self.now in
    by_method common_meaning v c.local_tee.new.self c.args.op (common.LocalTee c.in-LocalTee.local) c.local_tee.result c.in-LocalTee.is _ c.requires.open c.local_tee.ensures.open (local_tee_step v c.requires.reach c.in-LocalTee.local) c.local_tee.ensures.plain

pub returns-in-GlobalGet-clause-step : goal.returns-in-GlobalGet-clause-step
returns-in-GlobalGet-clause-step c =
    let v = c.args.self.now in
    by_method common_meaning v c.global_get.new.self c.args.op (common.GlobalGet c.in-GlobalGet.global) c.global_get.result c.in-GlobalGet.is _ c.requires.open c.global_get.ensures.open (global_get_step v c.requires.reach c.in-GlobalGet.global) c.global_get.ensures.plain

pub returns-in-GlobalSet-clause-step : goal.returns-in-GlobalSet-clause-step
returns-in-GlobalSet-clause-step c =
    let v = c.args.self.now in
    by_method common_meaning v c.global_set.new.self c.args.op (common.GlobalSet c.in-GlobalSet.global) c.global_set.result c.in-GlobalSet.is _ c.requires.open c.global_set.ensures.open (global_set_step v c.requires.reach c.in-GlobalSet.global) c.global_set.ensures.plain

pub returns-in-Load-clause-step : goal.returns-in-Load-clause-step
returns-in-Load-clause-step c =
    let v = c.args.self.now in
    by_method common_meaning v c.load.new.self c.args.op (common.Load c.in-Load.kind c.in-Load.memarg) c.load.result c.in-Load.is _ c.requires.open c.load.ensures.open (load_step v c.requires.reach c.in-Load.kind c.in-Load.memarg) c.load.ensures.plain

pub returns-in-Store-clause-step : goal.returns-in-Store-clause-step
returns-in-Store-clause-step c =
    let v = c.args.self.now in
    by_method common_meaning v c.store.new.self c.args.op (common.Store c.in-Store.kind c.in-Store.memarg) c.store.result c.in-Store.is _ c.requires.open c.store.ensures.open (store_step v c.requires.reach c.in-Store.kind c.in-Store.memarg) c.store.ensures.plain

pub returns-in-I32Const-clause-step : goal.returns-in-I32Const-clause-step
returns-in-I32Const-clause-step c =
    let v = c.args.self.now in
    by_method common_meaning v c.constant.new.self c.args.op (common.I32Const c.in-I32Const.value) c.constant.result c.in-I32Const.is _ c.requires.open c.constant.ensures.open (i32_const_step v c.requires.reach c.in-I32Const.value) c.constant.ensures.plain

pub returns-in-I64Const-clause-step : goal.returns-in-I64Const-clause-step
returns-in-I64Const-clause-step c =
    let v = c.args.self.now in
    by_method common_meaning v c.constant-in-I64Const.new.self c.args.op (common.I64Const c.in-I64Const.value) c.constant-in-I64Const.result c.in-I64Const.is _ c.requires.open c.constant-in-I64Const.ensures.open (i64_const_step v c.requires.reach c.in-I64Const.value) c.constant-in-I64Const.ensures.plain

pub returns-in-Unop-clause-step : goal.returns-in-Unop-clause-step
returns-in-Unop-clause-step c =
    let v = c.args.self.now in
    by_method common_meaning v c.unary.new.self c.args.op (common.Unop c.in-Unop.op) c.unary.result c.in-Unop.is _ c.requires.open c.unary.ensures.open (unary_step v c.requires.reach c.in-Unop.op) c.unary.ensures.plain

pub returns-in-Binop-clause-step : goal.returns-in-Binop-clause-step
returns-in-Binop-clause-step c =
    let v = c.args.self.now in
    by_method common_meaning v c.binary.new.self c.args.op (common.Binop c.in-Binop.op) c.binary.result c.in-Binop.is _ c.requires.open c.binary.ensures.open (binary_step v c.requires.reach c.in-Binop.op) c.binary.ensures.plain
