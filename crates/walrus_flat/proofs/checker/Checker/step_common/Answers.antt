use Rattle.std.proofs.Common.{sym, ap, true, false, ◌∙◌}
use Rattle.wasm_operators.specs.declared.operator.Op.TheVariants as op
use Rattle.wasm_ops.specs.CommonOperators.{common_listed}
use Rattle.walrus_flat.proofs.CheckerAtOnce.{get_at_once, set_at_once, tee_at_once, drop_at_once, i32_at_once, i64_at_once, unary_at_once, binary_at_once, call_at_once, global_get_at_once, global_set_at_once, load_at_once, store_at_once, br_if_at_once, no_br, br_at_once, as_listed}
use Rattle.walrus_flat.proofs.checker.Checker.step_common.Goals as goal

pub returns-in-LocalGet : goal.returns-in-LocalGet
returns-in-LocalGet c =
    get_at_once c.args.self.now c.name_local_at.new.self c.requires (common_listed c.args.common) _ (ap common_listed c.in-LocalGet.is) c.name_local_at.result c.name_local_at.ensures.done c.name_local_at.ensures.unchanged

pub returns-in-LocalSet : goal.returns-in-LocalSet
returns-in-LocalSet c =
    let called = c.name_local_at-in-LocalSet in
    set_at_once c.args.self.now called.new.self c.requires (common_listed c.args.common) _ (ap common_listed c.in-LocalSet.is) called.result called.ensures.done called.ensures.unchanged

pub returns-in-LocalTee : goal.returns-in-LocalTee
returns-in-LocalTee c =
    let called = c.name_local_at-in-LocalTee in
    tee_at_once c.args.self.now called.new.self c.requires (common_listed c.args.common) _ (ap common_listed c.in-LocalTee.is) called.result called.ensures.done called.ensures.unchanged

pub returns-in-I32Const : goal.returns-in-I32Const
returns-in-I32Const c = i32_at_once c.args.self.now c.requires (common_listed c.args.common) _ (ap common_listed c.in-I32Const.is)

pub returns-in-I64Const : goal.returns-in-I64Const
returns-in-I64Const c = i64_at_once c.args.self.now c.requires (common_listed c.args.common) _ (ap common_listed c.in-I64Const.is)

pub returns-in-Unop : goal.returns-in-Unop
returns-in-Unop c = unary_at_once c.args.self.now c.requires (common_listed c.args.common) _ (ap common_listed c.in-Unop.is)

pub returns-in-Binop : goal.returns-in-Binop
returns-in-Binop c = binary_at_once c.args.self.now c.requires (common_listed c.args.common) _ (ap common_listed c.in-Binop.is)

pub returns-in-Load : goal.returns-in-Load
returns-in-Load c = load_at_once c.args.self.now c.requires c.has_memory.result _ c.has_memory.ensures (common_listed c.args.common) _ (ap common_listed c.in-Load.is)

pub returns-in-Store : goal.returns-in-Store
returns-in-Store c =
    let called = c.has_memory-in-Store in store_at_once c.args.self.now c.requires called.result _ called.ensures (common_listed c.args.common) _ (ap common_listed c.in-Store.is)

pub returns-in-Call : goal.returns-in-Call
returns-in-Call c = call_at_once c.args.self.now c.requires c.has_func.result (common_listed c.args.common) _ (ap common_listed c.in-Call.is) c.has_func.ensures

pub returns-in-GlobalGet : goal.returns-in-GlobalGet
returns-in-GlobalGet c = global_get_at_once c.args.self.now c.requires c.has_global.result (common_listed c.args.common) _ (ap common_listed c.in-GlobalGet.is) c.has_global.ensures

pub returns-in-GlobalSet : goal.returns-in-GlobalSet
returns-in-GlobalSet c =
    let called = c.has_global-in-GlobalSet in global_set_at_once c.args.self.now c.requires called.result (common_listed c.args.common) _ (ap common_listed c.in-GlobalSet.is) called.ensures

pub returns-then-not-has_label : goal.returns-then-not-has_label
returns-then-not-has_label c = as_listed c.args.self.now c.args.self.now false (common_listed c.args.common) (op.Br c.in-Br.label) (ap common_listed c.in-Br.is) (no_br c.args.self.now c.requires c.in-Br.label)

pub returns-else-not-has_label : goal.returns-else-not-has_label
returns-else-not-has_label c =
    let old = c.args.self.now in
    let has = sym c.has_label.ensures ∙ c.if-not-has_label.false in
    as_listed old (record old { unreachable = true }) true (common_listed c.args.common) (op.Br c.in-Br.label) (ap common_listed c.in-Br.is) (br_at_once old c.requires c.in-Br.label has)

pub returns-in-BrIf : goal.returns-in-BrIf
returns-in-BrIf c =
    let called = c.has_label-in-BrIf in br_if_at_once c.args.self.now c.requires called.result (common_listed c.args.common) _ (ap common_listed c.in-BrIf.is) called.ensures

pub returns-in-Drop : goal.returns-in-Drop
returns-in-Drop c = drop_at_once c.args.self.now c.requires (common_listed c.args.common) (ap common_listed c.in-Drop.is)
