use mir.Syntax.{w32, w64}
use mir.Val.{SFits}
use Rattle.std.proofs.Common.{[], ◌∷◌, ap, subst, rules}
use Rattle.std.proofs.lemmas.Int.{to_z-of_z}
use Rattle.wasm_operators.specs.declared.operator.Op.TheVariants as op
use Rattle.wasm_operators.specs.Meaning.{meaning}
use Rattle.wasm_ops.specs.CommonOperators.{common_listed}
use Rattle.wasm_operators.specs.AccessOperations.{access_of}
use Rattle.wasm_operators.specs.Operations.{access, operation}
use Rattle.walrus_flat.specs.Writers.{WritesCommon}
use Rattle.walrus_flat.proofs.WriterAtOnce.{as_listed}
use Rattle.walrus_flat.proofs.writer.Writer.write_common.Goals as goal

pub returns-in-LocalGet : goal.returns-in-LocalGet
returns-in-LocalGet c = let done = c.write_local in as_listed c.args.self.now done.new.self c.args.location done.result (common_listed c.args.common) _ (ap common_listed c.in-LocalGet.is) done.ensures

pub returns-in-LocalSet : goal.returns-in-LocalSet
returns-in-LocalSet c = let done = c.write_local-in-LocalSet in as_listed c.args.self.now done.new.self c.args.location done.result (common_listed c.args.common) _ (ap common_listed c.in-LocalSet.is) done.ensures

pub returns-in-LocalTee : goal.returns-in-LocalTee
returns-in-LocalTee c = let done = c.write_local-in-LocalTee in as_listed c.args.self.now done.new.self c.args.location done.result (common_listed c.args.common) _ (ap common_listed c.in-LocalTee.is) done.ensures

pub returns-in-I32Const : goal.returns-in-I32Const
returns-in-I32Const c =
    let done = c.write_i32 in
    let fits : SFits w32 c.in-I32Const.value = search rules in
    as_listed c.args.self.now done.new.self c.args.location done.result (common_listed c.args.common) _ (ap common_listed c.in-I32Const.is)
    (subst (λ z. WritesCommon c.args.self.now done.new.self (meaning (op.I32Const z)) c.args.location done.result) (to_z-of_z w32 c.in-I32Const.value fits) done.ensures)

pub returns-in-I64Const : goal.returns-in-I64Const
returns-in-I64Const c =
    let done = c.write_i64 in
    let fits : SFits w64 c.in-I64Const.value = search rules in
    as_listed c.args.self.now done.new.self c.args.location done.result (common_listed c.args.common) _ (ap common_listed c.in-I64Const.is)
    (subst (λ z. WritesCommon c.args.self.now done.new.self (meaning (op.I64Const z)) c.args.location done.result) (to_z-of_z w64 c.in-I64Const.value fits) done.ensures)

pub returns-in-Unop : goal.returns-in-Unop
returns-in-Unop c = let done = c.write_unary in as_listed c.args.self.now done.new.self c.args.location done.result (common_listed c.args.common) _ (ap common_listed c.in-Unop.is) done.ensures

pub returns-in-Binop : goal.returns-in-Binop
returns-in-Binop c = let done = c.write_binary in as_listed c.args.self.now done.new.self c.args.location done.result (common_listed c.args.common) _ (ap common_listed c.in-Binop.is) done.ensures

pub returns-in-Load : goal.returns-in-Load
returns-in-Load c =
    let done = c.write_access in
    as_listed c.args.self.now done.new.self c.args.location done.result (common_listed c.args.common) _ (ap common_listed c.in-Load.is)
    (subst (λ k. WritesCommon c.args.self.now done.new.self (operation k (access (access_of c.in-Load.memarg) ∷ [])) c.args.location done.result) c.load_opcode.ensures done.ensures)

pub returns-in-Store : goal.returns-in-Store
returns-in-Store c =
    let done = c.write_access-in-Store in
    as_listed c.args.self.now done.new.self c.args.location done.result (common_listed c.args.common) _ (ap common_listed c.in-Store.is)
    (subst (λ k. WritesCommon c.args.self.now done.new.self (operation k (access (access_of c.in-Store.memarg) ∷ [])) c.args.location done.result) c.store_opcode.ensures done.ensures)

pub returns-in-Call : goal.returns-in-Call
returns-in-Call c = let done = c.write_func in as_listed c.args.self.now done.new.self c.args.location done.result (common_listed c.args.common) _ (ap common_listed c.in-Call.is) done.ensures

pub returns-in-GlobalGet : goal.returns-in-GlobalGet
returns-in-GlobalGet c = let done = c.write_global in as_listed c.args.self.now done.new.self c.args.location done.result (common_listed c.args.common) _ (ap common_listed c.in-GlobalGet.is) done.ensures

pub returns-in-GlobalSet : goal.returns-in-GlobalSet
returns-in-GlobalSet c = let done = c.write_global-in-GlobalSet in as_listed c.args.self.now done.new.self c.args.location done.result (common_listed c.args.common) _ (ap common_listed c.in-GlobalSet.is) done.ensures

pub returns-in-Br : goal.returns-in-Br
returns-in-Br c = let done = c.write_label in as_listed c.args.self.now done.new.self c.args.location done.result (common_listed c.args.common) _ (ap common_listed c.in-Br.is) done.ensures

pub returns-in-BrIf : goal.returns-in-BrIf
returns-in-BrIf c = let done = c.write_label-in-BrIf in as_listed c.args.self.now done.new.self c.args.location done.result (common_listed c.args.common) _ (ap common_listed c.in-BrIf.is) done.ensures

pub returns-in-Drop : goal.returns-in-Drop
returns-in-Drop c = let done = c.write_drop in as_listed c.args.self.now done.new.self c.args.location done.result (common_listed c.args.common) _ (ap common_listed c.in-Drop.is) done.ensures
