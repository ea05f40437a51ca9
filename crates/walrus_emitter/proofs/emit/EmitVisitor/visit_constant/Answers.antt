use Rattle.std.proofs.Common.{None, ap, ◌∙◌, rules}
use Rattle.walrus_ir.specs.declared.instr.Instr.{Instr}
use Rattle.walrus_ir.specs.declared.val_type.InstrSeqType.TheVariants.{Simple}
use Rattle.walrus_ir.specs.declared.value.Value.{Value}
use Rattle.walrus_ir.specs.Unfolding.{slots_in}
use Rattle.wasm_operators.specs.declared.operator.Op.TheVariants as op
use Rattle.wasm_body.specs.Bytes.{numbering}
use Rattle.wasm_body.specs.FlatText.{then_by, with_block_type}
use Rattle.wasm_body.specs.InstructionTable.{const_operation}
use Rattle.wasm_body.specs.Translation.{translate}
use Rattle.wasm_body.specs.TreeOfFunction.{with_targets}
use Rattle.walrus_numbering.specs.NumberMaps.{numbers_of}
use Rattle.walrus_emit_state.specs.TreeWriting.Closers.{places_of}
use Rattle.walrus_to_operators.specs.TreeWriting.Operators.{numbered_operator}
use Rattle.walrus_emitter.proofs.TreeWriting.Steps.{plain_visited, on_ok}
use Rattle.walrus_emitter.proofs.emit.EmitVisitor.visit_constant.Goals as goal

pub returns-in-F32-clause-ok : goal.returns-in-F32-clause-ok
returns-in-F32-clause-ok c =
    let v = c.args.self.now in
    let to = numbers_of v.numbers in
    let around = places_of v.scopes.open_scopes in
    let is = ap (λ (i : Instr). numbered_operator to around (Simple None) i) c.requires
    ∙ ap (λ (x : Value). translate (with_block_type (then_by (numbering to)) (Simple None)) (with_targets around (const_operation x))) c.in-F32.is in
    on_ok c.write_any.result
    (plain_visited v.builder.now.sequences to v.scopes v.draft c.write_any.new.self c.args.instr.now c.args.location (op.F32Const c.in-F32.bits)
    (ap slots_in c.requires) (is, search rules))
    c.write_any.ensures.ok

pub returns-in-F64-clause-ok : goal.returns-in-F64-clause-ok
returns-in-F64-clause-ok c =
    let v = c.args.self.now in
    let to = numbers_of v.numbers in
    let around = places_of v.scopes.open_scopes in
    let is = ap (λ (i : Instr). numbered_operator to around (Simple None) i) c.requires
    ∙ ap (λ (x : Value). translate (with_block_type (then_by (numbering to)) (Simple None)) (with_targets around (const_operation x))) c.in-F64.is in
    on_ok c.write_any-in-F64.result
    (plain_visited v.builder.now.sequences to v.scopes v.draft c.write_any-in-F64.new.self c.args.instr.now c.args.location (op.F64Const c.in-F64.bits)
    (ap slots_in c.requires) (is, search rules))
    c.write_any-in-F64.ensures.ok
