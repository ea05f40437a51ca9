use Rattle.wasm_operators.specs.Meaning.{Listed, meaning}
use Rattle.wasm_operators.specs.Operations.{f32, f64}
use Rattle.walrus_flat.specs.Writers.{PutsAsIs}
use Rattle.walrus_ir.specs.declared.val_type.InstrSeqType.TheVariants.{Simple}
use Rattle.std.proofs.Common.{◌≡◌, None, refl, sym, ap, subst, rules}
use Rattle.wasm_operators.specs.Shortest.{short_bits}
use Rattle.walrus_flat.proofs.WriterShort.{plain_written, float_written}
use Rattle.walrus_flat.proofs.writer.Writer.write_alone.Goals as goal

pub returns-in-Ok : goal.returns-in-Ok
returns-in-Ok c =
    plain_written c.args.self.now c.write_else.new.self (meaning c.args.operator.now) (Simple None) c.args.location c.in-Ok.ensures.ok c.put_byte.new.self c.in-Some.byte c.in-Some.ensures c.put_byte.result c.put_byte.ensures.ok c.put_byte.ensures.err

pub returns-in-F32Const : goal.returns-in-F32Const
returns-in-F32Const c =
    let old = c.args.self.now in
    let done = c.write_float in
    let same : c.from.result ≡ c.in-F32Const.bits = search rules in
    subst (λ (o : Listed). PutsAsIs old done.new.self (meaning o) (Simple None) c.args.location done.result) (sym c.in-F32Const.is)
    (float_written old done.new.self (Simple None) c.args.location 0x43 4 c.from.result (f32 c.in-F32Const.bits) (ap (short_bits 4) (sym same)) (λ w. refl) done.result done.ensures.ok done.ensures.err)

pub returns-in-F64Const : goal.returns-in-F64Const
returns-in-F64Const c =
    let old = c.args.self.now in
    let done = c.write_float-in-F64Const in
    subst (λ (o : Listed). PutsAsIs old done.new.self (meaning o) (Simple None) c.args.location done.result) (sym c.in-F64Const.is)
    (float_written old done.new.self (Simple None) c.args.location 0x44 8 c.in-F64Const.bits (f64 c.in-F64Const.bits) refl (λ w. refl) done.result done.ensures.ok done.ensures.err)
