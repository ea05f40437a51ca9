use Rattle.std.proofs.Common.{ap, sym, ◌∙◌}
use Rattle.wasm_body.specs.InstructionTable.{operation_of}
use Rattle.walrus_emitter.proofs.TreeWriting.Lanes.{unary_byte}
use Rattle.walrus_emitter.proofs.emit.EmitVisitor.write_unary.Goals as goal

pub write_byte-requires-clause-row : goal.write_byte-requires-clause-row
write_byte-requires-clause-row c =
    ap operation_of c.requires ∙ unary_byte c.args.unop.now.op c.in-Byte.byte (sym c.unary_opcode.ensures ∙ c.in-Byte.is)
