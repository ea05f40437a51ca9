use Rattle.std.proofs.Common.{ap, sym, ◌∙◌}
use Rattle.wasm_body.specs.InstructionTable.{operation_of}
use Rattle.walrus_emitter.proofs.TreeWriting.Lanes.{binary_byte}
use Rattle.walrus_emitter.proofs.emit.EmitVisitor.write_binary.Goals as goal

pub write_byte-requires-clause-row : goal.write_byte-requires-clause-row
write_byte-requires-clause-row c =
    ap operation_of c.requires ∙ binary_byte c.args.binop.now.op c.in-Byte.byte (sym c.binary_opcode.ensures ∙ c.in-Byte.is)
