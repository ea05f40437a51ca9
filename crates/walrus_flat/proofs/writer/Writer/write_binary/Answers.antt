use Rattle.std.proofs.Common.{sym, ◌∙◌}
use Rattle.walrus_flat.proofs.WriterAtOnce.{binary_written}
use Rattle.walrus_flat.proofs.writer.Writer.write_binary.Goals as goal

pub returns-in-Byte : goal.returns-in-Byte
returns-in-Byte c =
    let put = c.write_byte in
    binary_written c.args.self.now c.args.location c.in-Byte.byte put.result put.new.self put.ensures.done put.ensures.unchanged c.args.op (sym c.binary_opcode.ensures ∙ c.in-Byte.is)
