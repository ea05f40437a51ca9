use Rattle.walrus_flat.proofs.WriterAtOnce.{byte_written}
use Rattle.walrus_flat.proofs.writer.Writer.write_drop.Goals as goal

pub returns : goal.returns
returns c = let put = c.write_byte in byte_written c.args.self.now c.args.location 0x1a put.result put.new.self put.ensures.done put.ensures.unchanged
