use Rattle.walrus_flat.proofs.WriterShort.{opener_written}
use Rattle.walrus_flat.proofs.writer.Writer.write_block.Goals as goal

pub returns-in-Ok : goal.returns-in-Ok
returns-in-Ok c =
    opener_written c.args.self.now c.write_else.new.self _ c.args.ty c.args.location c.in-Ok.ensures.ok c.put_number.new.self (c.in-Some.byte, c.in-Some.code) c.in-Some.ensures c.put_number.result c.put_number.ensures.ok c.put_number.ensures.err
