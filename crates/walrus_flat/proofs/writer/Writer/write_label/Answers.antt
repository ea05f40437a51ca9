use Rattle.std.proofs.Common.{◌<◌, ◌^◌, arith}
use Rattle.walrus_flat.proofs.WriterAtOnce.{label_written}
use Rattle.walrus_flat.proofs.writer.Writer.write_label.Goals as goal

pub returns : goal.returns
returns c =
    let fits : c.args.label < 2 ^ 32 = omega arith in
    let put = c.write_number in
    label_written c.args.self.now c.args.location c.args.byte c.args.label fits put.result put.new.self put.ensures.done put.ensures.unchanged
