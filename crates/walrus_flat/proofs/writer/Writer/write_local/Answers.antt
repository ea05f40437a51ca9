use Rattle.std.proofs.Common.{◌<◌, ◌^◌, arith}
use Rattle.walrus_flat.proofs.WriterAtOnce.{local_written}
use Rattle.walrus_flat.proofs.writer.Writer.write_local.Goals as goal

pub returns-in-Some-at : goal.returns-in-Some-at
returns-in-Some-at c =
    let found = c.in-Some-at in
    let fits : found.number < 2 ^ 32 = omega arith in
    let put = c.write_number in
    local_written c.args.self.now c.args.location c.args.byte c.args.index c.in-Some.local found.number c.in-Some.ensures found.ensures fits put.result put.new.self put.ensures.done put.ensures.unchanged
