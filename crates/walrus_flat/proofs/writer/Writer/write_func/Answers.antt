use Rattle.std.proofs.Common.{◌<◌, ◌^◌, sym, arith}
use Rattle.wasm_operators.specs.declared.types.Space.TheVariants.{Funcs}
use Rattle.walrus_flat.proofs.WriterAtOnce.{index_written}
use Rattle.walrus_flat.proofs.writer.Writer.write_func.Goals as goal

pub returns-in-Ok-get_func_index : goal.returns-in-Ok-get_func_index
returns-in-Ok-get_func_index c =
    let found = c.in-Ok-get_func_index in
    let fits : found.number < 2 ^ 32 = omega arith in
    let put = c.write_number in
    index_written c.args.self.now c.args.location c.args.byte Funcs c.args.index c.in-Ok.id found.number (sym c.in-Ok.ensures) (sym found.ensures) fits put.result put.new.self put.ensures.done put.ensures.unchanged
