use Rattle.std.proofs.Common.{arith}
use Rattle.wasm_module.proofs.DigitLemmas.{digits_put}
use Rattle.wasm_module.proofs.map_sink.digits.put_other.Goals as goal

pub of-requires-clause-digits : goal.of-requires-clause-digits
of-requires-clause-digits c =
    let put = c.put_digits-end.ensures in
    digits_put c.args.buffer.now c.put_digits-end.new.buffer c.args.at c.put_digits-end.result c.args.number put.written (omega arith) put.len put.fits
