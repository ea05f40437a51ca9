use Rattle.std.proofs.Common.{arith}
use Rattle.wasm_operators.proofs.ReadingBytes.{each_byte}
use Rattle.walrus_parser.proofs.body.law_bytes.Goals as goal

pub returns : goal.returns
returns c = each_byte c.args.bytes.now (λ k. omega (arith, c.type_inv.bytes k))
