use Rattle.std.proofs.Common.{arith}
use Rattle.wasm_numbers.proofs.Powers.{pow_byte, pow_bytes}
use Rattle.wasm_numbers.proofs.number.join_bytes.Goals as goal

pub overflow_mul-result : goal.overflow_mul-result
overflow_mul-result c = omega (arith, pow_byte c.args.count c.requires.some, pow_bytes c.args.count c.requires.few)

pub overflow_add-result : goal.overflow_add-result
overflow_add-result c = omega (arith, pow_byte c.args.count c.requires.some, pow_bytes c.args.count c.requires.few)

pub returns-clause-fits : goal.returns-clause-fits
returns-clause-fits c = omega (arith, pow_byte c.args.count c.requires.some)
