use Rattle.std.proofs.Common.{arith}
use Rattle.wasm_numbers.proofs.Powers.{pow_split, pow_low}
use Rattle.wasm_numbers.proofs.number.join_unsigned.Goals as goal

pub overflow_mul-result : goal.overflow_mul-result
overflow_mul-result c = omega (arith, pow_split c.args.bits c.requires.long, pow_low c.args.bits c.requires.wide)

pub overflow_add-result : goal.overflow_add-result
overflow_add-result c = omega (arith, pow_split c.args.bits c.requires.long, pow_low c.args.bits c.requires.wide)

pub returns-clause-fits : goal.returns-clause-fits
returns-clause-fits c = omega (arith, pow_split c.args.bits c.requires.long)
