use Rattle.std.proofs.Common.{arith}
use Rattle.std.proofs.lemmas.Int.{ints}
use Rattle.wasm_numbers.proofs.Powers.{pow_half, pow_top}
use Rattle.wasm_numbers.proofs.number.join_signed.Goals as goal

pub overflow_mul-shifted : goal.overflow_mul-shifted
overflow_mul-shifted c = omega (arith, ints, pow_half c.args.bits c.requires.long, pow_top c.args.bits c.requires.wide)

pub overflow_add-result : goal.overflow_add-result
overflow_add-result c = omega (arith, ints, pow_half c.args.bits c.requires.long, pow_top c.args.bits c.requires.wide)

pub returns-clause-value : goal.returns-clause-value
returns-clause-value c = omega (arith, ints, pow_half c.args.bits c.requires.long, pow_top c.args.bits c.requires.wide)

pub returns-clause-low : goal.returns-clause-low
returns-clause-low c = omega (arith, ints, pow_half c.args.bits c.requires.long, pow_top c.args.bits c.requires.wide)

pub returns-clause-high : goal.returns-clause-high
returns-clause-high c = omega (arith, ints, pow_half c.args.bits c.requires.long, pow_top c.args.bits c.requires.wide)
