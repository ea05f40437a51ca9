use Rattle.std.proofs.Common.{arith, sym}
use Rattle.wasm_numbers.specs.Numbers.{unsigned}
use Rattle.wasm_numbers.proofs.ShortNumbers.{one, two}
use Rattle.wasm_numbers.proofs.number.read_pair_unsigned.Goals as goal

pub returns-then-first-lt128-clause-gives : goal.returns-then-first-lt128-clause-gives
returns-then-first-lt128-clause-gives c = one unsigned c.args.bits c.args.bytes.now c.in_ok-value.value c.in-len1-up.len_at_least c.if-first-lt128.true (sym c.in_ok-value.ensures.gives)

pub returns-then-first-lt128-clause-fits : goal.returns-then-first-lt128-clause-fits
returns-then-first-lt128-clause-fits c = c.in_ok-value.ensures.fits

pub join_unsigned-requires-clause-high : goal.join_unsigned-requires-clause-high
join_unsigned-requires-clause-high c = c.in_ok-high.ensures.fits

pub returns-then-second-lt128-clause-gives : goal.returns-then-second-lt128-clause-gives
returns-then-second-lt128-clause-gives c =
    rw c.join_unsigned.ensures.value
    (two unsigned c.args.bits c.args.bytes.now c.in_ok-high.high c.in-len1-up.len_at_least c.in-len1-up-rest.len_at_least c.if-first-lt128.false c.if-second-lt128.true c.requires.long (sym c.in_ok-high.ensures.gives))

pub returns-then-second-lt128-clause-fits : goal.returns-then-second-lt128-clause-fits
returns-then-second-lt128-clause-fits c = c.join_unsigned.ensures.fits
