use Rattle.std.proofs.Common.{rules, arith}
use Rattle.wasm_numbers.specs.Numbers.{unsigned}
use Rattle.wasm_numbers.proofs.ShortNumbers.{more_after_three, long_left, wide_left}
use Rattle.wasm_numbers.proofs.number.read_longer_unsigned.Goals as goal

pub returns-clause-gives : goal.returns-clause-gives
returns-clause-gives c =
    let upper = c.in_ok-high.ensures.gives in
    let whole = more_after_three unsigned c.args.bits c.args.bytes.now c.in_ok-high.high c.in_ok-high.rest.now c.in-len1-up.len_at_least c.in-len1-up-rest.len_at_least c.in-len1-up-rest-2.len_at_least c.if-first-lt128.false c.if-second-lt128.false c.if-third-lt128.false (omega arith) upper in
    let third = c.join_unsigned-high.ensures.value in
    let second = c.join_unsigned-high-2.ensures.value in
    let first = c.join_unsigned.ensures.value in
    search (rules, whole, third, second, first)

pub read_pair_unsigned-requires-clause-long : goal.read_pair_unsigned-requires-clause-long
read_pair_unsigned-requires-clause-long c = (long_left c.args.bits c.requires.long).3

pub read_pair_unsigned-requires-clause-wide : goal.read_pair_unsigned-requires-clause-wide
read_pair_unsigned-requires-clause-wide c = (wide_left c.args.bits c.requires.wide).2

pub join_unsigned-high-requires-clause-long : goal.join_unsigned-high-requires-clause-long
join_unsigned-high-requires-clause-long c = (long_left c.args.bits c.requires.long).2

pub join_unsigned-high-requires-clause-wide : goal.join_unsigned-high-requires-clause-wide
join_unsigned-high-requires-clause-wide c = (wide_left c.args.bits c.requires.wide).1

pub join_unsigned-high-requires-clause-high : goal.join_unsigned-high-requires-clause-high
join_unsigned-high-requires-clause-high c = c.in_ok-high.ensures.fits

pub join_unsigned-high-requires-2-clause-long : goal.join_unsigned-high-requires-2-clause-long
join_unsigned-high-requires-2-clause-long c = (long_left c.args.bits c.requires.long).1

pub join_unsigned-high-requires-2-clause-wide : goal.join_unsigned-high-requires-2-clause-wide
join_unsigned-high-requires-2-clause-wide c = (wide_left c.args.bits c.requires.wide).0

pub join_unsigned-high-requires-2-clause-high : goal.join_unsigned-high-requires-2-clause-high
join_unsigned-high-requires-2-clause-high c = c.join_unsigned-high.ensures.fits

pub join_unsigned-requires-clause-long : goal.join_unsigned-requires-clause-long
join_unsigned-requires-clause-long c = (long_left c.args.bits c.requires.long).0

pub join_unsigned-requires-clause-high : goal.join_unsigned-requires-clause-high
join_unsigned-requires-clause-high c = c.join_unsigned-high-2.ensures.fits

pub returns-clause-fits : goal.returns-clause-fits
returns-clause-fits c = c.join_unsigned.ensures.fits
