use Rattle.std.proofs.Common.{◌-◌}
use Rattle.wasm_numbers.specs.Numbers.{integer, signed}
use Rattle.wasm_numbers.proofs.ShortNumbers.{without_first, passed, passed_low, passed_high, more_passed, long_left, wide_left}
use Rattle.wasm_numbers.proofs.number.read_longer_signed.Goals as goal

pub read_pair_signed-requires-clause-long : goal.read_pair_signed-requires-clause-long
read_pair_signed-requires-clause-long c = (long_left c.args.bits c.requires.long).3

pub read_pair_signed-requires-clause-wide : goal.read_pair_signed-requires-clause-wide
read_pair_signed-requires-clause-wide c = (wide_left c.args.bits c.requires.wide).2

pub join_signed-high-requires-clause-long : goal.join_signed-high-requires-clause-long
join_signed-high-requires-clause-long c = (long_left c.args.bits c.requires.long).2

pub join_signed-high-requires-clause-wide : goal.join_signed-high-requires-clause-wide
join_signed-high-requires-clause-wide c = (wide_left c.args.bits c.requires.wide).1

pub join_signed-high-requires-clause-least : goal.join_signed-high-requires-clause-least
join_signed-high-requires-clause-least c = passed_low (c.args.bits - 7 - 7 - 7) c.in_ok-high.high (wide_left c.args.bits c.requires.wide).2 c.in_ok-high.ensures.low c.in_ok-high.ensures.high

pub join_signed-high-requires-clause-most : goal.join_signed-high-requires-clause-most
join_signed-high-requires-clause-most c = passed_high (c.args.bits - 7 - 7 - 7) c.in_ok-high.high (wide_left c.args.bits c.requires.wide).2 c.in_ok-high.ensures.low c.in_ok-high.ensures.high

pub join_signed-high-requires-2-clause-long : goal.join_signed-high-requires-2-clause-long
join_signed-high-requires-2-clause-long c = (long_left c.args.bits c.requires.long).1

pub join_signed-high-requires-2-clause-wide : goal.join_signed-high-requires-2-clause-wide
join_signed-high-requires-2-clause-wide c = (wide_left c.args.bits c.requires.wide).0

pub join_signed-high-requires-2-clause-least : goal.join_signed-high-requires-2-clause-least
join_signed-high-requires-2-clause-least c = passed_low (c.args.bits - 7 - 7) c.join_signed-high.result (wide_left c.args.bits c.requires.wide).1 c.join_signed-high.ensures.low c.join_signed-high.ensures.high

pub join_signed-high-requires-2-clause-most : goal.join_signed-high-requires-2-clause-most
join_signed-high-requires-2-clause-most c = passed_high (c.args.bits - 7 - 7) c.join_signed-high.result (wide_left c.args.bits c.requires.wide).1 c.join_signed-high.ensures.low c.join_signed-high.ensures.high

pub join_signed-requires-clause-long : goal.join_signed-requires-clause-long
join_signed-requires-clause-long c = (long_left c.args.bits c.requires.long).0

pub join_signed-requires-clause-least : goal.join_signed-requires-clause-least
join_signed-requires-clause-least c = passed_low (c.args.bits - 7) c.join_signed-high-2.result (wide_left c.args.bits c.requires.wide).0 c.join_signed-high-2.ensures.low c.join_signed-high-2.ensures.high

pub join_signed-requires-clause-most : goal.join_signed-requires-clause-most
join_signed-requires-clause-most c = passed_high (c.args.bits - 7) c.join_signed-high-2.result (wide_left c.args.bits c.requires.wide).0 c.join_signed-high-2.ensures.low c.join_signed-high-2.ensures.high

pub returns-clause-gives : goal.returns-clause-gives
returns-clause-gives c =
    let bytes = c.args.bytes.now in
    let rest = c.in_ok-high.rest.now in
    let third = more_passed (c.args.bits - 7 - 7) (c.args.bits - 7 - 7 - 7) (without_first (without_first bytes)) c.in_ok-high.high c.join_signed-high.result rest
    c.in-len1-up-rest-2.len_at_least c.if-third-lt128.false (long_left c.args.bits c.requires.long).2 (wide_left c.args.bits c.requires.wide).2 c.in_ok-high.ensures.low c.in_ok-high.ensures.high c.join_signed-high.ensures.value c.in_ok-high.ensures.gives in
    let second = more_passed (c.args.bits - 7) (c.args.bits - 7 - 7) (without_first bytes) c.join_signed-high.result c.join_signed-high-2.result rest
    c.in-len1-up-rest.len_at_least c.if-second-lt128.false (long_left c.args.bits c.requires.long).1 (wide_left c.args.bits c.requires.wide).1 c.join_signed-high.ensures.low c.join_signed-high.ensures.high c.join_signed-high-2.ensures.value third in
    let first = more_passed c.args.bits (c.args.bits - 7) bytes c.join_signed-high-2.result c.join_signed.result rest
    c.in-len1-up.len_at_least c.if-first-lt128.false (long_left c.args.bits c.requires.long).0 (wide_left c.args.bits c.requires.wide).0 c.join_signed-high-2.ensures.low c.join_signed-high-2.ensures.high c.join_signed.ensures.value second in
    passed (integer signed c.args.bits bytes) c.args.bits c.join_signed.result rest c.requires.wide c.join_signed.ensures.low c.join_signed.ensures.high first

pub returns-clause-low : goal.returns-clause-low
returns-clause-low c = passed_low c.args.bits c.join_signed.result c.requires.wide c.join_signed.ensures.low c.join_signed.ensures.high

pub returns-clause-high : goal.returns-clause-high
returns-clause-high c = passed_high c.args.bits c.join_signed.result c.requires.wide c.join_signed.ensures.low c.join_signed.ensures.high
