use Rattle.std.proofs.Common.{◌-◌, sym}
use Rattle.wasm_numbers.specs.Numbers.{integer, signed}
use Rattle.wasm_numbers.proofs.ShortNumbers.{without_first, one, passed, passed_low, passed_high, more_passed, some_bits, some_left, narrow_left}
use Rattle.wasm_numbers.proofs.number.read_pair_signed.Goals as goal

pub last_signed-requires-clause-some : goal.last_signed-requires-clause-some
last_signed-requires-clause-some c = some_bits c.args.bits c.requires.long

pub returns-then-first-lt128-clause-gives : goal.returns-then-first-lt128-clause-gives
returns-then-first-lt128-clause-gives c =
    passed (integer signed c.args.bits c.args.bytes.now) c.args.bits c.in_ok-value.value (without_first c.args.bytes.now) c.requires.wide c.in_ok-value.ensures.low c.in_ok-value.ensures.high
    (one signed c.args.bits c.args.bytes.now c.in_ok-value.value c.in-len1-up.len_at_least c.if-first-lt128.true (sym c.in_ok-value.ensures.gives))

pub returns-then-first-lt128-clause-low : goal.returns-then-first-lt128-clause-low
returns-then-first-lt128-clause-low c = passed_low c.args.bits c.in_ok-value.value c.requires.wide c.in_ok-value.ensures.low c.in_ok-value.ensures.high

pub returns-then-first-lt128-clause-high : goal.returns-then-first-lt128-clause-high
returns-then-first-lt128-clause-high c = passed_high c.args.bits c.in_ok-value.value c.requires.wide c.in_ok-value.ensures.low c.in_ok-value.ensures.high

pub last_signed-requires-then-second-lt128-clause-some : goal.last_signed-requires-then-second-lt128-clause-some
last_signed-requires-then-second-lt128-clause-some c = some_left c.args.bits c.requires.long

pub join_signed-requires-clause-least : goal.join_signed-requires-clause-least
join_signed-requires-clause-least c = passed_low (c.args.bits - 7) c.in_ok-high.high (narrow_left c.args.bits c.requires.wide) c.in_ok-high.ensures.low c.in_ok-high.ensures.high

pub join_signed-requires-clause-most : goal.join_signed-requires-clause-most
join_signed-requires-clause-most c = passed_high (c.args.bits - 7) c.in_ok-high.high (narrow_left c.args.bits c.requires.wide) c.in_ok-high.ensures.low c.in_ok-high.ensures.high

pub returns-then-second-lt128-clause-gives : goal.returns-then-second-lt128-clause-gives
returns-then-second-lt128-clause-gives c =
    let last = one signed (c.args.bits - 7) (without_first c.args.bytes.now) c.in_ok-high.high c.in-len1-up-rest.len_at_least c.if-second-lt128.true (sym c.in_ok-high.ensures.gives) in
    let rest = without_first (without_first c.args.bytes.now) in
    passed (integer signed c.args.bits c.args.bytes.now) c.args.bits c.join_signed.result rest c.requires.wide c.join_signed.ensures.low c.join_signed.ensures.high
    (more_passed c.args.bits (c.args.bits - 7) c.args.bytes.now c.in_ok-high.high c.join_signed.result rest c.in-len1-up.len_at_least c.if-first-lt128.false c.requires.long (narrow_left c.args.bits c.requires.wide)
    c.in_ok-high.ensures.low c.in_ok-high.ensures.high c.join_signed.ensures.value last)

pub returns-then-second-lt128-clause-low : goal.returns-then-second-lt128-clause-low
returns-then-second-lt128-clause-low c = passed_low c.args.bits c.join_signed.result c.requires.wide c.join_signed.ensures.low c.join_signed.ensures.high

pub returns-then-second-lt128-clause-high : goal.returns-then-second-lt128-clause-high
returns-then-second-lt128-clause-high c = passed_high c.args.bits c.join_signed.result c.requires.wide c.join_signed.ensures.low c.join_signed.ensures.high
