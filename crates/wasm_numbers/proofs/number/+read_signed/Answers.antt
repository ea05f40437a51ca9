use Rattle.std.proofs.Common.{◌-◌, sym, rules}
use Rattle.wasm_numbers.specs.Numbers.{integer, signed}
use Rattle.wasm_numbers.proofs.ShortNumbers.{without_first, one, passed, passed_low, passed_high, more_passed, nothing, refused, too_long, fault_after, narrow_left}
use Rattle.wasm_numbers.proofs.number.+read_signed.Goals as goal

pub returns-in_err-high-in-len1-up-clause-gives : goal.returns-in_err-high-in-len1-up-clause-gives
returns-in_err-high-in-len1-up-clause-gives t c =
    let fault = fault_after signed c.args.bits c.args.bytes.now _ c.in-len1-up.len_at_least c.if-byte-lt128.false c.if-bits-le7.false c.in_err-high-in-len1-up.ensures.gives in
    search (rules, fault)

pub join_signed-requires-clause-least : goal.join_signed-requires-clause-least
join_signed-requires-clause-least t c = passed_low (c.args.bits - 7) c.in_ok-high-in-len1-up.high (narrow_left c.args.bits c.requires.wide) c.in_ok-high-in-len1-up.ensures.low c.in_ok-high-in-len1-up.ensures.high

pub join_signed-requires-clause-most : goal.join_signed-requires-clause-most
join_signed-requires-clause-most t c = passed_high (c.args.bits - 7) c.in_ok-high-in-len1-up.high (narrow_left c.args.bits c.requires.wide) c.in_ok-high-in-len1-up.ensures.low c.in_ok-high-in-len1-up.ensures.high

pub returns-in-empty-clause-gives : goal.returns-in-empty-clause-gives
returns-in-empty-clause-gives t c = nothing signed c.args.bits c.args.bytes.now c.in-empty.len_below

pub returns-in-Some-clause-gives : goal.returns-in-Some-clause-gives
returns-in-Some-clause-gives t c =
    passed (integer signed c.args.bits c.args.bytes.now) c.args.bits c.in-Some.value (without_first c.args.bytes.now) c.requires.wide c.in-Some.ensures.low c.in-Some.ensures.high
    (one signed c.args.bits c.args.bytes.now c.in-Some.value c.in-len1-up.len_at_least c.if-byte-lt128.true (sym c.in-Some.ensures.gives))

pub returns-in-Some-clause-low : goal.returns-in-Some-clause-low
returns-in-Some-clause-low t c = passed_low c.args.bits c.in-Some.value c.requires.wide c.in-Some.ensures.low c.in-Some.ensures.high

pub returns-in-Some-clause-high : goal.returns-in-Some-clause-high
returns-in-Some-clause-high t c = passed_high c.args.bits c.in-Some.value c.requires.wide c.in-Some.ensures.low c.in-Some.ensures.high

pub returns-in-None-clause-gives : goal.returns-in-None-clause-gives
returns-in-None-clause-gives t c = refused signed c.args.bits c.args.bytes.now c.in-len1-up.len_at_least c.if-byte-lt128.true (sym c.in-None.ensures.gives)

pub returns-then-bits-le7-clause-gives : goal.returns-then-bits-le7-clause-gives
returns-then-bits-le7-clause-gives t c = too_long signed c.args.bits c.args.bytes.now c.in-len1-up.len_at_least c.if-byte-lt128.false c.if-bits-le7.true

pub returns-in_ok-high-in-len1-up-clause-gives : goal.returns-in_ok-high-in-len1-up-clause-gives
returns-in_ok-high-in-len1-up-clause-gives t c =
    passed (integer signed c.args.bits c.args.bytes.now) c.args.bits c.join_signed.result c.in_ok-high-in-len1-up.rest.now c.requires.wide c.join_signed.ensures.low c.join_signed.ensures.high
    (more_passed c.args.bits (c.args.bits - 7) c.args.bytes.now c.in_ok-high-in-len1-up.high c.join_signed.result c.in_ok-high-in-len1-up.rest.now c.in-len1-up.len_at_least c.if-byte-lt128.false c.if-bits-le7.false (narrow_left c.args.bits c.requires.wide)
    c.in_ok-high-in-len1-up.ensures.low c.in_ok-high-in-len1-up.ensures.high c.join_signed.ensures.value c.in_ok-high-in-len1-up.ensures.gives)

pub returns-in_ok-high-in-len1-up-clause-low : goal.returns-in_ok-high-in-len1-up-clause-low
returns-in_ok-high-in-len1-up-clause-low t c = passed_low c.args.bits c.join_signed.result c.requires.wide c.join_signed.ensures.low c.join_signed.ensures.high

pub returns-in_ok-high-in-len1-up-clause-high : goal.returns-in_ok-high-in-len1-up-clause-high
returns-in_ok-high-in-len1-up-clause-high t c = passed_high c.args.bits c.join_signed.result c.requires.wide c.join_signed.ensures.low c.join_signed.ensures.high
