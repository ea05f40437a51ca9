use mir.Syntax.{w64}
use mir.Val.{of_z, to_z}
use Rattle.std.proofs.Common.{arith, ◌≡◌, ℕ, ◌-◌, ◌^◌, ◌<◌, ◌≤◌, Ok}
use Rattle.wasm_numbers.specs.Numbers.{signed, integer}
use Rattle.wasm_numbers.proofs.ShortNumbers.{without_first, one, more_passed, passed, passed_low, passed_high, wider_low, wider_high, three_left}
use Rattle.wasm_numbers.proofs.number.read_short_signed.Goals as goal

as_32 : 21 < 32
as_32 = omega arith

as_64 : 21 < 64
as_64 = omega arith

few : (7 ≤ 64) × (14 ≤ 64) × (21 ≤ 64) × (32 ≤ 64)
few = (omega arith, omega arith, omega arith, omega arith)

in_31 : (2 ^ 6 ≤ 2 ^ 31) × (2 ^ 13 ≤ 2 ^ 31) × (2 ^ 20 ≤ 2 ^ 31)
in_31 = (omega arith, omega arith, omega arith)

module _ (c : goal.After-wide_last_signed) (bits : ℕ) (wide : 21 < bits) where
  of_one : integer signed bits c.args.bytes.now ≡ Ok (to_z w64 (of_z w64 c.wide_last_signed.result), without_first c.args.bytes.now)
  of_one =
      passed (integer signed bits c.args.bytes.now) 7 c.wide_last_signed.result (without_first c.args.bytes.now) few.0 c.wide_last_signed.ensures.low c.wide_last_signed.ensures.high
      (one signed bits c.args.bytes.now c.wide_last_signed.result c.in-len1-up.len_at_least c.if-first-lt128.true (c.wide_last_signed.ensures.gives bits (three_left bits wide).0))

module _ (c : goal.After-join_signed) (bits : ℕ) (wide : 21 < bits) where
  of_two : integer signed bits c.args.bytes.now ≡ Ok (to_z w64 (of_z w64 c.join_signed.result), without_first (without_first c.args.bytes.now))
  of_two =
      let bytes = c.args.bytes.now in
      let rest = without_first (without_first bytes) in
      let high = c.wide_last_signed-high in
      let last = one signed (bits - 7) (without_first bytes) high.result c.in-len1-up-rest.len_at_least c.if-second-lt128.true (high.ensures.gives (bits - 7) (three_left bits wide).2) in
      passed (integer signed bits bytes) 14 c.join_signed.result rest few.1 c.join_signed.ensures.low c.join_signed.ensures.high
      (more_passed bits 7 bytes high.result c.join_signed.result rest c.in-len1-up.len_at_least c.if-first-lt128.false (three_left bits wide).1 few.0
      high.ensures.low high.ensures.high c.join_signed.ensures.value last)

module _ (c : goal.After-join_signed-then-third-lt128) (bits : ℕ) (wide : 21 < bits) where
  of_three : integer signed bits c.args.bytes.now ≡ Ok (to_z w64 (of_z w64 c.join_signed-then-third-lt128.result), without_first (without_first (without_first c.args.bytes.now)))
  of_three =
      let bytes = c.args.bytes.now in
      let rest = without_first (without_first (without_first bytes)) in
      let top = c.wide_last_signed-then-third-lt128 in
      let high = c.join_signed-high in
      let whole = c.join_signed-then-third-lt128 in
      let last = one signed (bits - 7 - 7) (without_first (without_first bytes)) top.result c.in-len1-up-rest-2.len_at_least c.if-third-lt128.true (top.ensures.gives (bits - 7 - 7) (three_left bits wide).4) in
      let middle = more_passed (bits - 7) 7 (without_first bytes) top.result high.result rest c.in-len1-up-rest.len_at_least c.if-second-lt128.false (three_left bits wide).3 few.0
      top.ensures.low top.ensures.high high.ensures.value last in
      passed (integer signed bits bytes) 21 whole.result rest few.2 whole.ensures.low whole.ensures.high
      (more_passed bits 14 bytes high.result whole.result rest c.in-len1-up.len_at_least c.if-first-lt128.false (three_left bits wide).1 few.1
      high.ensures.low high.ensures.high whole.ensures.value middle)

pub returns-then-first-lt128-clause-short : goal.returns-then-first-lt128-clause-short
returns-then-first-lt128-clause-short c = of_one c 32 as_32

pub returns-then-first-lt128-clause-long : goal.returns-then-first-lt128-clause-long
returns-then-first-lt128-clause-long c = of_one c 64 as_64

pub returns-then-second-lt128-clause-short : goal.returns-then-second-lt128-clause-short
returns-then-second-lt128-clause-short c = of_two c 32 as_32

pub returns-then-second-lt128-clause-long : goal.returns-then-second-lt128-clause-long
returns-then-second-lt128-clause-long c = of_two c 64 as_64

pub returns-then-third-lt128-clause-short : goal.returns-then-third-lt128-clause-short
returns-then-third-lt128-clause-short c = of_three c 32 as_32

pub returns-then-third-lt128-clause-long : goal.returns-then-third-lt128-clause-long
returns-then-third-lt128-clause-long c = of_three c 64 as_64

pub returns-then-first-lt128-clause-low : goal.returns-then-first-lt128-clause-low
returns-then-first-lt128-clause-low c =
    passed_low 32 c.wide_last_signed.result few.3 (wider_low c.wide_last_signed.result (2 ^ 6) (2 ^ 31) in_31.0 c.wide_last_signed.ensures.low) (wider_high c.wide_last_signed.result (2 ^ 6) (2 ^ 31) in_31.0 c.wide_last_signed.ensures.high)

pub returns-then-first-lt128-clause-high : goal.returns-then-first-lt128-clause-high
returns-then-first-lt128-clause-high c =
    passed_high 32 c.wide_last_signed.result few.3 (wider_low c.wide_last_signed.result (2 ^ 6) (2 ^ 31) in_31.0 c.wide_last_signed.ensures.low) (wider_high c.wide_last_signed.result (2 ^ 6) (2 ^ 31) in_31.0 c.wide_last_signed.ensures.high)

pub returns-then-second-lt128-clause-low : goal.returns-then-second-lt128-clause-low
returns-then-second-lt128-clause-low c =
    passed_low 32 c.join_signed.result few.3 (wider_low c.join_signed.result (2 ^ 13) (2 ^ 31) in_31.1 c.join_signed.ensures.low) (wider_high c.join_signed.result (2 ^ 13) (2 ^ 31) in_31.1 c.join_signed.ensures.high)

pub returns-then-second-lt128-clause-high : goal.returns-then-second-lt128-clause-high
returns-then-second-lt128-clause-high c =
    passed_high 32 c.join_signed.result few.3 (wider_low c.join_signed.result (2 ^ 13) (2 ^ 31) in_31.1 c.join_signed.ensures.low) (wider_high c.join_signed.result (2 ^ 13) (2 ^ 31) in_31.1 c.join_signed.ensures.high)

pub returns-then-third-lt128-clause-low : goal.returns-then-third-lt128-clause-low
returns-then-third-lt128-clause-low c =
    passed_low 32 c.join_signed-then-third-lt128.result few.3 (wider_low c.join_signed-then-third-lt128.result (2 ^ 20) (2 ^ 31) in_31.2 c.join_signed-then-third-lt128.ensures.low) (wider_high c.join_signed-then-third-lt128.result (2 ^ 20) (2 ^ 31) in_31.2 c.join_signed-then-third-lt128.ensures.high)

pub returns-then-third-lt128-clause-high : goal.returns-then-third-lt128-clause-high
returns-then-third-lt128-clause-high c =
    passed_high 32 c.join_signed-then-third-lt128.result few.3 (wider_low c.join_signed-then-third-lt128.result (2 ^ 20) (2 ^ 31) in_31.2 c.join_signed-then-third-lt128.ensures.low) (wider_high c.join_signed-then-third-lt128.result (2 ^ 20) (2 ^ 31) in_31.2 c.join_signed-then-third-lt128.ensures.high)

pub join_signed-requires-clause-least : goal.join_signed-requires-clause-least
join_signed-requires-clause-least c = passed_low 7 c.wide_last_signed-high.result few.0 c.wide_last_signed-high.ensures.low c.wide_last_signed-high.ensures.high

pub join_signed-requires-clause-most : goal.join_signed-requires-clause-most
join_signed-requires-clause-most c = passed_high 7 c.wide_last_signed-high.result few.0 c.wide_last_signed-high.ensures.low c.wide_last_signed-high.ensures.high

pub join_signed-high-requires-clause-least : goal.join_signed-high-requires-clause-least
join_signed-high-requires-clause-least c = passed_low 7 c.wide_last_signed-then-third-lt128.result few.0 c.wide_last_signed-then-third-lt128.ensures.low c.wide_last_signed-then-third-lt128.ensures.high

pub join_signed-high-requires-clause-most : goal.join_signed-high-requires-clause-most
join_signed-high-requires-clause-most c = passed_high 7 c.wide_last_signed-then-third-lt128.result few.0 c.wide_last_signed-then-third-lt128.ensures.low c.wide_last_signed-then-third-lt128.ensures.high

pub join_signed-requires-then-third-lt128-clause-least : goal.join_signed-requires-then-third-lt128-clause-least
join_signed-requires-then-third-lt128-clause-least c = passed_low 14 c.join_signed-high.result few.1 c.join_signed-high.ensures.low c.join_signed-high.ensures.high

pub join_signed-requires-then-third-lt128-clause-most : goal.join_signed-requires-then-third-lt128-clause-most
join_signed-requires-then-third-lt128-clause-most c = passed_high 14 c.join_signed-high.result few.1 c.join_signed-high.ensures.low c.join_signed-high.ensures.high
