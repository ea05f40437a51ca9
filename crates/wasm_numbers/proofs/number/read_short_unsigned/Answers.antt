use Rattle.std.proofs.Common.{arith, ◌≡◌, ℕ, ◌-◌, ◌<◌, slice_index_or}
use Rattle.wasm_numbers.specs.Numbers.{unsigned}
use Rattle.wasm_numbers.proofs.ShortNumbers.{without_first, one, two, three, unsigned_wide, three_left}
use Rattle.wasm_numbers.proofs.number.read_short_unsigned.Goals as goal

as_32 : 21 < 32
as_32 = omega arith

as_64 : 21 < 64
as_64 = omega arith

pub returns-then-first-lt128-clause-short : goal.returns-then-first-lt128-clause-short
returns-then-first-lt128-clause-short c = one unsigned 32 c.args.bytes.now (slice_index_or c.args.bytes.now 0 0) c.in-len1-up.len_at_least c.if-first-lt128.true (unsigned_wide 32 (slice_index_or c.args.bytes.now 0 0) (three_left 32 as_32).0 c.if-first-lt128.true)

pub returns-then-second-lt128-clause-short : goal.returns-then-second-lt128-clause-short
returns-then-second-lt128-clause-short c =
    two unsigned 32 c.args.bytes.now (slice_index_or (without_first c.args.bytes.now) 0 0) c.in-len1-up.len_at_least c.in-len1-up-rest.len_at_least c.if-first-lt128.false c.if-second-lt128.true
    (three_left 32 as_32).1 (unsigned_wide (32 - 7) (slice_index_or (without_first c.args.bytes.now) 0 0) (three_left 32 as_32).2 c.if-second-lt128.true)

pub returns-then-third-lt128-clause-short : goal.returns-then-third-lt128-clause-short
returns-then-third-lt128-clause-short c =
    three unsigned 32 c.args.bytes.now (slice_index_or (without_first (without_first c.args.bytes.now)) 0 0) c.in-len1-up.len_at_least c.in-len1-up-rest.len_at_least c.in-len1-up-rest-2.len_at_least
    c.if-first-lt128.false c.if-second-lt128.false c.if-third-lt128.true (three_left 32 as_32).1 (three_left 32 as_32).3 (unsigned_wide (32 - 7 - 7) (slice_index_or (without_first (without_first c.args.bytes.now)) 0 0) (three_left 32 as_32).4 c.if-third-lt128.true)

pub returns-then-first-lt128-clause-long : goal.returns-then-first-lt128-clause-long
returns-then-first-lt128-clause-long c = one unsigned 64 c.args.bytes.now (slice_index_or c.args.bytes.now 0 0) c.in-len1-up.len_at_least c.if-first-lt128.true (unsigned_wide 64 (slice_index_or c.args.bytes.now 0 0) (three_left 64 as_64).0 c.if-first-lt128.true)

pub returns-then-second-lt128-clause-long : goal.returns-then-second-lt128-clause-long
returns-then-second-lt128-clause-long c =
    two unsigned 64 c.args.bytes.now (slice_index_or (without_first c.args.bytes.now) 0 0) c.in-len1-up.len_at_least c.in-len1-up-rest.len_at_least c.if-first-lt128.false c.if-second-lt128.true
    (three_left 64 as_64).1 (unsigned_wide (64 - 7) (slice_index_or (without_first c.args.bytes.now) 0 0) (three_left 64 as_64).2 c.if-second-lt128.true)

pub returns-then-third-lt128-clause-long : goal.returns-then-third-lt128-clause-long
returns-then-third-lt128-clause-long c =
    three unsigned 64 c.args.bytes.now (slice_index_or (without_first (without_first c.args.bytes.now)) 0 0) c.in-len1-up.len_at_least c.in-len1-up-rest.len_at_least c.in-len1-up-rest-2.len_at_least
    c.if-first-lt128.false c.if-second-lt128.false c.if-third-lt128.true (three_left 64 as_64).1 (three_left 64 as_64).3 (unsigned_wide (64 - 7 - 7) (slice_index_or (without_first (without_first c.args.bytes.now)) 0 0) (three_left 64 as_64).4 c.if-third-lt128.true)
