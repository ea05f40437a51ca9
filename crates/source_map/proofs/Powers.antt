-- Powers of two: a digit has five bits.
use Rattle.std.proofs.Common.{◌≡◌, ℕ, ◌+◌, ◌-◌, ◌*◌, ◌^◌, ◌<◌, ◌≤◌, arith, ap, ◌∙◌}
use Rattle.std.proofs.Math.Pow.{pow_mono}
use Rattle.std.proofs.lemmas.Nat.{pow-add}

pub pow_digit : (most : ℕ) → 0 < most → 2 ^ (5 * most) ≡ 32 * 2 ^ (5 * (most - 1))
pow_digit most h =
    let k : 5 * most ≡ 5 + 5 * (most - 1) = omega arith in
    ap (λ n. 2 ^ n) k ∙ pow-add 2 5 (5 * (most - 1))

pub pow_digits : (most : ℕ) → most ≤ 7 → 2 ^ (5 * most) ≤ 2 ^ 35
pow_digits most h = let k : 5 * most ≤ 35 = omega arith in pow_mono {i = 5 * most} k

pub pow_some : (most : ℕ) → 0 < most → 32 ≤ 2 ^ (5 * most)
pow_some most h = let k : 5 ≤ 5 * most = omega arith in pow_mono {i = 5} k

pub ruleset powers = (pow_digit, pow_digits, pow_some)
