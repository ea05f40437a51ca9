-- Powers of two at the widths of numbers.
use Rattle.std.proofs.Common.{◌≡◌, ℕ, ◌+◌, ◌-◌, ◌*◌, ◌^◌, ◌<◌, ◌≤◌, arith, ap, ◌∙◌}
use Rattle.std.proofs.Math.Pow.{pow_mono}
use Rattle.std.proofs.lemmas.Nat.{pow-add}

pub pow_split : (w : ℕ) → 7 < w → 2 ^ w ≡ 128 * 2 ^ (w - 7)
pow_split w h =
    let k : w ≡ 7 + (w - 7) = omega arith in
    ap (λ n. 2 ^ n) k ∙ pow-add 2 7 (w - 7)

pub pow_half : (w : ℕ) → 7 < w → 2 ^ (w - 1) ≡ 128 * 2 ^ (w - 7 - 1)
pow_half w h =
    let k : w - 1 ≡ 7 + (w - 7 - 1) = omega arith in
    ap (λ n. 2 ^ n) k ∙ pow-add 2 7 (w - 7 - 1)

pub pow_128 : (w : ℕ) → 7 ≤ w → 128 ≤ 2 ^ w
pow_128 w h = pow_mono {i = 7} h

pub pow_64 : (w : ℕ) → 7 ≤ w → 64 ≤ 2 ^ (w - 1)
pow_64 w h = let k : 6 ≤ w - 1 = omega arith in pow_mono {i = 6} k

pub pow_low : (w : ℕ) → w ≤ 64 → 2 ^ w ≤ 2 ^ 64
pow_low w h = pow_mono {i = w} h

pub pow_top : (w : ℕ) → w ≤ 64 → 2 ^ (w - 1) ≤ 2 ^ 63
pow_top w h = let k : w - 1 ≤ 63 = omega arith in pow_mono {j = 63} k

pub ruleset powers = (pow_split, pow_half, pow_128, pow_64, pow_low, pow_top)

-- ---- bytes

pub pow_byte : (count : ℕ) → 0 < count → 2 ^ (8 * count) ≡ 256 * 2 ^ (8 * (count - 1))
pow_byte count h =
    let k : 8 * count ≡ 8 + 8 * (count - 1) = omega arith in
    ap (λ n. 2 ^ n) k ∙ pow-add 2 8 (8 * (count - 1))

pub pow_bytes : (count : ℕ) → count ≤ 16 → 2 ^ (8 * count) ≤ 2 ^ 128
pow_bytes count h = let k : 8 * count ≤ 128 = omega arith in pow_mono {i = 8 * count} k

pub ruleset bytes = (pow_byte, pow_bytes)
