-- Appending one text after another.
use Rattle.std.proofs.Common.{◌≡◌, ℕ, zero, suc, ◌+◌, ◌-◌, ◌*◌, ◌/◌, ◌%◌, ◌<◌, ◌≤◌, Bool, true, false, ℤ, pos, negsuc, ◌≤ℤ◌, ◌<ℤ◌, cond, ltb, List, [], ◌∷◌, ◌++◌, length, take, refl, sym, ap, ◌∙◌, append_assoc, arith}
use Rattle.std.proofs.lemmas.List.{take-take, length-take, append-nil}
use Rattle.std.proofs.lemmas.Bool.{lt-ltb, le-ltb}
use Rattle.std.proofs.lemmas.Int.{ints}
use Rattle.wasm_operators.specs.Shortest.{short_unsigned, low_bits, high_bits, fits_seven, short_signed, short_bits}

pub kept_then : (a b c : List ℕ) → take (length a) b ≡ a → take (length b) c ≡ b → take (length a) c ≡ a
kept_then a b c p q =
    let short : length a ≤ length b = omega (arith, length-take (length a) b, ap length p) in
    let both : take (length a) (take (length b) c) ≡ a = rw q p in
    sym (take-take (length a) (length b) c short) ∙ both

pub short_more : (more n : ℕ) → 0 < more → short_unsigned more n ≡ cond (ltb n 128) (n ∷ []) ((n % 128 + 128) ∷ short_unsigned (more - 1) (n / 128))
unfolding short_unsigned
short_more zero n h = absurd (omega arith)
short_more (suc more) n h = let k : suc more - 1 ≡ more = omega arith in rw k refl

pub short_signed_more : (more : ℕ) (z : ℤ) → 0 < more → short_signed more z ≡ cond (fits_seven z) (low_bits z ∷ []) ((low_bits z + 128) ∷ short_signed (more - 1) (high_bits z))
unfolding short_signed
short_signed_more zero z h = absurd (omega arith)
short_signed_more (suc more) z h = let k : suc more - 1 ≡ more = omega arith in rw k refl

pub fits_seven_true : (z : ℤ) → negsuc 63 ≤ℤ z → z <ℤ pos 64 → fits_seven z ≡ true
fits_seven_true (pos n) low high = lt-ltb n 64 (omega (arith, ints))
fits_seven_true (negsuc n) low high = lt-ltb n 64 (omega (arith, ints))

pub fits_seven_low : (z : ℤ) → z <ℤ negsuc 63 → fits_seven z ≡ false
fits_seven_low (pos n) low = absurd (omega (arith, ints))
fits_seven_low (negsuc n) low = le-ltb n 64 (omega (arith, ints))

pub fits_seven_high : (z : ℤ) → pos 64 ≤ℤ z → fits_seven z ≡ false
fits_seven_high (pos n) high = le-ltb n 64 (omega (arith, ints))
fits_seven_high (negsuc n) high = absurd (omega (arith, ints))

pub short_bits_more : (count n : ℕ) → 0 < count → short_bits count n ≡ n % 256 ∷ short_bits (count - 1) (n / 256)
short_bits_more zero n h = absurd (omega arith)
short_bits_more (suc count) n h = let k : suc count - 1 ≡ count = omega arith in rw k refl

pub ruleset appending = (kept_then, short_more, short_signed_more, short_bits_more, fits_seven_true, fits_seven_low, fits_seven_high, append_assoc, append-nil)
