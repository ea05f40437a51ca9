-- The shortest encoding of a number is one of its encodings, and every other is longer.
use Rattle.std.proofs.Common.{◌≡◌, ℕ, zero, suc, ◌+◌, ◌-◌, ◌*◌, ◌/◌, ◌%◌, ◌^◌, ◌<◌, ◌≤◌, true, false, List, [], ◌∷◌, Some, None, refl, sym, ap, subst, ◌∙◌, arith, inl, inr, ℤ, pos, negsuc, ◌+ℤ◌, ◌-ℤ◌, ◌*ℤ◌}
use Rattle.std.proofs.lemmas.Bool.{ltb-true, lt-ltb, le-ltb, le-leb, lt-leb, cases_lt}
use Rattle.std.proofs.lemmas.Int.{ints}
use Rattle.std.proofs.Math.Pow.{pow_mono}
use Rattle.wasm_numbers.specs.Numbers.{IsInteger, unsigned, unsigned_last, signed, signed_last}
use Rattle.wasm_operators.specs.Shortest.{IsLeast, short_unsigned, low_bits, high_bits, fits_seven, short_signed}
use Rattle.wasm_numbers.proofs.Powers.{pow_split, pow_half}
use Rattle.wasm_numbers.proofs.NumberLaws.{longer}

-- the same byte before both
least_after : (x y : ℕ) (short text : List ℕ) → x ≡ y → IsLeast short text → IsLeast (x ∷ short) (y ∷ text)
least_after x y short text e (inl q) = inl (ap (λ (z : ℕ). z ∷ short) e ∙ ap (λ (z : List ℕ). y ∷ z) q)
least_after x y short text e (inr q) = inr (omega arith)

some_is : {A : Type 0} (x y : A) → Some x ≡ Some y → x ≡ y
some_is x y q = cc

-- ---- unsigned

last_is : (w b n : ℕ) → unsigned_last w b ≡ Some n → (b ≡ n) × (n < 2 ^ w)
last_is w b n e = elim (cases_lt b (2 ^ w)) [
  | inl lt ↦ let h : Some b ≡ Some n = rw (lt-ltb b (2 ^ w) lt) at e in let same = some_is b n h in (same, omega arith)
  | inr le ↦ absurd (let h : None ≡ Some n = rw (le-ltb b (2 ^ w) le) at e in cc)
]

pub unsigned_below : (w n : ℕ) (text : List ℕ) → IsInteger unsigned w n text → n < 2 ^ w
unsigned_below w n [] s = absurd s
unsigned_below w n (b ∷ []) s = (last_is w b n s.1).1
unsigned_below w n (b ∷ c ∷ bs) s =
    let split = pow_split w s.2 in
    let above = unsigned_below (w - 7) s.3 (c ∷ bs) s.5 in
    let whole : n ≡ (b - 128) + 128 * s.3 = s.4 in
    omega (arith, s.0, s.1)

small_width : (w n : ℕ) → w ≤ 7 → n < 2 ^ w → n < 128
small_width w n h lt = let p : 2 ^ w ≤ 2 ^ 7 = pow_mono {i = w} h in omega arith

wide_width : (w n : ℕ) → 128 ≤ n → n < 2 ^ w → 7 < w
wide_width w n h lt = elim (cases_lt 7 w) [ inl p ↦ p | inr p ↦ absurd (let q = small_width w n p lt in omega arith) ]

high_fits : (w n : ℕ) → 7 < w → n < 2 ^ w → n / 128 < 2 ^ (w - 7)
high_fits w n h lt = omega (arith, pow_split w h)

pub unsigned_spelt : (more w n : ℕ) → w ≤ 7 + 7 * more → n < 2 ^ w → IsInteger unsigned w n (short_unsigned more n)
unfolding short_unsigned
unsigned_spelt zero w n h lt =
    let small = small_width w n (omega arith) lt in
    let low : n % 128 ≡ n = omega arith in
    rw low (small, rw (lt-ltb n (2 ^ w) lt) refl)
unsigned_spelt (suc more) w n h lt =
    elim (cases_lt n 128) [
      | inl p ↦ rw (lt-ltb n 128 p) (p, rw (lt-ltb n (2 ^ w) lt) refl)
      | inr p ↦
          let wide = wide_width w n p lt in
          let tail = unsigned_spelt more (w - 7) (n / 128) (omega arith) (high_fits w n wide lt) in
          let value : (n % 128 + 128 - 128) + 128 * (n / 128) ≡ n = omega arith in
          let whole = longer unsigned w (n % 128 + 128) (n / 128) (short_unsigned more (n / 128)) (omega arith) (omega arith) wide tail in
          rw (le-ltb n 128 p) (subst (λ (v : ℕ). IsInteger unsigned w v ((n % 128 + 128) ∷ short_unsigned more (n / 128))) value whole)
    ]

unsigned_least : (more w n : ℕ) (text : List ℕ) → w ≤ 7 + 7 * more → n < 2 ^ w → IsInteger unsigned w n text → IsLeast (short_unsigned more n) text
unfolding short_unsigned
unsigned_least more w n [] h lt s = absurd s
unsigned_least zero w n (b ∷ []) h lt s =
    let same = (last_is w b n s.1).0 in
    let low : n % 128 ≡ b = omega (arith, s.0) in
    inl (ap (λ (x : ℕ). x ∷ []) low)
unsigned_least (suc more) w n (b ∷ []) h lt s =
    let same = (last_is w b n s.1).0 in
    let small : n < 128 = omega (arith, s.0) in
    rw (lt-ltb n 128 small) (inl (ap (λ (x : ℕ). x ∷ []) (sym same)))
unsigned_least zero w n (b ∷ c ∷ bs) h lt s = inr (omega arith)
unsigned_least (suc more) w n (b ∷ c ∷ bs) h lt s =
    elim (cases_lt n 128) [
      | inl p ↦ rw (lt-ltb n 128 p) (inr (omega arith))
      | inr p ↦
          let wide = wide_width w n p lt in
          let parts : n ≡ (b - 128) + 128 * s.3 = s.4 in
          let low : n % 128 + 128 ≡ b = omega (arith, s.0, s.1) in
          let high : n / 128 ≡ s.3 = omega (arith, s.0, s.1) in
          let tail : IsInteger unsigned (w - 7) (n / 128) (c ∷ bs) = rw high s.5 in
          rw (le-ltb n 128 p) (least_after (n % 128 + 128) b (short_unsigned more (n / 128)) (c ∷ bs) low (unsigned_least more (w - 7) (n / 128) (c ∷ bs) (omega arith) (high_fits w n wide lt) tail))
    ]

pub unsigned_shortest : (more w : ℕ) → w ≤ 7 + 7 * more → (n : ℕ) (text : List ℕ) → IsInteger unsigned w n text → IsInteger unsigned w n (short_unsigned more n) × IsLeast (short_unsigned more n) text
unsigned_shortest more w h n text s =
    let below = unsigned_below w n text s in
    (unsigned_spelt more w n h below, unsigned_least more w n text h below s)

-- ---- signed: a number is determined by its sign and its magnitude, which is one less for a negative number

abbrev magnitude : ℤ → ℕ
magnitude (pos n) = n
magnitude (negsuc n) = n

-- the number of a last byte
signed_last_is : (w b : ℕ) (z : ℤ) → b < 128 → signed_last w b ≡ Some z → (low_bits z ≡ b) × (fits_seven z ≡ true) × (magnitude z < 2 ^ (w - 1))
signed_last_is w b z low e = elim (cases_lt b 64) [
  | inl lt ↦ elim (cases_lt b (2 ^ (w - 1))) [
    | inl fits ↦
        let h : Some (pos b) ≡ Some z = rw (lt-ltb b 64 lt, lt-ltb b (2 ^ (w - 1)) fits) at e in
        let is = some_is (pos b) z h in
        let same : b % 128 ≡ b = omega arith in
        (ap low_bits (sym is) ∙ same, ap fits_seven (sym is) ∙ lt-ltb b 64 lt, subst (λ (v : ℤ). magnitude v < 2 ^ (w - 1)) is fits)
    | inr le ↦ absurd (let h : None ≡ Some z = rw (lt-ltb b 64 lt, le-ltb b (2 ^ (w - 1)) le) at e in cc)
  ]
  | inr le ↦ elim (cases_lt (b + 2 ^ (w - 1)) 128) [
    | inl lt ↦ absurd (let h : None ≡ Some z = rw (le-ltb b 64 le, lt-leb 128 (b + 2 ^ (w - 1)) lt) at e in cc)
    | inr fits ↦
        let h : Some (pos b -ℤ pos 128) ≡ Some z = rw (le-ltb b 64 le, le-leb 128 (b + 2 ^ (w - 1)) fits) at e in
        let value : pos b -ℤ pos 128 ≡ negsuc (127 - b) = omega (arith, ints) in
        let is : negsuc (127 - b) ≡ z = sym value ∙ some_is (pos b -ℤ pos 128) z h in
        let same : 127 - (127 - b) % 128 ≡ b = omega arith in
        let small : 127 - b < 64 = omega arith in
        (ap low_bits (sym is) ∙ same, ap fits_seven (sym is) ∙ lt-ltb (127 - b) 64 small, subst (λ (v : ℤ). magnitude v < 2 ^ (w - 1)) is (omega arith))
  ]
]

-- an encoding of more bytes: the low seven bits of the first, and the number after it
above_is : (low : ℕ) (high z : ℤ) → low < 128 → z ≡ pos low +ℤ (pos 128 *ℤ high) → (low_bits z ≡ low) × (high_bits z ≡ high)
above_is low (pos m) z lt e =
    let is : z ≡ pos (low + 128 * m) = e ∙ omega (arith, ints) in
    let bits : (low + 128 * m) % 128 ≡ low = omega arith in
    let high : (low + 128 * m) / 128 ≡ m = omega arith in
    (ap low_bits is ∙ bits, ap high_bits is ∙ ap (λ (n : ℕ). pos n) high)
above_is low (negsuc m) z lt e =
    let is : z ≡ negsuc (127 - low + 128 * m) = e ∙ omega (arith, ints) in
    let bits : 127 - (127 - low + 128 * m) % 128 ≡ low = omega arith in
    let high : (127 - low + 128 * m) / 128 ≡ m = omega arith in
    (ap low_bits is ∙ bits, ap high_bits is ∙ ap (λ (n : ℕ). negsuc n) high)

-- the low seven bits and the number above them make the number
made_of : (z : ℤ) → z ≡ pos (low_bits z) +ℤ (pos 128 *ℤ high_bits z)
made_of (pos n) = omega (arith, ints)
made_of (negsuc n) = omega (arith, ints)

low_below : (z : ℤ) → low_bits z < 128
low_below (pos n) = omega arith
low_below (negsuc n) = omega arith

high_magnitude : (z : ℤ) → magnitude (high_bits z) ≡ magnitude z / 128
high_magnitude (pos n) = refl
high_magnitude (negsuc n) = refl

fits_is : (z : ℤ) → fits_seven z ≡ true → magnitude z < 64
fits_is (pos n) e = ltb-true n 64 e
fits_is (negsuc n) e = ltb-true n 64 e

is_fitting : (z : ℤ) → magnitude z < 64 → fits_seven z ≡ true
is_fitting (pos n) h = lt-ltb n 64 h
is_fitting (negsuc n) h = lt-ltb n 64 h

is_great : (z : ℤ) → 64 ≤ magnitude z → fits_seven z ≡ false
is_great (pos n) h = le-ltb n 64 h
is_great (negsuc n) h = le-ltb n 64 h

-- the number of seven bits, if they can contain it
last_of : (w : ℕ) (z : ℤ) → magnitude z < 64 → magnitude z < 2 ^ (w - 1) → signed_last w (low_bits z) ≡ Some z
last_of w (pos n) small fits =
    let same : n % 128 ≡ n = omega arith in
    rw (same, lt-ltb n 64 small, lt-ltb n (2 ^ (w - 1)) fits) refl
last_of w (negsuc n) small fits =
    let same : n % 128 ≡ n = omega arith in
    let great : 64 ≤ 127 - n = omega arith in
    let enough : 128 ≤ 127 - n + 2 ^ (w - 1) = omega arith in
    let value : pos (127 - n) -ℤ pos 128 ≡ negsuc n = omega (arith, ints) in
    rw (same, le-ltb (127 - n) 64 great, le-leb 128 (127 - n + 2 ^ (w - 1)) enough, value) refl

pub signed_below : (w : ℕ) (z : ℤ) (text : List ℕ) → IsInteger signed w z text → magnitude z < 2 ^ (w - 1)
signed_below w z [] s = absurd s
signed_below w z (b ∷ []) s = (signed_last_is w b z s.0 s.1).2
signed_below w z (b ∷ c ∷ bs) s =
    let split = pow_half w s.2 in
    let above = signed_below (w - 7) s.3 (c ∷ bs) s.5 in
    let low : b - 128 < 128 = omega (arith, s.0, s.1) in
    let is = (above_is (b - 128) s.3 z low s.4).1 in
    let same : magnitude z / 128 ≡ magnitude s.3 = sym (high_magnitude z) ∙ ap magnitude is in
    omega arith

small_half : (w n : ℕ) → w ≤ 7 → n < 2 ^ (w - 1) → n < 64
small_half w n h lt = let k : w - 1 ≤ 6 = omega arith in let p : 2 ^ (w - 1) ≤ 2 ^ 6 = pow_mono {j = 6} k in omega arith

wide_half : (w n : ℕ) → 64 ≤ n → n < 2 ^ (w - 1) → 7 < w
wide_half w n h lt = elim (cases_lt 7 w) [ inl p ↦ p | inr p ↦ absurd (let q = small_half w n p lt in omega arith) ]

high_half : (w : ℕ) (z : ℤ) → 7 < w → magnitude z < 2 ^ (w - 1) → magnitude (high_bits z) < 2 ^ (w - 7 - 1)
high_half w z h lt = let split = pow_half w h in rw (high_magnitude z) (omega arith)

one_byte : (w : ℕ) (z : ℤ) → magnitude z < 64 → magnitude z < 2 ^ (w - 1) → IsInteger signed w z (low_bits z ∷ [])
one_byte w z small fits = (low_below z, last_of w z small fits)

pub signed_spelt : (more w : ℕ) (z : ℤ) → w ≤ 7 + 7 * more → magnitude z < 2 ^ (w - 1) → IsInteger signed w z (short_signed more z)
unfolding short_signed
signed_spelt zero w z h lt = one_byte w z (small_half w (magnitude z) (omega arith) lt) lt
signed_spelt (suc more) w z h lt =
    elim (cases_lt (magnitude z) 64) [
      | inl p ↦ rw (is_fitting z p) (one_byte w z p lt)
      | inr p ↦
          let wide = wide_half w (magnitude z) p lt in
          let tail = signed_spelt more (w - 7) (high_bits z) (omega arith) (high_half w z wide lt) in
          let low = low_below z in
          let same : low_bits z + 128 - 128 ≡ low_bits z = omega arith in
          let value : pos (low_bits z + 128 - 128) +ℤ (pos 128 *ℤ high_bits z) ≡ z = rw same (sym (made_of z)) in
          let whole = longer signed w (low_bits z + 128) (high_bits z) (short_signed more (high_bits z)) (omega arith) (omega arith) wide tail in
          rw (is_great z p) (subst (λ (v : ℤ). IsInteger signed w v ((low_bits z + 128) ∷ short_signed more (high_bits z))) value whole)
    ]

signed_least : (more w : ℕ) (z : ℤ) (text : List ℕ) → w ≤ 7 + 7 * more → magnitude z < 2 ^ (w - 1) → IsInteger signed w z text → IsLeast (short_signed more z) text
unfolding short_signed
signed_least more w z [] h lt s = absurd s
signed_least zero w z (b ∷ []) h lt s = inl (ap (λ (x : ℕ). x ∷ []) (signed_last_is w b z s.0 s.1).0)
signed_least (suc more) w z (b ∷ []) h lt s =
    let last = signed_last_is w b z s.0 s.1 in
    rw last.1 (inl (ap (λ (x : ℕ). x ∷ []) last.0))
signed_least zero w z (b ∷ c ∷ bs) h lt s = inr (omega arith)
signed_least (suc more) w z (b ∷ c ∷ bs) h lt s =
    elim (cases_lt (magnitude z) 64) [
      | inl p ↦ rw (is_fitting z p) (inr (omega arith))
      | inr p ↦
          let wide = wide_half w (magnitude z) p lt in
          let below : b - 128 < 128 = omega (arith, s.0, s.1) in
          let is = above_is (b - 128) s.3 z below s.4 in
          let low : low_bits z + 128 ≡ b = omega (arith, s.0, is.0) in
          let tail : IsInteger signed (w - 7) (high_bits z) (c ∷ bs) = rw is.1 s.5 in
          rw (is_great z p) (least_after (low_bits z + 128) b (short_signed more (high_bits z)) (c ∷ bs) low (signed_least more (w - 7) (high_bits z) (c ∷ bs) (omega arith) (high_half w z wide lt) tail))
    ]

pub signed_shortest : (more w : ℕ) → w ≤ 7 + 7 * more → (z : ℤ) (text : List ℕ) → IsInteger signed w z text → IsInteger signed w z (short_signed more z) × IsLeast (short_signed more z) text
signed_shortest more w h z text s =
    let below = signed_below w z text s in
    (signed_spelt more w z h below, signed_least more w z text h below s)
