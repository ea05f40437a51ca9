-- Numbers in hexadecimal: how many digits they have, and the digits from the last one on.
use Rattle.std.proofs.Common.{◌≡◌, ℕ, zero, suc, ◌+◌, ◌-◌, ◌*◌, ◌/◌, ◌%◌, ◌<◌, ◌≤◌, cond, Bool, List, [], ◌∷◌, ◌++◌, length, length-append, length-take, length-set, take, drop, set, refl, sym, ap, subst, ◌∙◌, append_assoc, inl, inr, arith}
use Rattle.std.specs.Prelude.{◌^◌}
use Rattle.std.proofs.lemmas.Bool.{lt-ltb, le-ltb, cases_lt}
use Rattle.std.proofs.lemmas.List.{append-nil, length_push, take-set-le, drop-set, take-take, drop-take, drop_at, length-take-le, take_more_set}
use Rattle.std.proofs.lemmas.Slice.{take-put_mid}
use borrow.Rule.Slice.PartMut.{mid_of, put_mid}
use Rattle.std.proofs.lemmas.Nat.{pow-add, shr_below, le-div}
use Rattle.std.proofs.Math.Nat.{pow-le-pow_right}
use Rattle.std.proofs.Math.Seq.{take-add, take-append_seam, take-append-add}
use Rattle.wasm_module.specs.MapText.{hex_digit, hex_digits_within, hexadecimal}

-- ---- the definition at smaller and greater numbers

one_digit : (more n : ℕ) → n < 16 → hex_digits_within more n ≡ hex_digit n ∷ []
unfolding hex_digits_within
one_digit zero n small = let same : n % 16 ≡ n = omega arith in ap (λ (d : ℕ). hex_digit d ∷ []) same
one_digit (suc more) n small =
    ap (λ (b : Bool). cond b (hex_digit n ∷ []) (hex_digits_within more (n / 16) ++ hex_digit (n % 16) ∷ [])) (lt-ltb n 16 small)

more_digits : (more n : ℕ) → 16 ≤ n → hex_digits_within (suc more) n ≡ hex_digits_within more (n / 16) ++ hex_digit (n % 16) ∷ []
unfolding hex_digits_within
more_digits more n great =
    ap (λ (b : Bool). cond b (hex_digit n ∷ []) (hex_digits_within more (n / 16) ++ hex_digit (n % 16) ∷ [])) (le-ltb n 16 great)

-- ---- how many there are

digits_len : (more k n : ℕ) → k ≤ more → n < 2 ^ (4 * k + 4) → (0 < k → 2 ^ (4 * k) ≤ n) → length (hex_digits_within more n) ≡ k + 1
digits_len more zero n small below above =
    let few : n < 16 = below in
    ap (λ (l : List ℕ). length l) (one_digit more n few)
digits_len zero (suc k) n small below above = absurd (omega arith)
digits_len (suc more) (suc k) n small below above =
    let power : 2 ^ (4 * suc k) ≡ 2 ^ (4 * k) * 16 =
    let e : 4 * suc k ≡ 4 * k + 4 = omega arith in ap (λ (m : ℕ). 2 ^ m) e ∙ pow-add 2 (4 * k) 4 in
    let least : 2 ^ (4 * suc k) ≤ n = above (omega arith) in
    let positive : 1 ≤ 2 ^ (4 * k) = pow-le-pow_right {n = 2} (omega arith) {i = 0} {j = 4 * k} (omega arith) in
    let great : 16 ≤ n = omega arith in
    let e : 4 * suc k + 4 ≡ 4 * k + 4 + 4 = omega arith in
    let upper : n / 16 < 2 ^ (4 * k + 4) = shr_below n (4 * k + 4) 4 (subst (λ (m : ℕ). n < 2 ^ m) e below) in
    let lower : 0 < k → 2 ^ (4 * k) ≤ n / 16 = λ some. le-div (2 ^ (4 * k)) n 16 (omega arith) (omega arith) in
    let others : length (hex_digits_within more (n / 16)) ≡ k + 1 = digits_len more k (n / 16) (omega arith) upper lower in
    let len = length_push (hex_digits_within more (n / 16)) (hex_digit (n % 16)) in
    ap (λ (l : List ℕ). length l) (more_digits more n great) ∙ len ∙ omega arith

pub len_of_small : (n : ℕ) → n < 16 → 1 ≡ length (hexadecimal n)
len_of_small n small = sym (ap (λ (l : List ℕ). length l) (one_digit 15 n small))

-- from the greatest power of 2 that isn't greater
pub len_by_log : (n log : ℕ) → 16 ≤ n → 2 ^ log ≤ n → n < 2 * 2 ^ log → log < 64 → log / 4 + 1 ≡ length (hexadecimal n)
len_by_log n log great below above small =
    let k = log / 4 in
    let upper : 2 ^ (log + 1) ≤ 2 ^ (4 * k + 4) = pow-le-pow_right {n = 2} (omega arith) {i = log + 1} {j = 4 * k + 4} (omega arith) in
    let lower : 2 ^ (4 * k) ≤ 2 ^ log = pow-le-pow_right {n = 2} (omega arith) {i = 4 * k} {j = log} (omega arith) in
    let twice : 2 ^ (log + 1) ≡ 2 ^ log * 2 = pow-add 2 log 1 in
    sym (digits_len 15 k n (omega arith) (omega arith) (λ some. omega arith))

-- ---- the last digits

-- so many of them, as if zeros were before the first one
abbrev pub last_digits : (count : ℕ) → ℕ → List ℕ
last_digits zero n = []
last_digits (suc count) n = last_digits count (n / 16) ++ hex_digit (n % 16) ∷ []

all_last : (more n : ℕ) → hex_digits_within more n ≡ last_digits (length (hex_digits_within more n)) n
unfolding hex_digits_within
all_last zero n = refl
all_last (suc more) n =
    elim (cases_lt n 16) [
      | inl small ↦
          let is = one_digit (suc more) n small in
          let same : n % 16 ≡ n = omega arith in
          is ∙ ap (λ (d : ℕ). hex_digit d ∷ []) (sym same) ∙ ap (λ (l : List ℕ). last_digits (length l) n) (sym is)
      | inr great ↦
          let is = more_digits more n great in
          let others = hex_digits_within more (n / 16) in
          let len : length (others ++ hex_digit (n % 16) ∷ []) ≡ suc (length others) = length_push others (hex_digit (n % 16)) ∙ omega arith in
          is ∙ ap (λ (l : List ℕ). l ++ hex_digit (n % 16) ∷ []) (all_last more (n / 16))
          ∙ ap (λ (count : ℕ). last_digits count n) (sym len) ∙ ap (λ (l : List ℕ). last_digits (length l) n) (sym is)
    ]

-- ---- in a buffer, from a place on

-- The digits of a number from a place on: those before `place` are still those of `left`.
pub record DigitsFrom (buffer : List ℕ) (at place end number left : ℕ) : Type 0 where
  pub begins : at ≤ place
  pub ends : place ≤ end
  pub digits : last_digits (end - at) number ≡ last_digits (place - at) left ++ take (end - place) (drop place buffer)

pub no_digits_yet : (buffer : List ℕ) (at end number : ℕ) → at ≤ end → DigitsFrom buffer at end end number number
no_digits_yet buffer at end number some = record {
  begins = some;
  ends = omega arith;
  digits =
      sym (append-nil (last_digits (end - at) number))
      ∙ ap (λ (k : ℕ). last_digits (end - at) number ++ take k (drop end buffer)) (let none : 0 ≡ end - end = omega arith in none);
}

pub one_more_digit :
    (buffer : List ℕ) (at place end number left digit : ℕ) → at < place → place ≤ length buffer → DigitsFrom buffer at place end number left → digit ≡ hex_digit (left % 16) →
    DigitsFrom (set buffer (place - 1) digit) at (place - 1) end number (left / 16)
one_more_digit buffer at place end number left digit some fits d is =
    let before = place - 1 in
    let next : place - at ≡ suc (before - at) = omega arith in
    let written = take (end - place) (drop place buffer) in
    let within : before < length buffer = omega arith in
    let after : before + 1 ≡ place = omega arith in
    let taken : end - before ≡ suc (end - place) = let e = d.ends in omega arith in
    let front = last_digits (before - at) (left / 16) in
    let tail : digit ∷ written ≡ take (end - before) (drop before (set buffer before digit)) =
    sym (ap (λ (l : List ℕ). take (end - before) l) (drop-set buffer before digit within)
    ∙ ap (λ (k : ℕ). take k (digit ∷ drop (before + 1) buffer)) taken
    ∙ ap (λ (k : ℕ). digit ∷ take (end - place) (drop k buffer)) after) in
    record {
      begins = omega arith;
      ends = let e = d.ends in omega arith;
      digits =
          d.digits ∙ ap (λ (k : ℕ). last_digits k left ++ written) next
          ∙ append_assoc front (hex_digit (left % 16) ∷ []) written
          ∙ ap (λ (x : ℕ). front ++ x ∷ written) (sym is) ∙ ap (λ (l : List ℕ). front ++ l) tail;
    }

-- all digits are there, after what was before
pub all_digits :
    (old buffer : List ℕ) (at end number left : ℕ) → end ≡ at + length (hexadecimal number) → take at buffer ≡ take at old → DigitsFrom buffer at at end number left →
    take end buffer ≡ take at old ++ hexadecimal number
all_digits old buffer at end number left is kept d =
    let len : end - at ≡ length (hexadecimal number) = omega arith in
    let none : at - at ≡ 0 = omega arith in
    let digits : take (end - at) (drop at buffer) ≡ hexadecimal number =
    sym (d.digits ∙ ap (λ (k : ℕ). last_digits k left ++ take (end - at) (drop at buffer)) none)
    ∙ ap (λ (k : ℕ). last_digits k number) len ∙ sym (all_last 15 number) in
    let parts : end ≡ at + (end - at) = omega arith in
    ap (λ (k : ℕ). take k buffer) parts ∙ take-add at (end - at) buffer
    ∙ ap (λ (l : List ℕ). l ++ take (end - at) (drop at buffer)) kept ∙ ap (λ (l : List ℕ). take at old ++ l) digits

-- a place before those that are kept doesn't change
pub kept_before : (old buffer : List ℕ) (at place digit : ℕ) → at ≤ place → take at buffer ≡ take at old → take at (set buffer place digit) ≡ take at old
kept_before old buffer at place digit later kept = take-set-le at buffer place digit later ∙ kept

-- ---- all but the last two digits

same_within : (more n : ℕ) → n < 2 ^ (4 * more + 4) → hex_digits_within (suc more) n ≡ hex_digits_within more n
same_within zero n small =
    let few : n < 16 = small in one_digit 1 n few ∙ sym (one_digit 0 n few)
same_within (suc more) n small =
    elim (cases_lt n 16) [
      | inl few ↦ one_digit (suc (suc more)) n few ∙ sym (one_digit (suc more) n few)
      | inr great ↦
          let e : 4 * suc more + 4 ≡ 4 * more + 4 + 4 = omega arith in
          let upper : n / 16 < 2 ^ (4 * more + 4) = shr_below n (4 * more + 4) 4 (subst (λ (m : ℕ). n < 2 ^ m) e small) in
          more_digits (suc more) n great ∙ ap (λ (l : List ℕ). l ++ hex_digit (n % 16) ∷ []) (same_within more (n / 16) upper) ∙ sym (more_digits more n great)
    ]

pub front_digits : (n : ℕ) → 256 ≤ n → n < 2 ^ 64 → hexadecimal n ≡ hexadecimal (n / 256) ++ hex_digit (n / 16 % 16) ∷ hex_digit (n % 16) ∷ []
front_digits n great fits =
    let front = n / 256 in
    let before = hex_digit (n / 16 % 16) in
    let last = hex_digit (n % 16) in
    let same : n / 16 / 16 ≡ front = omega arith in
    let small : front < 2 ^ 56 = omega arith in
    let most : front < 2 ^ 60 = omega arith in
    let enough : hex_digits_within 13 front ≡ hexadecimal front = sym (same_within 14 front most ∙ same_within 13 front small) in
    more_digits 14 n (omega arith)
    ∙ ap (λ (l : List ℕ). l ++ last ∷ [])
    (more_digits 13 (n / 16) (omega arith) ∙ ap (λ (m : ℕ). hex_digits_within 13 m ++ before ∷ []) same ∙ ap (λ (l : List ℕ). l ++ before ∷ []) enough)
    ∙ append_assoc (hexadecimal front) (before ∷ []) (last ∷ [])

pub front_len : (n : ℕ) → 256 ≤ n → n < 2 ^ 64 → length (hexadecimal n) ≡ length (hexadecimal (n / 256)) + 2
front_len n great fits = ap (λ (l : List ℕ). length l) (front_digits n great fits) ∙ length-append (hexadecimal (n / 256)) (hex_digit (n / 16 % 16) ∷ hex_digit (n % 16) ∷ [])

-- the first of these digits are those of the front
pub front_taken : (digits : List ℕ) (n len : ℕ) → 256 ≤ n → n < 2 ^ 64 → len ≡ length (hexadecimal n) → take len digits ≡ hexadecimal n → take (len - 2) digits ≡ hexadecimal (n / 256)
front_taken digits n len great fits is there =
    let front = hexadecimal (n / 256) in
    let both = hex_digit (n / 16 % 16) ∷ hex_digit (n % 16) ∷ [] in
    let count : len - 2 ≡ length front = omega (arith, is, front_len n great fits) in
    sym (take-take (len - 2) len digits (omega arith)) ∙ ap (λ (l : List ℕ). take (len - 2) l) (there ∙ front_digits n great fits)
    ∙ ap (λ (k : ℕ). take k (front ++ both)) count ∙ take-append_seam front both

-- the digits that were put after the place `at`, among those after it
pub digits_put : (old buffer : List ℕ) (at end number : ℕ) → take end buffer ≡ take at old ++ hexadecimal number → at ≤ length old → end ≡ at + length (hexadecimal number)
    → end ≤ at + 16 → take (end - at) (mid_of at (at + 16 - at) buffer) ≡ hexadecimal number
digits_put old buffer at end number written room ends few =
    let front : length (take at old) ≡ at = length-take-le at old room in
    let parts : at + (end - at) ≡ end = omega arith in
    take-take (end - at) (at + 16 - at) (drop at buffer) (omega arith) ∙ sym (drop-take at (end - at) buffer)
    ∙ ap (λ (k : ℕ). drop at (take k buffer)) parts ∙ ap (λ (l : List ℕ). drop at l) written ∙ drop_at (take at old) (hexadecimal number) at front

pub one_is : 49 ∷ [] ≡ hexadecimal 1
unfolding hex_digits_within
one_is = refl

-- the digits of a front, in place of what follows the place `at`, and then two more
pub front_put :
    (old digits : List ℕ) (at len number : ℕ) → 256 ≤ number → number < 2 ^ 64 → at + 16 ≤ length old → length digits ≡ 16 → len ≤ 14 → take len digits ≡ hexadecimal (number / 256) →
    take (at + len + 2) (set (set (put_mid at (at + 16 - at) old digits) (at + len) (hex_digit (number / 16 % 16))) (at + len + 1) (hex_digit (number % 16))) ≡ take at old ++ hexadecimal number
front_put old digits at len number great fits room count few are =
    let front = put_mid at (at + 16 - at) old digits in
    let before = hex_digit (number / 16 % 16) in
    let last = hex_digit (number % 16) in
    let one = set front (at + len) before in
    let all : take (at + 16) front ≡ take at old ++ digits = take-put_mid at (at + 16 - at) old digits (at + 16) (omega (arith, count)) (omega arith) in
    let long : at + 16 ≤ length front =
    omega (arith, length-take (at + 16) front, ap (λ (l : List ℕ). length l) all, length-append (take at old) digits, length-take-le at old (omega arith), count) in
    let begin : length (take at old) ≡ at = length-take-le at old (omega arith) in
    let some : take (at + len) front ≡ take at old ++ take len digits =
    sym (take-take (at + len) (at + 16) front (omega arith)) ∙ ap (λ (l : List ℕ). take (at + len) l) all
    ∙ ap (λ (n : ℕ). take (n + len) (take at old ++ digits)) (sym begin) ∙ take-append-add (take at old) digits len in
    let second : take (at + len + 1) one ≡ take (at + len) front ++ before ∷ [] = take_more_set front (at + len) before (omega arith) in
    let within : at + len + 1 < length one = omega (arith, length-set front (at + len) before) in
    let next : at + len + 2 ≡ at + len + 1 + 1 = omega arith in
    ap (λ (n : ℕ). take n (set one (at + len + 1) last)) next ∙ take_more_set one (at + len + 1) last within
    ∙ ap (λ (l : List ℕ). l ++ last ∷ []) (second ∙ ap (λ (l : List ℕ). l ++ before ∷ []) (some ∙ ap (λ (l : List ℕ). take at old ++ l) are))
    ∙ append_assoc (take at old ++ hexadecimal (number / 256)) (before ∷ []) (last ∷ [])
    ∙ append_assoc (take at old) (hexadecimal (number / 256)) (before ∷ last ∷ [])
    ∙ ap (λ (l : List ℕ). take at old ++ l) (sym (front_digits number great fits))
