-- Numbers in the text of mappings (ECMA-426, Source map format specification, base64 VLQ): digits of base64, with five bits
-- of the number in each, the lowest first.
use Rattle.std.specs.Prelude.{◌≡◌, ℕ, ◌+◌, ◌-◌, ◌*◌, ◌/◌, ◌%◌, ◌^◌, ◌<◌, List, [], ◌∷◌, ◌&&◌, ◌==◌, nat_lt, nat_le, if◌then◌else◌, Option, Some, None}

-- the value of a digit of base64, by its character (RFC 4648, section 4): A to Z, a to z, 0 to 9, + and /
abbrev pub digit_value : ℕ → Option ℕ
digit_value c =
    if nat_le 65 c && nat_le c 90 then Some (c - 65)
    else if nat_le 97 c && nat_le c 122 then Some (c - 71)
    else if nat_le 48 c && nat_le c 57 then Some (c + 4)
    else if c == 43 then Some 62
    else if c == 47 then Some 63
    else None

-- The text encodes a number with at most `most` digits. Bit 5 of a digit says that another follows; the five bits below it are
-- those of the number.
abbrev pub IsVlqNumber : (most n : ℕ) → List ℕ → Type 0
IsVlqNumber most n [] = ⊥
IsVlqNumber most n (c ∷ []) = (n < 32) × (digit_value c ≡ Some n)
IsVlqNumber most n (c ∷ d ∷ cs) =
    (1 < most) × (low high : ℕ) × (low < 32) × (digit_value c ≡ Some (low + 32)) × (n ≡ low + 32 * high) × IsVlqNumber (most - 1) high (d ∷ cs)

-- how many digits a number has at most: seven are enough for the distance between any two fields of 32 bits, and its sign
abbrev pub max_digits : ℕ
max_digits = 7

-- the values that a field may have
abbrev pub within : ℕ → Option ℕ
within field = if nat_lt field (2 ^ 32) then Some field else None

abbrev pub lowered : (field distance : ℕ) → Option ℕ
lowered field distance = if nat_lt field distance then None else Some (field - distance)

-- How a number moves a field from the one before: bit 0 is the sign, and the bits above it are the distance. Minus zero means
-- the distance 2^31.
abbrev pub moved_by : (n before : ℕ) → Option ℕ
moved_by n before =
    if n % 2 == 0 then within (before + n / 2)
    else if n == 1 then lowered before (2 ^ 31)
    else lowered before (n / 2)

-- the text encodes how the field after another differs from it
abbrev pub IsField : (before field : ℕ) → List ℕ → Type 0
IsField before field text = (n : ℕ) × (moved_by n before ≡ Some field) × IsVlqNumber max_digits n text
