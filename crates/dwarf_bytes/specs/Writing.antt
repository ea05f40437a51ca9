-- Numbers as they are written.
use Rattle.std.specs.Prelude.{◌≡◌, ℕ, zero, suc, ◌+◌, ◌-◌, ◌/◌, ◌%◌, ◌^◌, ◌<◌, ◌≤◌, ◌&&◌, List, [], ◌∷◌, ◌++◌, length, Ok, nat_lt, nat_le, if◌then◌else◌}
use Rattle.dwarf_bytes.specs.declared.size.Size.{Size}
use Rattle.dwarf_bytes.specs.Numbers.{size_in_bytes, fixed_number, unsigned_leb}

-- a number as this many bytes
abbrev pub fixed_bytes : (count value : ℕ) → List ℕ
fixed_bytes zero value = []
fixed_bytes (suc count) value = value % 256 ∷ fixed_bytes count (value / 256)

-- A number in LEB128 (DWARF 5, section 7.6): in this many bytes, or in more if it needs them. `more`: how many bytes may be in
-- front of the last one.
unfoldable pub leb : (more width value : ℕ) → List ℕ
leb zero width value = value % 128 ∷ []
leb (suc more) width value =
    if nat_lt value 128 && nat_le width 1 then value ∷ [] else (value % 128 + 128) ∷ leb more (width - 1) (value / 128)

-- a number of 64 bits has at most ten bytes
abbrev pub padded : (width value : ℕ) → List ℕ
padded = leb 9

-- ---- laws

-- What is written of a number is read as this number.
abbrev pub Sized : Type 0
Sized = (size : Size) (value : ℕ) (following : List ℕ) → value < 256 ^ size_in_bytes size
    → fixed_number (size_in_bytes size) (fixed_bytes (size_in_bytes size) value ++ following) ≡ Ok (value, following)

abbrev pub Padded : Type 0
Padded = (width value : ℕ) (following : List ℕ) → value < 2 ^ 64 → unsigned_leb (padded width value ++ following) ≡ Ok (value, following)

-- The width is kept where the number fits it.
abbrev pub KeepsWidth : Type 0
KeepsWidth = (width value : ℕ) → 0 < width → width ≤ 10 → value < 128 ^ width → length (padded width value) ≡ width
