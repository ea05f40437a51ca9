-- Appending the bytes of a number one after the other.
use Rattle.std.proofs.Common.{◌≡◌, ℕ, zero, suc, ◌+◌, ◌-◌, ◌/◌, ◌%◌, ◌<◌, cond, ltb, leb as le, ◌&&◌, List, [], ◌∷◌, ◌++◌, refl, append_assoc, arith}
use Rattle.std.proofs.lemmas.List.{append-nil}
use Rattle.dwarf_bytes.specs.Writing.{fixed_bytes, leb}

pub fixed_more : (count value : ℕ) → 0 < count → fixed_bytes count value ≡ value % 256 ∷ fixed_bytes (count - 1) (value / 256)
fixed_more zero value h = absurd (omega arith)
fixed_more (suc count) value h = let k : suc count - 1 ≡ count = omega arith in rw k refl

pub leb_more : (more width value : ℕ) → 0 < more
    → leb more width value ≡ cond (ltb value 128 && le width 1) (value ∷ []) ((value % 128 + 128) ∷ leb (more - 1) (width - 1) (value / 128))
unfolding leb
leb_more zero width value h = absurd (omega arith)
leb_more (suc more) width value h = let k : suc more - 1 ≡ more = omega arith in rw k refl

pub ruleset appending = (fixed_more, leb_more, append_assoc, append-nil)
