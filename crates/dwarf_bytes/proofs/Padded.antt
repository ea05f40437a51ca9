-- A number that is written in LEB128 is read.
use Rattle.std.proofs.Common.{◌≡◌, ℕ, zero, suc, ◌+◌, ◌-◌, ◌*◌, ◌/◌, ◌%◌, ◌^◌, ◌<◌, ◌≤◌, ◌&&◌, true, false, ltb, leb as le, length, List, ◌∷◌, ◌++◌, Ok, refl, ap, ◌∙◌, inl, inr, arith}
use Rattle.std.proofs.lemmas.Bool.{cases_Bool, and_parts, ltb-true, lt-leb, le-ltb}
use Rattle.std.proofs.lemmas.Bool.Decides.{nat_tests}
use Rattle.std.proofs.Math.Pow.{pow_mono}
use Rattle.wasm_numbers.proofs.Powers.{pow_split}
use Rattle.wasm_numbers.specs.Numbers.{integer, unsigned}
use Rattle.wasm_numbers.specs.Results.{with_fault}
use Rattle.dwarf_bytes.specs.Faults.{debug_fault_of}
use Rattle.dwarf_bytes.specs.Numbers.{unsigned_leb}
use Rattle.dwarf_bytes.specs.Writing.{leb, padded}

one_byte : (bits value : ℕ) (following : List ℕ) → value < 128 → value < 2 ^ bits → integer unsigned bits (value ∷ following) ≡ Ok (value, following)
unfolding integer
one_byte bits value following low fits = grind (arith, nat_tests)

more_bytes : (bits low high : ℕ) (rest following : List ℕ) → low < 128 → 7 < bits → integer unsigned (bits - 7) rest ≡ Ok (high, following) → integer unsigned bits ((low + 128) ∷ rest) ≡ Ok (low + 128 * high, following)
unfolding integer
more_bytes bits low high rest following small wide e =
    let a : ltb (low + 128) 128 ≡ false = le-ltb (low + 128) 128 (omega arith) in
    let b : le bits 7 ≡ false = lt-leb bits 7 wide in
    let k : low + 128 - 128 ≡ low = omega arith in
    rw (a, b, e, k) refl

-- a number below 2 ^ bits without its low seven bits
high_fits : (bits value : ℕ) → 7 < bits → value < 2 ^ bits → value / 128 < 2 ^ (bits - 7)
high_fits bits value wide h = omega (arith, pow_split bits wide)

parts_of : (value : ℕ) → value % 128 + 128 * (value / 128) ≡ value
parts_of value = omega arith

pub leb_read : (more bits width value : ℕ) (following : List ℕ) → 7 * more < bits → bits ≤ 7 * more + 7 → value < 2 ^ bits → integer unsigned bits (leb more width value ++ following) ≡ Ok (value, following)
unfolding leb
leb_read zero bits width value following low high fits =
    let most : 2 ^ bits ≤ 2 ^ 7 = pow_mono {i = bits} {j = 7} high in
    let k : value % 128 ≡ value = omega arith in
    rw k (one_byte bits value following (omega arith) fits)
leb_read (suc more) bits width value following low high fits =
    elim (cases_Bool (ltb value 128 && le width 1)) [
      | inl t ↦ rw t (one_byte bits value following (ltb-true value 128 (and_parts (ltb value 128) (le width 1) t).0) fits)
      | inr f ↦
          let wide : 7 < bits = omega arith in
          let rest = leb_read more (bits - 7) (width - 1) (value / 128) following (omega arith) (omega arith) (high_fits bits value wide fits) in
          rw f (more_bytes bits (value % 128) (value / 128) _ following (omega arith) wide rest ∙ ap (λ n. Ok (n, following)) (parts_of value))
    ]

pub padded_read : (width value : ℕ) (following : List ℕ) → value < 2 ^ 64 → unsigned_leb (padded width value ++ following) ≡ Ok (value, following)
padded_read width value following h = ap (with_fault debug_fault_of) (leb_read 9 64 width value following (omega arith) (omega arith) h)

pub leb_width : (more width value : ℕ) → 0 < width → width ≤ suc more → value < 128 ^ width → length (leb more width value) ≡ width
unfolding leb
leb_width zero width value some few fits = omega arith
leb_width (suc more) zero value some few fits = elim some [ ]
leb_width (suc more) (suc zero) value some few fits =
    let t : ltb value 128 ≡ true = grind (arith, nat_tests) in
    rw t refl
leb_width (suc more) (suc (suc width)) value some few fits =
    let w : le (suc (suc width)) 1 ≡ false = lt-leb (suc (suc width)) 1 (omega arith) in
    let k : suc (suc width) - 1 ≡ suc width = omega arith in
    let high : value / 128 < 128 ^ suc width = grind arith in
    elim (cases_Bool (ltb value 128)) [
      | inl t ↦ rw (t, w, k) (ap suc (leb_width more (suc width) (value / 128) (omega arith) (omega arith) high))
      | inr f ↦ rw (f, k) (ap suc (leb_width more (suc width) (value / 128) (omega arith) (omega arith) high))
    ]
