-- A number that is written as so many bytes is read.
use Rattle.std.proofs.Common.{◌≡◌, ℕ, zero, suc, ◌/◌, ◌^◌, ◌<◌, List, ◌++◌, Ok, refl, ap, arith}
use Rattle.wasm_numbers.specs.Reading.{many}
use Rattle.wasm_numbers.specs.Numbers.{byte, joined}
use Rattle.dwarf_bytes.specs.Numbers.{fixed_number}
use Rattle.dwarf_bytes.specs.Writing.{fixed_bytes}

pub bytes_read : (count value : ℕ) (following : List ℕ) → many byte count (fixed_bytes count value ++ following) ≡ Ok (fixed_bytes count value, following)
unfolding many
bytes_read zero value following = refl
bytes_read (suc count) value following = rw (bytes_read count (value / 256) following) refl

pub joined_bytes : (count value : ℕ) → value < 256 ^ count → joined (fixed_bytes count value) ≡ value
joined_bytes zero value h = omega arith
joined_bytes (suc count) value h =
    let high : value / 256 < 256 ^ count = grind arith in
    rw (joined_bytes count (value / 256) high) (omega arith)

pub fixed_read : (count value : ℕ) (following : List ℕ) → value < 256 ^ count → fixed_number count (fixed_bytes count value ++ following) ≡ Ok (value, following)
fixed_read count value following h = rw (bytes_read count value following) (ap (λ n. Ok (n, following)) (joined_bytes count value h))
