-- How many bytes a number takes, and that places after it are in 64 bits.
use Rattle.std.proofs.Common.{◌≡◌, ℕ, zero, suc, ◌+◌, ◌-◌, ◌*◌, ◌^◌, ◌<◌, ◌≤◌, List, [], ◌∷◌, length, Ok, ap, arith}
use Rattle.wasm_numbers.proofs.ResultLemmas.{bind_ok, with_fault_ok, ok_same}
use Rattle.wasm_numbers.specs.Numbers.{byte, as_bits, bits}
use Rattle.wasm_numbers.specs.Reading.{many}
use Rattle.wasm_numbers.specs.Results.{◌>>=◌}
use Rattle.wasm_numbers.specs.declared.fault.ReadFault.{ReadFault}
use Rattle.dwarf_bytes.specs.declared.size.Size.{Size}
use Rattle.dwarf_bytes.specs.declared.size.Size.TheVariants.{One, Two, Three, Four, Eight}
use Rattle.dwarf_bytes.specs.Faults.{debug_fault_of}
use Rattle.dwarf_bytes.specs.Numbers.{size_in_bytes, fixed_number}

byte_taken : (bytes : List ℕ) (x : ℕ) (rest : List ℕ) → byte bytes ≡ Ok (x, rest) → length bytes ≡ suc (length rest)
byte_taken [] x rest e = absurd cc
byte_taken (b ∷ bytes) x rest e =
    let same = ok_same {E = ReadFault} (b, bytes) (x, rest) e in
    let left : bytes ≡ rest = ap (λ (z : ℕ × List ℕ). z.1) {x = (b, bytes)} same in
    omega (arith, ap length left)

many_taken : (count : ℕ) (bytes xs rest : List ℕ) → many byte count bytes ≡ Ok (xs, rest) → length bytes ≡ count + length rest
unfolding many
many_taken zero bytes xs rest e =
    let same = ok_same {E = ReadFault} ([], bytes) (xs, rest) e in
    let left : bytes ≡ rest = ap (λ (z : List ℕ × List ℕ). z.1) {x = ([], bytes)} same in
    omega (arith, ap length left)
many_taken (suc count) bytes xs rest e =
    let x = bind_ok (byte bytes) (λ x. many byte count x.1 >>= λ others. Ok (x.0 ∷ others.0, others.1)) (xs, rest) e in
    let ys = bind_ok (many byte count x.0.1) (λ others. Ok (x.0.0 ∷ others.0, others.1)) (xs, rest) x.2 in
    let same = ok_same {E = ReadFault} (x.0.0 ∷ ys.0.0, ys.0.1) (xs, rest) ys.2 in
    let left : ys.0.1 ≡ rest = ap (λ (z : List ℕ × List ℕ). z.1) {x = (x.0.0 ∷ ys.0.0, ys.0.1)} same in
    omega (arith, byte_taken bytes x.0.0 x.0.1 x.1, many_taken count x.0.1 ys.0.0 ys.0.1 ys.1, ap length left)

pub number_taken : (count : ℕ) (bytes : List ℕ) (x : ℕ) (rest : List ℕ) → fixed_number count bytes ≡ Ok (x, rest) → length bytes ≡ count + length rest
number_taken count bytes x rest e =
    let read = with_fault_ok debug_fault_of (bits count bytes) (x, rest) e in
    let bs = bind_ok (many byte count bytes) (λ bs. as_bits bs.0 >>= λ v. Ok (v, bs.1)) (x, rest) read in
    let v = bind_ok (as_bits bs.0.0) (λ v. Ok (v, bs.0.1)) (x, rest) bs.2 in
    let same = ok_same {E = ReadFault} (v.0, bs.0.1) (x, rest) v.2 in
    let left : bs.0.1 ≡ rest = ap (λ (z : ℕ × List ℕ). z.1) {x = (v.0, bs.0.1)} same in
    omega (arith, many_taken count bytes bs.0.0 bs.0.1 bs.1, ap length left)

most : (size : Size) → size_in_bytes size ≤ 8
most One = omega arith
most Two = omega arith
most Three = omega arith
most Four = omega arith
most Eight = omega arith

-- The place after a number that is read is one of 64 bits, where the place after all bytes is.
pub place_after : (end : ℕ) (size : Size) (bytes : List ℕ) (x : ℕ) (rest : List ℕ) (at : ℕ) → end < 2 ^ 64 → at ≡ end - length bytes
    → fixed_number (size_in_bytes size) bytes ≡ Ok (x, rest) → at + size_in_bytes size ≤ 2 ^ 64 - 1
place_after end size bytes x rest at within is e = omega (arith, within, is, most size, number_taken (size_in_bytes size) bytes x rest e)

-- the same after two
pub place_after_two : (end : ℕ) (size : Size) (bytes : List ℕ) (x : ℕ) (others : List ℕ) (y : ℕ) (rest : List ℕ) (at : ℕ) → end < 2 ^ 64 → at ≡ end - length bytes
    → fixed_number (size_in_bytes size) bytes ≡ Ok (x, others) → fixed_number (size_in_bytes size) others ≡ Ok (y, rest) → at + 2 * size_in_bytes size ≤ 2 ^ 64 - 1
place_after_two end size bytes x others y rest at within is e f =
    omega (arith, within, is, most size, number_taken (size_in_bytes size) bytes x others e, number_taken (size_in_bytes size) others y rest f)
