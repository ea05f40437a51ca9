-- The bytes of operations that are written.
use Rattle.std.proofs.Common.{◌≡◌, ℕ, zero, suc, ◌+◌, ◌*◌, ◌/◌, ◌^◌, ◌<◌, ◌≤◌, false, eqb, List, [], ◌∷◌, ◌++◌, length, Result, Ok, refl, ap, subst, arith}
use Rattle.std.proofs.lemmas.Bool.{le-leb, lt-leb}
use Rattle.std.proofs.lemmas.Bool.Decides.{nat_tests}
use Rattle.std.proofs.lemmas.List.{append-nil}
use Rattle.wasm_numbers.specs.Numbers.{integer}
use Rattle.wasm_numbers.specs.Reading.{many}
use Rattle.wasm_numbers.specs.Results.{◌>>=◌}
use Rattle.dwarf_bytes.specs.Numbers.{fixed_number}
use Rattle.dwarf_bytes.specs.Writing.{fixed_bytes, padded}
use Rattle.dwarf_bytes.specs.declared.fault.DebugFault.{DebugFault}
use Rattle.dwarf_bytes.proofs.Fixed.{fixed_read}
use Rattle.dwarf_bytes.proofs.Padded.{padded_read}
use Rattle.dwarf_line.specs.LineProgram.{Parameters}
use Rattle.dwarf_line.specs.declared.operation.AddressSize.{AddressSize}
use Rattle.dwarf_line.specs.declared.operation.AddressSize.TheVariants.{Four, Eight}
use Rattle.dwarf_line.specs.declared.operation.Operation.{Operation}
use Rattle.dwarf_line.specs.declared.operation.Operation.TheVariants.{Advance, SetAddress, Special}
use Rattle.dwarf_line.specs.Operations.{widest_advance, address_bytes, extended, is_all, line_operation}
use Rattle.dwarf_line.specs.Repeated.{ReadsAs}
use Rattle.dwarf_bytes.proofs.Local.{parts_again}
use Rattle.dwarf_line.proofs.RepeatedLemmas.{spells_one}

pub first_byte : (b : ℕ) (bytes : List ℕ) → fixed_number 1 (b ∷ bytes) ≡ Ok (b, bytes)
unfolding many
first_byte b bytes = let k : b + 256 * 0 ≡ b = omega arith in ap (λ n. Ok (n, bytes)) k

pub special_spelt : (p : Parameters) (opcode : ℕ) → 0 < p.opcode_base → p.opcode_base ≤ opcode → ReadsAs (line_operation p) (Special opcode ∷ []) (opcode ∷ [])
unfolding line_operation
special_spelt p opcode some above = spells_one (line_operation p) (Special opcode) (opcode ∷ []) (λ following.
    let zeroth : eqb opcode 0 ≡ false = grind (arith, nat_tests) in
    rw (first_byte opcode following, zeroth, le-leb p.opcode_base opcode above) refl)

pub widest_spelt : (p : Parameters) → 8 < p.opcode_base → ReadsAs (line_operation p) (Advance (widest_advance p) ∷ []) (8 ∷ [])
unfolding line_operation
widest_spelt p below = spells_one (line_operation p) (Advance (widest_advance p)) (8 ∷ []) (λ following.
    rw (first_byte 8 following, lt-leb p.opcode_base 8 below) refl)

pub advance_spelt : (p : Parameters) (distance : ℕ) → 2 < p.opcode_base → distance < 2 ^ 64 → ReadsAs (line_operation p) (Advance distance ∷ []) (2 ∷ padded 1 distance)
unfolding line_operation
advance_spelt p distance below fits = spells_one (line_operation p) (Advance distance) (2 ∷ padded 1 distance) (λ following.
    rw (first_byte 2 (padded 1 distance ++ following), lt-leb p.opcode_base 2 below, padded_read 1 distance following fits) refl)

pub length-fixed_bytes : (count value : ℕ) → length (fixed_bytes count value) ≡ count
length-fixed_bytes zero value = refl
length-fixed_bytes (suc count) value = ap suc (length-fixed_bytes count (value / 256))

all_fixed : (count value : ℕ) → value < 256 ^ count → fixed_number count (fixed_bytes count value) ≡ Ok (value, [])
all_fixed count value fits = subst (λ (z : List ℕ). fixed_number count z ≡ Ok (value, [])) (append-nil (fixed_bytes count value)) (fixed_read count value [] fits)

-- DW_LNE_set_address with an address of this size
abbrev pub set_address_text : AddressSize → (address : ℕ) → List ℕ
set_address_text size address = 0 ∷ (address_bytes size + 1) ∷ 2 ∷ fixed_bytes (address_bytes size) address

turned_to : AddressSize → Result (ℕ × List ℕ) DebugFault → Result Operation DebugFault
turned_to size r = (r >>= λ x. Ok (SetAddress size x.0, x.1)) >>= is_all

extended_set : (size : AddressSize) (address : ℕ) → address < 256 ^ address_bytes size → extended (2 ∷ fixed_bytes (address_bytes size) address) ≡ Ok (SetAddress size address)
unfolding turned_to
extended_set Four address fits = ap (λ r. turned_to Four r) (all_fixed 4 address fits)
extended_set Eight address fits = ap (λ r. turned_to Eight r) (all_fixed 8 address fits)

set_address_again : (p : Parameters) (size : AddressSize) (address : ℕ) (following : List ℕ) → address < 256 ^ address_bytes size
    → line_operation p (set_address_text size address ++ following) ≡ Ok (SetAddress size address, following)
unfolding line_operation integer
set_address_again p Four address following fits =
    rw (first_byte 0 (5 ∷ 2 ∷ (fixed_bytes 4 address ++ following)), parts_again (2 ∷ fixed_bytes 4 address) following, extended_set Four address fits) refl
set_address_again p Eight address following fits =
    rw (first_byte 0 (9 ∷ 2 ∷ (fixed_bytes 8 address ++ following)), parts_again (2 ∷ fixed_bytes 8 address) following, extended_set Eight address fits) refl

pub set_address_spelt : (p : Parameters) (size : AddressSize) (address : ℕ) → address < 256 ^ address_bytes size → ReadsAs (line_operation p) (SetAddress size address ∷ []) (set_address_text size address)
set_address_spelt p size address fits = spells_one (line_operation p) (SetAddress size address) (set_address_text size address) (λ following. set_address_again p size address following fits)
