-- What reads a number takes at least one byte.
use Rattle.std.proofs.Common.{◌≡◌, ℕ, ◌<◌, cond, eqb, ltb, List, [], length, Ok, Err, refl}
use Rattle.std.specs.Prelude.{ℤ}
use Rattle.wasm_numbers.specs.Reading.{many}
use Rattle.wasm_numbers.specs.Numbers.{integer}
use Rattle.wasm_numbers.specs.Results.{◌>>=◌}
use Rattle.dwarf_bytes.specs.declared.fault.DebugFault.TheVariants.{Truncated, BadLength}
use Rattle.dwarf_bytes.specs.declared.size.Size.{Size}
use Rattle.dwarf_bytes.specs.declared.size.Size.TheVariants.{One, Two, Three, Four, Eight}
use Rattle.dwarf_bytes.specs.declared.size.Format.{Format}
use Rattle.dwarf_bytes.specs.declared.size.Format.TheVariants.{Dwarf32, Dwarf64}
use Rattle.dwarf_bytes.specs.Numbers.{size_in_bytes, fixed_number, unsigned_leb, signed_leb, initial_length, length_after}
use Rattle.dwarf_bytes.proofs.Local.{IsLocal, then_local, just_local, fail_local, cond_local, fixed_local, unsigned_local, signed_local, shorter}

pub none_of_size : (size : Size) → fixed_number (size_in_bytes size) [] ≡ Err Truncated
unfolding many
none_of_size One = refl
none_of_size Two = refl
none_of_size Three = refl
none_of_size Four = refl
none_of_size Eight = refl

pub sized_shorter : (size : Size) (bytes : List ℕ) (x : ℕ) (rest : List ℕ) → fixed_number (size_in_bytes size) bytes ≡ Ok (x, rest) → length rest < length bytes
sized_shorter size = shorter (fixed_number (size_in_bytes size)) Truncated (fixed_local (size_in_bytes size)) (none_of_size size)

none_unsigned : unsigned_leb [] ≡ Err Truncated
unfolding integer
none_unsigned = refl

pub unsigned_shorter : (bytes : List ℕ) (x : ℕ) (rest : List ℕ) → unsigned_leb bytes ≡ Ok (x, rest) → length rest < length bytes
unsigned_shorter = shorter unsigned_leb Truncated unsigned_local none_unsigned

none_signed : signed_leb [] ≡ Err Truncated
unfolding integer
none_signed = refl

pub signed_shorter : (bytes : List ℕ) (x : ℤ) (rest : List ℕ) → signed_leb bytes ≡ Ok (x, rest) → length rest < length bytes
signed_shorter = shorter signed_leb Truncated signed_local none_signed

after_local : (n : ℕ) → IsLocal (λ bytes. length_after (n, bytes))
after_local n =
    cond_local (ltb n 0xffff_fff0) (λ bytes. Ok ((Dwarf32, n), bytes))
    (λ bytes. cond (eqb n 0xffff_ffff) (fixed_number 8 bytes >>= λ long. Ok ((Dwarf64, long.0), long.1)) (Err BadLength))
    (just_local (Dwarf32, n))
    (cond_local (eqb n 0xffff_ffff) (λ bytes. fixed_number 8 bytes >>= λ long. Ok ((Dwarf64, long.0), long.1)) (λ bytes. Err BadLength)
    (then_local (fixed_number 8) (λ long bytes. Ok ((Dwarf64, long), bytes)) (fixed_local 8) (λ long. just_local (Dwarf64, long)))
    (fail_local BadLength))

pub initial_local : IsLocal initial_length
initial_local = then_local (fixed_number 4) (λ n bytes. length_after (n, bytes)) (fixed_local 4) after_local

none_initial : initial_length [] ≡ Err Truncated
unfolding many
none_initial = refl

pub initial_shorter : (bytes : List ℕ) (x : Format × ℕ) (rest : List ℕ) → initial_length bytes ≡ Ok (x, rest) → length rest < length bytes
initial_shorter = shorter initial_length Truncated initial_local none_initial
