-- Numbers in DWARF, the least significant byte first, as the numbers of WebAssembly are.
use Rattle.std.specs.Prelude.{ℕ, ℤ, ◌+◌, List, length, take, drop, position, Option, Some, None, Ok, Err, Result, nat_lt, nat_le, ◌==◌, if◌then◌else◌}
use Rattle.wasm_numbers.specs.Numbers.{bits, u64, s64}
use Rattle.wasm_numbers.specs.Results.{◌>>=◌, with_fault}
use Rattle.dwarf_bytes.specs.declared.fault.DebugFault.{DebugFault}
use Rattle.dwarf_bytes.specs.declared.fault.DebugFault.TheVariants.{BadLength, Truncated}
use Rattle.dwarf_bytes.specs.declared.size.Size.{Size}
use Rattle.dwarf_bytes.specs.declared.size.Size.TheVariants.{One, Two, Three, Four, Eight}
use Rattle.dwarf_bytes.specs.declared.size.Format.{Format}
use Rattle.dwarf_bytes.specs.declared.size.Format.TheVariants.{Dwarf32, Dwarf64}
use Rattle.dwarf_bytes.specs.Faults.{debug_fault_of, DebugReader}

abbrev pub size_in_bytes : Size → ℕ
size_in_bytes One = 1
size_in_bytes Two = 2
size_in_bytes Three = 3
size_in_bytes Four = 4
size_in_bytes Eight = 8

-- a number of this many bytes
abbrev pub fixed_number : (count : ℕ) → DebugReader ℕ
fixed_number count bytes = with_fault debug_fault_of (bits count bytes)

-- numbers in LEB128 (DWARF 5, section 7.6), of at most 64 bits
abbrev pub unsigned_leb : DebugReader ℕ
unsigned_leb bytes = with_fault debug_fault_of (u64 bytes)

abbrev pub signed_leb : DebugReader ℤ
signed_leb bytes = with_fault debug_fault_of (s64 bytes)

-- the size of an offset (DWARF 5, section 7.4)
abbrev pub offset_size : Format → Size
offset_size Dwarf32 = Four
offset_size Dwarf64 = Eight

abbrev pub offset : Format → DebugReader ℕ
offset format = fixed_number (size_in_bytes (offset_size format))

-- The length at the beginning of a unit or a table (DWARF 5, section 7.4): four bytes, or ff ff ff ff and eight. Those from
-- ff ff ff f0 on are reserved.
abbrev pub length_after : ℕ × List ℕ → Result ((Format × ℕ) × List ℕ) DebugFault
length_after (n, rest) =
    if nat_lt n 0xffff_fff0 then Ok ((Dwarf32, n), rest)
    else if n == 0xffff_ffff then (fixed_number 8 rest >>= λ long. Ok ((Dwarf64, long.0), long.1))
    else Err BadLength

abbrev pub initial_length : DebugReader (Format × ℕ)
initial_length bytes = fixed_number 4 bytes >>= length_after

-- the first bytes, of this number, and those that follow them
abbrev pub part_and_rest : (count : ℕ) → DebugReader (List ℕ)
part_and_rest count bytes = if nat_le count (length bytes) then Ok (take count bytes, drop count bytes) else Err BadLength

-- the bytes up to the first one that is zero, and that one
abbrev pub up_to_zero : (zero_at : Option ℕ) → DebugReader (List ℕ)
up_to_zero None bytes = Err Truncated
up_to_zero (Some n) bytes = part_and_rest (n + 1) bytes

abbrev pub terminated : DebugReader (List ℕ)
terminated bytes = up_to_zero (position (λ b. b == 0) bytes) bytes
