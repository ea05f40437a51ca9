-- Numbers whose values don't matter.
use Rattle.std.proofs.Common.{◌≡◌, ℕ, zero, suc, ◌-◌, ◌<◌, List, Ok, Err, refl, arith}
use Rattle.dwarf_bytes.specs.Numbers.{unsigned_leb}
use Rattle.dwarf_bytes.specs.declared.fault.DebugFault.{DebugFault}
use Rattle.dwarf_line.specs.Operations.{numbers}

pub no_numbers : (bytes : List ℕ) → numbers 0 bytes ≡ Ok (tt, bytes)
unfolding numbers
no_numbers bytes = refl

pub numbers_more : (count : ℕ) (bytes : List ℕ) (n : ℕ) (rest : List ℕ) → 0 < count → unsigned_leb bytes ≡ Ok (n, rest) → numbers count bytes ≡ numbers (count - 1) rest
unfolding numbers
numbers_more zero bytes n rest some e = absurd (omega arith)
numbers_more (suc count) bytes n rest some e = let k : suc count - 1 ≡ count = omega arith in rw (e, k) refl

pub numbers_fault : (count : ℕ) (bytes : List ℕ) (d : DebugFault) → 0 < count → unsigned_leb bytes ≡ Err d → numbers count bytes ≡ Err d
unfolding numbers
numbers_fault zero bytes d some e = absurd (omega arith)
numbers_fault (suc count) bytes d some e = rw e refl

pub ruleset number_steps = (no_numbers, numbers_more, numbers_fault)
