-- The faults of DWARF.
use Rattle.std.specs.Prelude.{List, ℕ, Result}
use Rattle.wasm_numbers.specs.declared.fault.ReadFault.{ReadFault}
use Rattle.wasm_numbers.specs.declared.fault.ReadFault.TheVariants as read
use Rattle.dwarf_bytes.specs.declared.fault.DebugFault.{DebugFault}
use Rattle.dwarf_bytes.specs.declared.fault.DebugFault.TheVariants as faults

-- the fault of a number that can't be read
abbrev pub debug_fault_of : ReadFault → DebugFault
debug_fault_of read.Truncated = faults.Truncated
debug_fault_of _ = faults.BadNumber

-- the value at the front of some bytes and the bytes that follow it, or the fault if there is none
abbrev pub DebugReader : Type 0 → Type 0
DebugReader A = List ℕ → Result (A × List ℕ) DebugFault
