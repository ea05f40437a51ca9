-- Parts of a section that are replaced. Everything else is copied.
use Rattle.std.specs.Prelude.{ℕ, ◌-◌, ◌^◌, nat_lt, if◌then◌else◌, List, [], ◌∷◌, slice_range, Result, Ok, Err}
use Rattle.dwarf_bytes.specs.Changes.{SectionChange}
use Rattle.dwarf_bytes.specs.declared.fault.DebugFault.{DebugFault}
use Rattle.dwarf_bytes.specs.declared.fault.DebugFault.TheVariants.{DoesNotFit}
use Rattle.dwarf_bytes.specs.declared.patches.Patch.{Patch}
use Rattle.dwarf_bytes.specs.declared.patches.Patches.{Patches}
use Rattle.dwarf_bytes.specs.declared.size.Size.{Size}
use Rattle.dwarf_bytes.specs.Numbers.{size_in_bytes}
use Rattle.dwarf_bytes.specs.Writing.{fixed_bytes}

-- the parts that are replaced, of which the first begins to be told at this place of the bytes
abbrev pub changes_from : (start : ℕ) → List Patch → (bytes : List ℕ) → List SectionChange
changes_from start [] bytes = []
changes_from start (p ∷ ps) bytes =
    (record { at = p.at; old = p.stop - p.at; new = slice_range bytes start p.end }) ∷ changes_from p.end ps bytes

abbrev pub changes : Patches → List SectionChange
changes p = changes_from 0 p.patches.items p.bytes.items

-- a part by its place, how many bytes it has, and the bytes that replace it
abbrev pub part_of : (at old : ℕ) → (new : List ℕ) → SectionChange
part_of at old new = record { at = at; old = old; new = new }

-- so many bytes become a number of this size
abbrev pub sized_part_of : (at old : ℕ) → Size → (number : ℕ) → Result SectionChange DebugFault
sized_part_of at old size n =
    if nat_lt n (256 ^ size_in_bytes size) then Ok (part_of at old (fixed_bytes (size_in_bytes size) n)) else Err DoesNotFit
