-- The names of a unit as the code has them.
use Rattle.std.specs.Prelude.{ℕ}
use Rattle.dwarf_bytes.specs.Patches.{changes}
use Rattle.dwarf.specs.declared.names.Names.{Names}
use Rattle.dwarf.specs.Names.{NamesOfUnit}

abbrev pub names_of_unit : Names → (end : ℕ) → NamesOfUnit
names_of_unit n end = record { info = changes n.info.now; unit = n.unit; size = n.size; is_gnu = n.is_gnu; end = end }
