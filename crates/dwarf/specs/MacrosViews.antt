-- The flags of a unit of macros as the code has them.
use Rattle.dwarf.specs.declared.macros.Flags.{Flags}
use Rattle.dwarf.specs.Macros.{MacroFlags}

abbrev pub macro_flags_of : Flags → MacroFlags
macro_flags_of f = record { size = f.size; has_table = f.has_table }
