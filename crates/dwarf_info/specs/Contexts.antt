-- What attributes are read with, as the code has it.
use Rattle.dwarf_bytes.specs.Addresses.{addresses_of_table}
use Rattle.dwarf_info.specs.declared.context.Bases.{Bases}
use Rattle.dwarf_info.specs.declared.context.Context.{Context}
use Rattle.dwarf_info.specs.Effects.{UnitBases, EntryContext}

abbrev pub unit_bases : Bases → UnitBases
unit_bases b = record { addresses = addresses_of_table b.addresses; ranges = b.ranges; locations = b.locations; low = b.low }

abbrev pub context_of_entry : Context → EntryContext
context_of_entry c = record {
  bodies = c.moves.now.bodies.items;
  encoding = c.encoding;
  unit = c.unit;
  bases = unit_bases c.bases;
  scope = c.scope;
  tag = c.tag;
  low = c.low;
}
