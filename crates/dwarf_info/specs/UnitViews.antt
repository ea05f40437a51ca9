-- Units as the code has them.
use Rattle.dwarf_info.specs.declared.unit.Header.{Header}
use Rattle.dwarf_info.specs.declared.unit.Unit.{Unit}
use Rattle.dwarf_info.specs.Units.{HeaderOfUnit, SpelledUnit}
use Rattle.dwarf_info.specs.Views.{declarations_of}

abbrev pub header_of : Header → HeaderOfUnit
header_of h = record { address_size = h.address_size; abbreviations = h.abbreviations; type_offset = h.type_offset }

abbrev pub unit_of : Unit → SpelledUnit
unit_of u = record {
  start = u.start;
  encoding = u.encoding;
  declarations = declarations_of u.abbreviations;
  type_offset = u.type_offset;
  entries = u.entries.rest.now;
  end = u.entries.end;
}
