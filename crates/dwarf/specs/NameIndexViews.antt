-- An index of names as the code has it.
use Rattle.std.specs.Prelude.{List, map}
use Rattle.dwarf.specs.declared.index_abbreviations.IndexAbbreviations.{IndexAbbreviations}
use Rattle.dwarf.specs.declared.name_index.Counts.{Counts}
use Rattle.dwarf.specs.declared.name_index.Following.{Following}
use Rattle.dwarf.specs.declared.name_index.NameIndex.{NameIndex}
use Rattle.dwarf_bytes.specs.declared.cursor.Cursor.{Cursor}
use Rattle.dwarf_bytes.specs.Patches.{changes}
use Rattle.dwarf.specs.IndexEntries.{IndexDeclaration, IndexFollowing, attributes_with}
use Rattle.dwarf.specs.IndexInMemory.{index_declaration_of}
use Rattle.dwarf.specs.NameIndex.{IndexCounts, PlacedBytes, SpelledIndex}

abbrev pub counts_of : Counts → IndexCounts
counts_of c = record {
  compile_units = c.compile_units;
  type_units = c.type_units;
  foreign = c.foreign;
  buckets = c.buckets;
  names = c.names;
  abbreviations = c.abbreviations;
}

abbrev pub placed_bytes : Cursor → PlacedBytes
placed_bytes c = record { bytes = c.rest.now; end = c.end }

abbrev pub index_spelled : NameIndex → SpelledIndex
index_spelled i = record {
  size = i.size;
  compile_units = placed_bytes i.compile_units;
  type_units = placed_bytes i.type_units;
  type_unit_count = i.type_unit_count;
  foreign = i.foreign;
  names = i.names.rest.now;
  abbreviations = i.abbreviations.rest.now;
  pool = placed_bytes i.pool;
}

abbrev pub index_declarations_of : IndexAbbreviations → List IndexDeclaration
index_declarations_of a = map (index_declaration_of a.attributes.items) a.abbreviations.items

abbrev pub index_following : Following → IndexFollowing
index_following f =
    record { index = index_spelled f.index; attributes = attributes_with (index_declarations_of f.abbreviations.now); info = changes f.info.now }
