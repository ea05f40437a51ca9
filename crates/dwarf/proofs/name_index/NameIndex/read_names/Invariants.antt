use Rattle.std.proofs.Common.{length}
use Rattle.dwarf_bytes.specs.Numbers.{size_in_bytes, fixed_number}
use Rattle.dwarf.proofs.IndexLemmas.{ReadSoFar}
use Rattle.dwarf.proofs.name_index.NameIndex.read_names.Given as goal

abbrev pub invariant-names : goal.invariant-names
invariant-names l = ReadSoFar (fixed_number (size_in_bytes l.self.size)) l.self.names.rest.now l.left.rest.now l.offsets.items

abbrev pub decreases-names : goal.decreases-names
decreases-names l = length l.left.rest.now
