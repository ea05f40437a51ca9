use Rattle.std.proofs.Common.{◌≡◌, [], length}
use Rattle.dwarf_bytes.specs.Patches.{changes}
use Rattle.dwarf.specs.IndexEntries.{index_followed}
use Rattle.dwarf.proofs.Repeating.{ReplacedSoFar}
use Rattle.dwarf.proofs.name_index.follow_name_index.Given as goal

abbrev pub invariant-indices : goal.invariant-indices
invariant-indices l = record {
  so_far : ReplacedSoFar (index_followed (changes l.info) (length l.section)) l.section [] l.input.rest.now (changes l.out);
  same_end : l.input.end ≡ length l.section;
}

abbrev pub decreases-indices : goal.decreases-indices
decreases-indices l = length l.input.rest.now
