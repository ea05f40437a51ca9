use Rattle.std.proofs.Common.{◌≡◌, length}
use Rattle.dwarf_bytes.specs.Patches.{changes}
use Rattle.dwarf.specs.NameIndexViews.{index_following}
use Rattle.dwarf.proofs.IndexLemmas.{EntriesSoFar}
use Rattle.dwarf.proofs.name_index.Following.follow_name.Given as goal

abbrev pub invariant-entries : goal.invariant-entries
invariant-entries l = record {
  so_far : EntriesSoFar (index_following l.self) l.initial.left.rest.now (changes l.fn.out) l.left.rest.now (changes l.out);
  same_end : l.left.end ≡ l.self.index.pool.end;
}

abbrev pub decreases-entries : goal.decreases-entries
decreases-entries l = length l.left.rest.now
