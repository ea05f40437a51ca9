use Rattle.std.proofs.Common.{◌≡◌, []}
use Rattle.module_removal.specs.Entries.{entries_made}
use Rattle.module_removal.specs.LeftNames.{next_map_entry}
use Rattle.module_removal.proofs.VectorLemmas.{PartsLeft}
use Rattle.module_removal.proofs.names.left_items.Given as goal

abbrev pub invariant-entries : goal.invariant-entries
invariant-entries l = record {
  same_end : l.input.end ≡ l.contents.end;
  left :
      PartsLeft (next_map_entry l.left l.space l.are_maps) l.count l.counter (0, []) (entries_made l.entries) l.contents.end l.contents.rest.now l.input.rest.now;
}
