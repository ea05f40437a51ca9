use Rattle.std.proofs.Common.{◌≡◌, []}
use Rattle.module_removal.specs.LeftParts.{ArePartsInOrder, new_number_in, next_item, items_numbered}
use Rattle.module_removal.proofs.VectorLemmas.{PartsLeft}
use Rattle.module_removal.proofs.followed.Followed.items_of.Given as goal

abbrev pub invariant-items : goal.invariant-items
invariant-items l = record {
  same_end : l.input.end ≡ l.fn.input.end;
  left :
      ArePartsInOrder l.self.parts.items
      → PartsLeft (next_item (new_number_in l.self.parts.items l.func)) l.count l.counter [] (items_numbered l.items.items) l.fn.input.end l.fn.input.rest.now l.input.rest.now;
}
