use Rattle.std.proofs.Common.{◌≡◌, ◌+◌, ◌≤◌, ◌++◌, length, vec_len, vec_capacity}
use Rattle.std.specs.Vec.Iter.{into_iter_items, into_iter_len}
use Rattle.walrus_insertion.specs.Edits.{edited}
use Rattle.walrus_insertion.proofs.merging.append.Given as goal

abbrev pub invariant-edits : goal.invariant-edits
invariant-edits l = record {
  same : l.made.items ++ edited l.left (into_iter_items l.rest) ≡ l.fn.made.items ++ edited l.fn.edits l.fn.old.items;
  room : vec_len l.made + length (edited l.left (into_iter_items l.rest)) ≤ vec_capacity l.made;
}

abbrev pub decreases-edits : goal.decreases-edits
decreases-edits l = length l.left

abbrev pub invariant-rest : goal.invariant-rest
invariant-rest l = record {
  same : l.made.items ++ into_iter_items l.rest ≡ l.fn.made.items ++ edited l.fn.edits l.fn.old.items;
  room : vec_len l.made + length (into_iter_items l.rest) ≤ vec_capacity l.made;
}

abbrev pub decreases-rest : goal.decreases-rest
decreases-rest l = into_iter_len l.rest
