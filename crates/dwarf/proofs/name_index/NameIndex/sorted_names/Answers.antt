use Rattle.std.proofs.Common.{ℕ}
use Rattle.std.proofs.lemmas.List.Sorted.{IsNonDecreasingBy-from_sort}
use Rattle.dwarf_bytes.proofs.SortingLemmas.{sorted_is}
use Rattle.dwarf.proofs.name_index.NameIndex.sorted_names.Goals as goal

pub returns-clause-read : goal.returns-clause-read
returns-clause-read c =
    let ns = c.in_ok-offsets.offsets.items in
    let sorted = c.sort.new.self.items in (
      ns,
      c.in_ok-offsets.ensures.read,
      sorted_is (λ (n : ℕ). n) ns sorted (IsNonDecreasingBy-from_sort (λ (n : ℕ). n) sorted c.in_ok-sort.ensures.sorted) c.in_ok-sort.ensures.stable,
    )
