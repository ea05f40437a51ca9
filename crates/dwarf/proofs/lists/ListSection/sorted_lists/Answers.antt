use Rattle.std.proofs.Common.{rules, ◌≡◌, ◌++◌, List, Ok, inl, inr, sym, ap, ◌∙◌}
use Rattle.std.proofs.lemmas.Result.{err_from_is_err_and}
use Rattle.dwarf_bytes.specs.Sorting.{sorted_by}
use Rattle.dwarf_bytes.proofs.SortingLemmas.{sorted_by_calls}
use Rattle.dwarf.specs.declared.lists.PlacedList.{PlacedList}
use Rattle.dwarf.specs.PlacedLists.{placed_lists}
use Rattle.dwarf.proofs.PlacedLemmas.{both_sorted, first_unplaced, second_unplaced}
use Rattle.dwarf.proofs.lists.ListSection.sorted_lists.Goals as goal

pub returns-clause-sorted : goal.returns-clause-sorted
returns-clause-sorted c =
    let self = c.args.self.now in
    let a = c.in_ok-add_lists.ensures.added in
    let b = c.in_ok-add_lists-2.ensures.added in
    let key = λ (p : PlacedList). p.list.offset in
    let unsorted = c.add_lists-2.new.lists.items in
    let empty : c.add_lists.new.lists.items ≡ a.0 = search rules in
    let both : unsorted ≡ a.0 ++ b.0 = b.2 ∙ ap (λ (l : List PlacedList). l ++ b.0) empty in
    let sorted = sorted_by_calls key unsorted c.sort_by_key.new.self.items c.in_ok-sort_by_key.ensures.sorted c.in_ok-sort_by_key.ensures.stable (λ x r f k. search rules) in
    both_sorted (placed_lists self.kind self.contents.now c.args.uses.0.now) (placed_lists self.kind self.contents.now c.args.uses.1.now) a.0 b.0 a.1 b.1
    ∙ ap Ok (sym (sorted ∙ ap (sorted_by key) both))

pub returns-in_err-add_lists-clause-refused : goal.returns-in_err-add_lists-clause-refused
returns-in_err-add_lists-clause-refused c =
    let self = c.args.self.now in
    let p = err_from_is_err_and c.from_residual.result c.from_residual.ensures.1 in
    rw (p.1, p.2) (elim c.in_err-add_lists.ensures.refused [
      | inl memory ↦ inl memory
      | inr x ↦ inr (x.0, x.1, first_unplaced (placed_lists self.kind self.contents.now c.args.uses.0.now) (placed_lists self.kind self.contents.now c.args.uses.1.now) x.0 x.2)
    ])

pub returns-in_err-add_lists-2-clause-refused : goal.returns-in_err-add_lists-2-clause-refused
returns-in_err-add_lists-2-clause-refused c =
    let self = c.args.self.now in
    let a = c.in_ok-add_lists.ensures.added in
    let p = err_from_is_err_and c.from_residual-in_err-add_lists-2.result c.from_residual-in_err-add_lists-2.ensures.1 in
    rw (p.1, p.2) (elim c.in_err-add_lists-2.ensures.refused [
      | inl memory ↦ inl memory
      | inr x ↦ inr (x.0, x.1, second_unplaced (placed_lists self.kind self.contents.now c.args.uses.0.now) (placed_lists self.kind self.contents.now c.args.uses.1.now) a.0 x.0 a.1 x.2)
    ])
