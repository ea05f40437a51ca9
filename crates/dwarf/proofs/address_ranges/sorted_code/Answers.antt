use Rattle.std.proofs.Common.{rules, ◌≡◌, sym, ap, ◌∙◌, List}
use Rattle.std.specs.List.{list_any}
use Rattle.std.proofs.lemmas.List.Sorted.{IsNonDecreasingBy-from_sort_by_key, list_any-IsPermutation}
use Rattle.dwarf_info.specs.declared.moved.CodeRange.{CodeRange}
use Rattle.dwarf.proofs.address_ranges.sorted_code.Goals as goal

pub returns-clause-sorted : goal.returns-clause-sorted
returns-clause-sorted c =
    IsNonDecreasingBy-from_sort_by_key (λ (r : CodeRange). r.begin) c.sort_by_key.new.self.items c.in_ok-sort_by_key.ensures.sorted (λ a r f k. search rules)

pub returns-clause-same : goal.returns-clause-same
returns-clause-same c = λ p.
    let before = c.extend_from_slice.new.self.items in
    let all : before ≡ c.args.code.now = search rules in
    sym (list_any-IsPermutation p before c.sort_by_key.new.self.items c.sort_by_key.ensures.permutation) ∙ ap (λ (l : List CodeRange). list_any p l) all
