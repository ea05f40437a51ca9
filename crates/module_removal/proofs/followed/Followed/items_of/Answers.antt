use Rattle.std.proofs.Common.{ℕ, List, [], sym, subst, ◌∙◌, rules}
use Rattle.std.proofs.lemmas.List.Sorted.{IsNonDecreasingBy-from_sort_by_key, IsPermutation-map}
use denote.Ref.{Bor}
use Rattle.module_removal.specs.LeftParts.{new_number_in, FunctionItem, next_item, items_numbered}
use Rattle.module_removal.proofs.FollowedLemmas.{rises_as}
use Rattle.module_removal.proofs.VectorLemmas.{PartsLeft, no_part_read, one_more_part, all_parts_read}
use Rattle.module_removal.proofs.followed.Followed.items_of.Goals as goal

pub items-init : goal.items-init
items-init c =
    let step = next_item (new_number_in c.args.self.now.parts.items c.args.func) in
    record {
      same_end = c.number.ensures.same_end;
      left = λ order.
          subst (λ (l : List (ℕ × Bor (List ℕ))). PartsLeft step c.in-Ok.value 0 [] (items_numbered l) c.args.input.now.end c.args.input.now.rest.now c.number.new.self.rest.now)
          (sym c.new-items.ensures.items)
          (no_part_read step c.in-Ok.value [] c.args.input.now.end c.args.input.now.rest.now c.number.new.self.rest.now c.in-Ok.ensures.is);
    }

pub items-preserved : goal.items-preserved
items-preserved c =
    let at = c.items in
    record {
      same_end = c.add_item.ensures.same_end ∙ at.invariant.same_end;
      left = λ order.
          one_more_part (next_item (new_number_in c.args.self.now.parts.items c.args.func)) c.in-Ok.value at.counter [] (items_numbered at.items.items)
          (items_numbered c.add_item.new.items.items) c.args.input.now.end at.input.end c.args.input.now.rest.now at.input.rest.now c.add_item.new.input.rest.now
          (at.invariant.left order) c.items-test.true at.invariant.same_end (c.in-Ok-add_item.ensures.is order);
    }

pub returns-clause-is : goal.returns-clause-is
returns-clause-is c = λ order.
    let at = c.items in
    let numbered : ℕ × Bor (List ℕ) → FunctionItem = λ x. (x.0, x.1.now) in (
      items_numbered at.items.items,
      all_parts_read (next_item (new_number_in c.args.self.now.parts.items c.args.func)) c.in-Ok.value at.counter [] (items_numbered at.items.items) c.args.input.now.end
          c.args.input.now.rest.now at.input.rest.now (at.invariant.left order) c.items-test.false,
      IsPermutation-map numbered at.items.items c.sort_unstable_by_key.new.self.items c.sort_unstable_by_key.ensures.permutation,
    )

pub returns-clause-ascending : goal.returns-clause-ascending
returns-clause-ascending c =
    rises_as c.sort_unstable_by_key.new.self.items
    (IsNonDecreasingBy-from_sort_by_key (λ (x : ℕ × Bor (List ℕ)). x.0) c.sort_unstable_by_key.new.self.items c.sort_unstable_by_key.ensures.sorted
    (λ a r f k. search rules))
