use Rattle.std.proofs.Common.{◌≡◌, ℕ, List, Ok, ap, subst, ◌∙◌}
use denote.Ref.{Bor}
use Rattle.module_removal.specs.Entries.{entries_made}
use Rattle.module_removal.specs.LeftParts.{new_number_in, numbered_items, items_numbered, with_items_of}
use Rattle.module_removal.proofs.LeftSectionLemmas.{ok_then}
use Rattle.module_removal.proofs.followed.Followed.put_function.Goals as goal

pub returns-clause-is : goal.returns-clause-is
returns-clause-is c = λ order.
    let parts = c.args.self.now.parts.items in
    let func = c.in-Ok.value in
    let items = c.in-Ok-items_of.ensures.is order in
    let sorted = items_numbered c.in-Ok-items_of.value.items in
    let following = c.items_of.new.input.rest.now in
    ok_then c.add_function.result c.add_function.ensures
    (λ made. (
      func,
      c.number.new.self.rest.now,
      items.0,
      sorted,
      c.in-Ok.ensures.is,
      subst (λ (n : ℕ). numbered_items (new_number_in parts func) n c.number.new.self.rest.now ≡ Ok (items.0, following)) c.in-Ok.ensures.same_end items.1,
      items.2,
      c.in-Ok-items_of.ensures.ascending,
      made
          ∙ ap (λ (l : List (ℕ × Bor (List ℕ))). with_items_of c.new_index-new.result (items_numbered l) (entries_made c.args.functions.now)) c.deref.ensures.value
          ∙ ap (λ i. with_items_of i sorted (entries_made c.args.functions.now)) c.new_index-new.ensures,
    ))
