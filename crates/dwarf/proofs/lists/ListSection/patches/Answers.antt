use Rattle.std.proofs.Common.{List, None, inl, inr, refl, subst}
use Rattle.std.proofs.lemmas.Result.{err_from_is_err_and}
use Rattle.dwarf_bytes.specs.Changes.{SectionChange}
use Rattle.dwarf_bytes.specs.Patches.{changes}
use Rattle.dwarf_bytes.specs.Uses.{told}
use Rattle.dwarf.specs.declared.lists.PlacedList.{PlacedList}
use Rattle.dwarf.specs.PlacedLists.{ListsMoved, AreListsMoved, IsFaultOfLists}
use Rattle.dwarf.specs.PlacedListsViews.{lists_setting, lists_moved}
use Rattle.dwarf.proofs.lists.ListSection.patches.Goals as goal

pub returns-clause-replaced : goal.returns-clause-replaced
returns-clause-replaced c =
    let s = lists_setting c.args.self.now c.args.moves.now in
    let us = told c.args.addresses.now in
    let all = lists_moved c.in_ok-move_lists.field-0 c.move_lists.new.patches c.move_lists.new.uses in
    let moved =
    subst (λ (ps : List PlacedList). AreListsMoved s ps (let old : ListsMoved = record { last = None; end = 0; changes = changes c.new-patches.result; told = us } in old) all) c.deref.ensures.value c.in_ok-move_lists.ensures.moved in
    let here = subst (λ (cs : List SectionChange). AreListsMoved s c.in_ok-lists.lists.items (let old : ListsMoved = record { last = None; end = 0; changes = cs; told = us } in old) all) c.new-patches.ensures moved in
    (c.in_ok-lists.lists.items, all, c.in_ok-lists.ensures.sorted, here, refl, refl)

pub returns-in_err-lists-clause-refused : goal.returns-in_err-lists-clause-refused
returns-in_err-lists-clause-refused c =
    let p = err_from_is_err_and c.from_residual.result c.from_residual.ensures.1 in
    rw (p.1, p.2) (elim c.in_err-lists.ensures.refused [
      | inl memory ↦ inl memory
      | inr x ↦ inr (x.0, x.1, inl x.2)
    ])

pub returns-in_err-move_lists-clause-refused : goal.returns-in_err-move_lists-clause-refused
returns-in_err-move_lists-clause-refused c =
    let s = lists_setting c.args.self.now c.args.moves.now in
    let us = told c.args.addresses.now in
    let p = err_from_is_err_and c.from_residual-in_err-move_lists.result c.from_residual-in_err-move_lists.ensures.1 in
    rw (p.1, p.2) (elim c.in_err-move_lists.ensures.refused [
      | inl memory ↦ inl memory
      | inr x ↦
          let at_items = subst (λ (ps : List PlacedList). IsFaultOfLists s ps (let old : ListsMoved = record { last = None; end = 0; changes = changes c.new-patches.result; told = us } in old) x.0) c.deref.ensures.value x.2 in
          let here = subst (λ (cs : List SectionChange). IsFaultOfLists s c.in_ok-lists.lists.items (let old : ListsMoved = record { last = None; end = 0; changes = cs; told = us } in old) x.0) c.new-patches.ensures at_items in
          inr (x.0, x.1, inr (c.in_ok-lists.lists.items, c.in_ok-lists.ensures.sorted, here))
    ])
