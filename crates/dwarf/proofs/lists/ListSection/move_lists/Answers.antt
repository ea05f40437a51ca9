use Rattle.std.proofs.Common.{◌<◌, ◌+◌, ℕ, List, ◌∷◌, length, drop, get_or, None, inl, inr, refl, subst, ◌∙◌}
use Rattle.std.proofs.lemmas.List.{drop_more, drop_all}
use Rattle.std.proofs.lemmas.Result.{err_from_is_err_and}
use Rattle.dwarf_bytes.specs.Patches.{changes}
use Rattle.dwarf_bytes.specs.Uses.{told}
use Rattle.dwarf.specs.declared.lists.PlacedList.{PlacedList}
use Rattle.dwarf.specs.PlacedLists.{ListsSetting, ListsMoved}
use Rattle.dwarf.specs.PlacedListsViews.{lists_setting, lists_moved}
use Rattle.dwarf.proofs.PlacedLemmas.{ListsLeft, all_left, fewer_left, next_refused, none_left_of}
use Rattle.dwarf.proofs.lists.ListSection.move_lists.Goals as goal

at_next : (s : ListsSetting) (all : List PlacedList) (old now : ListsMoved) (i : ℕ) (d : PlacedList) → i < length all → ListsLeft s all old (drop i all) now
    → ListsLeft s all old (get_or all i d ∷ drop (i + 1) all) now
at_next s all old now i d within l = subst (λ (left : List PlacedList). ListsLeft s all old left now) (drop_more all i d within) l

pub each-init : goal.each-init
each-init c =
    let old : ListsMoved = record { last = None; end = 0; changes = changes c.args.patches.now; told = told c.args.uses.now } in
    (all_left (lists_setting c.args.self.now c.args.moves.now) c.args.lists.now old, refl)

pub each-preserved : goal.each-preserved
each-preserved c =
    let s = lists_setting c.args.self.now c.args.moves.now in
    let all = c.args.lists.now in
    let old : ListsMoved = record { last = None; end = 0; changes = changes c.args.patches.now; told = told c.args.uses.now } in
    let now = lists_moved c.each.last c.each.patches c.each.uses in
    let i = c.each.list-index in (
      fewer_left s all old _ (drop (i + 1) all) now (at_next s all old now i _ c.each-test.true c.each.invariant.0) _ c.in_ok-last.ensures.moved,
      c.in_ok-last.ensures.tables ∙ c.each.invariant.1,
    )

pub returns-in_err-last-clause-refused : goal.returns-in_err-last-clause-refused
returns-in_err-last-clause-refused c =
    let s = lists_setting c.args.self.now c.args.moves.now in
    let all = c.args.lists.now in
    let old : ListsMoved = record { last = None; end = 0; changes = changes c.args.patches.now; told = told c.args.uses.now } in
    let now = lists_moved c.each.last c.each.patches c.each.uses in
    let i = c.each.list-index in
    let p = err_from_is_err_and c.from_residual.result c.from_residual.ensures.1 in
    rw (p.1, p.2) (elim c.in_err-last.ensures.refused [
      | inl memory ↦ inl memory
      | inr x ↦ inr (x.0, x.1, next_refused s all old _ (drop (i + 1) all) now (at_next s all old now i _ c.each-test.true c.each.invariant.0) x.0 x.2)
    ])

pub returns-clause-moved : goal.returns-clause-moved
returns-clause-moved c =
    let s = lists_setting c.args.self.now c.args.moves.now in
    let all = c.args.lists.now in
    let old : ListsMoved = record { last = None; end = 0; changes = changes c.args.patches.now; told = told c.args.uses.now } in
    let now = lists_moved c.each.last c.each.patches c.each.uses in
    none_left_of s all old now (subst (λ (left : List PlacedList). ListsLeft s all old left now) (drop_all c.each.list-index all c.each-test.false) c.each.invariant.0)
