use Rattle.std.proofs.Common.{◌<◌, ◌+◌, ℕ, List, ◌∷◌, length, drop, get_or, inl, inr, subst}
use Rattle.std.proofs.lemmas.List.{drop_more, drop_all}
use Rattle.std.proofs.lemmas.Result.{err_from_is_err_and}
use Rattle.dwarf_info.specs.declared.moved.ListUse.{ListUse}
use Rattle.dwarf.specs.declared.lists.ListKind.{ListKind}
use Rattle.dwarf.specs.declared.lists.PlacedList.{PlacedList}
use Rattle.dwarf.proofs.PlacedLemmas.{AddedSoFar, none_added, one_added, one_not_added, all_added}
use Rattle.dwarf.proofs.lists.ListSection.add_lists.Goals as goal

at_next : (kind : ListKind) (section : List ℕ) (uses : List ListUse) (start now : List PlacedList) (i : ℕ) (d : ListUse) → i < length uses
    → AddedSoFar kind section uses start now (drop i uses) → AddedSoFar kind section uses start now (get_or uses i d ∷ drop (i + 1) uses)
at_next kind section uses start now i d within s = subst (AddedSoFar kind section uses start now) (drop_more uses i d within) s

pub each-init : goal.each-init
each-init c = none_added c.args.self.now.kind c.args.self.now.contents.now c.args.uses.now c.args.lists.now.items

pub each-preserved : goal.each-preserved
each-preserved c =
    let self = c.args.self.now in
    let uses = c.args.uses.now in
    let start = c.args.lists.now.items in
    let now = c.each.lists.items in
    let i = c.each.list-index in
    let a = c.in_ok-add_list.ensures.added in
    one_added self.kind self.contents.now uses start now _ (drop (i + 1) uses) (at_next self.kind self.contents.now uses start now i _ c.each-test.true c.each.invariant) c.add_list.new.lists.items a.0 a.1 a.2

pub returns-in_err-add_list-clause-refused : goal.returns-in_err-add_list-clause-refused
returns-in_err-add_list-clause-refused c =
    let self = c.args.self.now in
    let uses = c.args.uses.now in
    let start = c.args.lists.now.items in
    let now = c.each.lists.items in
    let i = c.each.list-index in
    let p = err_from_is_err_and c.from_residual.result c.from_residual.ensures.1 in
    rw (p.1, p.2) (elim c.in_err-add_list.ensures.refused [
      | inl memory ↦ inl memory
      | inr x ↦ inr (
        x.0,
        x.1,
        one_not_added self.kind self.contents.now uses start now _ (drop (i + 1) uses) (at_next self.kind self.contents.now uses start now i _ c.each-test.true c.each.invariant) x.0 x.2,
      )
    ])

pub returns-clause-added : goal.returns-clause-added
returns-clause-added c =
    let self = c.args.self.now in
    let uses = c.args.uses.now in
    let start = c.args.lists.now.items in
    let now = c.each.lists.items in
    all_added self.kind self.contents.now uses start now (subst (AddedSoFar self.kind self.contents.now uses start now) (drop_all c.each.list-index uses c.each-test.false) c.each.invariant)
