use Rattle.std.proofs.Common.{arith, inl, inr, refl, sym, ◌∙◌}
use Rattle.std.proofs.lemmas.Result.{err_from_is_err_and}
use Rattle.dwarf.specs.PlacedListsViews.{lists_setting, lists_moved}
use Rattle.dwarf.proofs.PlacedLemmas.{list_again, list_next}
use Rattle.dwarf.proofs.lists.ListSection.move_next.Goals as goal

pub returns-then-is_again-clause-moved : goal.returns-then-is_again-clause-moved
returns-then-is_again-clause-moved c =
    list_again (lists_setting c.args.self.now c.args.moves.now) c.args.list.now (lists_moved c.args.last c.args.patches.now c.args.uses.now) (sym c.is_again.ensures ∙ c.if-is_again.true)

pub returns-clause-moved : goal.returns-clause-moved
returns-clause-moved c =
    list_next (lists_setting c.args.self.now c.args.moves.now) c.args.list.now (lists_moved c.args.last c.args.patches.now c.args.uses.now) _ (sym c.is_again.ensures ∙ c.if-is_again.false) (omega arith) refl c.in_ok-end.ensures.moved

pub returns-in_err-end-clause-refused : goal.returns-in_err-end-clause-refused
returns-in_err-end-clause-refused c =
    let p = err_from_is_err_and c.from_residual.result c.from_residual.ensures.1 in
    rw (p.1, p.2) (elim c.in_err-end.ensures.refused [
      | inl memory ↦ inl memory
      | inr x ↦ inr (x.0, x.1, (sym c.is_again.ensures ∙ c.if-is_again.false, inr (omega arith, x.2)))
    ])
