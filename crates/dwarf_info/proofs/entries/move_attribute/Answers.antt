use Rattle.std.proofs.Common.{inl, inr, refl, sym, ◌∙◌}
use Rattle.std.proofs.lemmas.Result.{err_from_is_err_and}
use Rattle.dwarf_info.specs.Contexts.{context_of_entry}
use Rattle.dwarf_info.specs.EntryViews.{attribute_spelled, entries_moved}
use Rattle.dwarf_info.proofs.Stepping.{none_taken, noting_refused, attribute_taken, attribute_refused, undecided, change_taken, change_refused}
use Rattle.dwarf_info.proofs.Taking.{on_ok, other_fault}
use Rattle.dwarf_info.proofs.entries.move_attribute.Goals as goal

pub returns-then-is_dropped-clause-taken : goal.returns-then-is_dropped-clause-taken
returns-then-is_dropped-clause-taken c =
    none_taken (context_of_entry c.args.context.now) (attribute_spelled c.args.attribute.now) (entries_moved c.args.out.now) (sym c.is_dropped.ensures ∙ c.if-is_dropped.true)

pub returns-in_err-note_code-clause-refused : goal.returns-in_err-note_code-clause-refused
returns-in_err-note_code-clause-refused c =
    let p = err_from_is_err_and c.from_residual.result c.from_residual.ensures.1 in
    rw (p.1, p.2) (elim c.in_err-note_code.ensures.refused [
      | inl memory ↦ inl memory
      | inr x ↦ inr (
        x.0,
        x.1,
        noting_refused (context_of_entry c.args.context.now) (attribute_spelled c.args.attribute.now) (entries_moved c.args.out.now) (sym c.is_dropped.ensures ∙ c.if-is_dropped.false) x.0 x.2,
      )
    ])

pub returns-in_err-effect-clause-refused : goal.returns-in_err-effect-clause-refused
returns-in_err-effect-clause-refused c =
    let p = err_from_is_err_and c.from_residual-in_err-effect.result c.from_residual-in_err-effect.ensures.1 in
    let context = context_of_entry c.args.context.now in
    let a = attribute_spelled c.args.attribute.now in
    let next = entries_moved c.note_code.new.out in
    rw (p.1, p.2) (inr (
      _,
      refl,
      attribute_refused context a (entries_moved c.args.out.now) (sym c.is_dropped.ensures ∙ c.if-is_dropped.false) next c.in_ok-note_code.ensures.taken _
          (undecided context a next _ (sym c.in_err-effect.ensures)),
    ))

pub returns-clause-taken : goal.returns-clause-taken
returns-clause-taken c =
    let context = context_of_entry c.args.context.now in
    let a = attribute_spelled c.args.attribute.now in
    let next = entries_moved c.note_code.new.out in
    let new = entries_moved c.write_effect.new.out in
    on_ok _ _ _
    (λ h. attribute_taken context a (entries_moved c.args.out.now) (sym c.is_dropped.ensures ∙ c.if-is_dropped.false) next c.in_ok-note_code.ensures.taken new
    (change_taken context a next c.in_ok-effect.effect (sym c.in_ok-effect.ensures) new h))
    c.write_effect.ensures.taken

pub returns-clause-refused : goal.returns-clause-refused
returns-clause-refused c =
    let context = context_of_entry c.args.context.now in
    let a = attribute_spelled c.args.attribute.now in
    let next = entries_moved c.note_code.new.out in
    other_fault _ _ _
    (λ fault h. attribute_refused context a (entries_moved c.args.out.now) (sym c.is_dropped.ensures ∙ c.if-is_dropped.false) next c.in_ok-note_code.ensures.taken fault
    (change_refused context a next c.in_ok-effect.effect (sym c.in_ok-effect.ensures) fault h))
    c.write_effect.ensures.refused
