use Rattle.std.proofs.Common.{ℕ, inr, refl, sym, ap, ◌∙◌}
use Rattle.std.proofs.lemmas.Result.{err_from_is_err_and}
use Rattle.dwarf_info.specs.Contexts.{context_of_entry}
use Rattle.dwarf_info.specs.EntryViews.{attribute_spelled, entries_moved}
use Rattle.dwarf_info.specs.Taken.{code_noted}
use Rattle.dwarf_info.proofs.Stepping.{noted_taken, not_noted}
use Rattle.dwarf_info.proofs.Taking.{on_ok, memory_or}
use Rattle.dwarf_info.proofs.entries.note_from.Goals as goal

pub returns-in_err-end-clause-refused : goal.returns-in_err-end-clause-refused
returns-in_err-end-clause-refused c =
    let p = err_from_is_err_and c.from_residual.result c.from_residual.ensures.1 in
    rw (p.1, p.2)
    (inr (_, refl, not_noted (context_of_entry c.args.context.now) (attribute_spelled c.args.attribute.now) (entries_moved c.args.out.now) c.args.begin _ (sym c.in_err-end.ensures)))

pub returns-clause-taken : goal.returns-clause-taken
returns-clause-taken c =
    let context = context_of_entry c.args.context.now in
    let old = entries_moved c.args.out.now in
    on_ok _ _ _
    (λ is. noted_taken context (attribute_spelled c.args.attribute.now) old c.args.begin c.in_ok-end.end (entries_moved c.has_code.new.self) (sym c.in_ok-end.ensures)
    (is ∙ ap (λ (n : ℕ). code_noted old (record { unit = context.unit; begin = c.args.begin; length = n })) c.code_length-length.ensures))
    c.has_code.ensures.noted

pub returns-clause-refused : goal.returns-clause-refused
returns-clause-refused c = memory_or _ _ c.has_code.ensures.memory
