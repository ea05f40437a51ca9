use Rattle.std.proofs.Common.{inl, inr, ◌∙◌}
use Rattle.std.specs.Prelude.{option_map}
use Rattle.std.proofs.lemmas.Result.{err_from_is_err_and}
use Rattle.dwarf_info.specs.Contexts.{context_of_entry}
use Rattle.dwarf_info.specs.EntryViews.{entries_moved}
use Rattle.dwarf_info.specs.Views.{value_spelled}
use Rattle.dwarf_info.proofs.Taking.{on_ok, other_fault, copied_mapped, refused_in_ranges, expression_set, expression_not_set}
use Rattle.dwarf_info.proofs.entries.write_expression.Goals as goal

pub returns-in_err-check_locals-clause-refused : goal.returns-in_err-check_locals-clause-refused
returns-in_err-check_locals-clause-refused c =
    let p = err_from_is_err_and c.from_residual.result c.from_residual.ensures.1 in
    rw (p.1, p.2) (elim c.in_err-check_locals.ensures.refused [
      | inl memory ↦ inl memory
      | inr x ↦ inr (x.0, x.1, refused_in_ranges (context_of_entry c.args.context.now) c.args.layout (value_spelled c.args.value.now) (entries_moved c.args.out.now) x.0 x.2.0 x.2.1)
    ])

pub returns-clause-taken : goal.returns-clause-taken
returns-clause-taken c =
    on_ok _ _ _
    (λ h. expression_set (context_of_entry c.args.context.now) c.args.layout (value_spelled c.args.value.now) (entries_moved c.args.out.now) (entries_moved c.check_locals.new.out)
    c.in_ok-check_locals.ensures.same (option_map (λ b. b.now) c.body.result) (copied_mapped c.body.result ∙ c.body.ensures) c.in_ok-check_locals.ensures.none
    (entries_moved c.set_expression.new.self) h)
    c.set_expression.ensures.set

pub returns-clause-refused : goal.returns-clause-refused
returns-clause-refused c =
    other_fault _ _ _
    (λ fault h. expression_not_set (context_of_entry c.args.context.now) c.args.layout (value_spelled c.args.value.now) (entries_moved c.args.out.now) (entries_moved c.check_locals.new.out)
    c.in_ok-check_locals.ensures.same (option_map (λ b. b.now) c.body.result) (copied_mapped c.body.result ∙ c.body.ensures) c.in_ok-check_locals.ensures.none fault h)
    c.set_expression.ensures.refused
