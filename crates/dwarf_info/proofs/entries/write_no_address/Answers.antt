use Rattle.std.proofs.Common.{inl, inr}
use Rattle.std.proofs.lemmas.Result.{err_from_is_err_and}
use Rattle.dwarf_info.specs.Contexts.{context_of_entry}
use Rattle.dwarf_info.specs.EntryViews.{entries_moved}
use Rattle.dwarf_info.specs.Views.{value_spelled}
use Rattle.dwarf_info.proofs.Taking.{on_ok, other_fault, none_set, none_not_set, none_not_added}
use Rattle.dwarf_info.proofs.entries.write_no_address.Goals as goal

pub returns-in_err-index-clause-refused : goal.returns-in_err-index-clause-refused
returns-in_err-index-clause-refused c =
    let p = err_from_is_err_and c.from_residual.result c.from_residual.ensures.1 in
    rw (p.1, p.2) (elim c.in_err-index.ensures.refused [
      | inl memory ↦ inl memory
      | inr x ↦ inr (x.0, x.1, none_not_added (context_of_entry c.args.context.now) c.args.layout (value_spelled c.args.value.now) (entries_moved c.args.out.now) x.0 x.2)
    ])

pub returns-clause-taken : goal.returns-clause-taken
returns-clause-taken c =
    on_ok _ _ _
    (λ h. none_set (context_of_entry c.args.context.now) c.args.layout (value_spelled c.args.value.now) (entries_moved c.args.out.now) (entries_moved c.use_no_address.new.self) c.in_ok-index.index
    c.in_ok-index.ensures.added c.in_ok-index.ensures.others (entries_moved c.set_number.new.self) h)
    c.set_number.ensures.set

pub returns-clause-refused : goal.returns-clause-refused
returns-clause-refused c =
    other_fault _ _ _
    (λ fault h. none_not_set (context_of_entry c.args.context.now) c.args.layout (value_spelled c.args.value.now) (entries_moved c.args.out.now) (entries_moved c.use_no_address.new.self) c.in_ok-index.index
    c.in_ok-index.ensures.added c.in_ok-index.ensures.others fault h)
    c.set_number.ensures.refused
