use Rattle.std.proofs.Common.{ℕ, List, ◌++◌, inl, inr, refl, ap, subst, ◌∙◌}
use Rattle.std.proofs.lemmas.Result.{err_from_is_err_and}
use Rattle.dwarf_bytes.specs.declared.fault.DebugFault.TheVariants.{DoesNotFit}
use Rattle.dwarf_info.specs.EntryViews.{entries_moved}
use Rattle.dwarf_info.specs.Forms.{number_size, number_written}
use Rattle.dwarf_info.specs.Taken.{IsReplaced}
use Rattle.dwarf_info.specs.Views.{value_spelled}
use Rattle.dwarf_info.proofs.Taking.{on_ok, other_fault, number_same, number_new}
use Rattle.dwarf_info.proofs.moved.MovedEntries.set_number.Goals as goal

pub returns-then-number-value-clause-set : goal.returns-then-number-value-clause-set
returns-then-number-value-clause-set c =
    number_same c.args.encoding c.args.layout (value_spelled c.args.value.now) (entries_moved c.args.self.now) c.args.number c.if-number-value.true

pub returns-in_err-write_number-clause-refused : goal.returns-in_err-write_number-clause-refused
returns-in_err-write_number-clause-refused c =
    let p = err_from_is_err_and c.from_residual.result c.from_residual.ensures.1 in
    rw (p.1, p.2) (elim c.in_err-write_number.ensures.refused [
      | inl memory ↦ inl memory
      | inr x ↦ inr (DoesNotFit, x.0, (c.if-number-value.false, inl (refl, x.1)))
    ])

pub returns-clause-set : goal.returns-clause-set
returns-clause-set c =
    let v = value_spelled c.args.value.now in
    let old = entries_moved c.args.self.now in
    let written = number_written (number_size c.args.encoding c.args.layout) v.size c.args.number in
    let is = c.in_ok-write_number.ensures.written ∙ ap (λ (bytes : List ℕ). bytes ++ written) c.clear.ensures.items in
    on_ok _ _ _
    (λ r. number_new c.args.encoding c.args.layout v old c.args.number c.if-number-value.false c.in_ok-write_number.ensures.fits (entries_moved c.replace.new.self)
    (subst (λ (bytes : List ℕ). IsReplaced v bytes old (entries_moved c.replace.new.self)) is r))
    c.replace.ensures.replaced

pub returns-clause-refused : goal.returns-clause-refused
returns-clause-refused c = other_fault _ _ _ (λ fault h. (c.if-number-value.false, inr (c.in_ok-write_number.ensures.fits, h))) c.replace.ensures.refused
