use Rattle.std.proofs.Common.{ℕ, Bool, List, ◌++◌, inl, inr, sym, ap, ◌∙◌}
use Rattle.std.proofs.lemmas.Result.{err_from_is_err_and}
use Rattle.std.proofs.lemmas.Bool.{false≢true}
use Rattle.dwarf_info.specs.EntryViews.{entries_moved}
use Rattle.dwarf_info.specs.Views.{value_spelled}
use Rattle.dwarf_info.proofs.Taking.{other_fault, not_written}
use Rattle.dwarf_info.proofs.moved.MovedEntries.set_expression.Goals as goal

pub returns-in_err-names-clause-refused : goal.returns-in_err-names-clause-refused
returns-in_err-names-clause-refused c =
    let p = err_from_is_err_and c.from_residual.result c.from_residual.ensures.1 in
    rw (p.1, p.2) (elim c.in_err-names.ensures.refused [ inl memory ↦ inl memory | inr x ↦ inr (x.0, x.1, inl x.2) ])

pub returns-then-is_same-clause-set : goal.returns-then-is_same-clause-set
returns-then-is_same-clause-set c =
    let m = c.in_ok-names.ensures.moved in
    let bytes = m.3 ∙ ap (λ (bytes : List ℕ). bytes ++ m.1) c.clear.ensures.items in
    let same = c.is_same.ensures.0 c.if-is_same.true in (
      m.0,
      m.1,
      c.in_ok-names.names,
      m.2,
      m.4,
      inl (
        sym bytes ∙ (sym c.as_slice.ensures.value ∙ same),
        ap (λ (b : Bool). record (entries_moved c.args.self.now) { names_entries = b }) c.either-self.ensures,
      ),
    )

pub returns-clause-refused : goal.returns-clause-refused
returns-clause-refused c =
    let m = c.in_ok-names.ensures.moved in
    let bytes = m.3 ∙ ap (λ (bytes : List ℕ). bytes ++ m.1) c.clear.ensures.items in
    other_fault _ _ _
    (λ fault h. inr (
      m.0,
      m.1,
      c.in_ok-names.names,
      m.2,
      m.4,
      not_written c.args.encoding c.args.layout (value_spelled c.args.value.now) (entries_moved c.args.self.now) c.in_ok-names.names c.either-self.result m.1 c.moved_expression.new.out.items bytes
          c.either-self.ensures (λ same. false≢true (sym c.if-is_same.false ∙ c.is_same.ensures.1 (c.as_slice.ensures.value ∙ same))) fault h,
    ))
    c.write_expression.ensures.refused
