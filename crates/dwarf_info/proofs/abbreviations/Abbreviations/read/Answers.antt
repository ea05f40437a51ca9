use Rattle.std.proofs.Common.{◌≡◌, [], inl, inr, rules, arith, ◌∙◌}
use Rattle.std.proofs.lemmas.Result.{err_from_is_err_and}
use Rattle.dwarf_info.proofs.Tables.{tables_more, tables_done, tables_refused}
use Rattle.dwarf_info.proofs.abbreviations.Abbreviations.read.Goals as goal

pub tables-preserved : goal.tables-preserved
tables-preserved c = record {
  so_far = tables_more _ _ _ _ _ _ _ _ c.tables.invariant.so_far c.in_ok-read_table.ensures.read c.in_ok-read_table.ensures.shorter _ _
      (omega (arith, c.at-offset.ensures, c.tables.invariant.same_end)) (omega (arith, c.len-first.ensures)) (omega (arith, c.len.ensures)) c.in_ok-push.ensures.items;
  same_end = c.in_ok-read_table.ensures.end ∙ c.tables.invariant.same_end;
}

pub returns-in_err-read_table-clause-refused : goal.returns-in_err-read_table-clause-refused
returns-in_err-read_table-clause-refused c =
    let p = err_from_is_err_and c.from_residual.result c.from_residual.ensures.1 in
    let some : c.tables.input.rest.now ≡ [] → ⊥ = search rules in
    rw (p.1, p.2) (elim c.in_err-read_table.ensures.refused [
      | inl memory ↦ inl memory
      | inr f ↦ inr (f.0, f.1, tables_refused _ _ _ _ _ c.tables.invariant.so_far some f.0 f.2)
    ])

pub returns-clause-read : goal.returns-clause-read
returns-clause-read c =
    let none : c.tables.input.rest.now ≡ [] = search rules in
    tables_done _ _ _ _ _ c.tables.invariant.so_far none
