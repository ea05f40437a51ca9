use Rattle.std.proofs.Common.{rules, Err, ◌≡◌, List, [], length, inl, inr, refl, sym, subst, ◌∙◌, Ok, ℕ}
use Rattle.std.proofs.lemmas.Result.{err_from_is_err_and}
use Rattle.dwarf_bytes.specs.Merging.{Merging, merging, none_merged}
use Rattle.dwarf_bytes.specs.Patches.{changes}
use Rattle.dwarf_info.proofs.FollowLemmas.{finish_followed, finish_refused}
use Rattle.dwarf.specs.ListTables.{spelled_list_table, list_section_steps}
use Rattle.dwarf.specs.ListTablesViews.{list_table_of}
use Rattle.dwarf.proofs.ListTableLemmas.{FollowingTables, no_tables_yet, followed_tables, table_unread, table_is_followed, table_not_followed}
use Rattle.dwarf.proofs.list_tables.follow_list_tables.Goals as goal

pub tables-init : goal.tables-init
tables-init c =
    let section = c.args.section.now in
    let own = changes c.args.own.now in
    let old = none_merged own in
    record {
      so_far = subst (λ (m : Merging). FollowingTables own (length section) section old c.new-input.result.rest.now m) (sym c.new-out.ensures)
          (subst (λ (rest : List ℕ). FollowingTables own (length section) section old rest old) (sym c.new-input.ensures.rest) (no_tables_yet own (length section) section old));
      same_end = c.new-input.ensures.end;
    }

pub returns-in_err-table-clause-refused : goal.returns-in_err-table-clause-refused
returns-in_err-table-clause-refused c =
    let section = c.args.section.now in
    let own = changes c.args.own.now in
    let rest = c.tables.input.rest.now in
    let some : rest ≡ [] → ⊥ = search rules in
    let p = err_from_is_err_and c.from_residual.result c.from_residual.ensures.1 in
    let at_end = subst (λ (n : ℕ). spelled_list_table n rest ≡ Err c.in_err-table.field-0.0) c.tables.invariant.same_end c.in_err-table.ensures.gives in
    rw (p.1, p.2) (inr (_, refl, inl (table_unread own (length section) section (none_merged own) rest (merging c.tables.out) c.tables.invariant.so_far some c.in_err-table.field-0.0 at_end)))

pub returns-in_err-follow_table-clause-refused : goal.returns-in_err-follow_table-clause-refused
returns-in_err-follow_table-clause-refused c =
    let section = c.args.section.now in
    let own = changes c.args.own.now in
    let rest = c.tables.input.rest.now in
    let some : rest ≡ [] → ⊥ = search rules in
    let t = list_table_of c.in_ok-table.table in
    let after = c.read_table.new.input.rest.now in
    let at_end = subst (λ (n : ℕ). spelled_list_table n rest ≡ Ok (t, after)) c.tables.invariant.same_end c.in_ok-table.ensures.gives in
    let p = err_from_is_err_and c.from_residual-in_err-follow_table.result c.from_residual-in_err-follow_table.ensures.1 in
    rw (p.1, p.2) (elim c.in_err-follow_table.ensures.refused [
      | inl memory ↦ inl memory
      | inr x ↦ inr (x.0, x.1, inl (table_not_followed own (length section) section (none_merged own) rest (merging c.tables.out) c.tables.invariant.so_far some t after at_end x.0 x.2))
    ])

pub tables-preserved : goal.tables-preserved
tables-preserved c =
    let section = c.args.section.now in
    let own = changes c.args.own.now in
    let rest = c.tables.input.rest.now in
    let some : rest ≡ [] → ⊥ = search rules in
    let t = list_table_of c.in_ok-table.table in
    let after = c.read_table.new.input.rest.now in
    let at_end = subst (λ (n : ℕ). spelled_list_table n rest ≡ Ok (t, after)) c.tables.invariant.same_end c.in_ok-table.ensures.gives in
    record {
      so_far = table_is_followed own (length section) section (none_merged own) rest (merging c.tables.out) c.tables.invariant.so_far some t after at_end (merging c.follow_table.new.out)
          c.in_ok-follow_table.ensures.merged c.in_ok-table.ensures.shorter;
      same_end = c.in_ok-table.ensures.end ∙ c.tables.invariant.same_end;
    }

pub returns-clause-followed : goal.returns-clause-followed
returns-clause-followed c =
    let section = c.args.section.now in
    let own = changes c.args.own.now in
    let none : c.tables.input.rest.now ≡ [] = search rules in
    let merged = followed_tables own (length section) section (none_merged own) c.tables.input.rest.now (merging c.tables.out) c.tables.invariant.so_far none in
    finish_followed changes own (list_section_steps own section) (merging c.tables.out) merged c.finish.result c.finish.ensures.merged

pub returns-clause-refused : goal.returns-clause-refused
returns-clause-refused c =
    let section = c.args.section.now in
    let own = changes c.args.own.now in
    let none : c.tables.input.rest.now ≡ [] = search rules in
    let merged = followed_tables own (length section) section (none_merged own) c.tables.input.rest.now (merging c.tables.out) c.tables.invariant.so_far none in
    finish_refused changes own (list_section_steps own section) (merging c.tables.out) merged c.finish.result c.finish.ensures.refused
