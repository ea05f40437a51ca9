use Rattle.std.proofs.Common.{rules, ◌≡◌, [], ℕ, length, Ok, Err, inl, inr, subst, ◌∙◌}
use Rattle.std.proofs.lemmas.Result.{err_from_is_err_and}
use Rattle.dwarf_bytes.specs.Patches.{changes}
use Rattle.dwarf.specs.Names.{names_table_followed}
use Rattle.dwarf.proofs.Repeating.{all_replaced, fault_of_next, replaced_next, section_is, section_fault}
use Rattle.dwarf.proofs.names.follow_names.Goals as goal

pub returns-in_err-follow_table-clause-refused : goal.returns-in_err-follow_table-clause-refused
returns-in_err-follow_table-clause-refused c =
    let section = c.args.section.now in
    let rest = c.tables.input.rest.now in
    let now = changes c.tables.out in
    let table = λ (n : ℕ). names_table_followed (changes c.args.info.now) c.args.is_gnu n in
    let some : rest ≡ [] → ⊥ = search rules in
    let p = err_from_is_err_and c.from_residual.result c.from_residual.ensures.1 in
    rw (p.1, p.2) (elim c.in_err-follow_table.ensures.refused [
      | inl memory ↦ inl memory
      | inr x ↦ inr (
        x.0,
        x.1,
        section_fault (table (length section)) section x.0 (fault_of_next (table (length section)) section [] rest now c.tables.invariant.so_far some x.0
            (subst (λ (n : ℕ). table n rest now ≡ Err x.0) c.tables.invariant.same_end x.2)),
      )
    ])

pub tables-preserved : goal.tables-preserved
tables-preserved c =
    let section = c.args.section.now in
    let rest = c.tables.input.rest.now in
    let now = changes c.tables.out in
    let new = changes c.follow_table.new.out in
    let after = c.follow_table.new.input.rest.now in
    let table = λ (n : ℕ). names_table_followed (changes c.args.info.now) c.args.is_gnu n in
    let some : rest ≡ [] → ⊥ = search rules in
    let at_end = subst (λ (n : ℕ). table n rest now ≡ Ok (new, after)) c.tables.invariant.same_end c.in_ok-follow_table.ensures.followed in
    record {
      so_far = replaced_next (table (length section)) section [] rest now c.tables.invariant.so_far some new after at_end c.in_ok-follow_table.ensures.shorter;
      same_end = c.in_ok-follow_table.ensures.end ∙ c.tables.invariant.same_end;
    }

pub returns-clause-followed : goal.returns-clause-followed
returns-clause-followed c =
    let section = c.args.section.now in
    let none : c.tables.input.rest.now ≡ [] = search rules in
    let table = names_table_followed (changes c.args.info.now) c.args.is_gnu (length section) in
    let all = all_replaced table section [] c.tables.input.rest.now (changes c.tables.out) c.tables.invariant.so_far none in
    rw (section_is table section (changes c.tables.out) all) c.replaced.ensures.replaced

pub returns-clause-refused : goal.returns-clause-refused
returns-clause-refused c =
    let section = c.args.section.now in
    let none : c.tables.input.rest.now ≡ [] = search rules in
    let table = names_table_followed (changes c.args.info.now) c.args.is_gnu (length section) in
    let all = all_replaced table section [] c.tables.input.rest.now (changes c.tables.out) c.tables.invariant.so_far none in
    rw (section_is table section (changes c.tables.out) all) c.replaced.ensures.refused
