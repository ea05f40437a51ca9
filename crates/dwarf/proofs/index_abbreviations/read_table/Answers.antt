use Rattle.std.proofs.Common.{rules, ◌≡◌, [], inl, inr}
use Rattle.std.proofs.lemmas.Result.{err_from_is_err_and}
use Rattle.dwarf.proofs.IndexTables.{table_none, table_more, table_zero, table_ended, table_refused}
use Rattle.dwarf.proofs.index_abbreviations.read_table.Goals as goal

pub declarations-init : goal.declarations-init
declarations-init c = table_none c.args.input.rest.now c.args.abbreviations.now.items c.args.attributes.now.items c.requires.no_abbreviations c.requires.no_attributes

pub declarations-preserved : goal.declarations-preserved
declarations-preserved c =
    let some : c.declarations.left.rest.now ≡ [] → ⊥ = search rules in
    let read = rw c.in-Some.is at c.in_ok-found.ensures.read in
    table_more _ _ _ _ c.declarations.invariant some _ _ c.in-Some.abbreviation _ read c.in_ok-found.ensures.shorter c.in_ok-push.ensures.items

pub returns-in_default-clause-read : goal.returns-in_default-clause-read
returns-in_default-clause-read c =
    let some : c.declarations.left.rest.now ≡ [] → ⊥ = search rules in
    let read = rw c.in_default.is at c.in_ok-found.ensures.read in
    table_zero _ _ _ _ c.declarations.invariant some _ _ read

pub returns-in_err-found-clause-refused : goal.returns-in_err-found-clause-refused
returns-in_err-found-clause-refused c =
    let some : c.declarations.left.rest.now ≡ [] → ⊥ = search rules in
    let p = err_from_is_err_and c.from_residual.result c.from_residual.ensures.1 in
    rw (p.1, p.2) (elim c.in_err-found.ensures.refused [
      | inl memory ↦ inl memory
      | inr f ↦ inr (f.0, f.1, table_refused _ _ _ _ c.declarations.invariant some f.0 f.2)
    ])

pub returns-clause-read : goal.returns-clause-read
returns-clause-read c =
    let none : c.declarations.left.rest.now ≡ [] = search rules in
    table_ended _ _ _ _ c.declarations.invariant none
