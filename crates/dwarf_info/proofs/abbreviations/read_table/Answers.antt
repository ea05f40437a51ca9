use Rattle.std.proofs.Common.{inl, inr, refl, ◌∙◌}
use Rattle.std.proofs.lemmas.Result.{err_from_is_err_and}
use Rattle.dwarf_info.proofs.Tables.{declarations_none, declarations_more, declarations_ended, declarations_refused}
use Rattle.dwarf_info.proofs.abbreviations.read_table.Goals as goal

pub declarations-init : goal.declarations-init
declarations-init c = record { so_far = declarations_none c.args.input.now.rest.now c.args.abbreviations.now.items c.args.attributes.now.items; same_end = refl }

pub declarations-preserved : goal.declarations-preserved
declarations-preserved c =
    let read = rw c.in-Some.is at c.in_ok-found.ensures.read in
    record {
      so_far = declarations_more _ _ _ _ _ _ _ _ _ c.declarations.invariant.so_far c.in-Some.abbreviation _ read c.in_ok-found.ensures.shorter c.in_ok-push.ensures.items;
      same_end = c.in_ok-found.ensures.end ∙ c.declarations.invariant.same_end;
    }

pub returns-in_default-clause-read : goal.returns-in_default-clause-read
returns-in_default-clause-read c =
    let read = rw c.in_default.is at c.in_ok-found.ensures.read in
    declarations_ended _ _ _ _ _ _ _ _ _ c.declarations.invariant.so_far read

pub returns-in_err-found-clause-refused : goal.returns-in_err-found-clause-refused
returns-in_err-found-clause-refused c =
    let p = err_from_is_err_and c.from_residual.result c.from_residual.ensures.1 in
    rw (p.1, p.2) (elim c.in_err-found.ensures.refused [
      | inl memory ↦ inl memory
      | inr f ↦ inr (f.0, f.1, declarations_refused _ _ _ _ _ _ _ c.declarations.invariant.so_far f.0 f.2)
    ])
