use Rattle.std.proofs.Common.{◌≡◌, ℕ, List, Ok, Err, inl, refl, subst}
use Rattle.std.proofs.lemmas.Result.{err_from_is_err_and}
use Rattle.dwarf.specs.declared.sections.SectionName.TheVariants as names
use Rattle.dwarf.specs.Macros.{macro_section_followed}
use Rattle.dwarf.specs.Sections.{contents_by_name, contents_named}
use Rattle.dwarf.proofs.Failures.{ok_of, err_of, failure_within}
use Rattle.dwarf.proofs.moving.add_macros.Goals as goal

pub returns-clause-added : goal.returns-clause-added
returns-clause-added c =
    let new = ok_of c.follow_macros.result c.in_ok-contents.contents _ c.in_ok-contents.ensures.moved c.follow_macros.ensures.followed in
    (c.in_ok-contents.contents.items, subst (λ (l : List ℕ). macro_section_followed c.args.tables.now l ≡ Ok c.in_ok-contents.contents.items) c.get.ensures.named new, c.in_ok-add.ensures.added)

pub returns-in_err-contents-clause-refused : goal.returns-in_err-contents-clause-refused
returns-in_err-contents-clause-refused c =
    let ss = contents_by_name c.args.sections.now.sections.items in
    let r = c.in_err-contents.ensures.refused in
    let p = err_from_is_err_and c.from_residual.result c.from_residual.ensures.1 in
    rw (p.1, p.2)
    (failure_within names.Macros _ (λ section fault. (section ≡ names.Macros) × (macro_section_followed c.args.tables.now (contents_named ss names.Macros) ≡ Err fault)) _ r.0
    (err_of c.follow_macros.result _ _ r.1 c.follow_macros.ensures.refused)
    (λ fault h. (refl, subst (λ (l : List ℕ). macro_section_followed c.args.tables.now l ≡ Err fault) c.get.ensures.named h)))

pub returns-in_err-add-clause-refused : goal.returns-in_err-add-clause-refused
returns-in_err-add-clause-refused c =
    let p = err_from_is_err_and c.from_residual-in_err-add.result c.from_residual-in_err-add.ensures.1 in
    rw (p.1, p.2) (inl c.in_err-add.ensures.memory)
