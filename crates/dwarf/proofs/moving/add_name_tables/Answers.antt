use Rattle.std.proofs.Common.{◌≡◌, Err, inl}
use Rattle.std.proofs.lemmas.Result.{err_from_is_err_and}
use Rattle.dwarf_bytes.specs.Patches.{changes}
use Rattle.dwarf.specs.Names.{names_followed}
use Rattle.dwarf.specs.Sections.{contents_by_name}
use Rattle.dwarf.specs.MovedDebug.{section_followed}
use Rattle.dwarf.proofs.Failures.{ok_of, err_of, failure_within, follows, not_follows}
use Rattle.dwarf.proofs.moving.add_name_tables.Goals as goal

pub returns-clause-added : goal.returns-clause-added
returns-clause-added c =
    let ss = contents_by_name c.args.sections.now.sections.items in
    let new = ok_of c.follow_names.result c.in_ok-contents.contents _ c.in_ok-contents.ensures.moved c.follow_names.ensures.followed in
    ((c.args.name, c.in_ok-contents.contents.items), follows ss c.args.name (names_followed (changes c.args.info.now) c.args.is_gnu) c.get.result.now c.in_ok-contents.contents.items c.get.ensures.named new, c.in_ok-add.ensures.added)

pub returns-in_err-contents-clause-refused : goal.returns-in_err-contents-clause-refused
returns-in_err-contents-clause-refused c =
    let ss = contents_by_name c.args.sections.now.sections.items in
    let r = c.in_err-contents.ensures.refused in
    let p = err_from_is_err_and c.from_residual.result c.from_residual.ensures.1 in
    rw (p.1, p.2)
    (failure_within c.args.name _ (λ section fault. section_followed ss (c.args.name, names_followed (changes c.args.info.now) c.args.is_gnu) ≡ Err (section, fault)) _ r.0 (err_of c.follow_names.result _ _ r.1 c.follow_names.ensures.refused)
    (λ fault h. not_follows ss c.args.name (names_followed (changes c.args.info.now) c.args.is_gnu) c.get.result.now fault c.get.ensures.named h))

pub returns-in_err-add-clause-refused : goal.returns-in_err-add-clause-refused
returns-in_err-add-clause-refused c =
    let p = err_from_is_err_and c.from_residual-in_err-add.result c.from_residual-in_err-add.ensures.1 in
    rw (p.1, p.2) (inl c.in_err-add.ensures.memory)
