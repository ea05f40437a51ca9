use Rattle.std.proofs.Common.{◌≡◌, ◌++◌, ◌∷◌, [], true, false, List, Err}
use Rattle.std.proofs.lemmas.Result.{err_from_is_err_and}
use Rattle.wasm_numbers.specs.Results.{each}
use Rattle.dwarf_bytes.specs.Patches.{changes}
use Rattle.dwarf.specs.declared.sections.SectionName.TheVariants as names
use Rattle.dwarf.specs.IndexEntries.{name_index_followed}
use Rattle.dwarf.specs.Names.{names_followed}
use Rattle.dwarf.specs.Sections.{NamedContents, contents_by_name, moved_contents}
use Rattle.dwarf.specs.MovedDebug.{SectionFollower, section_followed, name_followers}
use Rattle.dwarf.proofs.Failures.{failure_more, each_none, each_more, each_fails, each_later_fails, added_two}
use Rattle.dwarf.proofs.moving.add_all_names.Goals as goal

pub returns-clause-added : goal.returns-clause-added
returns-clause-added c =
    let ss = contents_by_name c.args.sections.now.sections.items in
    let cs = changes c.args.info.now in
    let f = section_followed ss in
    let i : SectionFollower = (names.NameIndex, name_index_followed cs) in
    let j : SectionFollower = (names.PublicNames, names_followed cs false) in
    let k : SectionFollower = (names.PublicTypes, names_followed cs false) in
    let l : SectionFollower = (names.GnuPublicNames, names_followed cs true) in
    let m : SectionFollower = (names.GnuPublicTypes, names_followed cs true) in
    let a0 = c.in_ok-add_name_index.ensures.added in
    let a1 = c.in_ok-add_name_tables.ensures.added in
    let a2 = c.in_ok-add_name_tables-2.ensures.added in
    let a3 = c.in_ok-add_name_tables-3.ensures.added in
    let a4 = c.in_ok-add_name_tables-4.ensures.added in
    let start = moved_contents c.args.out.now.sections.items in
    let n0 : List NamedContents = a0.0 ∷ [] in
    let n1 : List NamedContents = a1.0 ∷ [] in
    let n2 : List NamedContents = a2.0 ∷ [] in
    let n3 : List NamedContents = a3.0 ∷ [] in
    let n4 : List NamedContents = a4.0 ∷ [] in
    let b1 = added_two start _ _ n0 n1 a0.2 a1.2 in
    let b2 = added_two start _ _ (n0 ++ n1) n2 b1 a2.2 in
    let b3 = added_two start _ _ ((n0 ++ n1) ++ n2) n3 b2 a3.2 in
    let e4 = each_more f m [] a4.0 [] a4.1 (each_none f) in
    let e3 = each_more f l (m ∷ []) a3.0 n4 a3.1 e4 in
    let e2 = each_more f k (l ∷ m ∷ []) a2.0 (n3 ++ n4) a2.1 e3 in
    let e1 = each_more f j (k ∷ l ∷ m ∷ []) a1.0 (n2 ++ (n3 ++ n4)) a1.1 e2 in
    (n0 ++ (n1 ++ (n2 ++ (n3 ++ n4))), each_more f i (j ∷ k ∷ l ∷ m ∷ []) a0.0 (n1 ++ (n2 ++ (n3 ++ n4))) a0.1 e1, added_two start _ _ (((n0 ++ n1) ++ n2) ++ n3) n4 b3 a4.2)

pub returns-in_err-add_name_index-clause-refused : goal.returns-in_err-add_name_index-clause-refused
returns-in_err-add_name_index-clause-refused c =
    let ss = contents_by_name c.args.sections.now.sections.items in
    let cs = changes c.args.info.now in
    let f = section_followed ss in
    let i : SectionFollower = (names.NameIndex, name_index_followed cs) in
    let j : SectionFollower = (names.PublicNames, names_followed cs false) in
    let k : SectionFollower = (names.PublicTypes, names_followed cs false) in
    let l : SectionFollower = (names.GnuPublicNames, names_followed cs true) in
    let m : SectionFollower = (names.GnuPublicTypes, names_followed cs true) in
    let p = err_from_is_err_and c.from_residual.result c.from_residual.ensures.1 in
    rw (p.1, p.2)
    (failure_more (λ section fault. f i ≡ Err (section, fault)) (λ section fault. each f (name_followers cs) ≡ Err (section, fault)) c.in_err-add_name_index.field-0.0 (λ section fault h. each_fails f i (j ∷ k ∷ l ∷ m ∷ []) _ h)
    c.in_err-add_name_index.ensures.refused)

pub returns-in_err-add_name_tables-clause-refused : goal.returns-in_err-add_name_tables-clause-refused
returns-in_err-add_name_tables-clause-refused c =
    let ss = contents_by_name c.args.sections.now.sections.items in
    let cs = changes c.args.info.now in
    let f = section_followed ss in
    let i : SectionFollower = (names.NameIndex, name_index_followed cs) in
    let j : SectionFollower = (names.PublicNames, names_followed cs false) in
    let k : SectionFollower = (names.PublicTypes, names_followed cs false) in
    let l : SectionFollower = (names.GnuPublicNames, names_followed cs true) in
    let m : SectionFollower = (names.GnuPublicTypes, names_followed cs true) in
    let a0 = c.in_ok-add_name_index.ensures.added in
    let p = err_from_is_err_and c.from_residual-in_err-add_name_tables.result c.from_residual-in_err-add_name_tables.ensures.1 in
    rw (p.1, p.2)
    (failure_more (λ section fault. f j ≡ Err (section, fault)) (λ section fault. each f (name_followers cs) ≡ Err (section, fault)) c.in_err-add_name_tables.field-0.0 (λ section fault h. each_later_fails f i (j ∷ k ∷ l ∷ m ∷ []) a0.0 _ a0.1 (each_fails f j (k ∷ l ∷ m ∷ []) _ h))
    c.in_err-add_name_tables.ensures.refused)

pub returns-in_err-add_name_tables-2-clause-refused : goal.returns-in_err-add_name_tables-2-clause-refused
returns-in_err-add_name_tables-2-clause-refused c =
    let ss = contents_by_name c.args.sections.now.sections.items in
    let cs = changes c.args.info.now in
    let f = section_followed ss in
    let i : SectionFollower = (names.NameIndex, name_index_followed cs) in
    let j : SectionFollower = (names.PublicNames, names_followed cs false) in
    let k : SectionFollower = (names.PublicTypes, names_followed cs false) in
    let l : SectionFollower = (names.GnuPublicNames, names_followed cs true) in
    let m : SectionFollower = (names.GnuPublicTypes, names_followed cs true) in
    let a0 = c.in_ok-add_name_index.ensures.added in
    let a1 = c.in_ok-add_name_tables.ensures.added in
    let p = err_from_is_err_and c.from_residual-in_err-add_name_tables-2.result c.from_residual-in_err-add_name_tables-2.ensures.1 in
    rw (p.1, p.2)
    (failure_more (λ section fault. f k ≡ Err (section, fault)) (λ section fault. each f (name_followers cs) ≡ Err (section, fault)) c.in_err-add_name_tables-2.field-0.0 (λ section fault h. each_later_fails f i (j ∷ k ∷ l ∷ m ∷ []) a0.0 _ a0.1 (each_later_fails f j (k ∷ l ∷ m ∷ []) a1.0 _ a1.1 (each_fails f k (l ∷ m ∷ []) _ h)))
    c.in_err-add_name_tables-2.ensures.refused)

pub returns-in_err-add_name_tables-3-clause-refused : goal.returns-in_err-add_name_tables-3-clause-refused
returns-in_err-add_name_tables-3-clause-refused c =
    let ss = contents_by_name c.args.sections.now.sections.items in
    let cs = changes c.args.info.now in
    let f = section_followed ss in
    let i : SectionFollower = (names.NameIndex, name_index_followed cs) in
    let j : SectionFollower = (names.PublicNames, names_followed cs false) in
    let k : SectionFollower = (names.PublicTypes, names_followed cs false) in
    let l : SectionFollower = (names.GnuPublicNames, names_followed cs true) in
    let m : SectionFollower = (names.GnuPublicTypes, names_followed cs true) in
    let a0 = c.in_ok-add_name_index.ensures.added in
    let a1 = c.in_ok-add_name_tables.ensures.added in
    let a2 = c.in_ok-add_name_tables-2.ensures.added in
    let p = err_from_is_err_and c.from_residual-in_err-add_name_tables-3.result c.from_residual-in_err-add_name_tables-3.ensures.1 in
    rw (p.1, p.2)
    (failure_more (λ section fault. f l ≡ Err (section, fault)) (λ section fault. each f (name_followers cs) ≡ Err (section, fault)) c.in_err-add_name_tables-3.field-0.0 (λ section fault h. each_later_fails f i (j ∷ k ∷ l ∷ m ∷ []) a0.0 _ a0.1 (each_later_fails f j (k ∷ l ∷ m ∷ []) a1.0 _ a1.1 (each_later_fails f k (l ∷ m ∷ []) a2.0 _ a2.1 (each_fails f l (m ∷ []) _ h))))
    c.in_err-add_name_tables-3.ensures.refused)

pub returns-in_err-add_name_tables-4-clause-refused : goal.returns-in_err-add_name_tables-4-clause-refused
returns-in_err-add_name_tables-4-clause-refused c =
    let ss = contents_by_name c.args.sections.now.sections.items in
    let cs = changes c.args.info.now in
    let f = section_followed ss in
    let i : SectionFollower = (names.NameIndex, name_index_followed cs) in
    let j : SectionFollower = (names.PublicNames, names_followed cs false) in
    let k : SectionFollower = (names.PublicTypes, names_followed cs false) in
    let l : SectionFollower = (names.GnuPublicNames, names_followed cs true) in
    let m : SectionFollower = (names.GnuPublicTypes, names_followed cs true) in
    let a0 = c.in_ok-add_name_index.ensures.added in
    let a1 = c.in_ok-add_name_tables.ensures.added in
    let a2 = c.in_ok-add_name_tables-2.ensures.added in
    let a3 = c.in_ok-add_name_tables-3.ensures.added in
    let p = err_from_is_err_and c.from_residual-in_err-add_name_tables-4.result c.from_residual-in_err-add_name_tables-4.ensures.1 in
    rw (p.1, p.2)
    (failure_more (λ section fault. f m ≡ Err (section, fault)) (λ section fault. each f (name_followers cs) ≡ Err (section, fault)) c.in_err-add_name_tables-4.field-0.0 (λ section fault h. each_later_fails f i (j ∷ k ∷ l ∷ m ∷ []) a0.0 _ a0.1 (each_later_fails f j (k ∷ l ∷ m ∷ []) a1.0 _ a1.1 (each_later_fails f k (l ∷ m ∷ []) a2.0 _ a2.1 (each_later_fails f l (m ∷ []) a3.0 _ a3.1 (each_fails f m ([]) _ h)))))
    c.in_err-add_name_tables-4.ensures.refused)
