use Rattle.std.proofs.Common.{rules, ◌≡◌, [], ℕ, length, Ok, Err, inl, inr, subst, ◌∙◌}
use Rattle.std.proofs.lemmas.Result.{err_from_is_err_and}
use Rattle.dwarf_bytes.specs.Patches.{changes}
use Rattle.dwarf.specs.IndexEntries.{index_followed}
use Rattle.dwarf.proofs.Repeating.{all_replaced, fault_of_next, replaced_next, section_is, section_fault}
use Rattle.dwarf.proofs.name_index.follow_name_index.Goals as goal

pub returns-in_err-follow_index-clause-refused : goal.returns-in_err-follow_index-clause-refused
returns-in_err-follow_index-clause-refused c =
    let section = c.args.section.now in
    let rest = c.indices.input.rest.now in
    let now = changes c.indices.out in
    let index = λ (n : ℕ). index_followed (changes c.args.info.now) n in
    let some : rest ≡ [] → ⊥ = search rules in
    let p = err_from_is_err_and c.from_residual.result c.from_residual.ensures.1 in
    rw (p.1, p.2) (elim c.in_err-follow_index.ensures.refused [
      | inl memory ↦ inl memory
      | inr x ↦ inr (
        x.0,
        x.1,
        section_fault (index (length section)) section x.0 (fault_of_next (index (length section)) section [] rest now c.indices.invariant.so_far some x.0
            (subst (λ (n : ℕ). index n rest now ≡ Err x.0) c.indices.invariant.same_end x.2)),
      )
    ])

pub indices-preserved : goal.indices-preserved
indices-preserved c =
    let section = c.args.section.now in
    let rest = c.indices.input.rest.now in
    let now = changes c.indices.out in
    let new = changes c.follow_index.new.out in
    let after = c.follow_index.new.input.rest.now in
    let index = λ (n : ℕ). index_followed (changes c.args.info.now) n in
    let some : rest ≡ [] → ⊥ = search rules in
    let at_end = subst (λ (n : ℕ). index n rest now ≡ Ok (new, after)) c.indices.invariant.same_end c.in_ok-follow_index.ensures.followed in
    record {
      so_far = replaced_next (index (length section)) section [] rest now c.indices.invariant.so_far some new after at_end c.in_ok-follow_index.ensures.shorter;
      same_end = c.in_ok-follow_index.ensures.end ∙ c.indices.invariant.same_end;
    }

pub returns-clause-followed : goal.returns-clause-followed
returns-clause-followed c =
    let section = c.args.section.now in
    let none : c.indices.input.rest.now ≡ [] = search rules in
    let index = index_followed (changes c.args.info.now) (length section) in
    let all = all_replaced index section [] c.indices.input.rest.now (changes c.indices.out) c.indices.invariant.so_far none in
    rw (section_is index section (changes c.indices.out) all) c.replaced.ensures.replaced

pub returns-clause-refused : goal.returns-clause-refused
returns-clause-refused c =
    let section = c.args.section.now in
    let none : c.indices.input.rest.now ≡ [] = search rules in
    let index = index_followed (changes c.args.info.now) (length section) in
    let all = all_replaced index section [] c.indices.input.rest.now (changes c.indices.out) c.indices.invariant.so_far none in
    rw (section_is index section (changes c.indices.out) all) c.replaced.ensures.refused
