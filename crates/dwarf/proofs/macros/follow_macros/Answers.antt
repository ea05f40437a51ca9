use Rattle.std.proofs.Common.{rules, ◌≡◌, [], ℕ, length, Ok, Err, inl, inr, subst, ◌∙◌}
use Rattle.std.proofs.lemmas.Result.{err_from_is_err_and}
use Rattle.dwarf_bytes.specs.Patches.{changes}
use Rattle.dwarf.specs.Macros.{macros_followed}
use Rattle.dwarf.proofs.Repeating.{all_replaced, fault_of_next, replaced_next, section_is, section_fault}
use Rattle.dwarf.proofs.macros.follow_macros.Goals as goal

pub returns-in_err-follow_unit-clause-refused : goal.returns-in_err-follow_unit-clause-refused
returns-in_err-follow_unit-clause-refused c =
    let section = c.args.section.now in
    let rest = c.units.input.rest.now in
    let now = changes c.units.out in
    let unit = λ (n : ℕ). macros_followed c.args.tables.now n in
    let some : rest ≡ [] → ⊥ = search rules in
    let p = err_from_is_err_and c.from_residual.result c.from_residual.ensures.1 in
    rw (p.1, p.2) (elim c.in_err-follow_unit.ensures.refused [
      | inl memory ↦ inl memory
      | inr x ↦ inr (
        x.0,
        x.1,
        section_fault (unit (length section)) section x.0 (fault_of_next (unit (length section)) section [] rest now c.units.invariant.so_far some x.0
            (subst (λ (n : ℕ). unit n rest now ≡ Err x.0) c.units.invariant.same_end x.2)),
      )
    ])

pub units-preserved : goal.units-preserved
units-preserved c =
    let section = c.args.section.now in
    let rest = c.units.input.rest.now in
    let now = changes c.units.out in
    let new = changes c.follow_unit.new.out in
    let after = c.follow_unit.new.input.rest.now in
    let unit = λ (n : ℕ). macros_followed c.args.tables.now n in
    let some : rest ≡ [] → ⊥ = search rules in
    let at_end = subst (λ (n : ℕ). unit n rest now ≡ Ok (new, after)) c.units.invariant.same_end c.in_ok-follow_unit.ensures.followed in
    record {
      so_far = replaced_next (unit (length section)) section [] rest now c.units.invariant.so_far some new after at_end c.in_ok-follow_unit.ensures.shorter;
      same_end = c.in_ok-follow_unit.ensures.end ∙ c.units.invariant.same_end;
    }

pub returns-clause-followed : goal.returns-clause-followed
returns-clause-followed c =
    let section = c.args.section.now in
    let none : c.units.input.rest.now ≡ [] = search rules in
    let unit = macros_followed c.args.tables.now (length section) in
    let all = all_replaced unit section [] c.units.input.rest.now (changes c.units.out) c.units.invariant.so_far none in
    rw (section_is unit section (changes c.units.out) all) c.replaced.ensures.replaced

pub returns-clause-refused : goal.returns-clause-refused
returns-clause-refused c =
    let section = c.args.section.now in
    let none : c.units.input.rest.now ≡ [] = search rules in
    let unit = macros_followed c.args.tables.now (length section) in
    let all = all_replaced unit section [] c.units.input.rest.now (changes c.units.out) c.units.invariant.so_far none in
    rw (section_is unit section (changes c.units.out) all) c.replaced.ensures.refused
