use Rattle.std.proofs.Common.{rules, ◌≡◌, [], ℕ, Ok, Err, inl, inr, subst, ◌∙◌}
use Rattle.std.proofs.lemmas.Result.{err_from_is_err_and}
use Rattle.dwarf_bytes.specs.Patches.{changes}
use Rattle.dwarf.specs.IndexEntries.{unit_offset_followed}
use Rattle.dwarf.specs.Replacing.{unit_followed}
use Rattle.dwarf.proofs.Repeating.{bind_fault, bind_value, all_replaced, fault_of_next, replaced_next}
use Rattle.dwarf.proofs.name_index.follow_units.Goals as goal

pub returns-in_err-follow_unit_offset-clause-refused : goal.returns-in_err-follow_unit_offset-clause-refused
returns-in_err-follow_unit_offset-clause-refused c =
    let rest = c.units.left.rest.now in
    let now = changes c.units.out in
    let one = unit_offset_followed (changes c.args.info.now) c.args.size in
    let end = c.args.list.end in
    let some : rest ≡ [] → ⊥ = search rules in
    let p = err_from_is_err_and c.from_residual.result c.from_residual.ensures.1 in
    rw (p.1, p.2) (elim c.in_err-follow_unit_offset.ensures.refused [
      | inl memory ↦ inl memory
      | inr x ↦ inr (
        x.0,
        x.1,
        fault_of_next (one end) c.args.list.rest.now (changes c.args.out.now) rest now c.units.invariant.so_far some x.0
            (subst (λ (n : ℕ). one n rest now ≡ Err x.0) c.units.invariant.same_end
            (bind_fault (unit_followed (changes c.args.info.now) c.args.size c.units.left.end rest now) (λ x. Ok (x.0.1, x.1)) x.0 x.2)),
      )
    ])

pub units-preserved : goal.units-preserved
units-preserved c =
    let rest = c.units.left.rest.now in
    let now = changes c.units.out in
    let new = changes c.follow_unit_offset.new.out in
    let after = c.follow_unit_offset.new.input.rest.now in
    let one = unit_offset_followed (changes c.args.info.now) c.args.size in
    let some : rest ≡ [] → ⊥ = search rules in
    let followed = bind_value (unit_followed (changes c.args.info.now) c.args.size c.units.left.end rest now) (λ x. Ok (x.0.1, x.1)) ((c.in_ok-follow_unit_offset.field-0, new), after) c.in_ok-follow_unit_offset.ensures.followed in
    let at_end = subst (λ (n : ℕ). one n rest now ≡ Ok (new, after)) c.units.invariant.same_end followed in
    record {
      so_far = replaced_next (one c.args.list.end) c.args.list.rest.now (changes c.args.out.now) rest now c.units.invariant.so_far some new after at_end c.in_ok-follow_unit_offset.ensures.shorter;
      same_end = c.in_ok-follow_unit_offset.ensures.end ∙ c.units.invariant.same_end;
    }

pub returns-clause-followed : goal.returns-clause-followed
returns-clause-followed c =
    let none : c.units.left.rest.now ≡ [] = search rules in
    all_replaced (unit_offset_followed (changes c.args.info.now) c.args.size c.args.list.end) c.args.list.rest.now (changes c.args.out.now) c.units.left.rest.now (changes c.units.out) c.units.invariant.so_far none
