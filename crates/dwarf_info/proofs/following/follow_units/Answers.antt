use Rattle.std.proofs.Common.{rules, Err, ◌≡◌, List, [], length, inl, inr, refl, sym, subst, ◌∙◌, Ok, ℕ}
use Rattle.std.proofs.lemmas.Result.{err_from_is_err_and}
use Rattle.dwarf_bytes.specs.Merging.{Merging, merging, none_merged}
use Rattle.dwarf_bytes.specs.Patches.{changes}
use Rattle.dwarf_info.specs.Following.{UnitsFollowing, follow_section}
use Rattle.dwarf_info.specs.FollowViews.{section_shifts}
use Rattle.dwarf_info.specs.UnitViews.{unit_of}
use Rattle.dwarf_info.specs.Units.{spelled_unit}
use Rattle.dwarf_info.specs.Views.{tables_of}
use Rattle.dwarf_info.proofs.FollowLemmas.{FollowingUnits, no_units_yet, followed_units, unit_unread, unit_followed, unit_not_followed, finish_followed, finish_refused}
use Rattle.dwarf_info.proofs.following.follow_units.Goals as goal

pub units-init : goal.units-init
units-init c =
    let section = c.args.section.now in
    let s : UnitsFollowing = record {
      kind = c.args.kind;
      tables = tables_of c.args.abbreviations.now;
      end = length c.args.section.now;
      shifts = section_shifts c.args.shifts.now;
      own = changes c.args.own.now;
    } in
    let old = none_merged (changes c.args.own.now) in
    record {
      so_far = subst (λ (m : Merging). FollowingUnits s section old c.new-input.result.rest.now m) (sym c.new-out.ensures)
          (subst (λ (rest : List ℕ). FollowingUnits s section old rest old) (sym c.new-input.ensures.rest) (no_units_yet s section old));
      same_end = c.new-input.ensures.end;
    }

pub returns-in_err-unit-clause-refused : goal.returns-in_err-unit-clause-refused
returns-in_err-unit-clause-refused c =
    let s : UnitsFollowing = record {
      kind = c.args.kind;
      tables = tables_of c.args.abbreviations.now;
      end = length c.args.section.now;
      shifts = section_shifts c.args.shifts.now;
      own = changes c.args.own.now;
    } in
    let old = none_merged (changes c.args.own.now) in
    let some : c.units.input.rest.now ≡ [] → ⊥ = search rules in
    let p = err_from_is_err_and c.from_residual.result c.from_residual.ensures.1 in
    let at_end = subst (λ (n : ℕ). spelled_unit s.kind s.tables n c.units.input.rest.now ≡ Err c.in_err-unit.field-0.0) c.units.invariant.same_end c.in_err-unit.ensures.gives in
    rw (p.1, p.2) (inr (_, refl, inl (unit_unread s c.args.section.now old c.units.input.rest.now (merging c.units.out) c.units.invariant.so_far some c.in_err-unit.field-0.0 at_end)))

pub returns-in_err-follow_unit-clause-refused : goal.returns-in_err-follow_unit-clause-refused
returns-in_err-follow_unit-clause-refused c =
    let s : UnitsFollowing = record {
      kind = c.args.kind;
      tables = tables_of c.args.abbreviations.now;
      end = length c.args.section.now;
      shifts = section_shifts c.args.shifts.now;
      own = changes c.args.own.now;
    } in
    let old = none_merged (changes c.args.own.now) in
    let some : c.units.input.rest.now ≡ [] → ⊥ = search rules in
    let at_end = subst (λ (n : ℕ). spelled_unit s.kind s.tables n c.units.input.rest.now ≡ Ok (unit_of c.in_ok-unit.unit, c.read.new.input.rest.now)) c.units.invariant.same_end c.in_ok-unit.ensures.gives in
    let p = err_from_is_err_and c.from_residual-in_err-follow_unit.result c.from_residual-in_err-follow_unit.ensures.1 in
    rw (p.1, p.2) (elim c.in_err-follow_unit.ensures.refused [
      | inl memory ↦ inl memory
      | inr x ↦ inr (x.0, x.1, inl (unit_not_followed s c.args.section.now old c.units.input.rest.now (merging c.units.out) c.units.invariant.so_far some (unit_of c.in_ok-unit.unit) c.read.new.input.rest.now at_end x.0 x.2))
    ])

pub units-preserved : goal.units-preserved
units-preserved c =
    let s : UnitsFollowing = record {
      kind = c.args.kind;
      tables = tables_of c.args.abbreviations.now;
      end = length c.args.section.now;
      shifts = section_shifts c.args.shifts.now;
      own = changes c.args.own.now;
    } in
    let old = none_merged (changes c.args.own.now) in
    let some : c.units.input.rest.now ≡ [] → ⊥ = search rules in
    let at_end = subst (λ (n : ℕ). spelled_unit s.kind s.tables n c.units.input.rest.now ≡ Ok (unit_of c.in_ok-unit.unit, c.read.new.input.rest.now)) c.units.invariant.same_end c.in_ok-unit.ensures.gives in
    record {
      so_far = unit_followed s c.args.section.now old c.units.input.rest.now (merging c.units.out) c.units.invariant.so_far some (unit_of c.in_ok-unit.unit) c.read.new.input.rest.now at_end (merging c.follow_unit.new.out)
          c.in_ok-follow_unit.ensures.merged c.in_ok-unit.ensures.shorter;
      same_end = c.in_ok-unit.ensures.end ∙ c.units.invariant.same_end;
    }

pub returns-clause-followed : goal.returns-clause-followed
returns-clause-followed c =
    let s : UnitsFollowing = record {
      kind = c.args.kind;
      tables = tables_of c.args.abbreviations.now;
      end = length c.args.section.now;
      shifts = section_shifts c.args.shifts.now;
      own = changes c.args.own.now;
    } in
    let none : c.units.input.rest.now ≡ [] = search rules in
    let merged = followed_units s c.args.section.now (none_merged (changes c.args.own.now)) c.units.input.rest.now (merging c.units.out) c.units.invariant.so_far none in
    finish_followed changes (changes c.args.own.now) (follow_section c.args.kind (tables_of c.args.abbreviations.now) (section_shifts c.args.shifts.now) (changes c.args.own.now) c.args.section.now)
    (merging c.units.out) merged c.finish.result c.finish.ensures.merged

pub returns-clause-refused : goal.returns-clause-refused
returns-clause-refused c =
    let s : UnitsFollowing = record {
      kind = c.args.kind;
      tables = tables_of c.args.abbreviations.now;
      end = length c.args.section.now;
      shifts = section_shifts c.args.shifts.now;
      own = changes c.args.own.now;
    } in
    let none : c.units.input.rest.now ≡ [] = search rules in
    let merged = followed_units s c.args.section.now (none_merged (changes c.args.own.now)) c.units.input.rest.now (merging c.units.out) c.units.invariant.so_far none in
    finish_refused changes (changes c.args.own.now) (follow_section c.args.kind (tables_of c.args.abbreviations.now) (section_shifts c.args.shifts.now) (changes c.args.own.now) c.args.section.now)
    (merging c.units.out) merged c.finish.result c.finish.ensures.refused
