use Rattle.std.proofs.Common.{rules, Err, ◌≡◌, List, [], length, inl, inr, refl, sym, subst, ◌∙◌, Ok, ℕ}
use Rattle.std.proofs.lemmas.Result.{err_from_is_err_and}
use Rattle.dwarf_info.specs.EntryViews.{entries_moved}
use Rattle.dwarf_info.specs.Steps.{SectionSetting}
use Rattle.dwarf_info.specs.UnitViews.{unit_of}
use Rattle.dwarf_info.specs.Units.{spelled_unit}
use Rattle.dwarf_info.specs.Views.{tables_of}
use Rattle.dwarf_info.proofs.Stepping.{UnitsSoFar, units_none, units_done, units_unread, units_refused, units_more}
use Rattle.dwarf_info.proofs.entries.move_units.Goals as goal

pub units-init : goal.units-init
units-init c =
    let section = c.args.section.now in
    let s : SectionSetting = record {
      kind = c.args.kind;
      tables = tables_of c.args.abbreviations.now;
      bodies = c.args.moves.now.bodies.items;
      addresses = c.args.addresses.now;
      end = length section;
    } in
    let old = entries_moved c.args.out.now in
    record {
      so_far = subst (λ (rest : List ℕ). UnitsSoFar s section old rest old) (sym c.new-input.ensures.rest) (units_none s section old);
      same_end = c.new-input.ensures.end;
    }

pub returns-in_err-unit-clause-refused : goal.returns-in_err-unit-clause-refused
returns-in_err-unit-clause-refused c =
    let s : SectionSetting = record {
      kind = c.args.kind;
      tables = tables_of c.args.abbreviations.now;
      bodies = c.args.moves.now.bodies.items;
      addresses = c.args.addresses.now;
      end = length c.args.section.now;
    } in
    let old = entries_moved c.args.out.now in
    let some : c.units.input.rest.now ≡ [] → ⊥ = search rules in
    let p = err_from_is_err_and c.from_residual.result c.from_residual.ensures.1 in
    let at_end = subst (λ (n : ℕ). spelled_unit s.kind s.tables n c.units.input.rest.now ≡ Err c.in_err-unit.field-0.0) c.units.invariant.same_end c.in_err-unit.ensures.gives in
    rw (p.1, p.2) (inr (_, refl, units_unread s c.args.section.now old c.units.input.rest.now (entries_moved c.units.out) c.units.invariant.so_far some c.in_err-unit.field-0.0 at_end))

pub returns-in_err-move_entries-clause-refused : goal.returns-in_err-move_entries-clause-refused
returns-in_err-move_entries-clause-refused c =
    let s : SectionSetting = record {
      kind = c.args.kind;
      tables = tables_of c.args.abbreviations.now;
      bodies = c.args.moves.now.bodies.items;
      addresses = c.args.addresses.now;
      end = length c.args.section.now;
    } in
    let old = entries_moved c.args.out.now in
    let some : c.units.input.rest.now ≡ [] → ⊥ = search rules in
    let at_end = subst (λ (n : ℕ). spelled_unit s.kind s.tables n c.units.input.rest.now ≡ Ok (unit_of c.in_ok-unit.unit, c.read.new.input.rest.now)) c.units.invariant.same_end c.in_ok-unit.ensures.gives in
    let p = err_from_is_err_and c.from_residual-in_err-move_entries.result c.from_residual-in_err-move_entries.ensures.1 in
    rw (p.1, p.2) (elim c.in_err-move_entries.ensures.refused [
      | inl memory ↦ inl memory
      | inr x ↦ inr (x.0, x.1, units_refused s c.args.section.now old c.units.input.rest.now (entries_moved c.units.out) c.units.invariant.so_far some (unit_of c.in_ok-unit.unit) c.read.new.input.rest.now at_end x.0 x.2)
    ])

pub units-preserved : goal.units-preserved
units-preserved c =
    let s : SectionSetting = record {
      kind = c.args.kind;
      tables = tables_of c.args.abbreviations.now;
      bodies = c.args.moves.now.bodies.items;
      addresses = c.args.addresses.now;
      end = length c.args.section.now;
    } in
    let old = entries_moved c.args.out.now in
    let some : c.units.input.rest.now ≡ [] → ⊥ = search rules in
    let at_end = subst (λ (n : ℕ). spelled_unit s.kind s.tables n c.units.input.rest.now ≡ Ok (unit_of c.in_ok-unit.unit, c.read.new.input.rest.now)) c.units.invariant.same_end c.in_ok-unit.ensures.gives in
    record {
      so_far = units_more s c.args.section.now old c.units.input.rest.now (entries_moved c.units.out) c.units.invariant.so_far some (unit_of c.in_ok-unit.unit) c.read.new.input.rest.now at_end (entries_moved c.move_entries.new.out)
          c.in_ok-move_entries.ensures.taken c.in_ok-unit.ensures.shorter;
      same_end = c.in_ok-unit.ensures.end ∙ c.units.invariant.same_end;
    }

pub returns-clause-taken : goal.returns-clause-taken
returns-clause-taken c =
    let s : SectionSetting = record {
      kind = c.args.kind;
      tables = tables_of c.args.abbreviations.now;
      bodies = c.args.moves.now.bodies.items;
      addresses = c.args.addresses.now;
      end = length c.args.section.now;
    } in
    let none : c.units.input.rest.now ≡ [] = search rules in
    units_done s c.args.section.now (entries_moved c.args.out.now) c.units.input.rest.now (entries_moved c.units.out) c.units.invariant.so_far none
