use Rattle.std.proofs.Common.{rules, ◌≡◌, List, [], Some, None, Ok, Err, inl, inr, refl, sym, ap, subst, ◌∙◌, option_map, map}
use Rattle.std.proofs.lemmas.Result.{err_from_is_err_and}
use Rattle.dwarf_info.specs.declared.context.EntryPlaces.{EntryPlaces}
use Rattle.dwarf_info.specs.declared.scope.Scope.{Scope}
use Rattle.dwarf_info.specs.declared.values.AttributeValue.{AttributeValue}
use Rattle.dwarf_info.specs.Contexts.{context_of_entry, unit_bases}
use Rattle.dwarf_info.specs.EntryViews.{attribute_spelled, unit_setting, entry_spelled, entries_moved}
use Rattle.dwarf_info.specs.Steps.{EntrySteps, entry_places, bases_known, innermost_scope, context_in, steps_of_attributes}
use Rattle.dwarf_info.specs.Taken.{AreStepsTaken, IsFaultOfSteps}
use Rattle.dwarf_info.proofs.Stepping.{EntriesSoFar, entries_none, entries_done, entries_unread, entries_closed, entries_without_bases, entries_without_context, entries_refused, entries_more}
use Rattle.dwarf_info.proofs.entries.UnitContext.move_entries.Goals as goal

pub entries-init : goal.entries-init
entries-init c =
    let s = unit_setting c.args.self.now in
    let all = c.args.self.now.unit.entries.rest.now in
    let old = entries_moved c.args.out.now in
    record { so_far = subst (λ (scopes : List Scope). EntriesSoFar s all old scopes None all old) (sym c.clear.ensures.items) (entries_none s all old); same_end = refl }

pub read_entry-requires : goal.read_entry-requires
read_entry-requires c = c.entries.invariant.same_end

pub returns-in_err-read_entry-clause-refused : goal.returns-in_err-read_entry-clause-refused
returns-in_err-read_entry-clause-refused c =
    let s = unit_setting c.args.self.now in
    let all = c.args.self.now.unit.entries.rest.now in
    let old = entries_moved c.args.out.now in
    let some : c.entries.input.rest.now ≡ [] → ⊥ = search rules in
    let p = err_from_is_err_and c.from_residual.result c.from_residual.ensures.1 in
    rw (p.1, p.2) (elim c.in_err-read_entry.ensures.refused [ inl memory ↦ inl memory | inr x ↦ inr (x.0, x.1, entries_unread s all old c.entries.scopes.items (option_map unit_bases c.entries.known) c.entries.input.rest.now (entries_moved c.entries.out) c.entries.invariant.so_far some x.0 x.2) ])

pub entries-preserved-in-None : goal.entries-preserved-in-None
entries-preserved-in-None c =
    let s = unit_setting c.args.self.now in
    let all = c.args.self.now.unit.entries.rest.now in
    let old = entries_moved c.args.out.now in
    let some : c.entries.input.rest.now ≡ [] → ⊥ = search rules in
    let read = rw c.in-None.is at c.in_ok-read_entry.ensures.read in
    record {
      so_far = subst (λ (scopes : List Scope). EntriesSoFar s all old scopes (option_map unit_bases c.entries.known) c.read_entry.new.input.rest.now (entries_moved c.entries.out)) (sym c.close.ensures)
          (entries_closed s all old c.entries.scopes.items (option_map unit_bases c.entries.known) c.entries.input.rest.now (entries_moved c.entries.out) c.entries.invariant.so_far some c.read_entry.new.input.rest.now c.in_ok-read_entry.ensures.shorter read);
      same_end = c.in_ok-read_entry.ensures.end ∙ c.entries.invariant.same_end;
    }

pub returns-in_err-bases-in-Some-clause-refused : goal.returns-in_err-bases-in-Some-clause-refused
returns-in_err-bases-in-Some-clause-refused c =
    let s = unit_setting c.args.self.now in
    let all = c.args.self.now.unit.entries.rest.now in
    let old = entries_moved c.args.out.now in
    let some : c.entries.input.rest.now ≡ [] → ⊥ = search rules in
    let entry = entry_spelled c.read_entry.new.values.items c.in-Some.abbreviation.now in
    let read = rw c.in-Some.is at c.in_ok-read_entry.ensures.read in
    let places = c.of-places.ensures ∙ ap (λ (vs : List AttributeValue). entry_places (map attribute_spelled vs)) c.as_slice-attributes.ensures.value in
    let p = err_from_is_err_and c.from_residual-in_err-bases-in-Some.result c.from_residual-in_err-bases-in-Some.ensures.1 in
    rw (p.1, p.2) (inr (
      _,
      refl,
      entries_without_bases s all old c.entries.scopes.items (option_map unit_bases c.entries.known) c.entries.input.rest.now (entries_moved c.entries.out) c.entries.invariant.so_far some c.read_entry.new.input.rest.now c.in_ok-read_entry.ensures.shorter entry read c.in_err-bases-in-Some.field-0.0
          (subst (λ (x : EntryPlaces). bases_known (option_map unit_bases c.entries.known) s.unit.encoding s.addresses x ≡ Err c.in_err-bases-in-Some.field-0.0) places c.in_err-bases-in-Some.ensures),
    ))

pub returns-in_err-context-in-Some-clause-refused : goal.returns-in_err-context-in-Some-clause-refused
returns-in_err-context-in-Some-clause-refused c =
    let s = unit_setting c.args.self.now in
    let all = c.args.self.now.unit.entries.rest.now in
    let old = entries_moved c.args.out.now in
    let some : c.entries.input.rest.now ≡ [] → ⊥ = search rules in
    let entry = entry_spelled c.read_entry.new.values.items c.in-Some.abbreviation.now in
    let read = rw c.in-Some.is at c.in_ok-read_entry.ensures.read in
    let places = c.of-places.ensures ∙ ap (λ (vs : List AttributeValue). entry_places (map attribute_spelled vs)) c.as_slice-attributes.ensures.value in
    let bases = unit_bases c.in_ok-bases-in-Some.bases in
    let based = subst (λ (x : EntryPlaces). bases_known (option_map unit_bases c.entries.known) s.unit.encoding s.addresses x ≡ Ok bases) places c.in_ok-bases-in-Some.ensures in
    let around = c.innermost-around.ensures ∙ ap innermost_scope c.as_slice.ensures.value in
    let p = err_from_is_err_and c.from_residual-in_err-context-in-Some.result c.from_residual-in_err-context-in-Some.ensures.1 in
    let refused = subst (λ (x : EntryPlaces). context_in s bases (innermost_scope c.entries.scopes.items) entry.tag x ≡ Err c.in_err-context-in-Some.field-0.0) places
    (subst (λ (x : Scope). context_in s bases x entry.tag c.of-places.result ≡ Err c.in_err-context-in-Some.field-0.0) around c.in_err-context-in-Some.ensures) in
    rw (p.1, p.2) (inr (_, refl, entries_without_context s all old c.entries.scopes.items (option_map unit_bases c.entries.known) c.entries.input.rest.now (entries_moved c.entries.out) c.entries.invariant.so_far some c.read_entry.new.input.rest.now c.in_ok-read_entry.ensures.shorter entry read bases based c.in_err-context-in-Some.field-0.0 refused))

pub returns-in_err-move_attributes-in-Some-clause-refused : goal.returns-in_err-move_attributes-in-Some-clause-refused
returns-in_err-move_attributes-in-Some-clause-refused c =
    let s = unit_setting c.args.self.now in
    let all = c.args.self.now.unit.entries.rest.now in
    let old = entries_moved c.args.out.now in
    let some : c.entries.input.rest.now ≡ [] → ⊥ = search rules in
    let entry = entry_spelled c.read_entry.new.values.items c.in-Some.abbreviation.now in
    let read = rw c.in-Some.is at c.in_ok-read_entry.ensures.read in
    let places = c.of-places.ensures ∙ ap (λ (vs : List AttributeValue). entry_places (map attribute_spelled vs)) c.as_slice-attributes.ensures.value in
    let bases = unit_bases c.in_ok-bases-in-Some.bases in
    let based = subst (λ (x : EntryPlaces). bases_known (option_map unit_bases c.entries.known) s.unit.encoding s.addresses x ≡ Ok bases) places c.in_ok-bases-in-Some.ensures in
    let around = c.innermost-around.ensures ∙ ap innermost_scope c.as_slice.ensures.value in
    let context = context_of_entry c.in_ok-context-in-Some.context in
    let in_context = subst (λ (x : EntryPlaces). context_in s bases (innermost_scope c.entries.scopes.items) entry.tag x ≡ Ok context) places
    (subst (λ (x : Scope). context_in s bases x entry.tag c.of-places.result ≡ Ok context) around c.in_ok-context-in-Some.ensures) in
    let same = ap (λ (vs : List AttributeValue). steps_of_attributes context (map attribute_spelled vs)) c.as_slice-attributes.ensures.value in
    let p = err_from_is_err_and c.from_residual-in_err-move_attributes-in-Some.result c.from_residual-in_err-move_attributes-in-Some.ensures.1 in
    rw (p.1, p.2) (elim c.in_err-move_attributes-in-Some.ensures.refused [
      | inl memory ↦ inl memory
      | inr x ↦ inr (
        x.0,
        x.1,
        entries_refused s all old c.entries.scopes.items (option_map unit_bases c.entries.known) c.entries.input.rest.now (entries_moved c.entries.out) c.entries.invariant.so_far some c.read_entry.new.input.rest.now c.in_ok-read_entry.ensures.shorter entry read bases based context in_context x.0
            (subst (λ (steps : EntrySteps). IsFaultOfSteps steps (entries_moved c.entries.out) x.0) same x.2),
      )
    ])

pub returns-in_err-open_children-in-Some-clause-refused : goal.returns-in_err-open_children-in-Some-clause-refused
returns-in_err-open_children-in-Some-clause-refused c =
    let p = err_from_is_err_and c.from_residual-in_err-open_children-in-Some.result c.from_residual-in_err-open_children-in-Some.ensures.1 in
    rw (p.1, p.2) (inl c.in_err-open_children-in-Some.ensures.memory)

pub entries-preserved : goal.entries-preserved
entries-preserved c =
    let s = unit_setting c.args.self.now in
    let all = c.args.self.now.unit.entries.rest.now in
    let old = entries_moved c.args.out.now in
    let some : c.entries.input.rest.now ≡ [] → ⊥ = search rules in
    let entry = entry_spelled c.read_entry.new.values.items c.in-Some.abbreviation.now in
    let read = rw c.in-Some.is at c.in_ok-read_entry.ensures.read in
    let places = c.of-places.ensures ∙ ap (λ (vs : List AttributeValue). entry_places (map attribute_spelled vs)) c.as_slice-attributes.ensures.value in
    let bases = unit_bases c.in_ok-bases-in-Some.bases in
    let based = subst (λ (x : EntryPlaces). bases_known (option_map unit_bases c.entries.known) s.unit.encoding s.addresses x ≡ Ok bases) places c.in_ok-bases-in-Some.ensures in
    let around = c.innermost-around.ensures ∙ ap innermost_scope c.as_slice.ensures.value in
    let context = context_of_entry c.in_ok-context-in-Some.context in
    let in_context = subst (λ (x : EntryPlaces). context_in s bases (innermost_scope c.entries.scopes.items) entry.tag x ≡ Ok context) places
    (subst (λ (x : Scope). context_in s bases x entry.tag c.of-places.result ≡ Ok context) around c.in_ok-context-in-Some.ensures) in
    let same = ap (λ (vs : List AttributeValue). steps_of_attributes context (map attribute_spelled vs)) c.as_slice-attributes.ensures.value in
    let new = entries_moved c.move_attributes.new.out in
    let more = entries_more s all old c.entries.scopes.items (option_map unit_bases c.entries.known) c.entries.input.rest.now (entries_moved c.entries.out) c.entries.invariant.so_far some c.read_entry.new.input.rest.now c.in_ok-read_entry.ensures.shorter entry read bases based context in_context new
    (subst (λ (steps : EntrySteps). AreStepsTaken steps (entries_moved c.entries.out) new) same c.in_ok-move_attributes-in-Some.ensures.taken) in
    record {
      so_far = subst (λ (scopes : List Scope). EntriesSoFar s all old scopes (Some bases) c.read_entry.new.input.rest.now new) (sym c.in_ok-open_children-in-Some.ensures.opened) more;
      same_end = c.in_ok-read_entry.ensures.end ∙ c.entries.invariant.same_end;
    }

pub returns-clause-taken : goal.returns-clause-taken
returns-clause-taken c =
    let s = unit_setting c.args.self.now in
    let all = c.args.self.now.unit.entries.rest.now in
    let old = entries_moved c.args.out.now in
    let none : c.entries.input.rest.now ≡ [] = search rules in
    entries_done s all old c.entries.scopes.items (option_map unit_bases c.entries.known) c.entries.input.rest.now (entries_moved c.entries.out) c.entries.invariant.so_far none
