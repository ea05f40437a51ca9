-- Steps that are taken one after the other.
use Rattle.std.proofs.Common.{◌≡◌, ℕ, zero, suc, ◌<◌, ◌≤◌, ◌+◌, true, false, List, [], ◌∷◌, ◌++◌, length, map, fold, get_or, drop, Option, Some, None, Result, Ok, Err, refl, sym, ap, subst, ◌∙◌, inl, inr, arith}
use Rattle.std.proofs.lemmas.List.{drop_more, drop_all}
use Rattle.dwarf_bytes.specs.declared.fault.DebugFault.{DebugFault}
use Rattle.dwarf_info.specs.declared.context.EntryPlaces.{EntryPlaces}
use Rattle.dwarf_info.specs.declared.effect.Effect.{Effect}
use Rattle.dwarf_info.specs.declared.scope.Scope.{Scope}
use Rattle.dwarf_info.specs.Effects.{UnitBases, EntryContext, effect_of}
use Rattle.dwarf_info.specs.Entries.{SpelledAttribute, SpelledEntry, next_entry}
use Rattle.dwarf_info.specs.Steps.{EntrySteps, steps_with, address_of_class, code_length, noted, noted_begin, noting_steps, change_decided, is_dropped, steps_of_attribute, steps_of_attributes, UnitSetting, SectionSetting, places_after, entry_places, bases_known, innermost_scope, scopes_closed, context_in, scopes_below, steps_from_entry, steps_of_entries, steps_of_unit, steps_of_units}
use Rattle.dwarf_info.specs.Taken.{EntriesMoved, code_noted, IsEffectTaken, IsEffectRefused, AreStepsTaken, IsFaultOfSteps}
use Rattle.dwarf_info.specs.Units.{SpelledUnit, spelled_unit}

-- Of all steps from one state these are left in another: what they come to, all come to.
pub record StepsLeft (all : EntrySteps) (old : EntriesMoved) (left : EntrySteps) (now : EntriesMoved) : Type 0 where
  pub taken : (new : EntriesMoved) → AreStepsTaken left now new → AreStepsTaken all old new
  pub refused : (fault : DebugFault) → IsFaultOfSteps left now fault → IsFaultOfSteps all old fault

pub left_all : (all : EntrySteps) (old : EntriesMoved) → StepsLeft all old all old
left_all all old = record { taken = λ new h. h; refused = λ fault h. h }

pub left_then : (all some others : EntrySteps) (old now new : EntriesMoved) → StepsLeft all old some now → StepsLeft some now others new → StepsLeft all old others new
left_then all some others old now new p q = record {
  taken = λ last h. p.taken last (q.taken last h);
  refused = λ fault h. p.refused fault (q.refused fault h);
}

pub left_after : (ss ts : EntrySteps) (old now : EntriesMoved) → AreStepsTaken ss old now → StepsLeft (ss ++ ts) old ts now
left_after [] ts old now e = subst (λ m. StepsLeft ts old ts m) (sym e) (left_all ts old)
left_after (Err f ∷ ss) ts old now e = absurd e
left_after (Ok s ∷ ss) ts old now e =
    let others = left_after ss ts e.0 now e.2 in
    record { taken = λ new h. (e.0, e.1, others.taken new h); refused = λ fault h. inr (e.0, e.1, others.refused fault h) }

pub refused_front : (ss ts : EntrySteps) (old : EntriesMoved) (fault : DebugFault) → IsFaultOfSteps ss old fault → IsFaultOfSteps (ss ++ ts) old fault
refused_front [] ts old fault e = absurd e
refused_front (Err f ∷ ss) ts old fault e = e
refused_front (Ok s ∷ ss) ts old fault e =
    elim e [ inl refused ↦ inl refused | inr next ↦ inr (next.0, next.1, refused_front ss ts next.0 fault next.2) ]

-- ---- what is read

pub with_ok : {A : Type 0} (r : Result A DebugFault) (f : A → EntrySteps) (x : A) → r ≡ Ok x → steps_with r f ≡ f x
with_ok r f x e = rw e refl

pub with_err : {A : Type 0} (r : Result A DebugFault) (f : A → EntrySteps) (fault : DebugFault) → r ≡ Err fault → steps_with r f ≡ Err fault ∷ []
with_err r f fault e = rw e refl

-- ---- attributes

module _ (c : EntryContext) (a : SpelledAttribute) (old : EntriesMoved) where
  pub noted_taken : (begin : ℕ) (end : Option ℕ) (new : EntriesMoved) → address_of_class c.bases.addresses a.form.class a.value.number ≡ Ok end
      → new ≡ code_noted old (record { unit = c.unit; begin = begin; length = code_length begin a.value.number end }) → AreStepsTaken (noted c a begin ∷ []) old new
  noted_taken begin end new e is = rw e (new, is, refl)

  pub not_noted : (begin : ℕ) (fault : DebugFault) → address_of_class c.bases.addresses a.form.class a.value.number ≡ Err fault → IsFaultOfSteps (noted c a begin ∷ []) old fault
  not_noted begin fault e = rw e refl

  pub undecided : (fault : DebugFault) → effect_of c a.meaning a.form a.value ≡ Err fault → IsFaultOfSteps (change_decided c a ∷ []) old fault
  undecided fault e = rw e refl

  module _ (effect : Effect) (e : effect_of c a.meaning a.form a.value ≡ Ok effect) where
    pub change_taken : (new : EntriesMoved) → IsEffectTaken c a.form.layout a.value effect old new → AreStepsTaken (change_decided c a ∷ []) old new
    change_taken new t = rw e (new, t, refl)

    pub change_refused : (fault : DebugFault) → IsEffectRefused c a.form.layout a.value effect old fault → IsFaultOfSteps (change_decided c a ∷ []) old fault
    change_refused fault t = rw e (inl t)

  abbrev noting : EntrySteps
  noting = noting_steps c a (noted_begin c a.meaning)

  pub none_taken : is_dropped c.scope ≡ true → AreStepsTaken (steps_of_attribute c a) old old
  none_taken e = rw e refl

  module _ (kept : is_dropped c.scope ≡ false) where
    pub noting_refused : (fault : DebugFault) → IsFaultOfSteps noting old fault → IsFaultOfSteps (steps_of_attribute c a) old fault
    noting_refused fault f = rw kept (refused_front noting (change_decided c a ∷ []) old fault f)

    module _ (next : EntriesMoved) (t : AreStepsTaken noting old next) where
      pub attribute_taken : (new : EntriesMoved) → AreStepsTaken (change_decided c a ∷ []) next new → AreStepsTaken (steps_of_attribute c a) old new
      attribute_taken new u = rw kept ((left_after noting (change_decided c a ∷ []) old next t).taken new u)

      pub attribute_refused : (fault : DebugFault) → IsFaultOfSteps (change_decided c a ∷ []) next fault → IsFaultOfSteps (steps_of_attribute c a) old fault
      attribute_refused fault f = rw kept ((left_after noting (change_decided c a ∷ []) old next t).refused fault f)

-- of these attributes nothing is noted, or from there on
module _ (c : EntryContext) (a : SpelledAttribute) (begins : Option ℕ) (old : EntriesMoved) where
  pub nothing_noted : None ≡ begins → AreStepsTaken (noting_steps c a begins) old old
  nothing_noted e = subst (λ (o : Option ℕ). AreStepsTaken (noting_steps c a o) old old) e refl

  module _ (begin : ℕ) (e : Some begin ≡ begins) where
    pub begin_noted : (new : EntriesMoved) → AreStepsTaken (noted c a begin ∷ []) old new → AreStepsTaken (noting_steps c a begins) old new
    begin_noted new t = subst (λ (o : Option ℕ). AreStepsTaken (noting_steps c a o) old new) e t

    pub begin_not_noted : (fault : DebugFault) → IsFaultOfSteps (noted c a begin ∷ []) old fault → IsFaultOfSteps (noting_steps c a begins) old fault
    begin_not_noted fault f = subst (λ (o : Option ℕ). IsFaultOfSteps (noting_steps c a o) old fault) e f

-- what the attributes up to an index say, and those from there on
pub places_more : {X : Type 0} (view : X → SpelledAttribute) (xs : List X) (i : ℕ) (d : X) (p q all : EntryPlaces) → i < length xs → q ≡ places_after p (view (get_or xs i d))
    → fold places_after p (map view (drop i xs)) ≡ all → fold places_after q (map view (drop (i + 1) xs)) ≡ all
places_more {X} view xs i d p q all within e so =
    ap (λ (r : EntryPlaces). fold places_after r (map view (drop (i + 1) xs))) e
    ∙ (sym (ap (λ (ys : List X). fold places_after p (map view ys)) (drop_more xs i d within)) ∙ so)

-- the attributes from this index on are left
module _ {X : Type 0} (view : X → SpelledAttribute) (c : EntryContext) (all : EntrySteps) (old now : EntriesMoved) (xs : List X) (i : ℕ)
    (left : StepsLeft all old (steps_of_attributes c (map view (drop i xs))) now) where
  pub attributes_done : length xs ≤ i → AreStepsTaken all old now
  attributes_done few = (subst (λ (ys : List X). StepsLeft all old (steps_of_attributes c (map view ys)) now) (drop_all i xs few) left).taken now refl

  module _ (d : X) (within : i < length xs) where
    abbrev x : X
    x = get_or xs i d

    left_here : StepsLeft all old (steps_of_attribute c (view x) ++ steps_of_attributes c (map view (drop (i + 1) xs))) now
    left_here = subst (λ (ys : List X). StepsLeft all old (steps_of_attributes c (map view ys)) now) (drop_more xs i d within) left

    pub attributes_refused : (fault : DebugFault) → IsFaultOfSteps (steps_of_attribute c (view x)) now fault → IsFaultOfSteps all old fault
    attributes_refused fault f =
        left_here.refused fault (refused_front (steps_of_attribute c (view x)) (steps_of_attributes c (map view (drop (i + 1) xs))) now fault f)

    pub attributes_more : (new : EntriesMoved) → AreStepsTaken (steps_of_attribute c (view x)) now new
        → StepsLeft all old (steps_of_attributes c (map view (drop (i + 1) xs))) new
    attributes_more new t =
        left_then all (steps_of_attribute c (view x) ++ steps_of_attributes c (map view (drop (i + 1) xs))) (steps_of_attributes c (map view (drop (i + 1) xs))) old now new left_here
        (left_after (steps_of_attribute c (view x)) (steps_of_attributes c (map view (drop (i + 1) xs))) now new t)

-- ---- entries

pub record EntriesSoFar (s : UnitSetting) (all : List ℕ) (old : EntriesMoved) (around : List Scope) (known : Option UnitBases) (rest : List ℕ) (now : EntriesMoved) : Type 0 where
  pub most : ℕ
  pub enough : length rest ≤ most
  pub left : StepsLeft (steps_of_entries s (length all) [] None all) old (steps_of_entries s most around known rest) now

pub entries_none : (s : UnitSetting) (all : List ℕ) (old : EntriesMoved) → EntriesSoFar s all old [] None all old
entries_none s all old = record { most = length all; enough = omega arith; left = left_all (steps_of_entries s (length all) [] None all) old }

pub entries_done : (s : UnitSetting) (all : List ℕ) (old : EntriesMoved) (around : List Scope) (known : Option UnitBases) (rest : List ℕ) (now : EntriesMoved)
    → EntriesSoFar s all old around known rest now → rest ≡ [] → AreStepsTaken (steps_of_entries s (length all) [] None all) old now
unfolding steps_of_entries
entries_done s all old around known rest now so none =
    let left = subst (λ (bytes : List ℕ). StepsLeft (steps_of_entries s (length all) [] None all) old (steps_of_entries s so.most around known bytes) now) none so.left in
    left.taken now refl

-- what follows in a unit, with the next entry
abbrev with_entry : (s : UnitSetting) (n : ℕ) (around : List Scope) (known : Option UnitBases) → Option SpelledEntry × List ℕ → EntrySteps
with_entry s n around known x = steps_from_entry s around known x.0 (λ scopes bases. steps_of_entries s n scopes bases x.1)

record EntryNext (s : UnitSetting) (most : ℕ) (around : List Scope) (known : Option UnitBases) (rest : List ℕ) : Type 0 where
  n : ℕ
  enough : length rest ≤ suc n
  is : steps_of_entries s most around known rest ≡ steps_with (next_entry s.unit rest) (with_entry s n around known)

entry_next : (s : UnitSetting) (most : ℕ) (around : List Scope) (known : Option UnitBases) (rest : List ℕ) → (rest ≡ [] → ⊥) → length rest ≤ most → EntryNext s most around known rest
unfolding steps_of_entries
entry_next s most around known [] some enough = absurd (some refl)
entry_next s zero around known (b ∷ bytes) some enough = absurd (omega arith)
entry_next s (suc n) around known (b ∷ bytes) some enough = record { n = n; enough = enough; is = refl }

module _ (s : UnitSetting) (all : List ℕ) (old : EntriesMoved) (around : List Scope) (known : Option UnitBases) (rest : List ℕ) (now : EntriesMoved)
    (so : EntriesSoFar s all old around known rest now) (some : rest ≡ [] → ⊥) where
  next : EntryNext s so.most around known rest
  next = entry_next s so.most around known rest some so.enough

  left_as : (ss : EntrySteps) → steps_with (next_entry s.unit rest) (with_entry s next.n around known) ≡ ss → StepsLeft (steps_of_entries s (length all) [] None all) old ss now
  left_as ss e = subst (λ ss. StepsLeft (steps_of_entries s (length all) [] None all) old ss now) (next.is ∙ e) so.left

  pub entries_unread : (fault : DebugFault) → next_entry s.unit rest ≡ Err fault → IsFaultOfSteps (steps_of_entries s (length all) [] None all) old fault
  entries_unread fault e = (left_as (Err fault ∷ []) (with_err (next_entry s.unit rest) (with_entry s next.n around known) fault e)).refused fault refl

  module _ (after : List ℕ) (less : length after < length rest) where
    pub entries_closed : next_entry s.unit rest ≡ Ok (None, after) → EntriesSoFar s all old (scopes_closed around) known after now
    entries_closed e = record {
      most = next.n;
      enough = let k = next.enough in omega arith;
      left = left_as (steps_of_entries s next.n (scopes_closed around) known after) (with_ok (next_entry s.unit rest) (with_entry s next.n around known) (None, after) e);
    }

    module _ (entry : SpelledEntry) (e : next_entry s.unit rest ≡ Ok (Some entry, after)) where
      abbrev others : List Scope → Option UnitBases → EntrySteps
      others scopes bases = steps_of_entries s next.n scopes bases after

      abbrev with_context : UnitBases → EntryContext → EntrySteps
      with_context bases c = steps_of_attributes c entry.attributes ++ others (scopes_below entry.has_children c.scope around) (Some bases)

      abbrev with_bases : UnitBases → EntrySteps
      with_bases bases = steps_with (context_in s bases (innermost_scope around) entry.tag (entry_places entry.attributes)) (with_context bases)

      read : steps_with (next_entry s.unit rest) (with_entry s next.n around known) ≡ steps_with (bases_known known s.unit.encoding s.addresses (entry_places entry.attributes)) with_bases
      read = with_ok (next_entry s.unit rest) (with_entry s next.n around known) (Some entry, after) e

      pub entries_without_bases : (fault : DebugFault) → bases_known known s.unit.encoding s.addresses (entry_places entry.attributes) ≡ Err fault
          → IsFaultOfSteps (steps_of_entries s (length all) [] None all) old fault
      entries_without_bases fault f =
          (left_as (Err fault ∷ []) (read ∙ with_err (bases_known known s.unit.encoding s.addresses (entry_places entry.attributes)) with_bases fault f)).refused fault refl

      module _ (bases : UnitBases) (b : bases_known known s.unit.encoding s.addresses (entry_places entry.attributes) ≡ Ok bases) where
        based : steps_with (next_entry s.unit rest) (with_entry s next.n around known)
            ≡ steps_with (context_in s bases (innermost_scope around) entry.tag (entry_places entry.attributes)) (with_context bases)
        based = read ∙ with_ok (bases_known known s.unit.encoding s.addresses (entry_places entry.attributes)) with_bases bases b

        pub entries_without_context : (fault : DebugFault) → context_in s bases (innermost_scope around) entry.tag (entry_places entry.attributes) ≡ Err fault
            → IsFaultOfSteps (steps_of_entries s (length all) [] None all) old fault
        entries_without_context fault f =
            (left_as (Err fault ∷ []) (based ∙ with_err (context_in s bases (innermost_scope around) entry.tag (entry_places entry.attributes)) (with_context bases) fault f)).refused fault refl

        module _ (c : EntryContext) (in_context : context_in s bases (innermost_scope around) entry.tag (entry_places entry.attributes) ≡ Ok c) where
          left_of_entry : StepsLeft (steps_of_entries s (length all) [] None all) old (with_context bases c) now
          left_of_entry =
              left_as (with_context bases c)
              (based ∙ with_ok (context_in s bases (innermost_scope around) entry.tag (entry_places entry.attributes)) (with_context bases) c in_context)

          pub entries_refused : (fault : DebugFault) → IsFaultOfSteps (steps_of_attributes c entry.attributes) now fault
              → IsFaultOfSteps (steps_of_entries s (length all) [] None all) old fault
          entries_refused fault f =
              left_of_entry.refused fault (refused_front (steps_of_attributes c entry.attributes) (others (scopes_below entry.has_children c.scope around) (Some bases)) now fault f)

          pub entries_more : (new : EntriesMoved) → AreStepsTaken (steps_of_attributes c entry.attributes) now new
              → EntriesSoFar s all old (scopes_below entry.has_children c.scope around) (Some bases) after new
          entries_more new t = record {
            most = next.n;
            enough = let k = next.enough in omega arith;
            left =
                left_then (steps_of_entries s (length all) [] None all) (with_context bases c) (others (scopes_below entry.has_children c.scope around) (Some bases)) old now new
                left_of_entry (left_after (steps_of_attributes c entry.attributes) (others (scopes_below entry.has_children c.scope around) (Some bases)) now new t);
          }

-- ---- units

pub record UnitsSoFar (s : SectionSetting) (all : List ℕ) (old : EntriesMoved) (rest : List ℕ) (now : EntriesMoved) : Type 0 where
  pub most : ℕ
  pub enough : length rest ≤ most
  pub left : StepsLeft (steps_of_units s (length all) all) old (steps_of_units s most rest) now

pub units_none : (s : SectionSetting) (all : List ℕ) (old : EntriesMoved) → UnitsSoFar s all old all old
units_none s all old = record { most = length all; enough = omega arith; left = left_all (steps_of_units s (length all) all) old }

pub units_done : (s : SectionSetting) (all : List ℕ) (old : EntriesMoved) (rest : List ℕ) (now : EntriesMoved) → UnitsSoFar s all old rest now → rest ≡ []
    → AreStepsTaken (steps_of_units s (length all) all) old now
unfolding steps_of_units
units_done s all old rest now so none =
    let left = subst (λ (bytes : List ℕ). StepsLeft (steps_of_units s (length all) all) old (steps_of_units s so.most bytes) now) none so.left in
    left.taken now refl

abbrev with_unit : SectionSetting → ℕ → SpelledUnit × List ℕ → EntrySteps
with_unit s n u = steps_of_unit s.bodies s.addresses u.0 ++ steps_of_units s n u.1

record UnitNext (s : SectionSetting) (most : ℕ) (rest : List ℕ) : Type 0 where
  n : ℕ
  enough : length rest ≤ suc n
  is : steps_of_units s most rest ≡ steps_with (spelled_unit s.kind s.tables s.end rest) (with_unit s n)

unit_next : (s : SectionSetting) (most : ℕ) (rest : List ℕ) → (rest ≡ [] → ⊥) → length rest ≤ most → UnitNext s most rest
unfolding steps_of_units
unit_next s most [] some enough = absurd (some refl)
unit_next s zero (b ∷ bytes) some enough = absurd (omega arith)
unit_next s (suc n) (b ∷ bytes) some enough = record { n = n; enough = enough; is = refl }

module _ (s : SectionSetting) (all : List ℕ) (old : EntriesMoved) (rest : List ℕ) (now : EntriesMoved)
    (so : UnitsSoFar s all old rest now) (some : rest ≡ [] → ⊥) where
  unit_after : UnitNext s so.most rest
  unit_after = unit_next s so.most rest some so.enough

  units_as : (ss : EntrySteps) → steps_with (spelled_unit s.kind s.tables s.end rest) (with_unit s unit_after.n) ≡ ss → StepsLeft (steps_of_units s (length all) all) old ss now
  units_as ss e = subst (λ ss. StepsLeft (steps_of_units s (length all) all) old ss now) (unit_after.is ∙ e) so.left

  pub units_unread : (fault : DebugFault) → spelled_unit s.kind s.tables s.end rest ≡ Err fault → IsFaultOfSteps (steps_of_units s (length all) all) old fault
  units_unread fault e =
      (units_as (Err fault ∷ []) (with_err (spelled_unit s.kind s.tables s.end rest) (with_unit s unit_after.n) fault e)).refused fault refl

  module _ (u : SpelledUnit) (after : List ℕ) (e : spelled_unit s.kind s.tables s.end rest ≡ Ok (u, after)) where
    left_of_unit : StepsLeft (steps_of_units s (length all) all) old (with_unit s unit_after.n (u, after)) now
    left_of_unit =
        units_as (with_unit s unit_after.n (u, after)) (with_ok (spelled_unit s.kind s.tables s.end rest) (with_unit s unit_after.n) (u, after) e)

    pub units_refused : (fault : DebugFault) → IsFaultOfSteps (steps_of_unit s.bodies s.addresses u) now fault → IsFaultOfSteps (steps_of_units s (length all) all) old fault
    units_refused fault f =
        left_of_unit.refused fault (refused_front (steps_of_unit s.bodies s.addresses u) (steps_of_units s unit_after.n after) now fault f)

    pub units_more : (new : EntriesMoved) → AreStepsTaken (steps_of_unit s.bodies s.addresses u) now new → length after < length rest → UnitsSoFar s all old after new
    units_more new t less = record {
      most = unit_after.n;
      enough = let k = unit_after.enough in omega arith;
      left =
          left_then (steps_of_units s (length all) all) (with_unit s unit_after.n (u, after)) (steps_of_units s unit_after.n after) old now new
          left_of_unit (left_after (steps_of_unit s.bodies s.addresses u) (steps_of_units s unit_after.n after) now new t);
    }
