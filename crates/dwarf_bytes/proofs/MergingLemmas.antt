-- Parts of a section that are merged with others, one after the other.
use Rattle.std.proofs.Common.{◌≡◌, ℕ, zero, suc, ◌+◌, ◌-◌, ◌^◌, ◌<◌, ◌≤◌, Bool, true, false, List, [], ◌∷◌, ◌++◌, drop, map, Option, Some, None, Result, Ok, Err, inl, inr, ◌⊎◌, refl, sym, ap, subst, ◌∙◌, append_assoc, arith}
use Rattle.std.specs.Prelude.{slice_get, IfErr}
use Rattle.std.proofs.lemmas.List.{append-nil}
use Rattle.dwarf_bytes.specs.Changes.{SectionChange, AreChangesInOrder, end_from}
use Rattle.dwarf_bytes.specs.Merging.{Merging, begins_before, parts_before, parts_from, merged_parts, none_merged, first_taken, part_merged, all_merged, IsOverlap, IsNotMerged, MergeSteps, AreMerged, IsFaultOfMerging, AreAllMerged, IsFaultOfAll}
use Rattle.dwarf_bytes.specs.declared.fault.DebugError.{DebugError}
use Rattle.dwarf_bytes.specs.declared.fault.DebugError.TheVariants.{Memory, Fault}
use Rattle.dwarf_bytes.specs.declared.fault.DebugFault.{DebugFault}
use Rattle.dwarf_bytes.specs.declared.fault.DebugFault.TheVariants.{Overlap, BadOffset}

pub left_at : (cs : List SectionChange) (i : ℕ) (c : SectionChange) → slice_get cs i ≡ Some c → drop i cs ≡ c ∷ drop (i + 1) cs
left_at [] i c is = absurd (cc (is))
left_at (d ∷ cs) zero c is = let same : d ≡ c = cc (is) in ap (λ (e : SectionChange). e ∷ cs) same
left_at (d ∷ cs) (suc i) c is = let n : suc i + 1 ≡ suc (i + 1) = omega arith in rw n (left_at cs i c is)

pub none_left : (cs : List SectionChange) (i : ℕ) → slice_get cs i ≡ None → drop i cs ≡ []
none_left [] zero is = refl
none_left [] (suc i) is = refl
none_left (d ∷ cs) zero is = absurd (cc (is))
none_left (d ∷ cs) (suc i) is = none_left cs i is

-- ---- those of the first ones that begin before a place

abbrev pub state : (all left : List SectionChange) → Merging
state all left = record { all = all; left = left }

pub taken_more : (place : Option ℕ) (all left : List SectionChange) (c : SectionChange) → begins_before place c.at ≡ true → first_taken place (state (all ++ c ∷ []) left) ≡ first_taken place (state all (c ∷ left))
taken_more place all left c is =
    rw is (ap (λ (l : List SectionChange). state l (parts_from place left)) (append_assoc all (c ∷ []) (parts_before place left)))

pub taken_until : (place : Option ℕ) (all left : List SectionChange) (c : SectionChange) → begins_before place c.at ≡ false → state all (c ∷ left) ≡ first_taken place (state all (c ∷ left))
taken_until place all left c is = rw is (ap (λ (l : List SectionChange). state l (c ∷ left)) (sym (append-nil all)))

pub taken_all : (place : Option ℕ) (all : List SectionChange) → state all [] ≡ first_taken place (state all [])
taken_all place all = ap (λ (l : List SectionChange). state l []) (sym (append-nil all))

parts_none : (cs : List SectionChange) → (parts_before None cs ≡ cs) × (parts_from None cs ≡ [])
parts_none [] = (refl, refl)
parts_none (c ∷ cs) = (ap (λ (l : List SectionChange). c ∷ l) (parts_none cs).0, (parts_none cs).1)

pub taken_none : (m : Merging) → (first_taken None m).all ≡ all_merged m
taken_none m = ap (λ (l : List SectionChange). m.all ++ l) (parts_none m.left).0

-- ---- parts that overlap

pub not_in_order : (from : ℕ) (all cs : List SectionChange) (c : SectionChange) → c.at < end_from from all → AreChangesInOrder from (all ++ c ∷ cs) → ⊥
not_in_order from [] cs c before order = omega (arith, order.0, before)
not_in_order from (d ∷ all) cs c before order = not_in_order (d.at + d.old) all cs c before order.1

pub head_not_in_order : (place : Option ℕ) (all left : List SectionChange) (c : SectionChange) → begins_before place c.at ≡ true → c.at < end_from 0 all
    → AreChangesInOrder 0 (first_taken place (state all (c ∷ left))).all → ⊥
head_not_in_order place all left c is before order =
    not_in_order 0 all (parts_before place left) c before (rw is at order)

order_front : (from : ℕ) (cs ds : List SectionChange) → AreChangesInOrder from (cs ++ ds) → AreChangesInOrder from cs
order_front from [] ds order = tt
order_front from (c ∷ cs) ds order = (order.0, order_front (c.at + c.old) cs ds order.1)

pub first_overlap : (c : SectionChange) (m : Merging) → (AreChangesInOrder 0 (first_taken (Some c.at) m).all → ⊥) → AreChangesInOrder 0 (part_merged c m).all → ⊥
first_overlap c m not order = not (order_front 0 (m.all ++ parts_before (Some c.at) m.left) (c ∷ []) order)

pub push_refused : {A : Type 0} (r : Result A DebugError) (c : SectionChange) (m mid : Merging) → mid ≡ first_taken (Some c.at) m
    → IfErr r (λ e. (e ≡ Memory) ⊎ (((e ≡ Fault Overlap) × (c.at < end_from 0 mid.all)) ⊎ ((e ≡ Fault BadOffset) × (2 ^ 64 - 1 < c.at + c.old))))
    → IfErr r (λ e. (e ≡ Memory) ⊎ ((fault : DebugFault) × (e ≡ Fault fault) × IsNotMerged c m fault))
push_refused (Ok x) c m mid is h = h
push_refused (Err e) c m mid is (inl memory) = inl memory
push_refused (Err e) c m mid is (inr (inl overlap)) =
    let before = subst (λ (n : Merging). c.at < end_from 0 n.all) is overlap.1 in
    inr (Overlap, overlap.0, inl (refl, not_in_order 0 (first_taken (Some c.at) m).all [] c before))
push_refused (Err e) c m mid is (inr (inr offset)) = inr (BadOffset, offset.0, inr (refl, let k = offset.1 in omega arith))

-- ---- all

abbrev pub parts_merged : List SectionChange → Merging → Merging
parts_merged [] m = m
parts_merged (c ∷ cs) m = parts_merged cs (part_merged c m)

pub merged_all : (cs : List SectionChange) (m : Merging) → all_merged (parts_merged cs m) ≡ m.all ++ merged_parts m.left cs
merged_all [] m = refl
merged_all (c ∷ cs) m =
    let before = parts_before (Some c.at) m.left in
    let rest = merged_parts (parts_from (Some c.at) m.left) cs in
    merged_all cs (part_merged c m)
    ∙ append_assoc (m.all ++ before) (c ∷ []) rest
    ∙ append_assoc m.all before (c ∷ rest)

-- ---- steps

-- Of all steps from one state these are left in another: what they come to, all come to.
pub record MergesLeft (all : MergeSteps) (old : Merging) (left : MergeSteps) (now : Merging) : Type 0 where
  pub merged : (new : Merging) → AreMerged left now new → AreMerged all old new
  pub refused : (fault : DebugFault) → IsFaultOfMerging left now fault → IsFaultOfMerging all old fault

pub merges_all : (all : MergeSteps) (old : Merging) → MergesLeft all old all old
merges_all all old = record { merged = λ new h. h; refused = λ fault h. h }

pub merges_after : (ss ts : MergeSteps) (old now : Merging) → AreMerged ss old now → MergesLeft (ss ++ ts) old ts now
merges_after [] ts old now e = subst (λ m. MergesLeft ts old ts m) (sym e) (merges_all ts old)
merges_after (Err f ∷ ss) ts old now e = absurd e
merges_after (Ok c ∷ ss) ts old now e =
    let others = merges_after ss ts (part_merged c old) now e in
    record { merged = others.merged; refused = λ fault h. inr (others.refused fault h) }

pub merges_front : (ss ts : MergeSteps) (old : Merging) (fault : DebugFault) → IsFaultOfMerging ss old fault → IsFaultOfMerging (ss ++ ts) old fault
merges_front [] ts old fault e = absurd e
merges_front (Err f ∷ ss) ts old fault e = e
merges_front (Ok c ∷ ss) ts old fault (inl refused) = inl refused
merges_front (Ok c ∷ ss) ts old fault (inr next) = inr (merges_front ss ts (part_merged c old) fault next)

-- some of those that are left, and then others
module _ (all some others : MergeSteps) (old now : Merging) (left : MergesLeft all old (some ++ others) now) where
  pub merges_then : (new : Merging) → AreMerged some now new → MergesLeft all old others new
  merges_then new e =
      let after = merges_after some others now new e in
      record { merged = λ last h. left.merged last (after.merged last h); refused = λ fault h. left.refused fault (after.refused fault h) }

  pub merges_refused : (fault : DebugFault) → IsFaultOfMerging some now fault → IsFaultOfMerging all old fault
  merges_refused fault h = left.refused fault (merges_front some others now fault h)

pub parts_of_steps : (steps : MergeSteps) (old new : Merging) → AreMerged steps old new → (cs : List SectionChange) × (steps ≡ map Ok cs) × (new ≡ parts_merged cs old)
parts_of_steps [] old new e = ([], refl, e)
parts_of_steps (Err f ∷ steps) old new e = absurd e
parts_of_steps (Ok c ∷ steps) old new e =
    let rest = parts_of_steps steps (part_merged c old) new e in
    (c ∷ rest.0, ap (λ (l : MergeSteps). Ok c ∷ l) rest.1, rest.2)

pub are_all_merged : (first : List SectionChange) (steps : MergeSteps) (new : Merging) (all : List SectionChange) → AreMerged steps (none_merged first) new → all ≡ all_merged new → AreAllMerged first steps all
are_all_merged first steps new all e is =
    let parts = parts_of_steps steps (none_merged first) new e in
    (parts.0, parts.1, is ∙ ap all_merged parts.2 ∙ merged_all parts.0 (none_merged first))

pub all_overlap : (first : List SectionChange) (steps : MergeSteps) (new : Merging) (fault : DebugFault) → AreMerged steps (none_merged first) new → IsOverlap (all_merged new) fault → IsFaultOfAll first steps fault
all_overlap first steps new fault e overlap =
    let parts = parts_of_steps steps (none_merged first) new e in
    inr (parts.0, parts.1, subst (λ (cs : List SectionChange). IsOverlap cs fault) (ap all_merged parts.2 ∙ merged_all parts.0 (none_merged first)) overlap)
