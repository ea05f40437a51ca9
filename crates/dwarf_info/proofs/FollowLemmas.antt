-- Offsets of units that follow, one after the other.
use Rattle.std.proofs.Common.{◌≡◌, ℕ, zero, suc, ◌<◌, ◌≤◌, ◌+◌, List, [], ◌∷◌, ◌++◌, length, map, get_or, drop, Option, Result, Ok, Err, refl, subst, ◌∙◌, arith}
use Rattle.std.proofs.lemmas.List.{drop_more, drop_all}
use Rattle.std.specs.Prelude.{IfOk, IfErr}
use Rattle.dwarf_bytes.specs.declared.fault.DebugError.{DebugError}
use Rattle.dwarf_bytes.specs.declared.fault.DebugFault.{DebugFault}
use Rattle.dwarf_bytes.specs.Changes.{SectionChange}
use Rattle.dwarf_bytes.specs.Merging.{Merging, MergeSteps, none_merged, all_merged, IsOverlap, AreMerged, IsFaultOfMerging, AreAllMerged, IsFaultOfAll}
use Rattle.dwarf_bytes.proofs.MergingLemmas.{MergesLeft, merges_all, merges_after, merges_front, merges_then, merges_refused, are_all_merged, all_overlap}
use Rattle.dwarf_info.specs.Entries.{SpelledAttribute, SpelledEntry, next_entry}
use Rattle.dwarf_info.specs.Following.{merges_with, FollowSetting, follow_attribute, follow_attributes, follow_entry, follow_entries, follow_unit, UnitsFollowing, follow_each_unit}
use Rattle.dwarf_info.specs.Units.{SpelledUnit, spelled_unit}
use Rattle.dwarf_info.proofs.Taking.{IsMemoryOr, other_fault}

pub merges_ok : {A : Type 0} (r : Result A DebugFault) (f : A → MergeSteps) (x : A) → r ≡ Ok x → merges_with r f ≡ f x
merges_ok r f x e = rw e refl

pub merges_err : {A : Type 0} (r : Result A DebugFault) (f : A → MergeSteps) (fault : DebugFault) → r ≡ Err fault → merges_with r f ≡ Err fault ∷ []
merges_err r f fault e = rw e refl

-- ---- the parts of a unit

module _ (ls ts es : MergeSteps) (old : Merging) where
  pub length_not_followed : (fault : DebugFault) → IsFaultOfMerging ls old fault → IsFaultOfMerging (ls ++ (ts ++ es)) old fault
  length_not_followed fault h = merges_front ls (ts ++ es) old fault h

  module _ (mid : Merging) (length_followed : AreMerged ls old mid) where
    after_length : MergesLeft (ls ++ (ts ++ es)) old (ts ++ es) mid
    after_length = merges_after ls (ts ++ es) old mid length_followed

    pub type_not_followed : (fault : DebugFault) → IsFaultOfMerging ts mid fault → IsFaultOfMerging (ls ++ (ts ++ es)) old fault
    type_not_followed fault h = after_length.refused fault (merges_front ts es mid fault h)

    module _ (last : Merging) (type_followed : AreMerged ts mid last) where
      pub unit_left : MergesLeft (ls ++ (ts ++ es)) old es last
      unit_left = merges_then (ls ++ (ts ++ es)) ts es old mid after_length last type_followed

-- ---- all parts, with those that were replaced first

module _ {A : Type 0} (view : A → List SectionChange) (first : List SectionChange) (steps : MergeSteps) (new : Merging) (merged : AreMerged steps (none_merged first) new) where
  pub finish_followed : {E : Type 0} (r : Result A E) → IfOk r (λ p. view p ≡ all_merged new) → IfOk r (λ p. AreAllMerged first steps (view p))
  finish_followed (Ok p) is = are_all_merged first steps new (view p) merged is
  finish_followed (Err e) is = is

  pub finish_refused : (r : Result A DebugError) → IfErr r (IsMemoryOr (IsOverlap (all_merged new))) → IfErr r (IsMemoryOr (IsFaultOfAll first steps))
  finish_refused r h = other_fault r (IsOverlap (all_merged new)) (IsFaultOfAll first steps) (λ fault overlap. all_overlap first steps new fault merged overlap) h

-- ---- attributes from an index on

module _ {X : Type 0} (view : X → SpelledAttribute) (s : FollowSetting) (all : MergeSteps) (old now : Merging) (xs : List X) (i : ℕ)
    (left : MergesLeft all old (follow_attributes s (map view (drop i xs))) now) where
  pub followed_attributes : length xs ≤ i → AreMerged all old now
  followed_attributes few = (subst (λ (ys : List X). MergesLeft all old (follow_attributes s (map view ys)) now) (drop_all i xs few) left).merged now refl

  module _ (d : X) (within : i < length xs) where
    abbrev x : X
    x = get_or xs i d

    abbrev others : MergeSteps
    others = follow_attributes s (map view (drop (i + 1) xs))

    left_here : MergesLeft all old (follow_attribute s (view x) ++ others) now
    left_here = subst (λ (ys : List X). MergesLeft all old (follow_attributes s (map view ys)) now) (drop_more xs i d within) left

    pub attribute_not_followed : (fault : DebugFault) → IsFaultOfMerging (follow_attribute s (view x)) now fault → IsFaultOfMerging all old fault
    attribute_not_followed = merges_refused all (follow_attribute s (view x)) others old now left_here

    pub attribute_followed : (new : Merging) → AreMerged (follow_attribute s (view x)) now new → MergesLeft all old (follow_attributes s (map view (drop (i + 1) xs))) new
    attribute_followed = merges_then all (follow_attribute s (view x)) others old now left_here

-- ---- entries

pub record FollowingEntries (s : FollowSetting) (all : List ℕ) (old : Merging) (rest : List ℕ) (now : Merging) : Type 0 where
  pub most : ℕ
  pub enough : length rest ≤ most
  pub left : MergesLeft (follow_entries s (length all) all) old (follow_entries s most rest) now

pub no_entries_yet : (s : FollowSetting) (all : List ℕ) (old : Merging) → FollowingEntries s all old all old
no_entries_yet s all old = record { most = length all; enough = omega arith; left = merges_all (follow_entries s (length all) all) old }

pub followed_entries : (s : FollowSetting) (all : List ℕ) (old : Merging) (rest : List ℕ) (now : Merging) → FollowingEntries s all old rest now → rest ≡ []
    → AreMerged (follow_entries s (length all) all) old now
unfolding follow_entries
followed_entries s all old rest now so none =
    (subst (λ (bytes : List ℕ). MergesLeft (follow_entries s (length all) all) old (follow_entries s so.most bytes) now) none so.left).merged now refl

abbrev after_entry : (s : FollowSetting) (n : ℕ) → Option SpelledEntry × List ℕ → MergeSteps
after_entry s n x = follow_entry s x.0 ++ follow_entries s n x.1

record EntryToFollow (s : FollowSetting) (most : ℕ) (rest : List ℕ) : Type 0 where
  n : ℕ
  enough : length rest ≤ suc n
  is : follow_entries s most rest ≡ merges_with (next_entry s.unit rest) (after_entry s n)

entry_to_follow : (s : FollowSetting) (most : ℕ) (rest : List ℕ) → (rest ≡ [] → ⊥) → length rest ≤ most → EntryToFollow s most rest
unfolding follow_entries
entry_to_follow s most [] some enough = absurd (some refl)
entry_to_follow s zero (b ∷ bytes) some enough = absurd (omega arith)
entry_to_follow s (suc n) (b ∷ bytes) some enough = record { n = n; enough = enough; is = refl }

module _ (s : FollowSetting) (all : List ℕ) (old : Merging) (rest : List ℕ) (now : Merging) (so : FollowingEntries s all old rest now) (some : rest ≡ [] → ⊥) where
  next : EntryToFollow s so.most rest
  next = entry_to_follow s so.most rest some so.enough

  entries_left : (ss : MergeSteps) → merges_with (next_entry s.unit rest) (after_entry s next.n) ≡ ss → MergesLeft (follow_entries s (length all) all) old ss now
  entries_left ss e = subst (λ ss. MergesLeft (follow_entries s (length all) all) old ss now) (next.is ∙ e) so.left

  pub entry_unread : (fault : DebugFault) → next_entry s.unit rest ≡ Err fault → IsFaultOfMerging (follow_entries s (length all) all) old fault
  entry_unread fault e = (entries_left (Err fault ∷ []) (merges_err (next_entry s.unit rest) (after_entry s next.n) fault e)).refused fault refl

  module _ (entry : Option SpelledEntry) (after : List ℕ) (e : next_entry s.unit rest ≡ Ok (entry, after)) where
    left_of_entry : MergesLeft (follow_entries s (length all) all) old (follow_entry s entry ++ follow_entries s next.n after) now
    left_of_entry = entries_left (follow_entry s entry ++ follow_entries s next.n after) (merges_ok (next_entry s.unit rest) (after_entry s next.n) (entry, after) e)

    pub entry_not_followed : (fault : DebugFault) → IsFaultOfMerging (follow_entry s entry) now fault → IsFaultOfMerging (follow_entries s (length all) all) old fault
    entry_not_followed = merges_refused (follow_entries s (length all) all) (follow_entry s entry) (follow_entries s next.n after) old now left_of_entry

    pub entry_followed : (new : Merging) → AreMerged (follow_entry s entry) now new → length after < length rest → FollowingEntries s all old after new
    entry_followed new t less = record {
      most = next.n;
      enough = let k = next.enough in omega arith;
      left = merges_then (follow_entries s (length all) all) (follow_entry s entry) (follow_entries s next.n after) old now left_of_entry new t;
    }

-- ---- units

pub record FollowingUnits (s : UnitsFollowing) (all : List ℕ) (old : Merging) (rest : List ℕ) (now : Merging) : Type 0 where
  pub most : ℕ
  pub enough : length rest ≤ most
  pub left : MergesLeft (follow_each_unit s (length all) all) old (follow_each_unit s most rest) now

pub no_units_yet : (s : UnitsFollowing) (all : List ℕ) (old : Merging) → FollowingUnits s all old all old
no_units_yet s all old = record { most = length all; enough = omega arith; left = merges_all (follow_each_unit s (length all) all) old }

pub followed_units : (s : UnitsFollowing) (all : List ℕ) (old : Merging) (rest : List ℕ) (now : Merging) → FollowingUnits s all old rest now → rest ≡ []
    → AreMerged (follow_each_unit s (length all) all) old now
unfolding follow_each_unit
followed_units s all old rest now so none =
    (subst (λ (bytes : List ℕ). MergesLeft (follow_each_unit s (length all) all) old (follow_each_unit s so.most bytes) now) none so.left).merged now refl

abbrev pub setting_of : UnitsFollowing → SpelledUnit → FollowSetting
setting_of s u = record { shifts = s.shifts; own = s.own; unit = u }

abbrev after_unit : UnitsFollowing → ℕ → SpelledUnit × List ℕ → MergeSteps
after_unit s n u = follow_unit (setting_of s u.0) ++ follow_each_unit s n u.1

record UnitToFollow (s : UnitsFollowing) (most : ℕ) (rest : List ℕ) : Type 0 where
  n : ℕ
  enough : length rest ≤ suc n
  is : follow_each_unit s most rest ≡ merges_with (spelled_unit s.kind s.tables s.end rest) (after_unit s n)

unit_to_follow : (s : UnitsFollowing) (most : ℕ) (rest : List ℕ) → (rest ≡ [] → ⊥) → length rest ≤ most → UnitToFollow s most rest
unfolding follow_each_unit
unit_to_follow s most [] some enough = absurd (some refl)
unit_to_follow s zero (b ∷ bytes) some enough = absurd (omega arith)
unit_to_follow s (suc n) (b ∷ bytes) some enough = record { n = n; enough = enough; is = refl }

module _ (s : UnitsFollowing) (all : List ℕ) (old : Merging) (rest : List ℕ) (now : Merging) (so : FollowingUnits s all old rest now) (some : rest ≡ [] → ⊥) where
  next_unit : UnitToFollow s so.most rest
  next_unit = unit_to_follow s so.most rest some so.enough

  follow_left : (ss : MergeSteps) → merges_with (spelled_unit s.kind s.tables s.end rest) (after_unit s next_unit.n) ≡ ss → MergesLeft (follow_each_unit s (length all) all) old ss now
  follow_left ss e = subst (λ ss. MergesLeft (follow_each_unit s (length all) all) old ss now) (next_unit.is ∙ e) so.left

  pub unit_unread : (fault : DebugFault) → spelled_unit s.kind s.tables s.end rest ≡ Err fault → IsFaultOfMerging (follow_each_unit s (length all) all) old fault
  unit_unread fault e = (follow_left (Err fault ∷ []) (merges_err (spelled_unit s.kind s.tables s.end rest) (after_unit s next_unit.n) fault e)).refused fault refl

  module _ (u : SpelledUnit) (after : List ℕ) (e : spelled_unit s.kind s.tables s.end rest ≡ Ok (u, after)) where
    follow_of_unit : MergesLeft (follow_each_unit s (length all) all) old (follow_unit (setting_of s u) ++ follow_each_unit s next_unit.n after) now
    follow_of_unit = follow_left (follow_unit (setting_of s u) ++ follow_each_unit s next_unit.n after) (merges_ok (spelled_unit s.kind s.tables s.end rest) (after_unit s next_unit.n) (u, after) e)

    pub unit_not_followed : (fault : DebugFault) → IsFaultOfMerging (follow_unit (setting_of s u)) now fault → IsFaultOfMerging (follow_each_unit s (length all) all) old fault
    unit_not_followed = merges_refused (follow_each_unit s (length all) all) (follow_unit (setting_of s u)) (follow_each_unit s next_unit.n after) old now follow_of_unit

    pub unit_followed : (new : Merging) → AreMerged (follow_unit (setting_of s u)) now new → length after < length rest → FollowingUnits s all old after new
    unit_followed new t less = record {
      most = next_unit.n;
      enough = let k = next_unit.enough in omega arith;
      left = merges_then (follow_each_unit s (length all) all) (follow_unit (setting_of s u)) (follow_each_unit s next_unit.n after) old now follow_of_unit new t;
    }
