-- Tables of lists that follow, one after the other.
use Rattle.std.proofs.Common.{◌≡◌, ℕ, zero, suc, ◌+◌, ◌-◌, ◌<◌, ◌≤◌, List, [], ◌∷◌, ◌++◌, length, Ok, Err, refl, subst, ◌∙◌, arith}
use Rattle.dwarf_bytes.specs.declared.fault.DebugFault.{DebugFault}
use Rattle.dwarf_bytes.specs.Changes.{SectionChange}
use Rattle.dwarf_bytes.specs.Merging.{Merging, MergeSteps, AreMerged, IsFaultOfMerging}
use Rattle.dwarf_bytes.specs.Numbers.{size_in_bytes, fixed_number}
use Rattle.dwarf_bytes.proofs.MergingLemmas.{MergesLeft, merges_all, merges_then, merges_refused}
use Rattle.dwarf_info.specs.Following.{merges_with}
use Rattle.dwarf_info.proofs.FollowLemmas.{merges_ok, merges_err}
use Rattle.dwarf.specs.ListTables.{SpelledListTable, OffsetsOfTable, spelled_list_table, list_offset_steps, list_offsets_steps, list_table_steps, list_tables_steps}

-- ---- offsets

module _ (t : OffsetsOfTable) (all : MergeSteps) (old now : Merging) (count number : ℕ) (rest : List ℕ) (left : MergesLeft all old (list_offsets_steps t (count - number) rest) now) where
  pub offsets_followed : count ≤ number → AreMerged all old now
  unfolding list_offsets_steps
  offsets_followed few =
      let none : count - number ≡ 0 = omega arith in
      (subst (λ (n : ℕ). MergesLeft all old (list_offsets_steps t n rest) now) none left).merged now refl

  module _ (more : number < count) where
    abbrev after_number : ℕ × List ℕ → MergeSteps
    after_number offset = list_offset_steps t (t.end - length rest) offset.0 ++ list_offsets_steps t (count - (number + 1)) offset.1

    next_offset : list_offsets_steps t (count - number) rest ≡ merges_with (fixed_number (size_in_bytes t.size) rest) after_number
    unfolding list_offsets_steps
    next_offset =
        let one : count - number ≡ suc (count - (number + 1)) = omega arith in
        rw one refl

    offsets_left : (ss : MergeSteps) → merges_with (fixed_number (size_in_bytes t.size) rest) after_number ≡ ss → MergesLeft all old ss now
    offsets_left ss e = subst (λ ss. MergesLeft all old ss now) (next_offset ∙ e) left

    pub offset_unread : (fault : DebugFault) → fixed_number (size_in_bytes t.size) rest ≡ Err fault → IsFaultOfMerging all old fault
    offset_unread fault e = (offsets_left (Err fault ∷ []) (merges_err (fixed_number (size_in_bytes t.size) rest) after_number fault e)).refused fault refl

    module _ (offset : ℕ) (after : List ℕ) (e : fixed_number (size_in_bytes t.size) rest ≡ Ok (offset, after)) where
      left_of_offset : MergesLeft all old (list_offset_steps t (t.end - length rest) offset ++ list_offsets_steps t (count - (number + 1)) after) now
      left_of_offset = offsets_left (after_number (offset, after)) (merges_ok (fixed_number (size_in_bytes t.size) rest) after_number (offset, after) e)

      pub offset_not_followed : (fault : DebugFault) → IsFaultOfMerging (list_offset_steps t (t.end - length rest) offset) now fault → IsFaultOfMerging all old fault
      offset_not_followed = merges_refused all (list_offset_steps t (t.end - length rest) offset) (list_offsets_steps t (count - (number + 1)) after) old now left_of_offset

      pub offset_is_followed : (new : Merging) → AreMerged (list_offset_steps t (t.end - length rest) offset) now new → MergesLeft all old (list_offsets_steps t (count - (number + 1)) after) new
      offset_is_followed = merges_then all (list_offset_steps t (t.end - length rest) offset) (list_offsets_steps t (count - (number + 1)) after) old now left_of_offset

-- ---- tables

pub record FollowingTables (own : List SectionChange) (end : ℕ) (all : List ℕ) (old : Merging) (rest : List ℕ) (now : Merging) : Type 0 where
  pub most : ℕ
  pub enough : length rest ≤ most
  pub left : MergesLeft (list_tables_steps own end (length all) all) old (list_tables_steps own end most rest) now

pub no_tables_yet : (own : List SectionChange) (end : ℕ) (all : List ℕ) (old : Merging) → FollowingTables own end all old all old
no_tables_yet own end all old = record { most = length all; enough = omega arith; left = merges_all (list_tables_steps own end (length all) all) old }

pub followed_tables : (own : List SectionChange) (end : ℕ) (all : List ℕ) (old : Merging) (rest : List ℕ) (now : Merging) → FollowingTables own end all old rest now → rest ≡ []
    → AreMerged (list_tables_steps own end (length all) all) old now
unfolding list_tables_steps
followed_tables own end all old rest now so none =
    (subst (λ (bytes : List ℕ). MergesLeft (list_tables_steps own end (length all) all) old (list_tables_steps own end so.most bytes) now) none so.left).merged now refl

abbrev after_table : (own : List SectionChange) (end n : ℕ) → SpelledListTable × List ℕ → MergeSteps
after_table own end n t = list_table_steps own t.0 ++ list_tables_steps own end n t.1

record TableToFollow (own : List SectionChange) (end most : ℕ) (rest : List ℕ) : Type 0 where
  n : ℕ
  enough : length rest ≤ suc n
  is : list_tables_steps own end most rest ≡ merges_with (spelled_list_table end rest) (after_table own end n)

table_to_follow : (own : List SectionChange) (end most : ℕ) (rest : List ℕ) → (rest ≡ [] → ⊥) → length rest ≤ most → TableToFollow own end most rest
unfolding list_tables_steps
table_to_follow own end most [] some enough = absurd (some refl)
table_to_follow own end zero (b ∷ bytes) some enough = absurd (omega arith)
table_to_follow own end (suc n) (b ∷ bytes) some enough = record { n = n; enough = enough; is = refl }

module _ (own : List SectionChange) (end : ℕ) (all : List ℕ) (old : Merging) (rest : List ℕ) (now : Merging) (so : FollowingTables own end all old rest now) (some : rest ≡ [] → ⊥) where
  next : TableToFollow own end so.most rest
  next = table_to_follow own end so.most rest some so.enough

  tables_left : (ss : MergeSteps) → merges_with (spelled_list_table end rest) (after_table own end next.n) ≡ ss → MergesLeft (list_tables_steps own end (length all) all) old ss now
  tables_left ss e = subst (λ ss. MergesLeft (list_tables_steps own end (length all) all) old ss now) (next.is ∙ e) so.left

  pub table_unread : (fault : DebugFault) → spelled_list_table end rest ≡ Err fault → IsFaultOfMerging (list_tables_steps own end (length all) all) old fault
  table_unread fault e = (tables_left (Err fault ∷ []) (merges_err (spelled_list_table end rest) (after_table own end next.n) fault e)).refused fault refl

  module _ (t : SpelledListTable) (after : List ℕ) (e : spelled_list_table end rest ≡ Ok (t, after)) where
    left_of_table : MergesLeft (list_tables_steps own end (length all) all) old (list_table_steps own t ++ list_tables_steps own end next.n after) now
    left_of_table = tables_left (list_table_steps own t ++ list_tables_steps own end next.n after) (merges_ok (spelled_list_table end rest) (after_table own end next.n) (t, after) e)

    pub table_not_followed : (fault : DebugFault) → IsFaultOfMerging (list_table_steps own t) now fault → IsFaultOfMerging (list_tables_steps own end (length all) all) old fault
    table_not_followed = merges_refused (list_tables_steps own end (length all) all) (list_table_steps own t) (list_tables_steps own end next.n after) old now left_of_table

    pub table_is_followed : (new : Merging) → AreMerged (list_table_steps own t) now new → length after < length rest → FollowingTables own end all old after new
    table_is_followed new steps less = record {
      most = next.n;
      enough = let k = next.enough in omega arith;
      left = merges_then (list_tables_steps own end (length all) all) (list_table_steps own t) (list_tables_steps own end next.n after) old now left_of_table new steps;
    }
