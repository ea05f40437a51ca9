-- Lists of a section, one after the other.
use Rattle.std.proofs.Common.{◌≡◌, ◌≤◌, ◌++◌, ◌∷◌, [], ℕ, true, false, List, Some, Result, Ok, Err, inl, inr, refl, sym, ap, ◌∙◌, append_assoc}
use Rattle.std.specs.Prelude.{IfOk}
use Rattle.std.proofs.lemmas.List.{append-nil}
use Rattle.wasm_numbers.specs.Results.{◌>>=◌}
use Rattle.dwarf_bytes.specs.declared.fault.DebugFault.{DebugFault}
use Rattle.dwarf_bytes.specs.Sorting.{sorted_by}
use Rattle.dwarf_info.specs.declared.moved.ListUse.{ListUse}
use Rattle.dwarf.specs.declared.lists.ListKind.{ListKind}
use Rattle.dwarf.specs.declared.lists.PlacedList.{PlacedList}
use Rattle.dwarf.specs.PlacedLists.{list_of_kind, placed_lists, ListsSetting, ListsMoved, is_last_list, IsListMoved, IsNextListMoved, IsNextListRefused, AreListsMoved, IsFaultOfLists}

-- ---- those that are of a kind

-- So many are added after these; the lists that are left come after them.
pub record AddedSoFar (kind : ListKind) (section : List ℕ) (uses : List ListUse) (start now : List PlacedList) (left : List ListUse) : Type 0 where
  pub done : List PlacedList
  pub now_is : now ≡ start ++ done
  pub rest_is : placed_lists kind section uses ≡ (placed_lists kind section left >>= λ others. Ok (done ++ others))

same_result : (r : Result (List PlacedList) DebugFault) → r ≡ (r >>= λ others. Ok ([] ++ others))
same_result (Ok ps) = refl
same_result (Err fault) = refl

joined_result : (r : Result (List PlacedList) DebugFault) (done added : List PlacedList)
    → ((r >>= λ others. Ok (added ++ others)) >>= λ others. Ok (done ++ others)) ≡ (r >>= λ others. Ok ((done ++ added) ++ others))
joined_result (Ok ps) done added = ap Ok (sym (append_assoc done added ps))
joined_result (Err fault) done added = refl

one_result : (one r : Result (List PlacedList) DebugFault) (added : List PlacedList) → one ≡ Ok added → (one >>= λ o. r >>= λ others. Ok (o ++ others)) ≡ (r >>= λ others. Ok (added ++ others))
one_result one r added e = rw e refl

no_result : (one r : Result (List PlacedList) DebugFault) (fault : DebugFault) → one ≡ Err fault → (one >>= λ o. r >>= λ others. Ok (o ++ others)) ≡ Err fault
no_result one r fault e = rw e refl

module _ (kind : ListKind) (section : List ℕ) (uses : List ListUse) (start : List PlacedList) where
  pub none_added : AddedSoFar kind section uses start start uses
  none_added = record { done = []; now_is = sym (append-nil start); rest_is = same_result (placed_lists kind section uses) }

  first_of_left : (x : ListUse) (left : List ListUse) → placed_lists kind section (x ∷ left) ≡ (list_of_kind kind section x >>= λ one. placed_lists kind section left >>= λ others. Ok (one ++ others))
  unfolding placed_lists
  first_of_left x left = refl

  none_left : placed_lists kind section [] ≡ Ok []
  unfolding placed_lists
  none_left = refl

  module _ (now : List PlacedList) (x : ListUse) (left : List ListUse) (s : AddedSoFar kind section uses start now (x ∷ left)) where
    pub one_added : (new added : List PlacedList) → list_of_kind kind section x ≡ Ok added → new ≡ now ++ added → AddedSoFar kind section uses start new left
    one_added new added e is = record {
      done = s.done ++ added;
      now_is = is ∙ (ap (λ (l : List PlacedList). l ++ added) s.now_is ∙ append_assoc start s.done added);
      rest_is =
          s.rest_is
          ∙ (ap (λ (r : Result (List PlacedList) DebugFault). r >>= λ others. Ok (s.done ++ others)) (first_of_left x left ∙ one_result (list_of_kind kind section x) (placed_lists kind section left) added e)
          ∙ joined_result (placed_lists kind section left) s.done added);
    }

    pub one_not_added : (fault : DebugFault) → list_of_kind kind section x ≡ Err fault → placed_lists kind section uses ≡ Err fault
    one_not_added fault e =
        s.rest_is
        ∙ ap (λ (r : Result (List PlacedList) DebugFault). r >>= λ others. Ok (s.done ++ others)) (first_of_left x left ∙ no_result (list_of_kind kind section x) (placed_lists kind section left) fault e)

  pub all_added : (now : List PlacedList) → AddedSoFar kind section uses start now [] → (added : List PlacedList) × (placed_lists kind section uses ≡ Ok added) × (now ≡ start ++ added)
  all_added now s =
      (s.done, s.rest_is ∙ ap (λ (r : Result (List PlacedList) DebugFault). r >>= λ others. Ok (s.done ++ others)) none_left ∙ ap Ok (append-nil s.done), s.now_is)

-- those of two sections
pub both_sorted : (r q : Result (List PlacedList) DebugFault) (a b : List PlacedList) → r ≡ Ok a → q ≡ Ok b
    → (r >>= λ first. q >>= λ second. Ok (sorted_by (λ (p : PlacedList). p.list.offset) (first ++ second))) ≡ Ok (sorted_by (λ (p : PlacedList). p.list.offset) (a ++ b))
both_sorted r q a b e d = rw (e, d) refl

pub first_unplaced : (r q : Result (List PlacedList) DebugFault) (fault : DebugFault) → r ≡ Err fault
    → (r >>= λ first. q >>= λ second. Ok (sorted_by (λ (p : PlacedList). p.list.offset) (first ++ second))) ≡ Err fault
first_unplaced r q fault e = rw e refl

pub second_unplaced : (r q : Result (List PlacedList) DebugFault) (a : List PlacedList) (fault : DebugFault) → r ≡ Ok a → q ≡ Err fault
    → (r >>= λ first. q >>= λ second. Ok (sorted_by (λ (p : PlacedList). p.list.offset) (first ++ second))) ≡ Err fault
second_unplaced r q a fault e d = rw (e, d) refl

-- ---- lists that are moved

pub if_ok : {T E : Type 0} (r : Result T E) (P Q : T → Type 0) → ((x : T) → P x → Q x) → IfOk r P → IfOk r Q
if_ok (Ok x) P Q f h = f x h
if_ok (Err e) P Q f h = h

module _ (s : ListsSetting) (p : PlacedList) (old : ListsMoved) where
  pub list_again : is_last_list old.last p ≡ true → IsNextListMoved s p old old
  list_again e = rw e refl

  pub list_next : (new : ListsMoved) → is_last_list old.last p ≡ false → old.end ≤ p.list.offset → new.last ≡ Some p
      → IsListMoved s.kind s p new.end old.changes new.changes old.told new.told → IsNextListMoved s p old new
  list_next new e le is moved = rw e (le, is, moved)

-- What is moved of the lists that are left, or the fault among them, is that of all.
pub record ListsLeft (s : ListsSetting) (all : List PlacedList) (old : ListsMoved) (left : List PlacedList) (now : ListsMoved) : Type 0 where
  pub moved : (new : ListsMoved) → AreListsMoved s left now new → AreListsMoved s all old new
  pub refused : (fault : DebugFault) → IsFaultOfLists s left now fault → IsFaultOfLists s all old fault

module _ (s : ListsSetting) (all : List PlacedList) (old : ListsMoved) where
  pub all_left : ListsLeft s all old all old
  all_left = record { moved = λ new h. h; refused = λ fault h. h }

  module _ (p : PlacedList) (left : List PlacedList) (now : ListsMoved) (l : ListsLeft s all old (p ∷ left) now) where
    pub fewer_left : (next : ListsMoved) → IsNextListMoved s p now next → ListsLeft s all old left next
    fewer_left next m = record { moved = λ new h. l.moved new (next, m, h); refused = λ fault h. l.refused fault (inr (next, m, h)) }

    pub next_refused : (fault : DebugFault) → IsNextListRefused s p now fault → IsFaultOfLists s all old fault
    next_refused fault h = l.refused fault (inl h)

  pub none_left_of : (now : ListsMoved) → ListsLeft s all old [] now → AreListsMoved s all old now
  none_left_of now l = l.moved now refl
