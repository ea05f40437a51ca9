-- A list is moved entry by entry.
use Rattle.std.proofs.Common.{◌≡◌, ◌<◌, ℕ, ◌+◌, ◌-◌, ◌≤◌, List, [], ◌∷◌, ◌++◌, length, take, drop, slice_range, Ok, inr, refl, sym, ap, ◌∙◌, subst, append_assoc, length-append, arith}
use Rattle.std.proofs.lemmas.List.{append-nil, drop-drop, drop_at, take_at, drop_all, length-drop, length-take-le}
use Rattle.code_moves.specs.declared.body.Body.{Body}
use Rattle.dwarf_bytes.specs.declared.fault.DebugFault.{DebugFault}
use Rattle.dwarf_bytes.specs.Changes.{SectionChange, AreChangesInOrder, end_from, patched_from}
use Rattle.dwarf_bytes.proofs.ChangeLaws.{patched_kept, patched_more, order_more, end_more, end_append}
use Rattle.dwarf_expressions.specs.declared.encoding.Encoding.{Encoding}
use Rattle.dwarf_expressions.specs.Expressions.{BeginWith}
use Rattle.dwarf_expressions.specs.Moving.{WritesOfExpression}
use Rattle.dwarf_expressions.proofs.Loops.{begin_more, writes_none, writes_more}
use Rattle.dwarf_lists.specs.declared.entry.Kind.{Kind}
use Rattle.dwarf_lists.specs.Entries.{Entry, end, list_entry, IsItem, BeginsItem, BeginsList}
use Rattle.dwarf_lists.specs.Moving.{IsMovedOfList, AreMovedOfList, from_after, from_all, WritesOfList, IsRefusedEntry}
use Rattle.dwarf_lists.specs.Lists.{IsMovedListOfList, IsRefusedList}
use Rattle.dwarf_lists.proofs.Frames.{EntryAt, entry_at}

from_more : (from : ℕ) (xs : List Entry) (x : Entry) → from_all from (xs ++ x ∷ []) ≡ from_after (from_all from xs) x
from_more from [] x = refl
from_more from (y ∷ xs) x = from_more (from_after from y) xs x

moved_more : (e : Encoding) (bodies : List Body) (from : ℕ) (xs ys : List Entry) (x y : Entry) → AreMovedOfList e bodies from xs ys → IsMovedOfList e bodies (from_all from xs) x y → AreMovedOfList e bodies from (xs ++ x ∷ []) (ys ++ y ∷ [])
moved_more e bodies from [] [] x y all one = (one, tt)
moved_more e bodies from [] (z ∷ ys) x y all one = absurd all
moved_more e bodies from (w ∷ xs) [] x y all one = absurd all
moved_more e bodies from (w ∷ xs) (z ∷ ys) x y all one = (all.0, moved_more e bodies (from_after from w) xs ys x y all.1 one)

-- Entries up to this place are moved, and these bytes are left.
pub record SoFar (kind : Kind) (e : Encoding) (bodies : List Body) (section : List ℕ) (offset from base : ℕ) (rest : List ℕ) (before now : List SectionChange) : Type 0 where
  pub old : List Entry
  pub new : List Entry
  pub added : List SectionChange
  pub at : ℕ
  pub at_is : at + length rest ≡ length section
  pub rest_is : rest ≡ drop at section
  pub begins : offset ≤ at
  pub old_is : BeginWith (BeginsItem kind e.address_size) (drop offset section) old rest
  pub now_is : now ≡ before ++ added
  pub in_order : AreChangesInOrder offset added
  pub within : end_from offset added ≤ at
  pub new_is : WritesOfExpression (BeginsItem kind e.address_size) (patched_from offset added (take at section)) new
  pub base_is : base ≡ from_all from old
  pub are_moved : AreMovedOfList e bodies from old new

pub so_far_none : (kind : Kind) (e : Encoding) (bodies : List Body) (section : List ℕ) (offset from : ℕ) (before : List SectionChange) → offset ≤ length section → SoFar kind e bodies section offset from from (drop offset section) before before
so_far_none kind e bodies section offset from before few = record {
  old = [];
  new = [];
  added = [];
  at = offset;
  at_is = omega (arith, length-drop offset section);
  rest_is = refl;
  begins = omega arith;
  old_is = refl;
  now_is = sym (append-nil before);
  in_order = tt;
  within = omega arith;
  new_is = subst (λ (l : List ℕ). WritesOfExpression (BeginsItem kind e.address_size) l []) (sym (drop_all offset (take offset section) (omega (arith, length-take-le offset section few)))) (writes_none (BeginsItem kind e.address_size));
  base_is = refl;
  are_moved = tt;
}

-- changes that end after a place, but not if they begin here
ends_before : (start offset at : ℕ) (cs : List SectionChange) → offset ≤ at → end_from offset cs ≤ at → at < end_from start cs → offset < start
ends_before start offset at [] begins within less = omega (arith, begins, less)
ends_before start offset at (c ∷ cs) begins within less = absurd (omega (arith, within, less))

-- ---- the next entry

module _ (kind : Kind) (e : Encoding) (bodies : List Body) (section : List ℕ) (offset from base : ℕ) (rest after : List ℕ) (before now : List SectionChange) (x : Entry)
    (s : SoFar kind e bodies section offset from base rest before now) (r : list_entry kind e.address_size rest ≡ Ok (x, after)) where
  abbrev B : List ℕ → Entry → List ℕ → Type 0
  B = BeginsItem kind e.address_size

  f : EntryAt kind e.address_size rest x after
  f = entry_at kind e.address_size rest x after r

  abbrev stop : ℕ
  stop = length section - length after

  rest_len : length rest ≡ length f.text + length after
  rest_len = ap length f.bytes_are ∙ length-append f.text after

  stop_is : s.at + length f.text ≡ stop
  stop_is = omega (arith, s.at_is, rest_len)

  after_is : after ≡ drop stop section
  after_is =
      sym (drop_at f.text after (length f.text) refl) ∙ (ap (drop (length f.text)) (sym f.bytes_are ∙ s.rest_is)
      ∙ (drop-drop (length f.text) s.at section ∙ ap (λ (n : ℕ). drop n section) stop_is))

  text_is : slice_range section s.at stop ≡ f.text
  text_is =
      let k : stop - s.at ≡ length f.text = omega (arith, stop_is) in
      ap (λ (n : ℕ). take n (drop s.at section)) k ∙ (ap (take (length f.text)) (sym s.rest_is ∙ f.bytes_are) ∙ take_at f.text after (length f.text) refl)

  stop_within : stop ≤ length section
  stop_within = omega arith

  up : s.at ≤ stop
  up = omega (arith, stop_is)

  -- an entry that stays
  pub so_far_kept : IsItem x → IsMovedOfList e bodies base x x → SoFar kind e bodies section offset from (from_after base x) after before now
  so_far_kept item moved = record {
    old = s.old ++ x ∷ [];
    new = s.new ++ x ∷ [];
    added = s.added;
    at = stop;
    at_is = omega (arith, s.at_is, rest_len);
    rest_is = after_is;
    begins = omega (arith, s.begins, up);
    old_is = begin_more B (drop offset section) rest after s.old x s.old_is (item, r);
    now_is = s.now_is;
    in_order = s.in_order;
    within = omega (arith, s.within, up);
    new_is =
        let text = patched_kept offset s.added section s.at stop s.in_order s.within up stop_within ∙ ap (λ (l : List ℕ). patched_from offset s.added (take s.at section) ++ l) text_is in
        subst (λ (l : List ℕ). WritesOfExpression B l (s.new ++ x ∷ [])) (sym text)
        (writes_more B (patched_from offset s.added (take s.at section)) f.text s.new x s.new_is (λ following. (item, f.reads following)));
    base_is = ap (λ (n : ℕ). from_after n x) s.base_is ∙ sym (from_more from s.old x);
    are_moved = moved_more e bodies from s.old s.new x x s.are_moved (subst (λ (n : ℕ). IsMovedOfList e bodies n x x) s.base_is moved);
  }

  -- an entry that is replaced
  pub so_far_moved : IsItem x → (y : Entry) (text : List ℕ) (later : List SectionChange) (at old : ℕ) → at ≡ length section - length rest → old ≡ length rest - length after → IsMovedOfList e bodies base x y → WritesOfList kind e.address_size text y
      → later ≡ now ++ (record { at = at; old = old; new = text }) ∷ [] → SoFar kind e bodies section offset from (from_after base x) after before later
  so_far_moved item y text later at old at_is old_is moved writes pushed =
      let place : at ≡ s.at = omega (arith, at_is, s.at_is) in
      let count : old ≡ stop - s.at = omega (arith, old_is, rest_len, stop_is) in
      let one : SectionChange = record { at = s.at; old = stop - s.at; new = text } in
      let change = ap (λ (n : ℕ). let c : SectionChange = record { at = n; old = old; new = text } in c) place ∙ ap (λ (n : ℕ). let c : SectionChange = record { at = s.at; old = n; new = text } in c) count in
      let all = s.added ++ one ∷ [] in record {
        old = s.old ++ x ∷ [];
        new = s.new ++ y ∷ [];
        added = all;
        at = stop;
        at_is = omega (arith, s.at_is, rest_len);
        rest_is = after_is;
        begins = omega (arith, s.begins, up);
        old_is = begin_more B (drop offset section) rest after s.old x s.old_is (item, r);
        now_is = pushed ∙ (ap (λ c. now ++ c ∷ []) change ∙ (ap (λ l. l ++ one ∷ []) s.now_is ∙ append_assoc before s.added (one ∷ [])));
        in_order = order_more offset s.added one s.in_order s.within;
        within = let end_is = end_more offset s.added one in omega (arith, end_is, up);
        new_is =
            let is = patched_more offset s.added section text s.at stop s.in_order s.within up stop_within in
            subst (λ (l : List ℕ). WritesOfExpression B l (s.new ++ y ∷ [])) (sym is)
            (writes_more B (patched_from offset s.added (take s.at section)) text s.new y s.new_is (λ following. (writes.0, writes.1 following)));
        base_is = ap (λ (n : ℕ). from_after n x) s.base_is ∙ sym (from_more from s.old x);
        are_moved = moved_more e bodies from s.old s.new x y s.are_moved (subst (λ (n : ℕ). IsMovedOfList e bodies n x y) s.base_is moved);
      }

  -- the end of the list
  pub so_far_end : x ≡ end → IsMovedListOfList kind e bodies section offset from stop before now
  so_far_end is = record {
    old = s.old;
    new = s.new;
    added = s.added;
    begins = omega (arith, s.begins, up);
    ends = stop_within;
    old_is = (rest, s.old_is, r ∙ (ap (λ (y : Entry). Ok (y, after)) is ∙ ap (λ (l : List ℕ). Ok (end, l)) after_is));
    after_is = s.now_is;
    in_order = s.in_order;
    within = omega (arith, s.within, up);
    new_is =
        let text = patched_kept offset s.added section s.at stop s.in_order s.within up stop_within ∙ ap (λ (l : List ℕ). patched_from offset s.added (take s.at section) ++ l) text_is in
        let last : list_entry kind e.address_size f.text ≡ Ok (end, []) = ap (list_entry kind e.address_size) (sym (append-nil f.text)) ∙ (f.reads [] ∙ ap (λ (y : Entry). Ok (y, [])) is) in
        subst (λ (l : List ℕ). BeginsList kind e.address_size l s.new []) (sym text) (f.text, s.new_is f.text, last);
    are_moved = s.are_moved;
  }

  -- the entry isn't moved
  pub so_far_refused : (fault : DebugFault) → IsRefusedEntry kind e bodies base x fault → IsRefusedList kind e bodies section offset from before fault
  so_far_refused fault refused = inr (inr (s.old, rest, s.old_is, inr (x, after, r, subst (λ (n : ℕ). IsRefusedEntry kind e bodies n x fault) s.base_is refused)))

  -- what is replaced ends after the entry: that isn't of this list
  pub so_far_overlaps : length section - length rest < end_from 0 now → offset < end_from 0 before
  so_far_overlaps less =
      let place : length section - length rest ≡ s.at = omega (arith, s.at_is) in
      let now_end : end_from 0 now ≡ end_from (end_from 0 before) s.added = ap (end_from 0) s.now_is ∙ end_append 0 before s.added in
      ends_before (end_from 0 before) offset s.at s.added s.begins s.within (omega (arith, place, now_end, less))
