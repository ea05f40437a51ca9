-- An entry that is moved, and one more of them.
use Rattle.std.proofs.Common.{◌≡◌, ℕ, ◌+◌, ◌^◌, true, false, ltb, ◌&&◌, List, [], ◌∷◌, ◌++◌, Option, Some, None, option_map, is_some, MatchOption, inl, inr, refl, sym, ap, ◌∙◌, subst, append_assoc}
use Rattle.std.proofs.lemmas.Bool.{cases_Bool}
use Rattle.std.specs.List.{AllByRecursion}
use Rattle.std.proofs.lemmas.List.{append-nil}
use Rattle.code_moves.specs.declared.body.Body.{Body}
use Rattle.code_moves.specs.Moves.{body_with_address, new_address}
use Rattle.dwarf_expressions.specs.declared.encoding.Encoding.{Encoding}
use Rattle.dwarf_expressions.specs.Expressions.{BeginWith}
use Rattle.dwarf_expressions.specs.Moving.{WritesOfExpression}
use Rattle.dwarf_expressions.proofs.Loops.{begin_more, writes_more}
use Rattle.dwarf_new_lists.specs.declared.kind.Lists.{Lists}
use Rattle.dwarf_new_lists.specs.declared.kind.Kind.{Kind}
use Rattle.dwarf_new_lists.specs.declared.kind.Kind.TheVariants.{End, BaseIndex, IndexPair, IndexLength, OffsetPair, Default, Base, Pair, Length, Views}
use Rattle.dwarf_new_lists.specs.declared.saying.Saying.{Saying}
use Rattle.dwarf_new_lists.specs.declared.saying.Saying.TheVariants as saying
use Rattle.dwarf_new_lists.specs.Kinds.{new_list_is_end, new_list_operands}
use Rattle.dwarf_new_lists.specs.Entries.{AnEntry, an_entry}
use Rattle.dwarf_new_lists.specs.declared.entry.Entry.{Entry}
use Rattle.dwarf_new_lists.specs.declared.entry.Expression.{Expression}
use Rattle.dwarf_new_lists.specs.Kinds.{new_list_kind_of, has_expression}
use Rattle.dwarf_new_lists.specs.Reading.{new_list_entry_of}
use Rattle.dwarf_new_lists.specs.Contexts.{IsSameEntry}
use Rattle.dwarf_new_lists.specs.Writing.{IsText, as_operand, IsOf, HasOperands, IsMovedExpression, IsWrittenOf}
use Rattle.dwarf_new_lists.specs.Sayings.{range, new_list_of_index, new_list_body_of, says, says_entry, next_base, base_after_entries, moved_addresses, moved_saying, SaysMoved, IsMovedOfNewList, AreMovedOfNewList}
use Rattle.dwarf_new_lists.specs.NewLists.{BeginsEntry, AreWhole}

-- ---- the operands that a kind doesn't have say nothing

says_operands : (at : ℕ → Option ℕ) (base : ℕ) (kind : Kind) (one two : ℕ) → says at base kind (as_operand (new_list_operands kind).0 one) (as_operand (new_list_operands kind).1 two) ≡ says at base kind one two
says_operands at base End one two = refl
says_operands at base BaseIndex one two = refl
says_operands at base IndexPair one two = refl
says_operands at base IndexLength one two = refl
says_operands at base OffsetPair one two = refl
says_operands at base Default one two = refl
says_operands at base Base one two = refl
says_operands at base Pair one two = refl
says_operands at base Length one two = refl
says_operands at base Views one two = refl

-- the same of what is said, moved
abbrev SaysWhat : List Body → (at : ℕ → Option ℕ) → (new_base : ℕ) → Kind → (one two new_one new_two : ℕ) → Option Saying → Type 0
SaysWhat bs at new_base kind one two new_one new_two o =
    MatchOption o ((new_one ≡ one) × (new_two ≡ two)) (λ s. says (moved_addresses bs at) new_base kind new_one new_two ≡ s)

what_operands : (bs : List Body) (at : ℕ → Option ℕ) (new_base : ℕ) (kind : Kind) (one two new_one new_two : ℕ) (o : Option Saying)
    → as_operand (new_list_operands kind).0 one ≡ one → as_operand (new_list_operands kind).1 two ≡ two
    → SaysWhat bs at new_base kind one two new_one new_two o
    → SaysWhat bs at new_base kind one two (as_operand (new_list_operands kind).0 new_one) (as_operand (new_list_operands kind).1 new_two) o
what_operands bs at new_base kind one two new_one new_two None e f s = (ap (as_operand (new_list_operands kind).0) s.0 ∙ e, ap (as_operand (new_list_operands kind).1) s.1 ∙ f)
what_operands bs at new_base kind one two new_one new_two (Some said) e f s = says_operands (moved_addresses bs at) new_base kind new_one new_two ∙ s

pub moved_operands : (bs : List Body) (at : ℕ → Option ℕ) (base new_base : ℕ) (kind : Kind) (one two new_one new_two : ℕ)
    → as_operand (new_list_operands kind).0 one ≡ one → as_operand (new_list_operands kind).1 two ≡ two
    → SaysMoved bs at base new_base kind one two new_one new_two
    → SaysMoved bs at base new_base kind one two (as_operand (new_list_operands kind).0 new_one) (as_operand (new_list_operands kind).1 new_two)
moved_operands bs at base new_base kind one two new_one new_two e f s = what_operands bs at new_base kind one two new_one new_two (moved_saying bs (says at base kind one two)) e f s

-- ---- the base of what follows

abbrev IsNoBase : Saying → Type 0
IsNoBase (saying.Base a) = ⊥
IsNoBase _ = Unit {0}

range_no_base : (base low high : ℕ) → next_base base (range low high) ≡ base
range_no_base base low high =
    elim (cases_Bool (ltb low (2 ^ 64) && ltb high (2 ^ 64))) [
      | inl t ↦ rw t refl
      | inr f ↦ rw f refl
    ]

index_no_base : (base : ℕ) (f : ℕ → Saying) (o : Option ℕ) → ((a : ℕ) → next_base base (f a) ≡ base) → next_base base (new_list_of_index f o) ≡ base
index_no_base base f None h = refl
index_no_base base f (Some a) h = h a

moved_index : (bs : List Body) (base : ℕ) (o : Option ℕ) → IsNoBase (new_list_of_index saying.Base o) → next_base base (new_list_of_index saying.Base (option_map (new_address bs) o)) ≡ base
moved_index bs base None h = refl
moved_index bs base (Some a) h = absurd h

-- an entry that says no base says none where its operands stay
stays_base : (bs : List Body) (at : ℕ → Option ℕ) (base new_base : ℕ) (kind : Kind) (one two : ℕ) → IsNoBase (says at base kind one two)
    → next_base new_base (says (moved_addresses bs at) new_base kind one two) ≡ new_base
stays_base bs at base new_base End one two h = refl
stays_base bs at base new_base BaseIndex one two h = moved_index bs new_base (at one) h
stays_base bs at base new_base IndexPair one two h =
    index_no_base new_base (λ low. new_list_of_index (range low) (moved_addresses bs at two)) (moved_addresses bs at one) (λ low. index_no_base new_base (range low) (moved_addresses bs at two) (range_no_base new_base low))
stays_base bs at base new_base IndexLength one two h =
    index_no_base new_base (λ low. range low (low + two)) (moved_addresses bs at one) (λ low. range_no_base new_base low (low + two))
stays_base bs at base new_base OffsetPair one two h = range_no_base new_base (new_base + one) (new_base + two)
stays_base bs at base new_base Default one two h = refl
stays_base bs at base new_base Base one two h = absurd h
stays_base bs at base new_base Pair one two h = range_no_base new_base one two
stays_base bs at base new_base Length one two h = range_no_base new_base one (one + two)
stays_base bs at base new_base Views one two h = refl

same_operands : (bs : List Body) (at : ℕ → Option ℕ) (base new_base : ℕ) (kind : Kind) (one two new_one new_two : ℕ) → IsNoBase (says at base kind one two) → (new_one ≡ one) × (new_two ≡ two)
    → next_base new_base (says (moved_addresses bs at) new_base kind new_one new_two) ≡ new_base
same_operands bs at base new_base kind one two new_one new_two h same =
    rw (same.0, same.1) (stays_base bs at base new_base kind one two h)

next_of : (bs : List Body) (at : ℕ → Option ℕ) (base new_base : ℕ) (kind : Kind) (one two new_one new_two : ℕ) (said : Saying) → says at base kind one two ≡ said → new_base ≡ new_address bs base
    → SaysWhat bs at new_base kind one two new_one new_two (moved_saying bs said)
    → next_base new_base (says (moved_addresses bs at) new_base kind new_one new_two) ≡ new_address bs (next_base base said)
next_of bs at base new_base kind one two new_one new_two saying.Nothing is e s =
    same_operands bs at base new_base kind one two new_one new_two (subst IsNoBase (sym is) tt) s ∙ e
next_of bs at base new_base kind one two new_one new_two (saying.Base a) is e s = ap (next_base new_base) s
next_of bs at base new_base kind one two new_one new_two (saying.Range low high) is e s = of_body (body_with_address bs low) s
  where
    of_body : (o : Option Body)
        → SaysWhat bs at new_base kind one two new_one new_two (option_map (λ b. saying.Range (new_address bs low) (new_address bs high)) o)
        → next_base new_base (says (moved_addresses bs at) new_base kind new_one new_two) ≡ new_address bs base
    of_body None same = same_operands bs at base new_base kind one two new_one new_two (subst IsNoBase (sym is) tt) same ∙ e
    of_body (Some b) moved = ap (next_base new_base) moved ∙ e

-- The new base of what follows is where the old one goes.
pub next_base_moved : (bs : List Body) (at : ℕ → Option ℕ) (base new_base : ℕ) (kind : Kind) (one two new_one new_two : ℕ) → new_base ≡ new_address bs base
    → SaysMoved bs at base new_base kind one two new_one new_two
    → next_base new_base (says (moved_addresses bs at) new_base kind new_one new_two) ≡ new_address bs (next_base base (says at base kind one two))
next_base_moved bs at base new_base kind one two new_one new_two e s =
    next_of bs at base new_base kind one two new_one new_two (says at base kind one two) refl e s

-- ---- one more

pub after_more : (at : ℕ → Option ℕ) (base : ℕ) (es : List AnEntry) (e : AnEntry) → base_after_entries at base (es ++ e ∷ []) ≡ next_base (base_after_entries at base es) (says_entry at (base_after_entries at base es) e)
after_more at base [] e = refl
after_more at base (x ∷ es) e = after_more at (next_base base (says_entry at base x)) es e

pub moved_more : (enc : Encoding) (bs : List Body) (at : ℕ → Option ℕ) (base new_base : ℕ) (os ns : List AnEntry) (o n : AnEntry) → AreMovedOfNewList enc bs at base new_base os ns
    → IsMovedOfNewList enc bs at (base_after_entries at base os) (base_after_entries (moved_addresses bs at) new_base ns) o n → AreMovedOfNewList enc bs at base new_base (os ++ o ∷ []) (ns ++ n ∷ [])
moved_more enc bs at base new_base [] [] o n all one = (one, tt)
moved_more enc bs at base new_base [] (y ∷ ns) o n all one = absurd all
moved_more enc bs at base new_base (x ∷ os) [] o n all one = absurd all
moved_more enc bs at base new_base (x ∷ os) (y ∷ ns) o n all one =
    (all.0, moved_more enc bs at (next_base base (says_entry at base x)) (next_base new_base (says_entry (moved_addresses bs at) new_base y)) os ns o n all.1 one)

-- So many entries are read and written. The bases are those after them, in the source and where the code has moved.
pub record SoFar (lists : Lists) (enc : Encoding) (bs : List Body) (at : ℕ → Option ℕ) (base : ℕ) (bytes front : List ℕ) (os ns : List AnEntry) (text rest out : List ℕ) (old_base new_base : ℕ) : Type 0 where
  pub begins : BeginWith (BeginsEntry lists enc.address_size) bytes os rest
  pub appended : out ≡ front ++ text
  pub writes : WritesOfExpression (BeginsEntry lists enc.address_size) text ns
  pub moved : AreMovedOfNewList enc bs at base (new_address bs base) os ns
  pub old_after : old_base ≡ base_after_entries at base os
  pub new_after : new_base ≡ base_after_entries (moved_addresses bs at) (new_address bs base) ns
  pub bases : new_base ≡ new_address bs old_base

pub none_so_far : (lists : Lists) (enc : Encoding) (bs : List Body) (at : ℕ → Option ℕ) (base : ℕ) (bytes out : List ℕ) (old_base new_base : ℕ) → old_base ≡ base → new_base ≡ new_address bs base
    → SoFar lists enc bs at base bytes out [] [] [] bytes out old_base new_base
none_so_far lists enc bs at base bytes out old_base new_base e f = record {
  begins = refl;
  appended = sym (append-nil out);
  writes = λ following. refl;
  moved = tt;
  old_after = e;
  new_after = f;
  bases = f ∙ ap (new_address bs) (sym e);
}

-- the base that follows the new entry
new_next : (enc : Encoding) (bs : List Body) (at : ℕ → Option ℕ) (base new_base : ℕ) (o n : AnEntry) → IsMovedOfNewList enc bs at base new_base o n → new_base ≡ new_address bs base
    → next_base new_base (says_entry (moved_addresses bs at) new_base n) ≡ new_address bs (next_base base (says_entry at base o))
new_next enc bs at base new_base o n m e =
    ap (λ (k : Kind). next_base new_base (says (moved_addresses bs at) new_base k n.one n.two)) m.kind
    ∙ next_base_moved bs at base new_base o.kind o.one o.two n.one n.two e m.addresses

pub one_more : (lists : Lists) (enc : Encoding) (bs : List Body) (at : ℕ → Option ℕ) (base : ℕ) (bytes front : List ℕ) (os ns : List AnEntry) (text rest out : List ℕ) (old_base new_base : ℕ)
    → SoFar lists enc bs at base bytes front os ns text rest out old_base new_base
    → (o n : AnEntry) (one after new_out : List ℕ) (old_next next : ℕ) → BeginsEntry lists enc.address_size rest o after → new_out ≡ out ++ one → IsText (an_entry lists enc.address_size) one n
    → IsMovedOfNewList enc bs at old_base new_base o n → old_next ≡ next_base old_base (says_entry at old_base o) → next ≡ new_address bs old_next
    → SoFar lists enc bs at base bytes front (os ++ o ∷ []) (ns ++ n ∷ []) (text ++ one) after new_out old_next next
one_more lists enc bs at base bytes front os ns text rest out old_base new_base so_far o n one after new_out old_next next read added reads moves old_is next_is =
    let B = BeginsEntry lists enc.address_size in
    let moved_at = moved_addresses bs at in
    let old_after = base_after_entries at base os in
    let new_after = base_after_entries moved_at (new_address bs base) ns in
    let at_after : IsMovedOfNewList enc bs at old_after new_after o n =
    subst (λ (b : ℕ). IsMovedOfNewList enc bs at b new_after o n) so_far.old_after (subst (λ (b : ℕ). IsMovedOfNewList enc bs at old_base b o n) so_far.new_after moves) in
    let new_is = new_next enc bs at old_base new_base o n moves so_far.bases in
    record {
      begins = begin_more B bytes rest after os o so_far.begins read;
      appended = added ∙ (ap (λ (l : List ℕ). l ++ one) so_far.appended ∙ append_assoc front text one);
      writes = writes_more B text one ns n so_far.writes reads;
      moved = moved_more enc bs at base (new_address bs base) os ns o n so_far.moved at_after;
      old_after = old_is ∙ (ap (λ (b : ℕ). next_base b (says_entry at b o)) so_far.old_after ∙ sym (after_more at base os o));
      new_after =
          next_is
          ∙ (ap (new_address bs) old_is
          ∙ (sym new_is ∙ (ap (λ (b : ℕ). next_base b (says_entry moved_at b n)) so_far.new_after ∙ sym (after_more moved_at (new_address bs base) ns n))));
      bases = next_is;
    }

-- entries of which none is the end
abbrev pub AreOpen : List AnEntry → Type 0
AreOpen = AllByRecursion (λ e. new_list_is_end e.kind ≡ false)

pub open_more : (es : List AnEntry) (e : AnEntry) → AreOpen es → new_list_is_end e.kind ≡ false → AreOpen (es ++ e ∷ [])
open_more [] e all one = (one, tt)
open_more (x ∷ es) e all one = (all.0, open_more es e all.1 one)

pub whole_more : (es : List AnEntry) (e : AnEntry) → AreOpen es → new_list_is_end e.kind ≡ true → AreWhole (es ++ e ∷ [])
whole_more [] e all one = rw one refl
whole_more (x ∷ es) e all one = rw all.0 (whole_more es e all.1 one)

-- ---- an entry of the code

pub still_of : (lists : Lists) (entry moved : Entry) → IsSameEntry entry moved → IsOf lists entry → IsOf lists moved
still_of lists entry moved same is =
    let known : new_list_kind_of lists moved.code ≡ Some moved.kind = ap (new_list_kind_of lists) same.code ∙ (is.0 ∙ ap (λ (k : Kind). Some k) (sym same.kind)) in
    (known, ap is_some same.expression ∙ (is.1 ∙ ap (has_expression lists) (sym same.kind)))

pub step_moved : (enc : Encoding) (bs : List Body) (at : ℕ → Option ℕ) (base new_base : ℕ) (entry moved : Entry) (said : Saying) (body : Option Body) (new : AnEntry)
    → said ≡ says at base entry.kind entry.one.value entry.two.value → IsSameEntry entry moved → HasOperands entry
    → SaysMoved bs at base new_base entry.kind entry.one.value entry.two.value moved.one.value moved.two.value → body ≡ new_list_body_of bs said → IsWrittenOf enc body moved new
    → IsMovedOfNewList enc bs at base new_base (new_list_entry_of entry) new
step_moved enc bs at base new_base entry moved said body new is same has says_moved of_body w =
    let one : new.one ≡ as_operand (new_list_operands entry.kind).0 moved.one.value = w.one ∙ ap (λ (k : Kind). as_operand (new_list_operands k).0 moved.one.value) same.kind in
    let two : new.two ≡ as_operand (new_list_operands entry.kind).1 moved.two.value = w.two ∙ ap (λ (k : Kind). as_operand (new_list_operands k).1 moved.two.value) same.kind in
    let all = moved_operands bs at base new_base entry.kind entry.one.value entry.two.value moved.one.value moved.two.value has.0 has.1 says_moved in
    let body_is = of_body ∙ ap (new_list_body_of bs) is in
    record {
      kind = w.kind ∙ same.kind;
      addresses =
          subst (λ (x : ℕ). SaysMoved bs at base new_base entry.kind entry.one.value entry.two.value x new.two) (sym one)
          (subst (λ (y : ℕ). SaysMoved bs at base new_base entry.kind entry.one.value entry.two.value (as_operand (new_list_operands entry.kind).0 moved.one.value) y) (sym two) all);
      expression =
          subst (λ (b : Option Body). IsMovedExpression enc b (option_map (λ (x : Expression). x.bytes.now) entry.expression) new.expression) body_is
          (subst (λ (x : Option Expression). IsMovedExpression enc body (option_map (λ (y : Expression). y.bytes.now) x) new.expression) same.expression w.expression);
    }
