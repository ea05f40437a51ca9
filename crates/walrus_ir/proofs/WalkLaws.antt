-- The laws of trees, faults and walks.
use Rattle.std.proofs.Common.{◌≡◌, ℕ, List, [], ◌∷◌, ◌++◌, Bool, true, false, ◌||◌, eqb, Option, Some, None, refl, sym, ap, subst, append_assoc, inl, inr, ◌⊎◌}
use Rattle.std.proofs.lemmas.Bool.{eqb-true}
use Rattle.std.specs.Prelude.{slice_get}
use Rattle.walrus_ir.specs.declared.seq.InstrSeq.{InstrSeq}
use Rattle.walrus_ir.specs.declared.error.WalkError.{WalkError}
use Rattle.walrus_ir.specs.declared.error.WalkError.TheVariants.{UnknownSequence, SharedSequence}
use Rattle.walrus_ir.specs.Tree.{Items, no_items, item, Sequences, no_sequences, sequence, Tree, alone}
use Rattle.walrus_ir.specs.Unfolding.{SequenceAt, LocatedInstr, slots_in, slots_in_all, AreTreeItems, are_no_items, are_items, AreSequences, are_no_sequences, are_sequences, slots_reached, slots_reached_each, among, Apart}
use Rattle.walrus_ir.specs.Faults.{Walks, begun, onward, FirstWalkFault, unknown, shared}
use Rattle.walrus_ir.specs.WalkLaws.{OneTree, TreeHasNoFault, OneFault, TreeIsWalked, WalkMakesTree}

-- ---- one tree

mutual
  one_items : {b : List InstrSeq} {xs : List LocatedInstr} {is js : Items SequenceAt LocatedInstr} → AreTreeItems b xs is → AreTreeItems b xs js → is ≡ js
  one_items are_no_items are_no_items = refl
  one_items (are_items a r) (are_items a' r') = let inside = one_sequences a a' in let rest = one_items r r' in cc

  one_sequences : {b : List InstrSeq} {ps : List ℕ} {ss ts : Sequences SequenceAt LocatedInstr} → AreSequences b ps ss → AreSequences b ps ts → ss ≡ ts
  one_sequences are_no_sequences are_no_sequences = refl
  one_sequences {b = b} (are_sequences {seq = s} k a r) (are_sequences {seq = s'} {items = js} k' a' r') =
      let same : s' ≡ s = cc in
      let P : InstrSeq → Type 0 = λ z. AreTreeItems b z.instrs js in
      let items = one_items a (subst P same a') in
      let rest = one_sequences r r' in
      cc

first_of_all : Tree SequenceAt LocatedInstr → Sequences SequenceAt LocatedInstr → Tree SequenceAt LocatedInstr
first_of_all t no_sequences = t
first_of_all t (sequence head items rest) = record { head = head; items = items }

pub one_tree : OneTree
unfolding first_of_all
one_tree b start t u h k = ap (first_of_all t) (one_sequences h.unfolds k.unfolds)

-- ---- a tree is walked

mutual
  apart_before : (is : Items SequenceAt LocatedInstr) (seen : List ℕ) → Apart (slots_reached is seen) → Apart seen
  apart_before no_items seen h = h
  apart_before (item x ss rest) seen h = apart_before_each ss seen (apart_before rest (slots_reached_each ss seen) h)

  apart_before_each : (ss : Sequences SequenceAt LocatedInstr) (seen : List ℕ) → Apart (slots_reached_each ss seen) → Apart seen
  apart_before_each no_sequences seen h = h
  apart_before_each (sequence head is rest) seen h = (apart_before is (head.slot ∷ seen) (apart_before_each rest (slots_reached is (head.slot ∷ seen)) h)).1

mutual
  items_walked : {b : List InstrSeq} {start : ℕ} {xs : List LocatedInstr} {is : Items SequenceAt LocatedInstr} (seen next : List ℕ) → AreTreeItems b xs is → Apart (slots_reached is seen)
      → Walks b start seen (slots_in_all xs ++ next) → Walks b start (slots_reached is seen) next
  items_walked seen next are_no_items h w = w
  items_walked {b = b} {start = start} seen next (are_items {x = x} {xs = xs} {inside = ss} {rest = rest} a r) h w =
      let P : List ℕ → Type 0 = λ ns. Walks b start seen ns in
      let inside_first = subst P (append_assoc (slots_in x.0) (slots_in_all xs) next) w in
      items_walked (slots_reached_each ss seen) next r h (sequences_walked seen (slots_in_all xs ++ next) a (apart_before rest (slots_reached_each ss seen) h) inside_first)

  sequences_walked : {b : List InstrSeq} {start : ℕ} {ps : List ℕ} {ss : Sequences SequenceAt LocatedInstr} (seen next : List ℕ) → AreSequences b ps ss → Apart (slots_reached_each ss seen)
      → Walks b start seen (ps ++ next) → Walks b start (slots_reached_each ss seen) next
  sequences_walked seen next are_no_sequences h w = w
  sequences_walked seen next (are_sequences {p = p} {ps = ps} {items = is} {rest = rest} k a r) h w =
      let inside = apart_before_each rest (slots_reached is (p ∷ seen)) h in
      sequences_walked (slots_reached is (p ∷ seen)) next r h (items_walked (p ∷ seen) (ps ++ next) a inside (onward w k (apart_before is (p ∷ seen) inside).0))

pub tree_is_walked : TreeIsWalked
tree_is_walked b start t h = sequences_walked [] [] h.unfolds h.apart begun

-- ---- a walk that ends is a tree's

-- Q holds for the slots that are reached, for any sequences that unfold at these slots
abbrev Completes : List InstrSeq → List ℕ → (List ℕ → Type 0) → List ℕ → Type 0
Completes b [] Q seen = Q seen
Completes b (p ∷ ps) Q seen = (seq : InstrSeq) (items : Items SequenceAt LocatedInstr) → slice_get b p ≡ Some seq → AreTreeItems b seq.instrs items → Completes b ps Q (slots_reached items (p ∷ seen))

sequences_complete : (b : List InstrSeq) (ps qs : List ℕ) (Q : List ℕ → Type 0) (seen : List ℕ)
    → ((ss : Sequences SequenceAt LocatedInstr) → AreSequences b ps ss → Completes b qs Q (slots_reached_each ss seen)) → Completes b (ps ++ qs) Q seen
sequences_complete b [] qs Q seen h = h no_sequences are_no_sequences
sequences_complete b (p ∷ ps) qs Q seen h = λ seq items k a. sequences_complete b ps qs Q (slots_reached items (p ∷ seen)) (λ ss r. h (sequence (record { slot = p; seq = seq }) items ss) (are_sequences k a r))

items_complete : (b : List InstrSeq) (xs : List LocatedInstr) (qs : List ℕ) (Q : List ℕ → Type 0) (seen : List ℕ)
    → ((is : Items SequenceAt LocatedInstr) → AreTreeItems b xs is → Completes b qs Q (slots_reached is seen)) → Completes b (slots_in_all xs ++ qs) Q seen
items_complete b [] qs Q seen h = h no_items are_no_items
items_complete b (x ∷ xs) qs Q seen h =
    let P : List ℕ → Type 0 = λ ps. Completes b ps Q seen in
    subst P (sym (append_assoc (slots_in x.0) (slots_in_all xs) qs))
    (sequences_complete b (slots_in x.0) (slots_in_all xs ++ qs) Q seen (λ ss a. items_complete b xs qs Q (slots_reached_each ss seen) (λ rest r. h (item x ss rest) (are_items a r))))

-- the sequences that unfold from the start and reach these slots
record Unfolds (b : List InstrSeq) (start : ℕ) (seen : List ℕ) : Type 0 where
  pub tree : Tree SequenceAt LocatedInstr
  pub unfolds : AreSequences b (start ∷ []) (alone tree)
  pub slots : slots_reached_each (alone tree) [] ≡ seen

walk_completes : {b : List InstrSeq} {start : ℕ} {seen next : List ℕ} → Walks b start seen next → Completes b next (Unfolds b start) seen
walk_completes {start = start} begun = λ seq items k a. record { tree = record { head = record { slot = start; seq = seq }; items = items }; unfolds = are_sequences k a are_no_sequences; slots = refl }
walk_completes {b = b} (onward {seen = seen} {p = p} {next = next} {seq = seq} w k m) =
    let before = walk_completes w in
    items_complete b seq.instrs next _ (p ∷ seen) (λ items a. before seq items k a)

walks_apart : {b : List InstrSeq} {start : ℕ} {seen next : List ℕ} → Walks b start seen next → Apart seen
walks_apart begun = tt
walks_apart (onward w k m) = (m, walks_apart w)

pub walk_makes_tree : WalkMakesTree
walk_makes_tree b start seen w =
    let whole = walk_completes w in
    record { tree = whole.tree; is_tree = record { unfolds = whole.unfolds; apart = subst Apart (sym whole.slots) (walks_apart w) }; slots = whole.slots }

-- ---- one end

-- how the walk ends at a state: it has no slot left, or a fault
data Ends (b : List InstrSeq) : (seen next : List ℕ) → Option WalkError → Type 0 where
  ended : {seen : List ℕ} → Ends b seen [] None
  is_unknown : {seen next : List ℕ} {p : ℕ} → slice_get b p ≡ None → Ends b seen (p ∷ next) (Some UnknownSequence)
  is_shared : {seen next : List ℕ} {p : ℕ} → among p seen ≡ true → Ends b seen (p ∷ next) (Some SharedSequence)

-- the walk is deterministic: from the first state it gets to the second
data Leads (b : List InstrSeq) : (seen next seen' next' : List ℕ) → Type 0 where
  stays : {seen next : List ℕ} → Leads b seen next seen next
  goes : {seen next seen' next' : List ℕ} {p : ℕ} {seq : InstrSeq} → slice_get b p ≡ Some seq → among p seen ≡ false
      → Leads b (p ∷ seen) (slots_in_all seq.instrs ++ next) seen' next' → Leads b seen (p ∷ next) seen' next'

leads_more : {b : List InstrSeq} {s n s' n' : List ℕ} {p : ℕ} (seq : InstrSeq) → Leads b s n s' (p ∷ n') → slice_get b p ≡ Some seq → among p s' ≡ false → Leads b s n (p ∷ s') (slots_in_all seq.instrs ++ n')
leads_more seq stays k m = goes k m stays
leads_more seq (goes k' m' l) k m = goes k' m' (leads_more seq l k m)

leads_to : {b : List InstrSeq} {start : ℕ} {seen next : List ℕ} → Walks b start seen next → Leads b [] (start ∷ []) seen next
leads_to begun = stays
leads_to (onward {seq = seq} w k m) = leads_more seq (leads_to w) k m

-- every slot that was reached is known
Known : List InstrSeq → List ℕ → Type 0
Known b seen = (q : ℕ) → among q seen ≡ true → slice_get b q ≡ None → ⊥

or_cases : (x y : Bool) → x || y ≡ true → (x ≡ true) ⊎ (y ≡ true)
or_cases true y h = inl refl
or_cases false y h = inr h

known_more : (b : List InstrSeq) (seen : List ℕ) (p : ℕ) (seq : InstrSeq) → slice_get b p ≡ Some seq → Known b seen → Known b (p ∷ seen)
unfolding Known
known_more b seen p seq k h q m n =
    elim (or_cases (eqb q p) (among q seen) m) [
      | inl e ↦ (let same : q ≡ p = eqb-true q p e in let P : ℕ → Type 0 = λ z. slice_get b z ≡ None in let none : slice_get b p ≡ None = subst P same n in cc)
      | inr a ↦ h q a n
    ]

none_reached : (b : List InstrSeq) → Known b []
unfolding Known
none_reached b q m n = cc

same_end : {b : List InstrSeq} (seen next : List ℕ) (x y : Option WalkError) → Known b seen → Ends b seen next x → Ends b seen next y → x ≡ y
unfolding Known
same_end seen next x y h ended ended = refl
same_end seen next x y h (is_unknown n) (is_unknown n') = refl
same_end seen next x y h (is_unknown {p = p} n) (is_shared m) = absurd (h p m n)
same_end seen next x y h (is_shared {p = p} m) (is_unknown n) = absurd (h p m n)
same_end seen next x y h (is_shared m) (is_shared m') = refl

no_way : {b : List InstrSeq} {seen next : List ℕ} {p : ℕ} {seq : InstrSeq} {x : Option WalkError} → slice_get b p ≡ Some seq → among p seen ≡ false → Ends b seen (p ∷ next) x → ⊥
no_way k m (is_unknown n) = cc
no_way k m (is_shared n) = cc

one_end : {b : List InstrSeq} {s n s' n' s'' n'' : List ℕ} {x y : Option WalkError} → Known b s → Leads b s n s' n' → Leads b s n s'' n'' → Ends b s' n' x → Ends b s'' n'' y → x ≡ y
one_end {s = s} {n = n} {x = x} {y = y} h stays stays e f = same_end s n x y h e f
one_end h stays (goes k m l) e f = absurd (no_way k m e)
one_end h (goes k m l) stays e f = absurd (no_way k m f)
one_end {b = b} {s = s} {s'' = s''} {n'' = n''} h (goes {next = next} {p = p} {seq = seq} k m l) (goes {seq = other} k' m' l') e f =
    let same : other ≡ seq = cc in
    let P : InstrSeq → Type 0 = λ z. Leads b (p ∷ s) (slots_in_all z.instrs ++ next) s'' n'' in
    one_end (known_more b s p seq k h) l (subst P same l') e f

-- a state that the walk gets to, and how it ends there
record ComesTo (b : List InstrSeq) (start : ℕ) (x : Option WalkError) : Type 0 where
  pub seen : List ℕ
  pub next : List ℕ
  pub leads : Leads b [] (start ∷ []) seen next
  pub ends : Ends b seen next x

comes_to : {b : List InstrSeq} {start : ℕ} {seen next : List ℕ} {x : Option WalkError} → Walks b start seen next → Ends b seen next x → ComesTo b start x
comes_to {seen = seen} {next = next} w e = record { seen = seen; next = next; leads = leads_to w; ends = e }

fault_ends : {b : List InstrSeq} {start : ℕ} {e : WalkError} → FirstWalkFault b start e → ComesTo b start (Some e)
fault_ends (unknown w n) = comes_to w (is_unknown n)
fault_ends (shared w m) = comes_to w (is_shared m)

comes_once : {b : List InstrSeq} {start : ℕ} {x y : Option WalkError} → ComesTo b start x → ComesTo b start y → x ≡ y
comes_once {b = b} h k = one_end (none_reached b) h.leads k.leads h.ends k.ends

pub one_fault : OneFault
one_fault b start e f h k = let same : Some e ≡ Some f = comes_once (fault_ends h) (fault_ends k) in cc

pub tree_has_no_fault : TreeHasNoFault
tree_has_no_fault b start t e h k = let same : None ≡ Some e = comes_once (comes_to (tree_is_walked b start t h) ended) (fault_ends k) in cc
