-- The items that a visitor collects at the events of a walk, in terms of the tree's instructions; with this, the data segments.
use Rattle.std.proofs.Common.{◌≡◌, ◌⊎◌, ℕ, List, [], ◌∷◌, ◌++◌, Bool, true, false, ◌||◌, ◌==◌, cond, refl, sym, ap, ◌∙◌, subst, append-nil, append_assoc, inl, inr}
use Rattle.std.specs.List.{flat_map}
use Rattle.std.specs.HashSet.{HashSet, contains}
use Rattle.std.proofs.Math.Bool.{or-false, and-true}
use Rattle.std.proofs.lemmas.Cmp.{nat_eq_equiv}
use Rattle.std.proofs.lemmas.Grind.{flat_map-append}
use Rattle.std.proofs.lemmas.List.Folds.{list_any-append}
use Rattle.walrus_ir.specs.declared.seq.InstrSeq.{InstrSeq}
use Rattle.walrus_ir.specs.declared.instr.Instr.{Instr}
use Rattle.walrus_ir.specs.declared.instr.Instr.TheVariants.{RefFunc, LocalGet, LocalSet, LocalTee, MemoryInit, DataDrop, ArrayNewData, ArrayInitData}
use Rattle.walrus_ir.specs.declared.error.WalkError.{WalkError}
use Rattle.walrus_ir.specs.declared.error.WalkError.TheVariants.{Memory}
use Rattle.walrus_ir.specs.Tree.{Items, no_items, item, Sequences, no_sequences, sequence, Tree}
use Rattle.walrus_ir.specs.Unfolding.{SequenceAt, LocatedInstr, among}
use Rattle.walrus_ir.specs.Events.{WalkEvent, StartSequence, EndSequence, VisitInstruction, NameData, names, item_events, sequence_events, events, Folds, through, after, Stops, refused, later}
use Rattle.walrus_ir.specs.Walk.{Finishes, IsRefused, IsNotWalked, HasNoWalk}
use Rattle.walrus_facts.specs.Facts.{instructions, instructions_inside, segment_of, segments, TreeHas}
use Rattle.walrus_facts.specs.Segments.{holds, named, Collects, IsOutOfMemoryAt, HoldsSame}
use Rattle.walrus_facts.specs.declared.segments.DataSegmentsVisitor.{DataSegmentsVisitor}
use Rattle.walrus_maps.proofs.EntryMaps.{same_id}

-- Nothing is collected at the start or end of a sequence; at an instruction, the items of the instruction are collected.
pub record IsByInstruction {A : Type 0} (at_event : WalkEvent → List A) (at_instruction : LocatedInstr → List A) : Type 0 where
  pub starts : (seq : InstrSeq) → at_event (StartSequence seq) ≡ []
  pub ends : (seq : InstrSeq) → at_event (EndSequence seq) ≡ []
  pub visits : (x : LocatedInstr) → flat_map at_event (VisitInstruction x.0 x.1 ∷ names x.0) ≡ at_instruction x

module _ {A : Type 0} {g : WalkEvent → List A} {f : LocatedInstr → List A} (h : IsByInstruction g f) where
  mutual
    items_collected : (is : Items SequenceAt LocatedInstr) (k : List WalkEvent) → flat_map g (item_events is k) ≡ flat_map f (instructions is) ++ flat_map g k
    items_collected no_items k = refl
    items_collected (item x inside rest) k =
        let before = flat_map-append g (VisitInstruction x.0 x.1 ∷ names x.0) (sequence_events inside (item_events rest k)) in
        let following = sequences_collected inside (item_events rest k) in
        rw (before, h.visits x, following, items_collected rest k, flat_map-append f (instructions_inside inside) (instructions rest), append_assoc (f x), append_assoc (flat_map f (instructions_inside inside))) refl

    sequences_collected : (ss : Sequences SequenceAt LocatedInstr) (k : List WalkEvent) → flat_map g (sequence_events ss k) ≡ flat_map f (instructions_inside ss) ++ flat_map g k
    sequences_collected no_sequences k = refl
    sequences_collected (sequence head is rest) k =
        let first = items_collected is (EndSequence head.seq ∷ sequence_events rest k) in
        rw (h.starts head.seq, first, h.ends head.seq, sequences_collected rest k, flat_map-append f (instructions is) (instructions_inside rest), append_assoc (flat_map f (instructions is))) refl

  pub tree_collected : (t : Tree SequenceAt LocatedInstr) → flat_map g (events t) ≡ flat_map f (instructions t.items)
  tree_collected t =
      let all = items_collected t.items (EndSequence t.head.seq ∷ []) in
      rw (h.starts t.head.seq, all, h.ends t.head.seq) (append-nil (flat_map f (instructions t.items)))

-- To add two lists one after the other is to add both at once.
pub record IsAdding {A B : Type 0} (add : List A → B → B) : Type 0 where
  pub none : (b : B) → add [] b ≡ b
  pub both : (xs ys : List A) (b : B) → add ys (add xs b) ≡ add (xs ++ ys) b

-- to add the items of each event is to add the items of all events
pub folded : {V A B : Type 0} {steps : V → WalkEvent → V → Type 0} {g : WalkEvent → List A} {add : List A → B → B} (has : V → B) → IsAdding add
    → ((v w : V) (e : WalkEvent) → steps v e w → has w ≡ add (g e) (has v))
    → {v w : V} {es : List WalkEvent} → Folds steps v es w → has w ≡ add (flat_map g es) (has v)
folded has adding at_step (through {v = v}) = sym (adding.none (has v))
folded {g = g} {add = add} has adding at_step (after {v = v} {w = w} {e = e} {es = es} s f) =
    folded {g = g} {add = add} has adding at_step f ∙ ap (λ b. add (flat_map g es) b) (at_step v w e s) ∙ adding.both (g e) (flat_map g es) (has v)

-- ---- data segments

named_by : (i : Instr) (location : ℕ) → flat_map named (VisitInstruction i location ∷ names i) ≡ segment_of i
named_by (RefFunc x) location = refl
named_by (LocalGet x) location = refl
named_by (LocalSet x) location = refl
named_by (LocalTee x) location = refl
named_by (MemoryInit x) location = refl
named_by (DataDrop x) location = refl
named_by (ArrayNewData x) location = refl
named_by (ArrayInitData x) location = refl
named_by _ location = refl

named_by_instruction : IsByInstruction named (λ (x : LocatedInstr). segment_of x.0)
named_by_instruction = record { starts = λ seq. refl; ends = λ seq. refl; visits = λ x. named_by x.0 x.1 }

or_swap : (a b c : Bool) → a || (b || c) ≡ (b || a) || c
or_swap true true c = refl
or_swap true false c = refl
or_swap false true c = refl
or_swap false false c = refl

-- a set of ids in terms of their numbers
by_number : {S : Type 0} (s : HashSet ℕ S) (d : ℕ) → contains same_id s d ≡ contains (λ x y. x == y) s d
by_number s d = λ i. contains (λ x y. and-true (x == y) i) s d

put_or : (a b : Bool) → cond a true b ≡ (a || false) || b
put_or true b = refl
put_or false b = refl

-- an insertion adds one id
pub put_one : {S : Type 0} (s t : HashSet ℕ S) (k d : ℕ) → contains same_id t d ≡ cond (same_id k d) true (contains same_id s d)
    → contains (λ x y. x == y) t d ≡ among d (k ∷ []) || contains (λ x y. x == y) s d
put_one s t k d h =
    let now : contains (λ x y. x == y) t d ≡ cond (same_id k d) true (contains (λ x y. x == y) s d) = rw (sym (by_number t d), h, by_number s d) refl in
    rw (now, and-true (k == d), nat_eq_equiv.symm k d) (put_or (d == k) (contains (λ x y. x == y) s d))

-- whether an id is among those that are collected or were there before
pub adding_members : (d : ℕ) → IsAdding (λ (xs : List ℕ) (b : Bool). among d xs || b)
adding_members d = record {
  none = λ b. refl;
  both = λ xs ys b. rw (list_any-append (λ q. d == q) xs ys) (or_swap (among d ys) (among d xs) b);
}

folds_named : {v w : DataSegmentsVisitor} {es : List WalkEvent} → Folds Collects v es w → (d : ℕ) → holds w d ≡ among d (flat_map named es) || holds v d
folds_named h d = folded (λ v. holds v d) (adding_members d) (λ v w e s. s d) h

stops_for_memory : {v w : DataSegmentsVisitor} {es : List WalkEvent} {f : WalkError} → Stops Collects IsOutOfMemoryAt HoldsSame v es w f → f ≡ Memory
stops_for_memory (refused {e = NameData d} r s) = r
stops_for_memory (refused r s) = absurd r
stops_for_memory (later s f) = stops_for_memory f

pub tree_named : (t : Tree SequenceAt LocatedInstr) → flat_map named (events t) ≡ segments t.items
tree_named t = tree_collected named_by_instruction t

pub collected : {b : List InstrSeq} {start : ℕ} {v w : DataSegmentsVisitor} → ((d : ℕ) → holds v d ≡ false) → Finishes b start Collects v w
    → TreeHas b start (λ t. (d : ℕ) → holds w d ≡ among d (segments t.items))
collected {v = v} none h = record {
  tree = h.tree;
  is_tree = h.is_tree;
  holds = λ d. rw (folds_named h.folds d, none d, tree_named h.tree) (or-false (among d (segments h.tree.items)));
}

pub no_walk : {V : Type 0} {b : List InstrSeq} {start : ℕ} {v w : V} {f : WalkError} → IsNotWalked b start (λ e f. f ≡ e) v w f → HasNoWalk b start f
no_walk {b = b} {start = start} u = let P : WalkError → Type 0 = λ e. HasNoWalk b start e in subst P (sym u.is_fault) u.why

pub not_collected : {b : List InstrSeq} {start : ℕ} {v w : DataSegmentsVisitor} {f : WalkError}
    → IsRefused b start Collects IsOutOfMemoryAt HoldsSame v w f ⊎ IsNotWalked b start (λ e f. f ≡ e) v w f → HasNoWalk b start f
not_collected (inl r) = inl (stops_for_memory r.stops)
not_collected (inr u) = no_walk u
