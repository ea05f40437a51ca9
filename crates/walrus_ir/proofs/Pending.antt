-- The part of a tree that the open sequences and the slots to come represent.
use Rattle.std.proofs.Common.{◌≡◌, ◌<◌, ◌≤◌, ◌+◌, ℕ, suc, List, [], ◌∷◌, ◌++◌, Option, Some, None, length, reverse, slice_index, refl, sym, ap, ◌∙◌, subst, append_assoc, arith}
use Rattle.std.proofs.lemmas.List.{reverse-append, append-nil}
use Rattle.std.proofs.lemmas.Option.{slice_get_within}
use Rattle.std.specs.Prelude.{slice_get}
use Rattle.walrus_ir.specs.declared.seq.InstrSeq.{InstrSeq}
use Rattle.walrus_ir.specs.Tree.{Items, no_items, item, Sequences, no_sequences, sequence, alone}
use Rattle.walrus_ir.specs.Unfolding.{SequenceAt, LocatedInstr, slots_in, AreTreeItems, are_no_items, are_items, AreSequences, are_no_sequences, are_sequences, slots_reached, slots_reached_each}
use Rattle.walrus_ir.specs.Events.{WalkEvent, StartSequence, EndSequence, VisitInstruction, names, item_events, sequence_events, events}
use Rattle.walrus_ir.specs.Planning.{IsOrder}
use Rattle.walrus_ir.specs.Visiting.{Frame, started, IsStretch, no_stretch, continues, Next, starts, visits, ends}

-- the slots of the sequences, in walk order, followed by these
abbrev mutual
  pub item_slots : Items SequenceAt LocatedInstr → List ℕ → List ℕ
  item_slots no_items later = later
  item_slots (item x inside rest) later = sequence_slots inside (item_slots rest later)

  pub sequence_slots : Sequences SequenceAt LocatedInstr → List ℕ → List ℕ
  sequence_slots no_sequences later = later
  sequence_slots (sequence head items rest) later = head.slot ∷ item_slots items (sequence_slots rest later)

mutual
  items_reached : (is : Items SequenceAt LocatedInstr) (seen later : List ℕ) → reverse (slots_reached is seen) ++ later ≡ reverse seen ++ item_slots is later
  items_reached no_items seen later = refl
  items_reached (item x inside rest) seen later = items_reached rest (slots_reached_each inside seen) later ∙ sequences_reached inside seen (item_slots rest later)

  sequences_reached : (ss : Sequences SequenceAt LocatedInstr) (seen later : List ℕ) → reverse (slots_reached_each ss seen) ++ later ≡ reverse seen ++ sequence_slots ss later
  sequences_reached no_sequences seen later = refl
  sequences_reached (sequence head is rest) seen later =
      let inside = item_slots is (sequence_slots rest later) in
      sequences_reached rest (slots_reached is (head.slot ∷ seen)) later
      ∙ (items_reached is (head.slot ∷ seen) (sequence_slots rest later)
      ∙ (ap (λ ps. ps ++ inside) (reverse-append (head.slot ∷ []) seen) ∙ append_assoc (reverse seen) (head.slot ∷ []) inside))

pub slots_in_order : (ss : Sequences SequenceAt LocatedInstr) → reverse (slots_reached_each ss []) ≡ sequence_slots ss []
slots_in_order ss = sym (append-nil (reverse (slots_reached_each ss []))) ∙ sequences_reached ss [] []

-- the innermost open sequence, with the remaining trees in it, and the rest of the stack below it
pub record Top (b : List InstrSeq) (f : Frame) (Below : List ℕ → List WalkEvent → Type 0) (coming : List ℕ) (left : List WalkEvent) : Type 0 where
  pub slots : List ℕ
  pub inside : Sequences SequenceAt LocatedInstr
  pub items : Items SequenceAt LocatedInstr
  pub later : List ℕ
  pub after : List WalkEvent
  pub many : length slots ≡ f.inside
  pub are_inside : AreSequences b slots inside
  pub are_rest : AreTreeItems b f.rest items
  pub below : Below later after
  pub coming_is : coming ≡ sequence_slots inside (item_slots items later)
  pub left_is : left ≡ sequence_events inside (item_events items (EndSequence f.seq ∷ after))

-- with these open sequences and these slots to come, these events remain
abbrev pub Pending : List InstrSeq → List Frame → List ℕ → List WalkEvent → Type 0
Pending b [] coming left = (coming ≡ []) × (left ≡ [])
Pending b (f ∷ fs) coming left = Top b f (Pending b fs) coming left

-- a sequence that has just started
abbrev pub just_started : (b : List InstrSeq) (seq : InstrSeq) (fs : List Frame) (items : Items SequenceAt LocatedInstr) (later : List ℕ) (after : List WalkEvent)
    → AreTreeItems b seq.instrs items → Pending b fs later after → Pending b (started seq ∷ fs) (item_slots items later) (item_events items (EndSequence seq ∷ after))
just_started b seq fs items later after a below = record {
  slots = [];
  inside = no_sequences;
  items = items;
  later = later;
  after = after;
  many = refl;
  are_inside = are_no_sequences;
  are_rest = a;
  below = below;
  coming_is = refl;
  left_is = refl;
}

-- the first of the remaining events, and the events after them
pub record AfterFirst (b : List InstrSeq) (fs : List Frame) (coming : List ℕ) (es left : List WalkEvent) : Type 0 where
  pub more : List WalkEvent
  pub left_is : left ≡ es ++ more
  pub pending : Pending b fs coming more

-- the next sequence inside the last instruction starts
start_pending : {b : List InstrSeq} (fs : List Frame) (seq next : InstrSeq) (rest : List LocatedInstr) (n p : ℕ) (coming : List ℕ) (left : List WalkEvent)
    (h : Top b (record { seq = seq; rest = rest; inside = suc n }) (Pending b fs) (p ∷ coming) left) (slots : List ℕ) (inside : Sequences SequenceAt LocatedInstr)
    → slice_get b p ≡ Some next → length slots ≡ suc n → AreSequences b slots inside → p ∷ coming ≡ sequence_slots inside (item_slots h.items h.later)
    → left ≡ sequence_events inside (item_events h.items (EndSequence seq ∷ h.after))
    → AfterFirst b (started next ∷ record { seq = seq; rest = rest; inside = n } ∷ fs) coming (StartSequence next ∷ []) left
start_pending fs seq next rest n p coming left h slots inside known many are_no_sequences coming_is left_is = absurd (omega arith)
start_pending {b = b} fs seq next rest n p coming left h slots inside known many (are_sequences {p = q} {ps = ps} {seq = s} {items = is} {rest = ss} k a r) coming_is left_is =
    let same_place : q ≡ p = cc in
    let same : s ≡ next = (let found : slice_get b p ≡ Some s = rw (← same_place) k in cc) in
    let P : InstrSeq → Type 0 = λ z. AreTreeItems b z.instrs is in
    let below : Pending b (record { seq = seq; rest = rest; inside = n } ∷ fs) (sequence_slots ss (item_slots h.items h.later)) (sequence_events ss (item_events h.items (EndSequence seq ∷ h.after))) = record {
      slots = ps;
      inside = ss;
      items = h.items;
      later = h.later;
      after = h.after;
      many = omega arith;
      are_inside = r;
      are_rest = h.are_rest;
      below = h.below;
      coming_is = refl;
      left_is = refl;
    } in
    let others : coming ≡ item_slots is (sequence_slots ss (item_slots h.items h.later)) = cc in
    record {
      more = item_events is (EndSequence next ∷ sequence_events ss (item_events h.items (EndSequence seq ∷ h.after)));
      left_is = rw same at left_is;
      pending = rw others (just_started b next (record { seq = seq; rest = rest; inside = n } ∷ fs) is _ _ (subst P same a) below);
    }

-- the next instruction is visited
visit_pending : {b : List InstrSeq} (fs : List Frame) (seq : InstrSeq) (x : LocatedInstr) (rest : List LocatedInstr) (coming : List ℕ) (left : List WalkEvent)
    (h : Top b (record { seq = seq; rest = x ∷ rest; inside = 0 }) (Pending b fs) coming left) (slots : List ℕ) (inside : Sequences SequenceAt LocatedInstr) (items : Items SequenceAt LocatedInstr)
    → length slots ≡ 0 → AreSequences b slots inside → AreTreeItems b (x ∷ rest) items → coming ≡ sequence_slots inside (item_slots items h.later)
    → left ≡ sequence_events inside (item_events items (EndSequence seq ∷ h.after))
    → AfterFirst b (record { seq = seq; rest = rest; inside = length (slots_in x.0) } ∷ fs) coming (VisitInstruction x.0 x.1 ∷ names x.0) left
visit_pending fs seq x rest coming left h slots inside items none (are_sequences k a r) are_rest coming_is left_is = absurd (omega arith)
visit_pending fs seq x rest coming left h slots inside items none are_no_sequences (are_items {inside = ss} {rest = is} a r) coming_is left_is = record {
  more = sequence_events ss (item_events is (EndSequence seq ∷ h.after));
  left_is = left_is;
  pending = record {
    slots = slots_in x.0;
    inside = ss;
    items = is;
    later = h.later;
    after = h.after;
    many = refl;
    are_inside = a;
    are_rest = r;
    below = h.below;
    coming_is = coming_is;
    left_is = refl;
  };
}

-- the sequence ends
end_pending : {b : List InstrSeq} (fs : List Frame) (seq : InstrSeq) (coming : List ℕ) (left : List WalkEvent)
    (h : Top b (record { seq = seq; rest = []; inside = 0 }) (Pending b fs) coming left) (slots : List ℕ) (inside : Sequences SequenceAt LocatedInstr) (items : Items SequenceAt LocatedInstr)
    → length slots ≡ 0 → AreSequences b slots inside → AreTreeItems b [] items → coming ≡ sequence_slots inside (item_slots items h.later)
    → left ≡ sequence_events inside (item_events items (EndSequence seq ∷ h.after))
    → AfterFirst b fs coming (EndSequence seq ∷ []) left
end_pending fs seq coming left h slots inside items none (are_sequences k a r) are_rest coming_is left_is = absurd (omega arith)
end_pending fs seq coming left h slots inside items none are_no_sequences are_no_items coming_is left_is = record { more = h.after; left_is = left_is; pending = rw coming_is h.below }

-- a stretch of instructions is visited
stretch_pending : {b : List InstrSeq} (fs : List Frame) (seq : InstrSeq) {all left : List LocatedInstr} {n : ℕ} {es : List WalkEvent} (coming : List ℕ) (events : List WalkEvent) → IsStretch all left n es
    → Pending b (record { seq = seq; rest = all; inside = 0 } ∷ fs) coming events → AfterFirst b (record { seq = seq; rest = left; inside = n } ∷ fs) coming es events
stretch_pending fs seq coming events no_stretch h = record { more = events; left_is = refl; pending = h }
stretch_pending fs seq coming events (continues {x = x} {left = left} {es = es} s) h =
    let before = stretch_pending fs seq coming events s h in
    let p = before.pending in
    let visited = visit_pending fs seq x left coming before.more p p.slots p.inside p.items p.many p.are_inside p.are_rest p.coming_is p.left_is in
    record {
      more = visited.more;
      left_is = before.left_is ∙ (ap (λ ds. es ++ ds) visited.left_is ∙ sym (append_assoc es (VisitInstruction x.0 x.1 ∷ names x.0) visited.more));
      pending = visited.pending;
    }

pub next_pending : {b : List InstrSeq} {f : Frame} {coming : List ℕ} {es : List WalkEvent} {opened : List Frame} {coming' : List ℕ} (fs : List Frame) (left : List WalkEvent)
    → Next b f coming es opened coming' → Pending b (f ∷ fs) coming left → AfterFirst b (opened ++ fs) coming' es left
next_pending fs left (starts known) h = start_pending fs _ _ _ _ _ _ left h h.slots h.inside known h.many h.are_inside h.coming_is h.left_is
next_pending fs left (visits s) h = stretch_pending fs _ _ left (continues s) h
next_pending fs left (ends {seq = seq} {es = es} {coming = coming} s) h =
    let before = stretch_pending fs seq coming left s h in
    let p = before.pending in
    let ended = end_pending fs seq coming before.more p p.slots p.inside p.items p.many p.are_inside p.are_rest p.coming_is p.left_is in
    record {
      more = ended.more;
      left_is = before.left_is ∙ (ap (λ ds. es ++ ds) ended.left_is ∙ sym (append_assoc es (EndSequence seq ∷ []) ended.more));
      pending = ended.pending;
    }

next_within : {b : List InstrSeq} (slots : List ℕ) (inside : Sequences SequenceAt LocatedInstr) (coming later : List ℕ) → AreSequences b slots inside → 0 < length slots
    → coming ≡ sequence_slots inside later → (0 < length coming) × (slice_index coming 0 < length b)
next_within slots inside coming later are_no_sequences some e = absurd (omega arith)
next_within {b = b} slots inside coming later (are_sequences {p = p} {seq = seq} k a r) some e = rw e (omega arith, slice_get_within b p seq k)

-- the next slot is known, if a sequence inside the last instruction is to come
pub next_comes : (b : List InstrSeq) (f : Frame) (fs : List Frame) (coming : List ℕ) (left : List WalkEvent) → Pending b (f ∷ fs) coming left → 0 < f.inside
    → (0 < length coming) × (slice_index coming 0 < length b)
next_comes b f fs coming left h some = next_within h.slots h.inside coming (item_slots h.items h.later) h.are_inside (rw h.many some) h.coming_is

-- the first sequence of a walk, and the slots that come after it
pub record Begins (b : List InstrSeq) (first : ℕ) (coming : List ℕ) (es : List WalkEvent) : Type 0 where
  pub seq : InstrSeq
  pub items : Items SequenceAt LocatedInstr
  pub known : slice_get b first ≡ Some seq
  pub are : AreTreeItems b seq.instrs items
  pub coming_are : coming ≡ item_slots items []
  pub events_are : es ≡ StartSequence seq ∷ item_events items (EndSequence seq ∷ [])

begin : {b : List InstrSeq} {start : ℕ} (first : ℕ) (coming : List ℕ) (ss : Sequences SequenceAt LocatedInstr) → AreSequences b (start ∷ []) ss → sequence_slots ss [] ≡ first ∷ coming
    → Begins b first coming (sequence_events ss [])
begin {start = start} first coming ss (are_sequences {seq = seq} {items = items} k a are_no_sequences) e =
    let same : start ≡ first = cc in
    record { seq = seq; items = items; known = rw (← same) k; are = a; coming_are = cc; events_are = refl }

order_slots : {b : List InstrSeq} {start : ℕ} {order : List ℕ} (h : IsOrder b start order) → order ≡ sequence_slots (alone h.tree) []
order_slots h = h.slots ∙ slots_in_order (alone h.tree)

pub begins : {b : List InstrSeq} {start : ℕ} {order : List ℕ} (first : ℕ) (coming : List ℕ) (h : IsOrder b start order) → order ≡ first ∷ coming → Begins b first coming (events h.tree)
begins first coming h e = begin first coming (alone h.tree) h.is_tree.unfolds (sym (order_slots h) ∙ e)

some_first : {b : List InstrSeq} {start : ℕ} (ss : Sequences SequenceAt LocatedInstr) → AreSequences b (start ∷ []) ss → 0 < length (sequence_slots ss [])
some_first ss (are_sequences k a r) = omega arith

pub some_order : {b : List InstrSeq} {start : ℕ} {order : List ℕ} → IsOrder b start order → 0 < length order
some_order h = rw (order_slots h) (some_first (alone h.tree) h.is_tree.unfolds)

-- an upper bound on the steps for the slots to come, and one for the open sequences
abbrev pub work_in : Option InstrSeq → ℕ
work_in None = 0
work_in (Some seq) = 2 + length seq.instrs

abbrev pub work_to_come : List InstrSeq → List ℕ → ℕ
work_to_come b [] = 0
work_to_come b (p ∷ ps) = work_in (slice_get b p) + work_to_come b ps

abbrev pub work_open : List Frame → ℕ
work_open [] = 0
work_open (f ∷ fs) = 1 + (length f.rest + work_open fs)

stretch_within : {all left : List LocatedInstr} {n : ℕ} {es : List WalkEvent} → IsStretch all left n es → length left ≤ length all
stretch_within no_stretch = omega arith
stretch_within (continues s) = let before = stretch_within s in omega (arith, before)

pub next_falls : {b : List InstrSeq} {f : Frame} {coming : List ℕ} {es : List WalkEvent} {opened : List Frame} {coming' : List ℕ} (fs : List Frame)
    → Next b f coming es opened coming' → work_to_come b coming' + work_open (opened ++ fs) < work_to_come b coming + work_open (f ∷ fs)
next_falls {b = b} fs (starts {p = p} known) = rw known (omega arith)
next_falls fs (visits s) = let within = stretch_within s in omega (arith, within)
next_falls fs (ends s) = omega arith
