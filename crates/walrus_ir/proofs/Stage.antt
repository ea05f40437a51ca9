-- How much of a walk a visitor has been told about.
use Rattle.std.proofs.Common.{◌≡◌, ℕ, List, [], ◌∷◌, ◌++◌, Some, refl, sym, ap, ◌∙◌, subst, append_assoc}
use Rattle.std.proofs.lemmas.List.{append-nil}
use Rattle.std.specs.Prelude.{slice_get}
use Rattle.walrus_ir.specs.declared.seq.InstrSeq.{InstrSeq}
use Rattle.walrus_ir.specs.Tree.{Tree}
use Rattle.walrus_ir.specs.Unfolding.{SequenceAt, LocatedInstr, AreTreeItems, IsTree}
use Rattle.walrus_ir.specs.Events.{WalkEvent, StartSequence, EndSequence, item_events, events, Folds, through, after, Stops, refused}
use Rattle.walrus_ir.specs.Walk.{Finishes, IsRefused}
use Rattle.walrus_ir.specs.Planning.{IsOrder}
use Rattle.walrus_ir.specs.Visiting.{Frame, started, IsVisitedNext, IsRefusedNext}
use Rattle.walrus_ir.proofs.Visiting.{Folds-append, Stops-append, Stops_after}
use Rattle.walrus_ir.proofs.Pending.{Pending, just_started, next_pending, begins}

module _ {V F : Type 0} (b : List InstrSeq) (start : ℕ) (steps : V → WalkEvent → V → Type 0) (refuses : V → WalkEvent → F → Type 0) (same : V → V → Type 0) where
  -- the visitor was told about the first events of the tree; the open sequences and the slots to come give the others
  pub record Stage (v w : V) (fs : List Frame) (coming : List ℕ) : Type 0 where
    pub tree : Tree SequenceAt LocatedInstr
    pub is_tree : IsTree b start tree
    pub visited : List WalkEvent
    pub left : List WalkEvent
    pub all : events tree ≡ visited ++ left
    pub folds : Folds steps v visited w
    pub pending : Pending b fs coming left

  pub stage_first : {v w : V} {order coming : List ℕ} {first : ℕ} {next : InstrSeq} {fs : List Frame} → IsOrder b start order → order ≡ first ∷ coming → slice_get b first ≡ Some next
      → steps v (StartSequence next) w → fs ≡ started next ∷ [] → Stage v w fs coming
  stage_first {coming = coming} {first = first} {next = next} h e known step opened =
      let begun = begins first coming h e in
      let same : begun.seq ≡ next = (let found = begun.known in cc) in
      let P : InstrSeq → Type 0 = λ z. AreTreeItems b z.instrs begun.items in
      let Q : List ℕ → Type 0 = λ ps. Pending b (started next ∷ []) ps (item_events begun.items (EndSequence next ∷ [])) in
      record {
        tree = h.tree;
        is_tree = h.is_tree;
        visited = StartSequence next ∷ [];
        left = item_events begun.items (EndSequence next ∷ []);
        all = rw same at begun.events_are;
        folds = after step through;
        pending = rw opened (subst Q (sym begun.coming_are) (just_started b next [] begun.items [] [] (subst P same begun.are) (refl, refl)));
      }

  pub first_refused : {v w : V} {fault : F} {order coming : List ℕ} {first : ℕ} {next : InstrSeq} → IsOrder b start order → order ≡ first ∷ coming → slice_get b first ≡ Some next
      → refuses v (StartSequence next) fault → same v w → IsRefused b start steps refuses same v w fault
  first_refused {coming = coming} {first = first} {next = next} h e known refusal as_it_was =
      let begun = begins first coming h e in
      let same_seq : begun.seq ≡ next = (let found = begun.known in cc) in
      record { tree = h.tree; is_tree = h.is_tree; stops = rw (begun.events_are, same_seq) (refused refusal as_it_was) }

  pub stage_visited : {v w x : V} {f : Frame} {fs fs' : List Frame} {coming coming' : List ℕ} → Stage v w (f ∷ fs) coming → IsVisitedNext b f coming fs (λ es. Folds steps w es x) fs' coming' → Stage v x fs' coming'
  stage_visited {x = x} {fs = fs} {fs' = fs'} {coming' = coming'} h t =
      let following = next_pending fs h.left t.next h.pending in
      record {
        tree = h.tree;
        is_tree = h.is_tree;
        visited = h.visited ++ t.events;
        left = following.more;
        all = h.all ∙ (ap (λ es. h.visited ++ es) following.left_is ∙ sym (append_assoc h.visited t.events following.more));
        folds = Folds-append steps refuses same t.events h.folds t.visited;
        pending = rw t.stack following.pending;
      }

  pub stage_refused : {v w x : V} {fault : F} {f : Frame} {fs : List Frame} {coming : List ℕ} → Stage v w (f ∷ fs) coming → IsRefusedNext b f coming (λ es. Stops steps refuses same w es x fault) → IsRefused b start steps refuses same v x fault
  stage_refused {fs = fs} h t =
      let following = next_pending fs h.left t.next h.pending in
      record {
        tree = h.tree;
        is_tree = h.is_tree;
        stops = rw (h.all, following.left_is) (Stops_after steps refuses same (t.events ++ following.more) h.folds (Stops-append steps refuses same following.more t.stopped));
      }

  pub stage_last : {v w : V} {coming : List ℕ} → Stage v w [] coming → Finishes b start steps v w
  stage_last {v = v} {w = w} h =
      let all_visited : events h.tree ≡ h.visited = h.all ∙ (ap (λ es. h.visited ++ es) h.pending.1 ∙ append-nil h.visited) in
      record { tree = h.tree; is_tree = h.is_tree; folds = rw all_visited h.folds }
