-- The state of the plan of a walk, task by task.
use Rattle.std.proofs.Common.{◌≡◌, ◌<◌, ◌+◌, ℕ, List, [], ◌∷◌, ◌++◌, Bool, true, false, Some, length, reverse, get_or, refl, sym, ap, ◌∙◌, arith, inl, inr, ◌⊎◌}
use Rattle.std.proofs.Math.ListN.{length-set}
use Rattle.std.proofs.lemmas.List.{reverse-append}
use Rattle.std.proofs.lemmas.Option.{slice_get_within}
use Rattle.std.specs.Prelude.{slice_get}
use Rattle.walrus_ir.specs.declared.seq.InstrSeq.{InstrSeq}
use Rattle.walrus_ir.specs.declared.error.WalkError.{WalkError}
use Rattle.walrus_ir.specs.declared.error.WalkError.TheVariants.{UnknownSequence, SharedSequence, Memory, TooLarge}
use Rattle.walrus_ir.specs.declared.plan.Plan.{Plan}
use Rattle.walrus_ir.specs.declared.plan.Task.{Task}
use Rattle.walrus_ir.specs.declared.plan.Task.TheVariants.{Enter, Resume, Clauses}
use Rattle.walrus_ir.specs.Unfolding.{slots_in_all, among}
use Rattle.walrus_ir.specs.Faults.{Walks, begun, onward, FirstWalkFault, unknown, shared}
use Rattle.walrus_ir.specs.Walk.{HasNoWalk}
use Rattle.walrus_ir.specs.Planning.{goes_to, agenda, work_of_task, work, IsRefusedAt, IsReached, IsContinued, IsDone, IsNotDone, IsOrder}
use Rattle.walrus_ir.proofs.WalkLaws.{walk_makes_tree}
use Rattle.walrus_ir.proofs.Marks.{marked, unreached, unreached-set}
use Rattle.walrus_ir.proofs.Tasks.{agenda_push}

-- the walk has reached the marked sequences in this order, and goes on to these slots
pub record HasReached (b : List InstrSeq) (start : ℕ) (marks : List Bool) (order next : List ℕ) : Type 0 where
  pub seen : List ℕ
  pub walks : Walks b start seen next
  pub as_long : length marks ≡ length b
  pub marks_are : (p : ℕ) → get_or marks p false ≡ among p seen
  pub order_is : order ≡ reverse seen

pub reached_first : (b : List InstrSeq) (start : ℕ) (marks : List Bool) → length marks ≡ length b → ((p : ℕ) → get_or marks p false ≡ false)
    → HasReached b start marks [] (start ∷ [])
reached_first b start marks l m = record { seen = []; walks = begun; as_long = l; marks_are = m; order_is = refl }

pub reach_within : {b : List InstrSeq} {start : ℕ} {marks : List Bool} {order next : List ℕ} (p : ℕ) (seq : InstrSeq) → HasReached b start marks order next → slice_get b p ≡ Some seq → p < length marks
reach_within p seq h known = rw h.as_long (slice_get_within _ p seq known)

pub reached_enter : {b : List InstrSeq} {start : ℕ} {marks : List Bool} {order next : List ℕ} (p : ℕ) (seq : InstrSeq) (marks' : List Bool) → IsReached b p seq marks marks'
    → HasReached b start marks order (p ∷ next) → HasReached b start marks' (order ++ p ∷ []) (slots_in_all seq.instrs ++ next)
reached_enter {b = b} {marks = marks} p seq marks' r h = record {
  seen = p ∷ h.seen;
  walks = onward h.walks r.known (sym (h.marks_are p) ∙ r.fresh);
  as_long = rw r.marked (length-set marks p true ∙ h.as_long);
  marks_are = rw r.marked (marked marks p h.seen (reach_within p seq h r.known) h.marks_are);
  order_is = rw h.order_is (sym (reverse-append (p ∷ []) h.seen));
}

-- the next task, on top of the others
pub popped : {b : List InstrSeq} {start : ℕ} {marks : List Bool} {order : List ℕ} (all : List Task) (t : Task) (rest : List Task)
    → HasReached b start marks order (agenda all) → all ≡ rest ++ t ∷ [] → HasReached b start marks order (goes_to t ++ agenda rest)
popped all t rest h e = rw (e, agenda_push rest t) at h

went_on : {b : List InstrSeq} {start : ℕ} (t : Task) (old new : Plan) → HasReached b start old.reached.items old.order.items (goes_to t ++ agenda old.tasks.items) → IsContinued t old new
    → HasReached b start new.reached.items new.order.items (agenda new.tasks.items)
went_on t old new h d = rw (d.same_marks, d.same_order, d.goes) h

pub done_reached : {b : List InstrSeq} {start : ℕ} (t : Task) (old new : Plan) → IsDone b t old new → HasReached b start old.reached.items old.order.items (goes_to t ++ agenda old.tasks.items)
    → HasReached b start new.reached.items new.order.items (agenda new.tasks.items)
done_reached (Enter p) old new d h = rw (d.ordered, d.adds.goes) (reached_enter p d.seq new.reached.items d.reached h)
done_reached (Resume rest) old new d h = went_on (Resume rest) old new h d
done_reached (Clauses rest) old new d h = went_on (Clauses rest) old new h d

gone_falls : (b : List InstrSeq) (t : Task) (old new : Plan) → IsContinued t old new
    → unreached new.reached.items b + work new.tasks.items < unreached old.reached.items b + (work_of_task t + work old.tasks.items)
gone_falls b t old new d = rw d.same_marks (omega (arith, d.falls))

pub done_falls : {b : List InstrSeq} {start : ℕ} (t : Task) (old new : Plan) → IsDone b t old new → HasReached b start old.reached.items old.order.items (goes_to t ++ agenda old.tasks.items)
    → unreached new.reached.items b + work new.tasks.items < unreached old.reached.items b + (work_of_task t + work old.tasks.items)
done_falls {b = b} (Enter p) old new d h =
    let fewer = unreached-set old.reached.items b p d.seq (reach_within p d.seq h d.reached.known) d.reached.known d.reached.fresh in
    rw d.reached.marked (omega (arith, fewer, d.adds.falls))
done_falls {b = b} (Resume rest) old new d h = gone_falls b (Resume rest) old new d
done_falls {b = b} (Clauses rest) old new d h = gone_falls b (Clauses rest) old new d

pub refused_fault : {b : List InstrSeq} {start : ℕ} {marks : List Bool} {order next : List ℕ} (p : ℕ) (e : WalkError)
    → HasReached b start marks order (p ∷ next) → IsRefusedAt b marks p e → FirstWalkFault b start e
refused_fault p UnknownSequence h r = unknown h.walks r
refused_fault p SharedSequence h r = shared h.walks (sym (h.marks_are p) ∙ r)
refused_fault p Memory h r = absurd r
refused_fault p TooLarge h r = absurd r

pub not_done : {b : List InstrSeq} {start : ℕ} {marks : List Bool} {order : List ℕ} (t : Task) (ts : List Task) (e : WalkError)
    → HasReached b start marks order (goes_to t ++ agenda ts) → (e ≡ Memory) ⊎ IsNotDone b marks t e → HasNoWalk b start e
not_done t ts e h (inl m) = inl m
not_done (Enter p) ts e h (inr r) = inr (refused_fault p e h r)
not_done (Resume rest) ts e h (inr r) = absurd r
not_done (Clauses rest) ts e h (inr r) = absurd r

-- at the end of the walk
pub reached_last : {b : List InstrSeq} {start : ℕ} {marks : List Bool} {order : List ℕ} → HasReached b start marks order [] → IsOrder b start order
reached_last {b = b} {start = start} h =
    let whole = walk_makes_tree b start h.seen h.walks in
    record { tree = whole.tree; is_tree = whole.is_tree; slots = h.order_is ∙ ap reverse (sym whole.slots) }
