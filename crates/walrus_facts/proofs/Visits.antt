-- The visits of the instructions of a tree in a walk.
use Rattle.std.proofs.Common.{◌≡◌, ◌⊎◌, ℕ, List, [], ◌∷◌, map, refl, ap, ◌∙◌, subst, inl, inr}
use Rattle.std.specs.List.{flat_map, FoldsTo}
use Rattle.std.proofs.lemmas.List.Concat.{flat_map_single}
use Rattle.walrus_ir.specs.declared.seq.InstrSeq.{InstrSeq}
use Rattle.walrus_ir.specs.declared.error.WalkError.{WalkError}
use Rattle.walrus_ir.specs.Tree.{Tree}
use Rattle.walrus_ir.specs.Unfolding.{SequenceAt, LocatedInstr}
use Rattle.walrus_ir.specs.Events.{WalkEvent, StartSequence, EndSequence, VisitInstruction, NameFunction, NameLocal, NameData, events, Folds, through, after, Stops, refused, later}
use Rattle.walrus_ir.specs.Walk.{Finishes, IsRefused, IsNotWalked, HasNoWalk}
use Rattle.walrus_facts.specs.Facts.{instructions, TreeHas}
use Rattle.walrus_facts.specs.Sizes.{visited}
use Rattle.walrus_facts.proofs.Collecting.{tree_collected, no_walk}
use Rattle.walrus_facts.proofs.Counting.{one_an_instruction}
use Rattle.walrus_facts.specs.Each.{Sees, RefusesNone}

same_items : {A : Type 0} (xs : List A) → map (λ x. x) xs ≡ xs
same_items [] = refl
same_items (x ∷ xs) = ap (λ ys. x ∷ ys) (same_items xs)

-- the events of a tree visit its instructions, in walk order
tree_visits : (t : Tree SequenceAt LocatedInstr) → flat_map visited (events t) ≡ instructions t.items
tree_visits t = tree_collected one_an_instruction t ∙ flat_map_single (λ x. x) (instructions t.items) ∙ same_items (instructions t.items)

module _ {V : Type 0} (visits : V → LocatedInstr → V → Type 0) where
  from_same : (v w u : V) (xs : List LocatedInstr) → w ≡ v → FoldsTo visits w xs u → FoldsTo visits v xs u
  from_same v w u xs e h = subst (λ (x : V). FoldsTo visits x xs u) e h

  folds_visits : {v w : V} {es : List WalkEvent} → Folds (Sees visits) v es w → FoldsTo visits v (flat_map visited es) w
  folds_visits through = refl
  folds_visits (after {w = w} {e = VisitInstruction i location} s f) = (w, s, folds_visits f)
  folds_visits (after {v = v} {w = w} {x = x} {e = StartSequence seq} {es = es} s f) = from_same v w x (flat_map visited es) s (folds_visits f)
  folds_visits (after {v = v} {w = w} {x = x} {e = EndSequence seq} {es = es} s f) = from_same v w x (flat_map visited es) s (folds_visits f)
  folds_visits (after {v = v} {w = w} {x = x} {e = NameFunction n} {es = es} s f) = from_same v w x (flat_map visited es) s (folds_visits f)
  folds_visits (after {v = v} {w = w} {x = x} {e = NameLocal n} {es = es} s f) = from_same v w x (flat_map visited es) s (folds_visits f)
  folds_visits (after {v = v} {w = w} {x = x} {e = NameData n} {es = es} s f) = from_same v w x (flat_map visited es) s (folds_visits f)

  pub each_visited : {b : List InstrSeq} {start : ℕ} {v w : V} → Finishes b start (Sees visits) v w
      → TreeHas b start (λ t. FoldsTo visits v (instructions t.items) w)
  each_visited {v = v} {w = w} h = record {
    tree = h.tree;
    is_tree = h.is_tree;
    holds = subst (λ (xs : List LocatedInstr). FoldsTo visits v xs w) (tree_visits h.tree) (folds_visits h.folds);
  }

  never_stops : {same : V → V → Type 0} {v w : V} {es : List WalkEvent} {f : WalkError} → Stops (Sees visits) RefusesNone same v es w f → ⊥
  never_stops (refused r s) = r
  never_stops (later s f) = never_stops f

  pub none_visited : {same : V → V → Type 0} {b : List InstrSeq} {start : ℕ} {v w : V} {f : WalkError}
      → IsRefused b start (Sees visits) RefusesNone same v w f ⊎ IsNotWalked b start (λ e f. f ≡ e) v w f → HasNoWalk b start f
  none_visited (inl r) = absurd (never_stops r.stops)
  none_visited (inr u) = no_walk u
