-- A visitor is told about a stretch of instructions, one more at a time.
use Rattle.std.proofs.Common.{◌≡◌, ℕ, List, ◌∷◌, length, subst}
use Rattle.walrus_ir.specs.Unfolding.{LocatedInstr, slots_in}
use Rattle.walrus_ir.specs.Events.{WalkEvent, VisitInstruction, names, Folds, Stops}
use Rattle.walrus_ir.specs.Visiting.{IsStretch, continues, IsVisitedStretch, IsRefusedStretch}
use Rattle.walrus_ir.proofs.Visiting.{Folds-append, Stops_after}

module _ {V F : Type 0} (steps : V → WalkEvent → V → Type 0) (refuses : V → WalkEvent → F → Type 0) (same : V → V → Type 0) where
  -- the visitor accepts the next instruction
  pub stretch_visited : {v w u : V} {all rest left : List LocatedInstr} {x : LocatedInstr} (n : ℕ) → rest ≡ x ∷ left → n ≡ length (slots_in x.0)
      → IsVisitedStretch all rest 0 (λ es. Folds steps v es w) → Folds steps w (VisitInstruction x.0 x.1 ∷ names x.0) u → IsVisitedStretch all left n (λ es. Folds steps v es u)
  stretch_visited {all = all} {x = x} n e many h visited =
      let P : List LocatedInstr → Type 0 = λ xs. IsStretch all xs 0 h.events in
      record {
        events = _;
        stretch = rw many (continues (subst P e h.stretch));
        visited = Folds-append steps refuses same (VisitInstruction x.0 x.1 ∷ names x.0) h.visited visited;
      }

  -- the visitor refuses the next instruction, or the item that it names
  pub stretch_refused : {v w u : V} {f : F} {all rest left : List LocatedInstr} {x : LocatedInstr} → rest ≡ x ∷ left
      → IsVisitedStretch all rest 0 (λ es. Folds steps v es w) → Stops steps refuses same w (VisitInstruction x.0 x.1 ∷ names x.0) u f → IsRefusedStretch all (λ es. Stops steps refuses same v es u f)
  stretch_refused {all = all} {left = left} {x = x} e h stopped =
      let P : List LocatedInstr → Type 0 = λ xs. IsStretch all xs 0 h.events in
      record {
        before = h.events;
        last = x;
        left = left;
        stretch = subst P e h.stretch;
        stopped = Stops_after steps refuses same (VisitInstruction x.0 x.1 ∷ names x.0) h.visited stopped;
      }
