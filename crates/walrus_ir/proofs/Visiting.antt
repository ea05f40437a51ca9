-- The events that a visitor was told about, one after the other.
use Rattle.std.proofs.Common.{◌≡◌, List, [], ◌∷◌, ◌++◌, Result, Ok, Err}
use Rattle.walrus_ir.specs.Events.{WalkEvent, Folds, through, after, Stops, refused, later, VisitsOne, VisitsAll}

module _ {V F : Type 0} (steps : V → WalkEvent → V → Type 0) (refuses : V → WalkEvent → F → Type 0) (same : V → V → Type 0) where
  pub Folds-append : {v w x : V} {xs : List WalkEvent} (ys : List WalkEvent) → Folds steps v xs w → Folds steps w ys x → Folds steps v (xs ++ ys) x
  Folds-append ys through g = g
  Folds-append ys (after s f) g = after s (Folds-append ys f g)

  pub Stops-append : {v w : V} {f : F} {xs : List WalkEvent} (ys : List WalkEvent) → Stops steps refuses same v xs w f → Stops steps refuses same v (xs ++ ys) w f
  Stops-append ys (refused r s) = refused r s
  Stops-append ys (later s h) = later s (Stops-append ys h)

  pub Stops_after : {v w x : V} {f : F} {xs : List WalkEvent} (ys : List WalkEvent) → Folds steps v xs w → Stops steps refuses same w ys x f → Stops steps refuses same v (xs ++ ys) x f
  Stops_after ys through h = h
  Stops_after ys (after s f) h = later s (Stops_after ys f h)

  visits_one : {U : Type 0} (v w : V) (e : WalkEvent) (r : Result U F) → VisitsOne steps refuses same v e r w → VisitsAll steps refuses same v (e ∷ []) r w
  visits_one v w e (Ok u) h = after h through
  visits_one v w e (Err f) h = refused h.0 h.1

  pub visits_named : {U : Type 0} (v w : V) (e : WalkEvent) (es : List WalkEvent) (r : Result U F) → VisitsOne steps refuses same v e r w → es ≡ e ∷ [] → VisitsAll steps refuses same v es r w
  visits_named v w e es r h one = rw one (visits_one v w e r h)

  pub visits_after : {U : Type 0} (v w x : V) (e : WalkEvent) (es : List WalkEvent) (r : Result U F) → steps v e w → VisitsAll steps refuses same w es r x → VisitsAll steps refuses same v (e ∷ es) r x
  visits_after v w x e es (Ok u) s h = after s h
  visits_after v w x e es (Err f) s h = later s h
