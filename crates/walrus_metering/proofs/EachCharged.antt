-- A condition on each operator of a metered body, and of one with the operators that prepare a charge.
use Rattle.std.proofs.Common.{ℕ, zero, suc, List, [], ◌∷◌, Bool, true, false}
use Rattle.std.specs.List.{AllByRecursion}
use Rattle.wasm_body.specs.Control.{Control, Plain, Does}
use Rattle.wasm_body.specs.SourceTree.{Sequence, Empty, Single, Wrapped, IfThen, IfElse, TryCatch, TryDelegate, Clauses, Ended, Catches, CatchesAll}
use Rattle.wasm_body.proofs.Structure.Along.{Each, EachIn}
use Rattle.wasm_insertion.specs.Insertion.{Origin, Own, Added, goes_straight, piece_cost, with_charge, metered, metered_clauses}
use Rattle.walrus_insertion.specs.BegunBodies.{with_added}
use Rattle.walrus_metering.specs.MeteredTrees.{prepares, prepared, prepared_clauses}

module _ {A : Type 0} (cost : A → ℕ) (P : Origin A ℕ → Control → Type 0) (charges : (n : ℕ) → P (Added n) (Does Plain)) where
  abbrev OfOwn : A → Control → Type 0
  OfOwn a c = P (Own a) c

  charge_each : (straight : Bool) (n : ℕ) (t : Sequence (Origin A ℕ)) → Each P t → Each P (with_charge straight n t)
  charge_each true n t h = h
  charge_each false zero t h = h
  charge_each false (suc n) t h = (charges (suc n), h)

  pub whole_each : (straight : Bool) (s : Sequence A) → Each P (metered cost s) → Each P (with_charge straight (piece_cost cost s) (metered cost s))
  whole_each straight s h = charge_each straight (piece_cost cost s) (metered cost s) h

  mutual
    pub metered_each : (s : Sequence A) → Each OfOwn s → Each P (metered cost s)
    metered_each Empty h = tt
    metered_each (Single a action r) h = (h.0, whole_each (goes_straight action) r (metered_each r h.1))
    metered_each (Wrapped a w b e r) h = (h.0, whole_each false b (metered_each b h.1), h.2, whole_each false r (metered_each r h.3))
    metered_each (IfThen a b e r) h = (h.0, whole_each false b (metered_each b h.1), h.2, whole_each false r (metered_each r h.3))
    metered_each (IfElse a b l c e r) h =
        (h.0, whole_each false b (metered_each b h.1), h.2, whole_each false c (metered_each c h.3), h.4, whole_each false r (metered_each r h.5))
    metered_each (TryCatch a b cs r) h =
        (h.0, whole_each false b (metered_each b h.1), clauses_each cs h.2, whole_each false r (metered_each r h.3))
    metered_each (TryDelegate a b e n r) h = (h.0, whole_each false b (metered_each b h.1), h.2, whole_each false r (metered_each r h.3))

    clauses_each : (cs : Clauses A) → EachIn OfOwn cs → EachIn P (metered_clauses cost cs)
    clauses_each (Ended e) h = h
    clauses_each (Catches a t b cs) h = (h.0, whole_each false b (metered_each b h.1), clauses_each cs h.2)
    clauses_each (CatchesAll a b e) h = (h.0, whole_each false b (metered_each b h.1), h.2)

module _ {A Q : Type 0} (operators : ℕ → List Q) (P : Origin (Origin A ℕ) Q → Control → Type 0)
    (prepare : (n : ℕ) → AllByRecursion (λ p. P (Added p) (Does Plain)) (operators n)) where
  abbrev OfCharging : Origin A ℕ → Control → Type 0
  OfCharging a c = P (Own a) c

  added_each : (ps : List Q) → AllByRecursion (λ p. P (Added p) (Does Plain)) ps → (t : Sequence (Origin (Origin A ℕ) Q)) → Each P t → Each P (with_added ps t)
  added_each [] q t h = h
  added_each (p ∷ ps) q t h = (q.0, added_each ps q.1 t h)

  before_each : (a : Origin A ℕ) (t : Sequence (Origin (Origin A ℕ) Q)) → Each P t → Each P (with_added (prepares operators a) t)
  before_each (Own a) t h = h
  before_each (Added n) t h = added_each (operators n) (prepare n) t h

  mutual
    pub prepared_each : (s : Sequence (Origin A ℕ)) → Each OfCharging s → Each P (prepared operators s)
    prepared_each Empty h = tt
    prepared_each (Single a action r) h = before_each a (Single (Own a) action (prepared operators r)) (h.0, prepared_each r h.1)
    prepared_each (Wrapped a w b e r) h = (h.0, prepared_each b h.1, h.2, prepared_each r h.3)
    prepared_each (IfThen a b e r) h = (h.0, prepared_each b h.1, h.2, prepared_each r h.3)
    prepared_each (IfElse a b l c e r) h = (h.0, prepared_each b h.1, h.2, prepared_each c h.3, h.4, prepared_each r h.5)
    prepared_each (TryCatch a b cs r) h = (h.0, prepared_each b h.1, prepared_in cs h.2, prepared_each r h.3)
    prepared_each (TryDelegate a b e n r) h = (h.0, prepared_each b h.1, h.2, prepared_each r h.3)

    prepared_in : (cs : Clauses (Origin A ℕ)) → EachIn OfCharging cs → EachIn P (prepared_clauses operators cs)
    prepared_in (Ended e) h = h
    prepared_in (Catches a t b cs) h = (h.0, prepared_each b h.1, prepared_in cs h.2)
    prepared_in (CatchesAll a b e) h = (h.0, prepared_each b h.1, h.2)
