-- Each run of a metered body, with the operators that prepare a charge, is paid.
use Rattle.std.proofs.Common.{ℕ, List, [], ◌∷◌, Bool, false, refl}
use Rattle.wasm_body.specs.Control.{End, with_control}
use Rattle.wasm_body.specs.SourceTree.{Sequence, Empty, Single, Wrapped, IfThen, IfElse, TryCatch, TryDelegate, Clauses, Ended, Catches, CatchesAll, Body, body_text}
use Rattle.wasm_body.proofs.Structure.Along.{each_of, all_of_each}
use Rattle.wasm_insertion.specs.Insertion.{Origin, Own, Added, Inserted, empty, insert, single, wrapped, if_then, if_else, try_catch, try_delegate, ClausesInserted, ended, catches_one, catches_all, SaysIfAsks, SaysWhatAsks, metered, metered_body}
use Rattle.wasm_insertion.proofs.Insertions.{inserted_runs}
use Rattle.wasm_insertion.proofs.Metering.{metered_is_paid, metered_is_inserted}
use Rattle.wasm_insertion.proofs.ExactMetering.{metered_is_exact}
use Rattle.walrus_insertion.specs.BegunBodies.{with_added}
use Rattle.walrus_metering.specs.MeteredTrees.{prepares, prepared, prepared_clauses, prepared_body}
use Rattle.walrus_metering.specs.ChargedRuns.{asks_with_charges, ChargedRunsArePaid}
use Rattle.walrus_metering.proofs.EachCharged.{whole_each, metered_each}

-- what the operators of a metered body ask for
body_says : (A : Type 0) (cost : A → ℕ) (asks : A → Bool) (b : Body A) → SaysWhatAsks asks (body_text b)
    → SaysWhatAsks (asks_with_charges asks) (body_text (metered_body cost b))
body_says A cost asks b h =
    let source = each_of (λ a c. SaysIfAsks (asks a) c) b.sequence (with_control b.close End ∷ []) h in
    let each = metered_each cost (λ x c. SaysIfAsks (asks_with_charges asks x) c) (λ n. refl) b.sequence source.0 in
    all_of_each (λ x c. SaysIfAsks (asks_with_charges asks x) c) (metered_body cost b).sequence (with_control (Own b.close) End ∷ [])
    (whole_each cost (λ x c. SaysIfAsks (asks_with_charges asks x) c) (λ n. refl) false b.sequence each)
    source.1

-- what prepares a charge is an insertion
module _ {A P : Type 0} (operators : ℕ → List P) where
  added_inserted : (ps : List P) {s : Sequence (Origin A ℕ)} {t : Sequence (Origin (Origin A ℕ) P)} → Inserted s t → Inserted s (with_added ps t)
  added_inserted [] h = h
  added_inserted (p ∷ ps) h = insert (added_inserted ps h)

  mutual
    prepared_inserted : (s : Sequence (Origin A ℕ)) → Inserted s (prepared operators s)
    prepared_inserted Empty = empty
    prepared_inserted (Single a action r) = added_inserted (prepares operators a) (single (prepared_inserted r))
    prepared_inserted (Wrapped a w b e r) = wrapped (prepared_inserted b) (prepared_inserted r)
    prepared_inserted (IfThen a b e r) = if_then (prepared_inserted b) (prepared_inserted r)
    prepared_inserted (IfElse a b l c e r) = if_else (prepared_inserted b) (prepared_inserted c) (prepared_inserted r)
    prepared_inserted (TryCatch a b cs r) = try_catch (prepared_inserted b) (clauses_inserted cs) (prepared_inserted r)
    prepared_inserted (TryDelegate a b e n r) = try_delegate (prepared_inserted b) (prepared_inserted r)

    clauses_inserted : (cs : Clauses (Origin A ℕ)) → ClausesInserted cs (prepared_clauses operators cs)
    clauses_inserted (Ended e) = ended
    clauses_inserted (Catches a t b cs) = catches_one (prepared_inserted b) (clauses_inserted cs)
    clauses_inserted (CatchesAll a b e) = catches_all (prepared_inserted b)

pub charged_runs_are_paid : (A P : Type 0) → ChargedRunsArePaid A P
charged_runs_are_paid A P cost asks operators b asked turns os' =
    let m = metered_body cost b in
    let charges =
    inserted_runs (Origin A ℕ) P (asks_with_charges asks) m (prepared_body operators m) (body_says A cost asks b asked)
    (record { sequence = prepared_inserted operators m.sequence; close = refl }) turns os' in
    let source = inserted_runs A ℕ asks b m asked (metered_is_inserted A cost b) turns charges.0 in
    record {
      outcomes = charges.0;
      charges = charges.1;
      paid = metered_is_paid A cost b charges.0 turns;
      exact = metered_is_exact A cost b charges.0 turns;
      source_outcomes = source.0;
      source = source.1;
    }
