-- Runs of a metered body in which each charge is several operators: those that prepare it, and one that charges.
use Rattle.std.specs.Prelude.{ℕ, List, Bool, true}
use Rattle.wasm_body.specs.Machine.{Outcome, run}
use Rattle.wasm_body.specs.SourceTree.{Body, body_text}
use Rattle.wasm_insertion.specs.Insertion.{Origin, Own, Added, AddedStops, FollowsSource, SaysWhatAsks, metered_body, IsPaid, IsExact}
use Rattle.walrus_metering.specs.MeteredTrees.{prepared_body}

-- An operator that charges asks for an outcome, as each plain one.
abbrev pub asks_with_charges : {A : Type 0} → (A → Bool) → Origin A ℕ → Bool
asks_with_charges asks (Own a) = asks a
asks_with_charges asks (Added n) = true

-- The run with these outcomes is one of the metered body with the operators that prepare a charge between, up to the first of these that
-- stops. What it follows is paid and exact, and it is one of the source with charges between, up to the first charge that stops.
pub record RunIsPaid {A P : Type 0} (cost : A → ℕ) (asks : A → Bool) (operators : ℕ → List P) (b : Body A) (turns : ℕ) (os' : List Outcome) : Type 0 where
  pub outcomes : List Outcome
  pub charges :
      FollowsSource (asks_with_charges asks) AddedStops os' (run (body_text (prepared_body operators (metered_body cost b))) os' turns) outcomes
      (run (body_text (metered_body cost b)) outcomes turns)
  pub paid : IsPaid cost 0 0 (run (body_text (metered_body cost b)) outcomes turns).events
  pub exact : IsExact cost (run (body_text (metered_body cost b)) outcomes turns).ending 0 0 (run (body_text (metered_body cost b)) outcomes turns).events
  pub source_outcomes : List Outcome
  pub source : FollowsSource asks AddedStops outcomes (run (body_text (metered_body cost b)) outcomes turns) source_outcomes (run (body_text b) source_outcomes turns)

-- Each run of a metered body with such charges is paid so.
abbrev pub ChargedRunsArePaid : (A P : Type 0) → Type 0
ChargedRunsArePaid A P =
    (cost : A → ℕ) (asks : A → Bool) (operators : ℕ → List P) (b : Body A) → SaysWhatAsks asks (body_text b) → (turns : ℕ) (os' : List Outcome) →
    RunIsPaid cost asks operators b turns os'
