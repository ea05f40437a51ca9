-- Validity doesn't depend on places.
use Rattle.std.proofs.Common.{◌≡◌, ℕ, ◌+◌, List, [], ◌∷◌, length, Result, Ok, Err, refl, ◌∙◌}
use Rattle.wasm_numbers.specs.Results.{◌>>=◌}
use Rattle.wasm_operators.specs.OperatorList.{Placed, Lists}
use Rattle.wasm_context.specs.Validation.{BodyContext, BodyState, check_in, steps_through}
use Rattle.wasm_validation.specs.BodyValidation.{begin_state}
use Rattle.written_validity.specs.ValidatedBodies.{ValidAtEachPlace}

after_alike : {X Y E : Type 0} (f g : X → Result Y E) → ((x : X) → f x ≡ g x) → (r : Result X E) → (r >>= f) ≡ (r >>= g)
after_alike f g h (Ok x) = h x
after_alike f g h (Err e) = refl

-- the same operators, from another place on
record AreMoved (c : BodyContext) (xs : List Placed) (place : ℕ) (bytes rest : List ℕ) : Type 0 where
  operators : List Placed
  listed : Lists operators place bytes rest
  steps : (s : BodyState) → steps_through c s operators ≡ steps_through c s xs

moved : (c : BodyContext) (xs : List Placed) (place other : ℕ) (bytes rest : List ℕ) → Lists xs place bytes rest → AreMoved c xs other bytes rest
moved c [] place other bytes rest h = record { operators = []; listed = h; steps = λ s. refl }
moved c (x ∷ xs) place other bytes rest h =
    let more = moved c xs (place + length h.1) (other + length h.1) h.2 rest h.5 in
    record {
      operators = record { spelt = x.spelt; place = other } ∷ more.operators;
      listed = (refl, h.1, h.2, h.3, h.4, more.listed);
      steps = λ s. after_alike (λ w. steps_through c w more.operators) (λ w. steps_through c w xs) more.steps (check_in c s x);
    }

pub valid_at_each_place : ValidAtEachPlace
valid_at_each_place g place other bytes valid =
    let there = moved g.context valid.operators place other bytes [] valid.leads.listed in
    record {
      operators = there.operators;
      reached = valid.reached;
      leads = record { listed = there.listed; steps = there.steps (begin_state g) ∙ valid.leads.steps };
      closed = valid.closed;
    }
