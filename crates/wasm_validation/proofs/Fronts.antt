-- Operators that the algorithm takes, and one more.
use Rattle.std.proofs.Common.{◌≡◌, ℕ, ◌+◌, List, [], ◌∷◌, ◌++◌, length, Result, Ok, refl, ap, ◌∙◌, arith, length-append}
use Rattle.wasm_numbers.specs.Results.{with_fault}
use Rattle.wasm_numbers.proofs.ResultLemmas.{bind_ok}
use Rattle.wasm_operators.specs.Operations.{RawOperation}
use Rattle.wasm_operators.specs.OperatorList.{Placed, Lists}
use Rattle.wasm_operators.specs.Spelling.{Spells}
use Rattle.wasm_body.specs.Parsing.Accepted.{validated}
use Rattle.wasm_context.specs.Validation.{BodyContext, BodyState, raw_step, check_in, refusal_number}
use Rattle.wasm_validation.specs.BodyValidation.{BodySetting, begin_state, Leads}

abbrev pub operator_at : RawOperation → ℕ → Placed
operator_at o place = record { spelt = o; place = place }

-- one more operator is listed
pub lists_more : (xs : List Placed) (o : RawOperation) (place at : ℕ) (bytes text following : List ℕ) → Lists xs place bytes (text ++ following)
    → at + length (text ++ following) ≡ place + length bytes → Spells o text → Lists (xs ++ operator_at o at ∷ []) place bytes following
lists_more [] o place at bytes text following h here spells =
    let long : length bytes ≡ length (text ++ following) = ap length h in
    (omega arith, text, following, h, spells, refl)
lists_more (x ∷ xs) o place at bytes text following h here spells =
    let long : length bytes ≡ length h.1 + length h.2 = ap length h.3 ∙ length-append h.1 h.2 in
    (h.0, h.1, h.2, h.3, h.4, lists_more xs o (place + length h.1) at h.2 text following h.5 (omega arith) spells)

-- one more step is taken
pub validated_more : {V : Type 0} (check : V → Placed → Result V ℕ) (xs : List Placed) (x : Placed) (s t u : V) → validated check s xs ≡ Ok t → check t x ≡ Ok u
    → validated check s (xs ++ x ∷ []) ≡ Ok u
validated_more {V} check [] x s t u h k =
    let same : s ≡ t = cc in
    let from : check s x ≡ Ok u = ap (λ (v : V). check v x) same ∙ k in
    rw from refl
validated_more check (y ∷ ys) x s t u h k =
    let p = bind_ok (check s y) (λ w. validated check w ys) t h in
    rw (p.1) (validated_more check ys x p.0 t u p.2 k)

-- the step of the algorithm, by number
pub checks : (c : BodyContext) (s t : BodyState) (x : Placed) → raw_step c x.spelt s ≡ Ok t → check_in c s x ≡ Ok t
checks c s t x h = ap (with_fault (λ e. refusal_number)) h

-- the front of a body that was taken, up to this place
pub record TakenFront (g : BodySetting) (place : ℕ) (bytes : List ℕ) (at : ℕ) (rest : List ℕ) (reached : BodyState) : Type 0 where
  pub front : List Placed
  pub leads : Leads g place bytes front rest reached
  pub place_is : at + length rest ≡ place + length bytes

pub nothing_taken : (g : BodySetting) (place : ℕ) (bytes : List ℕ) → TakenFront g place bytes place bytes (begin_state g)
nothing_taken g place bytes = record { front = []; leads = record { listed = refl; steps = refl }; place_is = refl }

pub taken_more : (g : BodySetting) (place : ℕ) (bytes : List ℕ) (at : ℕ) (text following : List ℕ) (o : RawOperation) (s t : BodyState) → TakenFront g place bytes at (text ++ following) s
    → Spells o text → raw_step g.context o s ≡ Ok t → TakenFront g place bytes (at + length text) following t
taken_more g place bytes at text following o s t f spells step = record {
  front = f.front ++ operator_at o at ∷ [];
  leads = record {
    listed = lists_more f.front o place at bytes text following f.leads.listed f.place_is spells;
    steps = validated_more (check_in g.context) f.front (operator_at o at) (begin_state g) s t f.leads.steps (checks g.context s t (operator_at o at) step);
  };
  place_is = (let h = f.place_is in omega (arith, length-append text following));
}
