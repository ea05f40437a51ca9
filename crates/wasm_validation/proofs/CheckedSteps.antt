-- The validator of a body takes operators in the steps of the algorithm.
use Rattle.std.proofs.Common.{◌≡◌, ℕ, List, [], ◌∷◌, Result, Ok, Err, refl}
use Rattle.std.specs.Prelude.{Some}
use Rattle.wasm_numbers.specs.Results.{◌>>=◌}
use Rattle.wasm_operators.specs.OperatorList.{Placed}
use Rattle.wasm_body.specs.Parsing.Accepted.{validated}
use Rattle.wasm_context.specs.Validation.{BodyContext, BodyState, check_in, steps_through}
use Rattle.wasm_validation.specs.BodyChecks.{ReachedState, check_body}
use Rattle.wasm_validation.specs.ValidationVerdicts.{SameSteps}

abbrev reached : BodyContext → BodyState → Result ReachedState ℕ
reached c t = Ok (Some (c, t))

after_one : (c : BodyContext) (xs : List Placed) → ((t : BodyState) → validated check_body (Some (c, t)) xs ≡ (steps_through c t xs >>= reached c)) → (r : Result BodyState ℕ)
    → ((r >>= reached c) >>= λ w. validated check_body w xs) ≡ ((r >>= λ t. steps_through c t xs) >>= reached c)
after_one c xs h (Ok t) = h t
after_one c xs h (Err e) = refl

pub same_steps : SameSteps
same_steps c s [] = refl
same_steps c s (x ∷ xs) = after_one c xs (λ t. same_steps c t xs) (check_in c s x)
