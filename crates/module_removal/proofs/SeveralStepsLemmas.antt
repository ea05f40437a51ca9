-- Steps, one after the other, in a loop.
use Rattle.std.proofs.Common.{◌≡◌, ℕ, zero, suc, ◌+◌, ◌-◌, ◌<◌, ◌≤◌, refl, subst, arith}
use Rattle.module_removal.specs.SeveralSteps.{SoManySteps}

-- one more step, after all
pub steps_then :
    {S : Type 0} (Step : S → S → Type 0) (n : ℕ) (a b d : S) → SoManySteps Step n a b → Step b d → SoManySteps Step (suc n) a d
unfolding SoManySteps
steps_then {S = S} Step zero a b d steps step = (d, subst (λ (x : S). Step x d) steps step, refl)
steps_then Step (suc n) a b d steps step = (steps.0, steps.1, steps_then Step n steps.0 b d steps.2 step)

pub nowhere : {S : Type 0} (Step : S → S → Type 0) (now : S) → SoManySteps Step 0 now now
unfolding SoManySteps
nowhere Step now = refl

-- Of so many steps some were made, and those that are left lead to where all lead.
pub record StepsLeft {S : Type 0} (Step : S → S → Type 0) (count i : ℕ) (start now : S) : Type 0 where
  pub made : SoManySteps Step i start now
  pub after : (new : S) → SoManySteps Step (count - i) now new → SoManySteps Step count start new

pub no_step_made : {S : Type 0} (Step : S → S → Type 0) (count : ℕ) (start : S) → StepsLeft Step count 0 start start
no_step_made Step count start =
    let all : count - 0 ≡ count = omega arith in
    record { made = nowhere Step start; after = λ new p. subst (λ (n : ℕ). SoManySteps Step n start new) all p }

step_first :
    {S : Type 0} (Step : S → S → Type 0) (n : ℕ) (now next new : S) → Step now next → SoManySteps Step n next new → SoManySteps Step (suc n) now new
unfolding SoManySteps
step_first Step n now next new s p = (next, s, p)

pub one_more_step :
    {S : Type 0} (Step : S → S → Type 0) (count i : ℕ) (start now next : S) → StepsLeft Step count i start now → i < count → Step now next →
    StepsLeft Step count (i + 1) start next
one_more_step Step count i start now next left less s =
    let more : suc (count - (i + 1)) ≡ count - i = omega arith in
    let one : suc i ≡ i + 1 = omega arith in
    record {
      made = subst (λ (n : ℕ). SoManySteps Step n start next) one (steps_then Step i start now next left.made s);
      after = λ new p. left.after new (subst (λ (n : ℕ). SoManySteps Step n now new) more (step_first Step (count - (i + 1)) now next new s p));
    }

pub all_steps_made :
    {S : Type 0} (Step : S → S → Type 0) (count i : ℕ) (start now : S) → StepsLeft Step count i start now → count ≤ i → SoManySteps Step count start now
all_steps_made Step count i start now left done =
    let none : 0 ≡ count - i = omega arith in
    left.after now (subst (λ (n : ℕ). SoManySteps Step n now now) none (nowhere Step now))
