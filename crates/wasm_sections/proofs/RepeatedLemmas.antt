-- Steps that are repeated, in the order of a loop: some of them are done, and the others are left.
use Rattle.std.proofs.Common.{◌≡◌, ℕ, suc, ◌+◌, ◌-◌, ◌<◌, ◌≤◌, List, Result, Ok, Err, sym, ap, ◌∙◌, arith}
use Rattle.wasm_numbers.specs.Results.{◌>>=◌}
use Rattle.wasm_sections.specs.declared.fault.ModuleError.{ModuleError}
use Rattle.wasm_sections.specs.Parts.{Part, ◌>=>◌, repeated, number}

-- After `i` of `count` steps, from the value `first` at `text` to `now` at `rest`, the others give what all give.
pub record StepsLeft {A : Type 0} (step : A → Part A) (count i : ℕ) (first now : A) (end : ℕ) (text rest : List ℕ) : Type 0 where
  pub same : repeated step (count - i) now end rest ≡ repeated step count first end text

pub no_step_done : {A : Type 0} (step : A → Part A) (count : ℕ) (first : A) (end : ℕ) (text : List ℕ) → StepsLeft step count 0 first first end text text
no_step_done step count first end text =
    let all : count - 0 ≡ count = omega arith in
    record { same = ap (λ (n : ℕ). repeated step n first end text) all }

-- the first of the steps that are left
next_step :
    {A : Type 0} (step : A → Part A) (count i : ℕ) (now : A) (end : ℕ) (rest : List ℕ) → i < count →
    repeated step (count - i) now end rest ≡ (step now end rest >>= λ y. repeated step (count - (i + 1)) y.0 end y.1)
unfolding repeated
next_step step count i now end rest less =
    let more : count - i ≡ suc (count - (i + 1)) = omega arith in
    ap (λ (n : ℕ). repeated step n now end rest) more

module _ {A : Type 0} (step : A → Part A) (count i : ℕ) (first now : A) (end : ℕ) (text rest : List ℕ) (p : StepsLeft step count i first now end text rest) where
  after_step : Result (A × List ℕ) ModuleError → Result (A × List ℕ) ModuleError
  after_step r = r >>= λ y. repeated step (count - (i + 1)) y.0 end y.1

  -- one more step
  pub step_done : (next : A) (following : List ℕ) → i < count → step now end rest ≡ Ok (next, following) → StepsLeft step count (i + 1) first next end text following
  unfolding after_step
  step_done next following less e = record { same = sym (ap after_step e) ∙ sym (next_step step count i now end rest less) ∙ p.same }

  -- a step that fails
  pub step_fails : (fault : ModuleError) → i < count → step now end rest ≡ Err fault → repeated step count first end text ≡ Err fault
  unfolding after_step
  step_fails fault less e = sym p.same ∙ next_step step count i now end rest less ∙ ap after_step e

  -- all steps are done
  pub all_done : count ≤ i → repeated step count first end text ≡ Ok (now, rest)
  unfolding repeated
  all_done done =
      let none : count - i ≡ 0 = omega arith in
      sym p.same ∙ ap (λ (n : ℕ). repeated step n now end rest) none

-- as many steps as a number says that comes before them
pub counted :
    {A : Type 0} (step : A → Part A) (count : ℕ) (first : A) (end : ℕ) (text items : List ℕ) (r : Result (A × List ℕ) ModuleError) →
    number end text ≡ Ok (count, items) → repeated step count first end items ≡ r → (number >=> λ n. repeated step n first) end text ≡ r
counted step count first end text items r e h = ap (λ (q : Result (ℕ × List ℕ) ModuleError). q >>= λ x. repeated step x.0 first end x.1) e ∙ h
