-- The bodies of a code section, where their number is known: those of the last functions, each of which may fail.
use Rattle.std.proofs.Common.{◌≡◌, ℕ, ◌+◌, ◌-◌, ◌<◌, ◌≤◌, List, Result, Ok, ap, subst, sym, ◌∙◌, arith}
use Rattle.wasm_numbers.specs.Results.{◌>>=◌, Gives}
use Rattle.wasm_sections.specs.declared.fault.ModuleError.{ModuleError}
use Rattle.wasm_sections.specs.Parts.{Part, ◌>=>◌, number, repeated, no_more, whole_part, GivesUnlessMemory}
use Rattle.wasm_sections.proofs.TypeReadingLemmas.{FailsUnlessMemory, first_gives, unless_memory_first, unless_memory_as}
use Rattle.module_validator.proofs.LoopLemmas.{ItemsLeft, items_of, no_item_passed, item_passed, item_fails, items_passed, whole_gives, whole_fails, value_passed, done}

-- the bodies of the last of so many functions
abbrev pub bodies_of : (step : ℕ → Part ℕ) → (functions : ℕ) → Part ℕ
bodies_of step functions = number >=> λ n. repeated step n (functions - n)

abbrev pub all_bodies : (step : ℕ → Part ℕ) → (functions : ℕ) → (end : ℕ) → (text : List ℕ) → Result (Unit {0}) ModuleError
all_bodies step functions end text = whole_part (bodies_of step functions) end text >>= λ (n : ℕ). done n

abbrev ended : Result (ℕ × List ℕ) ModuleError → (end : ℕ) → Result (Unit {0}) ModuleError
ended r end = (r >>= λ x. no_more x.1 end >>= λ u. Ok x.0) >>= λ (n : ℕ). done n

-- their number isn't read
pub no_number :
    (step : ℕ → Part ℕ) (functions end : ℕ) (text : List ℕ) (e : ModuleError) → FailsUnlessMemory e (number end text) → FailsUnlessMemory e (all_bodies step functions end text)
no_number step functions end text e h =
    unless_memory_first e (whole_part (bodies_of step functions) end text) (λ (n : ℕ). done n)
    (whole_fails (bodies_of step functions) end text e (unless_memory_first e (number end text) (λ n. repeated step n.0 (functions - n.0) end n.1) h))

module _ (step : ℕ → Part ℕ) (functions count first end : ℕ) (text items : List ℕ) (is : number end text ≡ Ok (count, items)) where
  pub no_body_passed : ItemsLeft step count 0 first (first + 0) end text items
  no_body_passed =
      let same : first ≡ first + 0 = omega arith in
      subst (λ (n : ℕ). ItemsLeft step count 0 first n end text items) same (no_item_passed step count first end text items is)

  bodies_as : first ≡ functions - count → all_bodies step functions end text ≡ (whole_part (items_of step first) end text >>= λ (n : ℕ). done n)
  bodies_as f =
      let all : ℕ → ℕ → Result (ℕ × List ℕ) ModuleError = λ n from. repeated step n from end items in
      ap (λ (r : Result (ℕ × List ℕ) ModuleError). ended r end)
      (first_gives (number end text) (λ x. repeated step x.0 (functions - x.0) end x.1) (count, items) is ∙ ap (λ (from : ℕ). all count from) (sym f)
      ∙ sym (first_gives (number end text) (λ x. repeated step x.0 first end x.1) (count, items) is))

  module _ (i end' : ℕ) (rest : List ℕ) (same_end : end' ≡ end) (p : ItemsLeft step count i first (first + i) end text rest) where
    pub body_passed : (following : List ℕ) → i < count → step (first + i) end' rest ≡ Ok ((first + i) + 1, following) → ItemsLeft step count (i + 1) first (first + (i + 1)) end text following
    body_passed following less e =
        let same : (first + i) + 1 ≡ first + (i + 1) = omega arith in
        subst (λ (n : ℕ). ItemsLeft step count (i + 1) first n end text following) same
        (item_passed step count i first (first + i) end text rest p ((first + i) + 1) following less (ap (λ (n : ℕ). step (first + i) n rest) (sym same_end) ∙ e))

    pub body_refused : (e : ModuleError) → first ≡ functions - count → i < count → FailsUnlessMemory e (step (first + i) end' rest) → FailsUnlessMemory e (all_bodies step functions end text)
    body_refused e f less h =
        unless_memory_as e (whole_part (items_of step first) end text >>= λ (n : ℕ). done n) (all_bodies step functions end text) (bodies_as f)
        (unless_memory_first e (whole_part (items_of step first) end text) (λ (n : ℕ). done n)
        (whole_fails (items_of step first) end text e
        (item_fails step count i first (first + i) end text rest p e less
        (unless_memory_as e (step (first + i) end' rest) (step (first + i) end rest) (ap (λ (n : ℕ). step (first + i) n rest) (sym same_end)) h))))

    pub bodies_passed : (r : Result (Unit {0}) ModuleError) → first ≡ functions - count → count ≤ i → Gives (λ u. tt) r (no_more rest end') → GivesUnlessMemory (λ u. tt) r (all_bodies step functions end text)
    bodies_passed r f done' h =
        subst (λ (s : Result (Unit {0}) ModuleError). GivesUnlessMemory (λ u. tt) r s) (sym (bodies_as f))
        (value_passed (first + i) r (whole_part (items_of step first) end text)
        (whole_gives (items_of step first) end text rest (first + i) r (items_passed step count i first (first + i) end text rest p done')
        (subst (λ (n : ℕ). Gives (λ u. tt) r (no_more rest n)) same_end h)))
