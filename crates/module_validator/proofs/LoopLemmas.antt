-- A number, and as many items, each of which may fail; and the whole contents of a section.
use Rattle.std.proofs.Common.{◌≡◌, ℕ, ◌+◌, ◌<◌, ◌≤◌, List, Result, Ok, Err, sym, subst, ◌∙◌, inl, inr}
use Rattle.wasm_numbers.specs.Results.{◌>>=◌, Gives}
use Rattle.wasm_sections.specs.declared.fault.ModuleError.{ModuleError}
use Rattle.wasm_sections.specs.Parts.{Part, ◌>=>◌, repeated, number, no_more, whole_part, GivesUnlessMemory}
use Rattle.wasm_sections.proofs.RepeatedLemmas.{StepsLeft, no_step_done, step_done, step_fails, all_done, counted}
use Rattle.wasm_sections.proofs.TypeReadingLemmas.{FailsUnlessMemory, first_gives, first_fails, unless_memory_first}

-- the items of a vector, from this value on
abbrev pub items_of : {A : Type 0} → (A → Part A) → A → Part A
items_of step first = number >=> λ n. repeated step n first

-- Some items were passed, and this many bytes are left.
pub record ItemsLeft {A : Type 0} (step : A → Part A) (count i : ℕ) (first now : A) (end : ℕ) (text rest : List ℕ) : Type 0 where
  pub items : List ℕ
  pub count_is : number end text ≡ Ok (count, items)
  pub left : StepsLeft step count i first now end items rest

pub no_item_passed : {A : Type 0} (step : A → Part A) (count : ℕ) (first : A) (end : ℕ) (text items : List ℕ) → number end text ≡ Ok (count, items) →
    ItemsLeft step count 0 first first end text items
no_item_passed step count first end text items e = record { items = items; count_is = e; left = no_step_done step count first end items }

module _ {A : Type 0} (step : A → Part A) (count i : ℕ) (first now : A) (end : ℕ) (text rest : List ℕ) (p : ItemsLeft step count i first now end text rest) where
  pub item_passed : (next : A) (following : List ℕ) → i < count → step now end rest ≡ Ok (next, following) → ItemsLeft step count (i + 1) first next end text following
  item_passed next following less e =
      record { items = p.items; count_is = p.count_is; left = step_done step count i first now end p.items rest p.left next following less e }

  pub item_fails : (e : ModuleError) → i < count → FailsUnlessMemory e (step now end rest) → FailsUnlessMemory e (items_of step first end text)
  item_fails e less (inl memory) = inl memory
  item_fails e less (inr failed) = inr (counted step count first end text p.items (Err e) p.count_is (step_fails step count i first now end p.items rest p.left e less failed))

  pub items_passed : count ≤ i → items_of step first end text ≡ Ok (now, rest)
  items_passed done = counted step count first end text p.items (Ok (now, rest)) p.count_is (all_done step count i first now end p.items rest p.left done)

-- nothing follows a part
pub whole_gives : {A : Type 0} (part : Part A) (end : ℕ) (text rest : List ℕ) (x : A) (r : Result (Unit {0}) ModuleError) → part end text ≡ Ok (x, rest) →
    Gives (λ u. tt) r (no_more rest end) → GivesUnlessMemory (λ u. x) r (whole_part part end text)
whole_gives part end text rest x (Ok u) e h = first_gives (part end text) (λ y. no_more y.1 end >>= λ u. Ok y.0) (x, rest) e ∙ first_gives (no_more rest end) (λ u. Ok x) tt h
whole_gives part end text rest x (Err f) e h =
    inr (first_gives (part end text) (λ y. no_more y.1 end >>= λ u. Ok y.0) (x, rest) e ∙ first_fails (no_more rest end) (λ u. Ok x) f h)

pub whole_fails : {A : Type 0} (part : Part A) (end : ℕ) (text : List ℕ) (e : ModuleError) → FailsUnlessMemory e (part end text) → FailsUnlessMemory e (whole_part part end text)
whole_fails part end text e h = unless_memory_first e (part end text) (λ y. no_more y.1 end >>= λ u. Ok y.0) h

-- the value isn't kept
abbrev pub done : {A : Type 0} → A → Result (Unit {0}) ModuleError
done y = Ok (tt {0})

ok_passed : {A : Type 0} (x : A) (whole : Result A ModuleError) → whole ≡ Ok x → (whole >>= λ (y : A). done y) ≡ done x
ok_passed {A} x whole h = first_gives whole (λ (y : A). done y) x h

pub value_passed : {A : Type 0} (x : A) (r : Result (Unit {0}) ModuleError) (whole : Result A ModuleError) → GivesUnlessMemory (λ (u : Unit {0}). x) r whole →
    GivesUnlessMemory (λ (u : Unit {0}). tt {0}) r (whole >>= λ (y : A). done y)
value_passed {A} x (Ok u) whole h = ok_passed x whole h
value_passed {A} x (Err e) whole h = unless_memory_first e whole (λ (y : A). done y) h

-- what follows the first part decides
pub after_first : {A B R : Type 0} (view : R → B) (result : Result R ModuleError) (r : Result A ModuleError) (f : A → Result B ModuleError) (x : A) → r ≡ Ok x →
    GivesUnlessMemory view result (f x) → GivesUnlessMemory view result (r >>= f)
after_first {A} {B} view result r f x e h = subst (λ (s : Result B ModuleError). GivesUnlessMemory view result s) (sym (first_gives r f x e)) h
