-- Items of sections, one after the other.
use Rattle.std.proofs.Common.{◌≡◌, ℕ, ◌+◌, ◌-◌, ◌<◌, ◌≤◌, List, Result, Ok, Err, sym, ap, ◌∙◌, inl, inr}
use Rattle.wasm_numbers.specs.Results.{◌>>=◌, Gives}
use Rattle.wasm_sections.specs.declared.fault.ModuleError.{ModuleError}
use Rattle.wasm_sections.specs.Parts.{Part, repeated, no_more, whole_part, GivesUnlessMemory}
use Rattle.wasm_sections.proofs.TypeReadingLemmas.{first_gives, first_fails, FailsUnlessMemory, repeated_none, repeated_step, repeated_fault}
use Rattle.module_context.specs.ModuleContexts.{Declared, declared_item}

-- what a loop has declared so far; the other items are left
pub record ItemsSoFar (whole : Result (Declared × List ℕ) ModuleError) (id left : ℕ) (d : Declared) (end : ℕ) (rest : List ℕ) : Type 0 where
  pub whole_is : whole ≡ repeated (declared_item id) left d end rest

pub one_more_declared :
    (whole : Result (Declared × List ℕ) ModuleError) (id n i : ℕ) (d e : Declared) (end other : ℕ) (text rest : List ℕ) → i < n → ItemsSoFar whole id (n - i) d end text →
    declared_item id d end text ≡ Ok (e, rest) → other ≡ end → ItemsSoFar whole id (n - (i + 1)) e other rest
one_more_declared whole id n i d e end other text rest less so read o = record {
  whole_is =
      so.whole_is ∙ repeated_step (declared_item id) n i d e end text rest less read ∙ ap (λ (k : ℕ). repeated (declared_item id) (n - (i + 1)) e k rest) (sym o);
}

pub item_not_declared :
    (whole : Result (Declared × List ℕ) ModuleError) (id n i : ℕ) (d : Declared) (end : ℕ) (text : List ℕ) (error : ModuleError) → i < n → ItemsSoFar whole id (n - i) d end text →
    FailsUnlessMemory error (declared_item id d end text) → FailsUnlessMemory error whole
item_not_declared whole id n i d end text error less so (inl m) = inl m
item_not_declared whole id n i d end text error less so (inr h) = inr (so.whole_is ∙ repeated_fault (declared_item id) n i d end text error less h)

-- all items are declared, and nothing follows
pub items_end :
    (part : Part Declared) (id n i : ℕ) (d : Declared) (end at : ℕ) (text rest : List ℕ) (result : Result (Unit {0}) ModuleError) → n ≤ i → ItemsSoFar (part end text) id (n - i) d at rest →
    at ≡ end → Gives (λ u. tt) result (no_more rest at) → GivesUnlessMemory (λ u. d) result (whole_part part end text)
items_end part id n i d end at text rest (Ok u) done so a none =
    first_gives (part end text) (λ x. no_more x.1 end >>= λ u. Ok x.0) (d, rest) (so.whole_is ∙ repeated_none (declared_item id) n i d at rest done)
    ∙ first_gives (no_more rest end) (λ u. Ok d) tt (ap (λ (k : ℕ). no_more rest k) (sym a) ∙ none)
items_end part id n i d end at text rest (Err e) done so a more =
    inr (first_gives (part end text) (λ x. no_more x.1 end >>= λ u. Ok x.0) (d, rest) (so.whole_is ∙ repeated_none (declared_item id) n i d at rest done)
    ∙ first_fails (no_more rest end) (λ u. Ok d) e (ap (λ (k : ℕ). no_more rest k) (sym a) ∙ more))

pub contents_unread :
    (part : Part Declared) (end : ℕ) (text : List ℕ) (e : ModuleError) → FailsUnlessMemory e (part end text) → FailsUnlessMemory e (whole_part part end text)
contents_unread part end text e (inl m) = inl m
contents_unread part end text e (inr h) = inr (first_fails (part end text) (λ x. no_more x.1 end >>= λ u. Ok x.0) e h)
