-- The types of a type section, read for which are alike, in loops; and the references to the first of these.
use Rattle.std.proofs.Common.{◌≡◌, ℕ, ◌+◌, ◌<◌, ◌≤◌, List, [], ◌∷◌, ◌++◌, Result, Ok, Err, sym, ap, subst, ◌∙◌, inl, inr}
use Rattle.walrus_ir.specs.Types.{ModuleType}
use Rattle.wasm_sections.specs.declared.fault.ModuleError.{ModuleError}
use Rattle.wasm_sections.specs.declared.input.Input.{Input}
use Rattle.wasm_sections.specs.Format.{subtype_part, next_type, types_part}
use Rattle.wasm_sections.specs.Parts.{Part, ◌>=>◌, repeated}
use Rattle.wasm_sections.proofs.RepeatedLemmas.{StepsLeft, no_step_done, step_done, step_fails, all_done}
use Rattle.wasm_sections.proofs.TypeReadingLemmas.{FailsUnlessMemory, first_gives}

pub type_read_next :
    (limit end : ℕ) (text rest : List ℕ) (types more : List ModuleType) (type : ModuleType) → subtype_part limit end text ≡ Ok (type, rest) → more ≡ types ++ type ∷ [] →
    next_type limit types end text ≡ Ok (more, rest)
type_read_next limit end text rest types more type e m =
    first_gives (subtype_part limit end text) (λ y. Ok (types ++ y.0 ∷ [], y.1)) (type, rest) e
    ∙ ap (λ (l : List ModuleType). (let r : Result (List ModuleType × List ℕ) ModuleError = Ok (l, rest) in r)) (sym m)

-- A number is read, and of so many steps some were made.
pub record TypesLeft (counter : Part ℕ) (step : List ModuleType → Part (List ModuleType)) (count i : ℕ) (first now : List ModuleType) (end : ℕ) (text rest : List ℕ) : Type 0 where
  pub begin : List ℕ
  pub read : counter end text ≡ Ok (count, begin)
  pub left : StepsLeft step count i first now end begin rest

pub no_type_read :
    (counter : Part ℕ) (step : List ModuleType → Part (List ModuleType)) (count : ℕ) (first : List ModuleType) (end : ℕ) (text begin : List ℕ) →
    counter end text ≡ Ok (count, begin) → TypesLeft counter step count 0 first first end text begin
no_type_read counter step count first end text begin read = record { begin = begin; read = read; left = no_step_done step count first end begin }

module _ (counter : Part ℕ) (step : ℕ → List ModuleType → Part (List ModuleType)) (limit other count i : ℕ) (first now : List ModuleType) (end place : ℕ) (text rest : List ℕ)
    (so : TypesLeft counter (step limit) count i first now end text rest) (same_limit : other ≡ limit) (same_end : place ≡ end) where
  here : (r : Result (List ModuleType × List ℕ) ModuleError) → step other now place rest ≡ r → step limit now end rest ≡ r
  here r e = subst (λ (n : ℕ). step n now end rest ≡ r) same_limit (subst (λ (n : ℕ). step other now n rest ≡ r) same_end e)

  pub types_read_more : (next : List ModuleType) (following : List ℕ) → i < count → step other now place rest ≡ Ok (next, following) →
      TypesLeft counter (step limit) count (i + 1) first next end text following
  types_read_more next following less e = record {
    begin = so.begin;
    read = so.read;
    left = step_done (step limit) count i first now end so.begin rest so.left next following less (here (Ok (next, following)) e);
  }

  whole : (r : Result (List ModuleType × List ℕ) ModuleError) → repeated (step limit) count first end so.begin ≡ r →
      (counter >=> λ n. repeated (step limit) n first) end text ≡ r
  whole r e = first_gives (counter end text) (λ y. repeated (step limit) y.0 first end y.1) (count, so.begin) so.read ∙ e

  pub types_unread : (e : ModuleError) → i < count → FailsUnlessMemory e (step other now place rest) →
      FailsUnlessMemory e ((counter >=> λ n. repeated (step limit) n first) end text)
  types_unread e less (inl m) = inl m
  types_unread e less (inr h) =
      inr (whole (Err e) (step_fails (step limit) count i first now end so.begin rest so.left e less (here (Err e) h)))

  pub types_read : count ≤ i → (counter >=> λ n. repeated (step limit) n first) end text ≡ Ok (now, rest)
  types_read done = whole (Ok (now, rest)) (all_done (step limit) count i first now end so.begin rest so.left done)

-- the same types of the same section
pub types_of_section :
    (P : Result (List ModuleType × List ℕ) ModuleError → Type 0) (limit count : ℕ) (input section : Input) → limit ≡ count → input ≡ section →
    P (types_part limit input.end input.rest.now) → P (types_part count section.end section.rest.now)
types_of_section P limit count input section l i p =
    subst (λ (n : ℕ). P (types_part n section.end section.rest.now)) l (subst (λ (k : Input). P (types_part limit k.end k.rest.now)) i p)
