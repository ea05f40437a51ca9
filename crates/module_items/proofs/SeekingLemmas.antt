-- An export that is found gives way to another one.
use Rattle.std.proofs.Common.{ℕ, Bool, List, Option, Some, None, Result, Ok, Err, IfOk, inr}
use Rattle.wasm_operators.specs.declared.types.Space.{Space}
use Rattle.wasm_sections.specs.declared.changes.Changes.{Changes}
use Rattle.wasm_sections.specs.declared.fault.ModuleError.{ModuleError}
use Rattle.module_items.specs.Renaming.{FindsExport, SeeksExport, GivesWayTo}

module _ (name other : List ℕ) (place : ℕ) (was space : Space) (old_index index : ℕ) (old new : Changes) where
  one_renamed :
      (b : Bool) (contents : Option (ℕ × List ℕ)) → FindsExport name contents (Some (place, space, index)) → GivesWayTo place other space index contents old new b
      → SeeksExport name (λ c p s i. GivesWayTo p other s i c old new b) contents old new b
  one_renamed b None found h = absurd cc
  one_renamed b (Some c) found h = inr (place, space, index, found, h)

  pub renamed :
      (contents : Option (ℕ × List ℕ)) (r : Result Bool ModuleError) → FindsExport name contents (Some (place, space, index))
      → IfOk r (GivesWayTo place other space index contents old new)
      → IfOk r (λ b. SeeksExport name (λ c p s i. GivesWayTo p other s i c old new b) contents old new b)
  renamed contents (Err e) found h = tt
  renamed contents (Ok b) found h = one_renamed b contents found h

  one_led :
      (b : Bool) (contents : Option (ℕ × List ℕ)) → FindsExport name contents (Some (place, was, old_index)) → GivesWayTo place name space index contents old new b
      → SeeksExport name (λ c p s i. GivesWayTo p name space index c old new b) contents old new b
  one_led b None found h = absurd cc
  one_led b (Some c) found h = inr (place, was, old_index, found, h)

  pub led_elsewhere :
      (contents : Option (ℕ × List ℕ)) (r : Result Bool ModuleError) → FindsExport name contents (Some (place, was, old_index))
      → IfOk r (GivesWayTo place name space index contents old new)
      → IfOk r (λ b. SeeksExport name (λ c p s i. GivesWayTo p name space index c old new b) contents old new b)
  led_elsewhere contents (Err e) found h = tt
  led_elsewhere contents (Ok b) found h = one_led b contents found h
