-- Reading a body with the names that its module gives.
use Rattle.std.specs.Prelude.{ℕ, List, map, Some, Ok}
use Rattle.walrus_ir.specs.declared.module.Module.{Module}
use Rattle.wasm_body.specs.Naming.{NamedOperation, Occurrence}
use Rattle.wasm_body.specs.Parsing.Accepted.{Setting}
use Rattle.walrus_maps.specs.declared.indices_to_ids.IndicesToIds.{IndicesToIds}
use Rattle.walrus_parser.specs.declared.body.FunctionBody.{FunctionBody}
use Rattle.walrus_parser.specs.Bodies.{body_setting}

-- The names of a body's operators, in order, and the place of each.
pub record BodyNames : Type 0 where
  pub operators : List NamedOperation
  pub places : List ℕ

abbrev pub names_of : List Occurrence → BodyNames
names_of xs = record { operators = map (λ x. x.named) xs; places = map (λ x. x.place) xs }

-- The setting in which a body is read: the validator accepts every operator, and there is a location function, so that places
-- have no limit.
abbrev pub reading : Module → IndicesToIds → (function type : ℕ) → FunctionBody → (locate : ℕ → ℕ) → Setting (Unit {0})
reading m indices function type body locate = body_setting m indices function type body (λ s x. Ok s) tt (Some locate)
