-- Naming operators one by one, in any frames: an operator of an accepted body has the same name as in the body.
use Rattle.std.specs.Prelude.{◌≡◌, ℕ, List, [], ◌∷◌, ◌++◌, map, Ok}
use Rattle.std.specs.List.{AllByRecursion}
use Rattle.walrus_ir.specs.Types.{Signature}
use Rattle.wasm_operators.specs.declared.types.BlockType.{BlockType}
use Rattle.wasm_operators.specs.OperatorList.{Lists}
use Rattle.wasm_ops.specs.Position.{Position}
use Rattle.wasm_body.specs.declared.error.ParseError.{ParseError}
use Rattle.wasm_body.specs.Translation.{Translation, translate}
use Rattle.wasm_body.specs.Naming.{Environment, NamedOperation, Occurrence, naming}
use Rattle.wasm_body.specs.Parsing.Accepted.{placed}
use Rattle.walrus_maps.specs.Environments.{environment_of}
use Rattle.walrus_run.specs.NamedBodies.{BodyNames}
use Rattle.walrus_run.specs.declared.naming.Namer.{Namer}

abbrev pub env_of_namer : Namer → Environment
env_of_namer n = environment_of n.«module».now n.indices.now n.function n.ty

-- naming without the rules of labels
abbrev pub anywhere : Environment → Translation ℕ BlockType ℕ Signature ParseError
anywhere env = record (naming {A = Occurrence} env []) { label = λ n. Ok n; handler = λ n. Ok n; outer = λ n. Ok n }

abbrev pub HasName : Environment → Occurrence → Type 0
HasName env x = translate (anywhere env) x.spelt ≡ Ok x.named

-- These operators, each with its name, are all that remain.
pub record AreLeft (env : Environment) (at : Position) (xs : List Occurrence) : Type 0 where
  pub spelt : Lists (map placed xs) at.place at.rest []
  pub named : AllByRecursion (HasName env) xs

-- one more operator is read, with this name and at this place
abbrev pub with_next : BodyNames → NamedOperation → (place : ℕ) → BodyNames
with_next b named place = record { operators = b.operators ++ named ∷ []; places = b.places ++ place ∷ [] }
