-- The contract of checking a body without a tree.
use Rattle.std.specs.Prelude.{◌≡◌, ◌⊎◌, ℕ, List, Result, OnOk, IfErr, IsErr}
use Rattle.wasm_body.specs.declared.error.ParseError.TheVariants.{Memory}
use Rattle.wasm_body.specs.declared.error.ParseFailure.{ParseFailure}
use Rattle.wasm_body.specs.SourceTree.{Body}
use Rattle.wasm_body.specs.Naming.{Occurrence}
use Rattle.wasm_body.specs.Parsing.Accepted.{Setting, Accepted, FirstFault}

-- The bytes are accepted as a body; or memory ran out, or this is their first fault. No accepted body is refused unless memory
-- runs out, and each first fault is returned.
pub record ChecksFlat {V : Type 0} (given : Setting V) (bytes : List ℕ) (result : Result (Unit {0}) ParseFailure) : Type 0 where
  pub accepted : OnOk result ((b : Body Occurrence) × Accepted given bytes b)
  pub refused : IfErr result (λ f. (f.error ≡ Memory) ⊎ FirstFault given bytes f)
  pub each_body : (b : Body Occurrence) → Accepted given bytes b → IfErr result (λ f. f.error ≡ Memory)
  pub each_fault : (f : ParseFailure) → FirstFault given bytes f → IsErr result × IfErr result (λ e. (e.error ≡ Memory) ⊎ (e ≡ f))
