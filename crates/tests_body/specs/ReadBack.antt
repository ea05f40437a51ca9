-- Reading and writing operators with any maps.
use Rattle.std.specs.Prelude.{◌≡◌, ℕ, List, Some, Ok, Err}
use Rattle.walrus_ir.specs.Function.{Function}
use Rattle.wasm_body.specs.declared.error.EmitError.{EmitError}
use Rattle.wasm_body.specs.declared.error.ParseFailure.{ParseFailure}
use Rattle.wasm_body.specs.SourceTree.{Body}
use Rattle.wasm_body.specs.Naming.{Environment, Occurrence}
use Rattle.wasm_body.specs.NormalForm.{body_tree}
use Rattle.wasm_body.specs.Bytes.{Numbers, tree_bytes}
use Rattle.wasm_body.specs.Parsing.Accepted.{Setting, Accepted, FirstFault}
use Rattle.walrus_parser.specs.Bodies.{IsFunction}
use Rattle.walrus_parser.specs.Settings.{given_with}
use Rattle.walrus_rewrite.specs.declared.error.RewriteError.{RewriteError}
use Rattle.walrus_rewrite.specs.declared.error.RewriteError.TheVariants.{Parse, Walk, Emit}

-- The setting in which operators at place 0 are read: with a location function, and with a validator that accepts every
-- operator.
abbrev pub reading_by : Environment → (locate : ℕ → ℕ) → Setting (Unit {0})
reading_by env locate = given_with env 0 (λ s _. Ok s) tt (Some locate)

-- The operators are accepted as a body, and the function has its normal form.
pub record IsReadAs (env : Environment) (ops : List ℕ) (function : Function) : Type 0 where
  pub locate : ℕ → ℕ
  pub body : Body Occurrence
  pub accepted : Accepted (reading_by env locate) ops body
  pub is_function : IsFunction function (body_tree env body)

-- The operators are accepted as a body, and these are the bytes of its normal form with these numbers.
pub record IsWrittenAs (env : Environment) (to : Numbers) (ops bytes : List ℕ) : Type 0 where
  pub locate : ℕ → ℕ
  pub body : Body Occurrence
  pub accepted : Accepted (reading_by env locate) ops body
  pub bytes_are : tree_bytes to (body_tree env body) ≡ Ok bytes

-- Whatever the locations, the operators are accepted as a body, and these are the bytes of its normal form.
pub record HasBytes (env : Environment) (to : Numbers) (ops bytes : List ℕ) : Type 0 where
  pub body : (locate : ℕ → ℕ) → Body Occurrence
  pub accepted : (locate : ℕ → ℕ) → Accepted (reading_by env locate) ops (body locate)
  pub bytes_are : (locate : ℕ → ℕ) (b : Body Occurrence) → Accepted (reading_by env locate) ops b → tree_bytes to (body_tree env b) ≡ Ok bytes

-- ---- why operators aren't written

-- Whatever the locations, this is the first fault of the operators.
abbrev pub IsFirstFault : Environment → List ℕ → ParseFailure → Type 0
IsFirstFault env ops f = (locate : ℕ → ℕ) → FirstFault (reading_by env locate) ops f

-- The operators are accepted as a body, and this is the first fault of writing its normal form with these numbers.
pub record IsNotWrittenAs (env : Environment) (to : Numbers) (ops : List ℕ) (fault : EmitError) : Type 0 where
  pub locate : ℕ → ℕ
  pub body : Body Occurrence
  pub accepted : Accepted (reading_by env locate) ops body
  pub fault_is : tree_bytes to (body_tree env body) ≡ Err fault

-- The operators are refused with this error: their first fault, or that of writing them.
abbrev pub IsRefusedAs : Environment → Numbers → List ℕ → RewriteError → Type 0
IsRefusedAs env to ops (Parse f) = IsFirstFault env ops f
IsRefusedAs env to ops (Walk w) = ⊥
IsRefusedAs env to ops (Emit e) = IsNotWrittenAs env to ops e

-- Whatever the locations, the operators are accepted as a body, and this is the first fault of writing its normal form.
pub record HasNoNormalBytes (env : Environment) (to : Numbers) (ops : List ℕ) (fault : EmitError) : Type 0 where
  pub body : (locate : ℕ → ℕ) → Body Occurrence
  pub accepted : (locate : ℕ → ℕ) → Accepted (reading_by env locate) ops (body locate)
  pub fault_is : (locate : ℕ → ℕ) (b : Body Occurrence) → Accepted (reading_by env locate) ops b → tree_bytes to (body_tree env b) ≡ Err fault

-- The operators have this fault: it is their first with some locations, or it is that of writing them whatever the locations.
abbrev pub HasFault : Environment → Numbers → List ℕ → RewriteError → Type 0
HasFault env to ops (Parse f) = (locate : ℕ → ℕ) × FirstFault (reading_by env locate) ops f
HasFault env to ops (Walk w) = ⊥
HasFault env to ops (Emit e) = HasNoNormalBytes env to ops e
