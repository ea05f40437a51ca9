-- Rewriting a body in the demo module.
use Rattle.std.specs.Prelude.{◌≡◌, ◌<◌, ◌^◌, ℕ, List, length, Ok}
use Rattle.walrus_ir.specs.Function.{Function}
use Rattle.wasm_body.specs.declared.error.ParseFailure.{ParseFailure}
use Rattle.wasm_body.specs.SourceTree.{Body}
use Rattle.wasm_body.specs.Naming.{Occurrence}
use Rattle.wasm_body.specs.Parsing.Accepted.{Accepted, FirstFault}
use Rattle.wasm_body.specs.NormalForm.{body_tree}
use Rattle.wasm_body.specs.LocalNumbers.{Local, ids_of, uses_local, AreDeclared, numbering_locals}
use Rattle.wasm_body.specs.Bytes.{tree_bytes}
use Rattle.walrus_parser.specs.Bodies.{IsFunction}
use Rattle.walrus_rewrite.specs.declared.error.RewriteError.{RewriteError}
use Rattle.walrus_rewrite.specs.declared.error.RewriteError.TheVariants.{Parse}
use Rattle.walrus_run.specs.Demo.{demo_locals, demo_args, demo_environment, demo, demo_numbers}

-- The bytes are those of the body's normal form, with the locals numbered by their use.
pub record IsNormalBytes (b : Body Occurrence) (out : List ℕ) : Type 0 where
  pub others : List Local
  pub are_declared : AreDeclared demo_locals demo_args (uses_local (body_tree demo_environment b)) others
  pub bytes_are : tree_bytes (numbering_locals demo_numbers demo_args (ids_of others)) (body_tree demo_environment b) ≡ Ok out

-- The operators are accepted as a body, and these are the bytes of its normal form.
abbrev pub IsRewrittenDemo : List ℕ → List ℕ → Type 0
IsRewrittenDemo ops out = (b : Body Occurrence) × Accepted demo ops b × IsNormalBytes b out

-- The function is the result of a parse of some operators in the demo module.
pub record IsParsedDemo (f : Function) : Type 0 where
  pub ops : List ℕ
  pub few : length ops < 2 ^ 64
  pub body : Body Occurrence
  pub accepted : Accepted demo ops body
  pub is_function : IsFunction f (body_tree demo_environment body)

-- This is the first fault of the operators.
abbrev pub IsFaulty : List ℕ → RewriteError → Type 0
IsFaulty ops e = (f : ParseFailure) × FirstFault demo ops f × (e ≡ Parse f)
