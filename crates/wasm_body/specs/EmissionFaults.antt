-- Why the result of a parse can't be written. Its operators: only because an id or a local has no number. The declarations of
-- its locals: also because a count is too large (WebAssembly core specification 3.0, binary format, code section).
use Rattle.std.specs.Prelude.{◌≡◌, ◌⊎◌, ℕ, ◌<◌, ◌^◌, List, Result, Ok, Err}
use Rattle.std.specs.List.{AllByRecursion}
use Rattle.wasm_operators.specs.declared.types.Space.{Space}
use Rattle.wasm_body.specs.declared.error.EmitError.{EmitError}
use Rattle.wasm_body.specs.declared.error.EmitError.TheVariants.{Index, UnnumberedLocal, TooLarge}
use Rattle.wasm_body.specs.declared.error.IndexError.TheVariants.{Unnumbered}
use Rattle.wasm_body.specs.SourceTree.{Body}
use Rattle.wasm_body.specs.Naming.{Environment, Occurrence}
use Rattle.wasm_body.specs.Parsing.Accepted.{HasSpelling, Lawful}
use Rattle.wasm_body.specs.NormalForm.{body_tree}
use Rattle.wasm_body.specs.Bytes.{Numbers, tree_bytes}
use Rattle.wasm_body.specs.LocalNumbers.{Local, declared}

-- An id, or a local, has no number.
abbrev pub HasNoNumber : EmitError → Type 0
HasNoNumber (Index (Unnumbered space)) = Unit {0}
HasNoNumber UnnumberedLocal = Unit {0}
HasNoNumber _ = ⊥

-- The result is a number that fits 32 bits, or there is no number.
abbrev pub IsNumber : Result ℕ EmitError → Type 0
IsNumber (Ok n) = n < 2 ^ 32
IsNumber (Err e) = HasNoNumber e

abbrev pub AreIdNumbers : Numbers → Type 0
AreIdNumbers to = (space : Space) (id : ℕ) → IsNumber (to.number_of space id)

-- Each id and each local has a number that fits 32 bits, or none.
pub record AreNumbers (to : Numbers) : Type 0 where
  pub ids : AreIdNumbers to
  pub locals : (id : ℕ) → IsNumber (to.local_number id)

-- The operators of an accepted body's normal form have bytes, unless an id or a local has no number.
abbrev pub EmissionFaults : Type 0
EmissionFaults =
    (env : Environment) (xs : List Occurrence) (b : Body Occurrence) → AllByRecursion HasSpelling xs → Lawful env xs b →
    (to : Numbers) → AreNumbers to → (e : EmitError) → tree_bytes to (body_tree env b) ≡ Err e → HasNoNumber e

-- Locals can be declared, unless there are too many, or an id in their types has no number.
abbrev pub DeclarationFaults : Type 0
DeclarationFaults =
    (to : Numbers) → AreIdNumbers to → (arguments : ℕ) (locals : List Local) (e : EmitError) → declared to arguments locals ≡ Err e →
    (e ≡ TooLarge) ⊎ HasNoNumber e
