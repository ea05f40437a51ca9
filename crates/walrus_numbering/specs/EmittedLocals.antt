-- What a call promises that numbers a function's locals and declares those that aren't arguments.
use Rattle.std.specs.Prelude.{◌≡◌, ◌⊎◌, ℕ, ◌+◌, ◌-◌, ◌^◌, nat_lt, if◌then◌else◌, List, [], ◌∷◌, length, Bool, true, false, not, Option, None, is_some, slice_get, Result, Ok, Err}
use Rattle.std.specs.List.{filter}
use Rattle.std.specs.Ordering.{nat_cmp}
use Rattle.std.specs.FinMap.{get, from_entries}
use Rattle.wasm_types.specs.declared.val_type.ValType.{ValType}
use Rattle.wasm_numbers.specs.Results.{◌>>=◌, some_or, each}
use Rattle.walrus_ir.specs.Types.{same_type}
use Rattle.walrus_ir.specs.Unfolding.{among}
use Rattle.wasm_body.specs.declared.error.EmitError.{EmitError}
use Rattle.wasm_body.specs.declared.error.EmitError.TheVariants.{Memory, UnknownLocal}
use Rattle.wasm_body.specs.Bytes.{Numbers}
use Rattle.wasm_body.specs.LocalNumbers.{Local, ids_of, AreDeclared, number_of_local, declared}

-- ---- the locals of a function

-- the number of a local in a map
abbrev pub number_in : List (ℕ × ℕ) → ℕ → Option ℕ
number_in entries id = get (from_entries {R = nat_cmp} entries) id

-- These are the declarations of the used locals that aren't arguments, and the numbers of these and of the arguments.
pub record Declares (to : Numbers) (types : List (ValType ℕ)) (args : List ℕ) (used : ℕ → Bool) (declarations : List (ℕ × ValType ℕ)) (numbers : List (ℕ × ℕ)) : Type 0 where
  pub others : List Local
  pub are_declared : AreDeclared types args used others
  pub declarations_are : declared to (length args) others ≡ Ok declarations
  pub numbers_are : (id : ℕ) → number_in numbers id ≡ number_of_local args (ids_of others) id

-- A used local that isn't an argument isn't in the module.
pub record HasUnknown (types : List (ValType ℕ)) (args : List ℕ) (used : ℕ → Bool) : Type 0 where
  pub id : ℕ
  pub is_used : used id ≡ true
  pub is_no_argument : among id args ≡ false
  pub has_no_type : slice_get types id ≡ None

-- Each of them has a type, and this is the first fault of the declarations.
pub record HasDeclarationFault (to : Numbers) (types : List (ValType ℕ)) (args : List ℕ) (used : ℕ → Bool) (e : EmitError) : Type 0 where
  pub others : List Local
  pub are_declared : AreDeclared types args used others
  pub fault_is : declared to (length args) others ≡ Err e

-- A local isn't in the module, or the declarations have this fault.
abbrev pub HasNoDeclarations : Numbers → List (ValType ℕ) → List ℕ → (ℕ → Bool) → EmitError → Type 0
HasNoDeclarations to types args used e = ((e ≡ UnknownLocal) × HasUnknown types args used) ⊎ HasDeclarationFault to types args used e

-- Memory ran out, or there are no declarations.
abbrev pub IsNotDeclared : Numbers → List (ValType ℕ) → List ℕ → (ℕ → Bool) → EmitError → Type 0
IsNotDeclared to types args used e = (e ≡ Memory) ⊎ HasNoDeclarations to types args used e

-- ---- intermediate results

-- the number itself, or the greatest one of 32 bits
abbrev pub saturated : ℕ → ℕ
saturated n = if nat_lt n (2 ^ 32) then n else 2 ^ 32 - 1

-- a local with its type
abbrev pub typed_local : List (ValType ℕ) → ℕ → Result Local EmitError
typed_local types id = some_or (slice_get types id) UnknownLocal >>= λ type. Ok (type, id)

-- those of these ids that have no number, with their types
abbrev pub unnumbered : List (ValType ℕ) → List (ℕ × ℕ) → List ℕ → Result (List Local) EmitError
unnumbered types numbers ids = each (typed_local types) (filter (λ id. not (is_some (number_in numbers id))) ids)

-- how many of the first types are this one
abbrev pub leading : ValType ℕ → List (ValType ℕ) → ℕ
leading t [] = 0
leading t (u ∷ us) = if same_type t u then leading t us + 1 else 0
