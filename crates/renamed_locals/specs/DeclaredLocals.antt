-- The locals of a function that is written: its parameters, and then those that it declares (WebAssembly core specification 3.0, sections
-- 2.5.3, functions, and 5.5.13, code section).
use Rattle.std.specs.Prelude.{◌≡◌, ℕ, List, ◌++◌, length, Bool, is_some, unwrap_or, Some, slice_get, Ok}
use Rattle.std.specs.List.{range_with_len}
use Rattle.wasm_types.specs.declared.val_type.ValType.{ValType}
use Rattle.wasm_operators.specs.declared.types.Space.TheVariants.{Types}
use Rattle.wasm_body.specs.Bytes.{Numbers}
use Rattle.wasm_body.specs.LocalNumbers.{Local, types_of, ids_of, AreDeclared, number_of_local, declared, spread}
use Rattle.wasm_typing.specs.Contexts.{OperandContext, initial_locals}
use Rattle.renamed_locals.specs.RenamedLocals.{context_with_locals, Renames}

-- the indices of this number of parameters, which are the first locals
abbrev pub parameter_indices : (parameters : ℕ) → List ℕ
parameter_indices parameters = range_with_len 0 parameters

-- Whether a local is one of these arguments or of these others, and its number as it is written.
abbrev pub is_written_local : (args : List ℕ) (others : List Local) → ℕ → Bool
is_written_local args others id = is_some (number_of_local args (ids_of others) id)

abbrev pub written_number : (args : List ℕ) (others : List Local) → ℕ → ℕ
written_number args others id = unwrap_or (number_of_local args (ids_of others) id) 0

-- Of the arguments of a function, each has the type of its parameter.
pub record HaveParameters (c : OperandContext) (args : List ℕ) (parameters : List (ValType ℕ)) : Type 0 where
  pub count : length args ≡ length parameters
  pub types : (n id : ℕ) → slice_get args n ≡ Some id → slice_get c.locals id ≡ slice_get parameters n

-- The arguments of a function and the locals that it declares are its used locals, renamed: its parameters come first, and then the locals
-- that are declared.
abbrev pub WrittenAreRenamed : Type 0
WrittenAreRenamed =
    (c : OperandContext) (args : List ℕ) (parameters : List (ValType ℕ)) → HaveParameters c args parameters →
    (used : ℕ → Bool) (others : List Local) → AreDeclared c.locals args used others →
    Renames (is_written_local args others) (written_number args others) c.locals (parameters ++ types_of others)
    (initial_locals c args) (initial_locals (context_with_locals c (parameters ++ types_of others)) (parameter_indices (length parameters)))

-- the number of a type is its id
abbrev pub TypesKeepNumbers : Numbers → Type 0
TypesKeepNumbers to = (id n : ℕ) → to.number_of Types id ≡ Ok n → n ≡ id

-- Declarations have the types of the locals that are declared, if each type keeps its number.
abbrev pub DeclarationsHaveTypes : Type 0
DeclarationsHaveTypes =
    (to : Numbers) → TypesKeepNumbers to → (arguments : ℕ) (others : List Local) (ds : List (ℕ × ValType ℕ)) → declared to arguments others ≡ Ok ds →
    spread ds ≡ types_of others
