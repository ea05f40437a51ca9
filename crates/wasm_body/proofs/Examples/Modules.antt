-- The modules of the examples.
use Rattle.std.specs.Prelude.{ℕ, ◌==◌, if◌then◌else◌, List, [], ◌∷◌, Ok, slice_get}
use Rattle.wasm_types.specs.declared.val_type.ValType.TheVariants.{I32, I64}
use Rattle.walrus_ir.specs.Types.{Signature, signature, ModuleType, Func, Entry, Other}
use Rattle.wasm_operators.specs.declared.types.Space.{Space}
use Rattle.wasm_operators.specs.declared.types.Space.TheVariants.{Types, Funcs, Tags}
use Rattle.wasm_body.specs.declared.error.IndexError.TheVariants.{OutOfRange, LocalOutOfRange}
use Rattle.wasm_numbers.specs.Results.{some_or}
use Rattle.wasm_body.specs.Naming.{Environment}
use Rattle.wasm_body.specs.NormalForm.{typing_of, balances}
use Rattle.wasm_body.specs.Bytes.{Numbers}

abbrev pub nothing : Signature
nothing = signature [] []

abbrev pub number : Signature
number = signature [] (I32 ∷ [])

abbrev pub number_to_number : Signature
number_to_number = signature (I32 ∷ []) (I32 ∷ [])

-- For function 0: the old indices, from 0 on, map to these ids and locals.
abbrev pub environment : List ModuleType → (tags : List ℕ) → (Space → List ℕ) → (locals : List ℕ) → (type : ℕ) → Environment
environment types tags ids locals type = record {
  types = types;
  tags = tags;
  id_of = λ space n. some_or (slice_get (ids space) n) (OutOfRange space n);
  local_of = λ n. some_or (slice_get locals n) (LocalOutOfRange 0 n);
  type = type;
}

-- ---- the module of the worked rows: the old index of each id is its number, and the entry type has no old index

abbrev demo_ids : Space → List ℕ
demo_ids Types = 0 ∷ 1 ∷ 2 ∷ 3 ∷ []
demo_ids Funcs = 0 ∷ 1 ∷ []
demo_ids Tags = 0 ∷ 1 ∷ []
demo_ids _ = 0 ∷ []

abbrev demo_types : List ModuleType
demo_types = Func [] [] ∷ Func (I32 ∷ []) [] ∷ Func (I32 ∷ I32 ∷ []) (I32 ∷ []) ∷ Func (I32 ∷ []) [] ∷ Entry [] ∷ []

abbrev pub demo : Environment
demo = environment demo_types (0 ∷ 1 ∷ []) demo_ids (0 ∷ 1 ∷ 2 ∷ 3 ∷ []) 1

-- the number of each id is its old index
abbrev pub demo_numbers : Numbers
demo_numbers = record { number_of = λ space id. Ok id; local_number = λ id. Ok id; balanced = balances (typing_of demo) }

-- the same, but the third local has number 2
abbrev pub numbers_of_locals : Numbers
numbers_of_locals = record { number_of = λ space id. Ok id; local_number = λ id. if id == 3 then Ok 2 else Ok id; balanced = balances (typing_of demo) }

-- ---- A module with all that can be wrong with a type. Old indices are not ids. Of the old indices of types, 4 is an entry
-- type, 5 is not a function's type, and 6 is not in the module; 7 and 8 are an entry type and a function type with results that
-- no function type without parameters has. Of the old indices of tags, 1 takes a number, 2 has a type that is not a function's,
-- and 3 is not in the module.

abbrev odd_ids : Space → List ℕ
odd_ids Types = 2 ∷ 1 ∷ 0 ∷ 3 ∷ 4 ∷ 5 ∷ 9 ∷ 6 ∷ 7 ∷ []
odd_ids Funcs = 7 ∷ 3 ∷ []
odd_ids Tags = 2 ∷ 0 ∷ 1 ∷ 8 ∷ []
odd_ids _ = []

abbrev odd_types : List ModuleType
odd_types =
    Func [] [] ∷ Func (I32 ∷ []) [] ∷ Func (I32 ∷ []) (I32 ∷ []) ∷ Func [] (I32 ∷ I32 ∷ []) ∷ Entry [] ∷ Other ∷ Entry (I64 ∷ I64 ∷ [])
    ∷ Func (I32 ∷ []) (I64 ∷ I64 ∷ []) ∷ []

abbrev pub odd : Environment
odd = environment odd_types (1 ∷ 5 ∷ 0 ∷ []) odd_ids (6 ∷ 5 ∷ []) 0

-- the number of each id is the id
abbrev pub odd_numbers : Numbers
odd_numbers = record { number_of = λ space id. Ok id; local_number = λ id. Ok id; balanced = balances (typing_of odd) }
