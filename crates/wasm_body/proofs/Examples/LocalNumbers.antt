-- The numbers of locals and their declarations, with expected values by hand.
use Rattle.std.specs.Prelude.{◌≡◌, ℕ, [], ◌∷◌, ◌==◌, if◌then◌else◌, true, false, Some, None, Ok, Err, refl}
use Rattle.wasm_types.specs.declared.val_type.AbstractHeapType.TheVariants.{Func}
use Rattle.wasm_types.specs.declared.val_type.HeapType.TheVariants.{Abstract, Concrete}
use Rattle.wasm_types.specs.declared.val_type.ValType.{ValType}
use Rattle.wasm_types.specs.declared.val_type.ValType.TheVariants.{I32, I64, F32, F64, V128, Ref}
use Rattle.std.specs.declared.cmp.Ordering.TheVariants.{Less, Equal, Greater}
use Rattle.wasm_body.specs.declared.error.EmitError.TheVariants.{Index, UnnumberedLocal, TooLarge}
use Rattle.wasm_body.specs.declared.error.IndexError.TheVariants.{Unnumbered}
use Rattle.wasm_operators.specs.declared.types.Space.TheVariants.{Types}
use Rattle.wasm_body.specs.Bytes.{Numbers}
use Rattle.wasm_body.specs.LocalNumbers.{local_order, last_place, number_of_local, runs, declared}

abbrev nullable : ValType ℕ
nullable = Ref (record { nullable = true; heap_type = Abstract Func })

abbrev to_type : ℕ → ValType ℕ
to_type id = Ref (record { nullable = false; heap_type = Concrete id })

-- ---- the order

-- a type decides before an id, and an id between locals of one type
by_type : local_order (I32, 9) (I64, 2) ≡ Less
by_type = refl

by_id : local_order (F32, 9) (F32, 2) ≡ Greater
by_id = refl

one_local : local_order (V128, 3) (V128, 3) ≡ Equal
one_local = refl

references_last : local_order (to_type 0, 0) (V128, 7) ≡ Greater
references_last = refl

-- references that may be null come after those that may not
nullable_last : local_order (to_type 7, 7) (nullable, 0) ≡ Less
nullable_last = refl

-- ---- numbers

last_of_two : last_place (5 ∷ 5 ∷ []) 5 ≡ Some 1
last_of_two = refl

after_another : last_place (5 ∷ 6 ∷ 5 ∷ 7 ∷ []) 5 ≡ Some 2
after_another = refl

no_place : last_place (5 ∷ 6 ∷ []) 7 ≡ None
no_place = refl

-- arguments [5, 5] and the others [7, 2]: number 0 names no local
of_argument : number_of_local (5 ∷ 5 ∷ []) (7 ∷ 2 ∷ []) 5 ≡ Some 1
of_argument = refl

of_first_other : number_of_local (5 ∷ 5 ∷ []) (7 ∷ 2 ∷ []) 7 ≡ Some 2
of_first_other = refl

of_second_other : number_of_local (5 ∷ 5 ∷ []) (7 ∷ 2 ∷ []) 2 ≡ Some 3
of_second_other = refl

of_no_local : number_of_local (5 ∷ 5 ∷ []) (7 ∷ 2 ∷ []) 0 ≡ None
of_no_local = refl

-- ---- runs

no_runs : runs [] ≡ []
no_runs = refl

runs_of_one_type : runs (I32 ∷ I32 ∷ I32 ∷ []) ≡ (3, I32) ∷ []
runs_of_one_type = refl

runs_of_types : runs (I32 ∷ F64 ∷ F64 ∷ nullable ∷ []) ≡ (1, I32) ∷ (2, F64) ∷ (1, nullable) ∷ []
runs_of_types = refl

-- a type that comes again begins a run again
runs_apart : runs (I32 ∷ I64 ∷ I32 ∷ []) ≡ (1, I32) ∷ (1, I64) ∷ (1, I32) ∷ []
runs_apart = refl

runs_of_references : runs (to_type 1 ∷ to_type 1 ∷ to_type 2 ∷ []) ≡ (2, to_type 1) ∷ (1, to_type 2) ∷ []
runs_of_references = refl

-- ---- declarations

-- the type 1 has the number 4, and no other id has one
abbrev numbers : Numbers
numbers = record { number_of = λ space id. if id == 1 then Ok 4 else Err (Index (Unnumbered space)); local_number = λ id. Err UnnumberedLocal; balanced = λ t. false }

declarations_with_numbers : declared numbers 2 ((I32, 2) ∷ (I32, 7) ∷ (to_type 1, 0) ∷ []) ≡ Ok ((2, I32) ∷ (1, to_type 4) ∷ [])
declarations_with_numbers = refl

type_without_number : declared numbers 0 ((I32, 2) ∷ (to_type 3, 0) ∷ (to_type 1, 4) ∷ []) ≡ Err (Index (Unnumbered Types))
type_without_number = refl

-- 2^32 locals have a number in 32 bits, and no more
last_number : declared numbers 4294967295 ((I32, 2) ∷ []) ≡ Ok ((1, I32) ∷ [])
last_number = refl

past_last_number : declared numbers 4294967295 ((I32, 2) ∷ (to_type 3, 7) ∷ []) ≡ Err TooLarge
past_last_number = refl
