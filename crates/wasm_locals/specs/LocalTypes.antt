-- The locals of a function, as the list of their types, and those that are set where it begins.
use Rattle.std.specs.Prelude.{◌≡◌, ℕ, List, ◌++◌, length, Bool}
use Rattle.std.specs.List.{range_with_len}
use Rattle.wasm_types.specs.declared.val_type.ValType.{ValType}
use Rattle.wasm_typing.specs.Contexts.{OperandContext, contains, initial_locals}
use Rattle.wasm_locals.specs.declared.types.LocalTypes.{LocalTypes}
use Rattle.wasm_locals.specs.Runs.{types_of_runs}

abbrev pub types_of_locals : LocalTypes → List (ValType ℕ)
types_of_locals l = l.params.now ++ types_of_runs 0 l.declared.now

-- `found` is whether the local is among the initial ones, in each module
abbrev pub IsInitial : LocalTypes → ℕ → Bool → Type 0
IsInitial l n found =
    (c : OperandContext) → c.locals ≡ types_of_locals l → found ≡ contains n (initial_locals c (range_with_len 0 (length l.params.now)))
