-- The types of accesses to memory.
use Rattle.std.specs.Prelude.{◌≡◌, ℕ, List, [], ◌∷◌, Bool, true, false, Option, Some, None, Ok}
use Rattle.wasm_types.specs.declared.memory.AtomicWidth.{AtomicWidth}
use Rattle.wasm_types.specs.declared.memory.AtomicWidth.TheVariants as width
use Rattle.wasm_types.specs.declared.memory.ExtendedLoad.{ExtendedLoad}
use Rattle.wasm_types.specs.declared.memory.ExtendedLoad.TheVariants.{ZeroExtendAtomic}
use Rattle.wasm_types.specs.declared.memory.LoadKind.{LoadKind}
use Rattle.wasm_types.specs.declared.memory.LoadSimdKind.{LoadSimdKind}
use Rattle.wasm_types.specs.declared.memory.StoreKind.{StoreKind}
use Rattle.wasm_types.specs.declared.val_type.ValType.{ValType}
use Rattle.wasm_types.specs.declared.val_type.ValType.TheVariants.{I32, I64, V128}
use Rattle.wasm_numbers.specs.Results.{◌>>=◌}
use Rattle.wasm_operators.specs.declared.types.AtomicKind.{AtomicKind}
use Rattle.wasm_operators.specs.AccessOperations.{load_operation, store_operation}
use Rattle.wasm_operators.specs.AtomicOpcodes.{atomic_operation}
use Rattle.wasm_operators.specs.Operations.{Access}
use Rattle.wasm_operators.specs.VectorAccessOpcodes.{vector_access_operation}
use Rattle.wasm_body.specs.Naming.{NamedOperation}
use Rattle.wasm_body.specs.Validity.{Checked, demand}
use Rattle.wasm_typing.specs.Contexts.{OperandContext}
use Rattle.wasm_typing.specs.Operands.{InstructionType, ◌⟶◌}
use Rattle.wasm_typing.specs.Rules.{accessed}
use Rattle.wasm_typing.specs.RuleLaws.{type_of_operator}
use Rattle.wasm_operator_types.specs.declared.access.AccessType.{AccessType}
use Rattle.wasm_operator_types.specs.declared.access.Operands.{Operands}
use Rattle.wasm_operator_types.specs.declared.access.Operands.TheVariants.{Nothing, One, Two}

-- ---- what an access takes and gives

abbrev pub access_operands : Operands → List (ValType ℕ)
access_operands Nothing = []
access_operands (One t) = t ∷ []
access_operands (Two t u) = t ∷ u ∷ []

abbrev pub given_by : Option (ValType ℕ) → List (ValType ℕ)
given_by (Some t) = t ∷ []
given_by None = []

-- at t1* -> t2*, where the lane is one of the vector's
abbrev pub type_of_access : AccessType → OperandContext → Access → Checked InstructionType
type_of_access x c a =
    accessed x.exact x.exponent c a >>= λ at. demand x.has_lane >>= λ u. Ok (at ∷ access_operands x.takes ⟶ given_by x.gives)

-- ---- kinds of accesses

-- whether a narrow load is atomic
abbrev pub is_atomic : ExtendedLoad → Bool
is_atomic ZeroExtendAtomic = true
is_atomic _ = false

abbrev pub loads : (exact : Bool) → (exponent : ℕ) → ValType ℕ → AccessType
loads exact exponent t = record { exponent = exponent; exact = exact; has_lane = true; takes = Nothing; gives = Some t }

abbrev pub stores : (exact : Bool) → (exponent : ℕ) → ValType ℕ → AccessType
stores exact exponent t = record { exponent = exponent; exact = exact; has_lane = true; takes = One t; gives = None }

abbrev pub loads_lane : (exponent : ℕ) → (has_lane : Bool) → AccessType
loads_lane exponent has_lane = record { exponent = exponent; exact = false; has_lane = has_lane; takes = One V128; gives = Some V128 }

abbrev pub stores_lane : (exponent : ℕ) → (has_lane : Bool) → AccessType
stores_lane exponent has_lane = record { exponent = exponent; exact = false; has_lane = has_lane; takes = One V128; gives = None }

-- the exponent and the type of a width
abbrev pub width_of : AtomicWidth → ℕ × ValType ℕ
width_of width.I32 = (2, I32)
width_of width.I32_8 = (0, I32)
width_of width.I32_16 = (1, I32)
width_of width.I64 = (3, I64)
width_of width.I64_8 = (0, I64)
width_of width.I64_16 = (1, I64)
width_of width.I64_32 = (2, I64)

-- ---- the types of operators

-- the access has this type, in each module
abbrev pub HasType : (Access → NamedOperation) → AccessType → Type 0
HasType operation x = (c : OperandContext) (a : Access) → type_of_operator c (operation a) ≡ type_of_access x c a

abbrev pub LoadIs : LoadKind → AccessType → Type 0
LoadIs kind x = HasType (load_operation kind) x

abbrev pub StoreIs : StoreKind → AccessType → Type 0
StoreIs kind x = HasType (store_operation kind) x

abbrev pub VectorAccessIs : LoadSimdKind → AccessType → Type 0
VectorAccessIs kind x = HasType (vector_access_operation kind) x

abbrev pub AtomicIs : AtomicKind → AccessType → Type 0
AtomicIs kind x = HasType (atomic_operation kind) x
