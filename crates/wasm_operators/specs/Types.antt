-- Types (WebAssembly core specification 3.0, binary format, types).
use Rattle.std.specs.Prelude.{ℕ, Bool, true, false, ◌||◌, List, [], ◌∷◌, Option, Some, None, option_map, Result, Ok, Err, ℤ, pos, negsuc, ◌==◌, if◌then◌else◌}
use Rattle.wasm_types.specs.declared.val_type.AbstractHeapType.{AbstractHeapType}
use Rattle.wasm_types.specs.declared.val_type.AbstractHeapType.TheVariants as abstract
use Rattle.wasm_types.specs.declared.val_type.HeapType.{HeapType}
use Rattle.wasm_types.specs.declared.val_type.HeapType.TheVariants.{Abstract, Concrete}
use Rattle.wasm_types.specs.declared.val_type.ValType.{ValType}
use Rattle.wasm_types.specs.declared.val_type.ValType.TheVariants.{I32, I64, F32, F64, V128, Ref}
use Rattle.wasm_numbers.specs.declared.fault.ReadFault.{ReadFault}
use Rattle.wasm_numbers.specs.declared.fault.ReadFault.TheVariants.{BadType}
use Rattle.wasm_operators.specs.declared.types.BlockType.{BlockType}
use Rattle.wasm_operators.specs.declared.types.BlockType.TheVariants.{Empty, Value, FuncType}
use Rattle.wasm_numbers.specs.Reading.{Spelling, Reader, Then, then_read, Made, made, Switch, switch}
use Rattle.wasm_numbers.specs.Numbers.{IsS33, s33, IsByte, byte}
use Rattle.wasm_operators.specs.Rows.{first_some}
use Rattle.wasm_numbers.specs.Results.{◌>>=◌}

-- the value of a table at a number
abbrev pub row_at : {V : Type 0} → List (ℕ × V) → ℕ → Option V
row_at [] n = None
row_at (row ∷ rows) n = if n == row.0 then Some row.1 else row_at rows n

abbrev pub is_listed : {V : Type 0} → Option V → Bool
is_listed (Some v) = true
is_listed None = false

-- the listed value; without one, no type is allowed here
abbrev pub listed : {V : Type 0} → Option V → Result V ReadFault
listed (Some v) = Ok v
listed None = Err BadType

-- a type index is a signed number of 33 bits that is not negative
abbrev pub type_index : ℤ → Result ℕ ReadFault
type_index (pos n) = Ok n
type_index (negsuc n) = Err BadType

-- ---- heap types: a byte that is listed, or a type index

abbrev pub heap_rows : List (ℕ × AbstractHeapType)
heap_rows =
    (0x74, abstract.NoExn) ∷
    (0x73, abstract.NoFunc) ∷
    (0x72, abstract.NoExtern) ∷
    (0x71, abstract.None) ∷
    (0x70, abstract.Func) ∷
    (0x6f, abstract.Extern) ∷
    (0x6e, abstract.Any) ∷
    (0x6d, abstract.Eq) ∷
    (0x6c, abstract.I31) ∷
    (0x6b, abstract.Struct) ∷
    (0x6a, abstract.Array) ∷
    (0x69, abstract.Exn) ∷
    []

unfoldable pub heap_at : ℕ → Option AbstractHeapType
heap_at b = row_at heap_rows b

abbrev pub abstract_heap : ℕ → Result (HeapType ℕ) ReadFault
abstract_heap b = listed (heap_at b) >>= λ a. Ok (Abstract a)

abbrev pub concrete_heap : ℤ → Result (HeapType ℕ) ReadFault
concrete_heap z = type_index z >>= λ n. Ok (Concrete n)

abbrev pub IsHeapType : Spelling (HeapType ℕ)
IsHeapType = Switch (λ b. is_listed (heap_at b)) (Made IsByte abstract_heap) (Made IsS33 concrete_heap)

abbrev pub heap_type : Reader (HeapType ℕ)
heap_type = switch (λ b. is_listed (heap_at b)) (made byte abstract_heap) (made s33 concrete_heap)

-- ---- value types: a byte that is listed, or a byte for whether a reference is nullable and then a heap type

-- number and vector types
abbrev pub number_rows : List (ℕ × ValType ℕ)
number_rows = (0x7f, I32) ∷ (0x7e, I64) ∷ (0x7d, F32) ∷ (0x7c, F64) ∷ (0x7b, V128) ∷ []

-- the byte of an abstract heap type is also the value type of a nullable reference to it
abbrev pub nullable_to : AbstractHeapType → ValType ℕ
nullable_to a = Ref (record { nullable = true; heap_type = Abstract a })

unfoldable pub value_at : ℕ → Option (ValType ℕ)
value_at b = first_some (row_at number_rows b) (option_map nullable_to (heap_at b))

abbrev pub nullable_rows : List (ℕ × Bool)
nullable_rows = (0x63, true) ∷ (0x64, false) ∷ []

unfoldable pub nullable_at : ℕ → Option Bool
nullable_at b = row_at nullable_rows b

abbrev pub reference : Bool × HeapType ℕ → Result (ValType ℕ) ReadFault
reference parts = Ok (Ref (record { nullable = parts.0; heap_type = parts.1 }))

abbrev pub IsValueType : Spelling (ValType ℕ)
IsValueType =
    Switch (λ b. is_listed (nullable_at b))
    (Made (Then (Made IsByte (λ b. listed (nullable_at b))) (λ nullable. IsHeapType)) reference)
    (Made IsByte (λ b. listed (value_at b)))

abbrev pub value_type : Reader (ValType ℕ)
value_type =
    switch (λ b. is_listed (nullable_at b))
    (made (then_read (made byte (λ b. listed (nullable_at b))) (λ nullable. heap_type)) reference)
    (made byte (λ b. listed (value_at b)))

-- ---- block types: 0x40, a value type, or a type index; a first byte that a value type can have means a value type

abbrev pub starts_value_type : ℕ → Bool
starts_value_type b = is_listed (value_at b) || is_listed (nullable_at b)

abbrev pub empty_block : ℕ → Result BlockType ReadFault
empty_block b = Ok Empty

abbrev pub value_block : ValType ℕ → Result BlockType ReadFault
value_block type = Ok (Value type)

abbrev pub indexed_block : ℤ → Result BlockType ReadFault
indexed_block z = type_index z >>= λ n. Ok (FuncType n)

abbrev pub IsBlockType : Spelling BlockType
IsBlockType = Switch (λ b. b == 0x40) (Made IsByte empty_block) (Switch starts_value_type (Made IsValueType value_block) (Made IsS33 indexed_block))

abbrev pub block_type : Reader BlockType
block_type = switch (λ b. b == 0x40) (made byte empty_block) (switch starts_value_type (made value_type value_block) (made s33 indexed_block))
