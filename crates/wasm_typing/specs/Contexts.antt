-- What the types of operators depend on: the types and the index spaces of a module, by id, and the locals of the function (WebAssembly
-- core specification 3.0, section 2.3, types, and section 3.1, contexts). Labels, results and tags are those of the validation algorithm.
use Rattle.std.specs.Prelude.{ℕ, List, ◌++◌, Bool, true, false, ◌==◌, Option, option_map, unwrap_or, slice_get, filter, Ok, Err}
use Rattle.std.specs.List.{list_any, range_with_len}
use Rattle.std.specs.Prelude.{length}
use Rattle.wasm_types.specs.declared.val_type.RefType.{RefType}
use Rattle.wasm_types.specs.declared.val_type.ValType.{ValType}
use Rattle.wasm_types.specs.declared.val_type.ValType.TheVariants.{I32, I64, Ref}
use Rattle.wasm_numbers.specs.Results.{◌>>=◌}
use Rattle.walrus_ir.specs.Types.{Signature}
use Rattle.wasm_body.specs.Validity.{Checked, refused, required}

-- ---- types of a module

-- "storagetype": a value type, or a packed type
pub data StorageType : Type 0 where
  I8 : StorageType
  I16 : StorageType
  Unpacked : (type : ValType ℕ) → StorageType

-- "fieldtype"
pub record FieldType : Type 0 where
  pub mutable : Bool
  pub storage : StorageType

-- "comptype"
pub data CompositeType : Type 0 where
  Function : (signature : Signature) → CompositeType
  Struct : (fields : List FieldType) → CompositeType
  Array : (element : FieldType) → CompositeType

-- A type of the module: what it expands to ("expand"), the type that it declares as its supertype, and the first id of the same type
-- ("deftype"s that are equal), which is its own id if no type before it is the same.
pub record DefinedType : Type 0 where
  pub composite : CompositeType
  pub supertype : Option ℕ
  pub first : ℕ

-- ---- index spaces

-- "addrtype"
pub data AddressType : Type 0 where
  Address32 : AddressType
  Address64 : AddressType

pub record GlobalType : Type 0 where
  pub mutable : Bool
  pub type : ValType ℕ

pub record TableType : Type 0 where
  pub address : AddressType
  pub element : RefType ℕ

pub record OperandContext : Type 0 where
  pub types : List DefinedType
  pub functions : List ℕ  -- the type of each
  pub referenced : List ℕ  -- the functions that `ref.func` may name ("C.refs")
  pub tables : List TableType
  pub memories : List AddressType
  pub globals : List GlobalType
  pub elements : List (RefType ℕ)  -- element segments
  pub data_segments : ℕ  -- their number
  pub locals : List (ValType ℕ)

-- ---- what a type of the module is

abbrev pub contains : ℕ → List ℕ → Bool
contains n ns = list_any (λ m. n == m) ns

abbrev pub composite_of : OperandContext → ℕ → Option CompositeType
composite_of c id = option_map (λ t. t.composite) (slice_get c.types id)

abbrev pub as_function : CompositeType → Checked Signature
as_function (Function s) = Ok s
as_function _ = Err refused

abbrev pub as_struct : CompositeType → Checked (List FieldType)
as_struct (Struct fs) = Ok fs
as_struct _ = Err refused

abbrev pub as_array : CompositeType → Checked FieldType
as_array (Array f) = Ok f
as_array _ = Err refused

abbrev pub function_type_in : OperandContext → ℕ → Checked Signature
function_type_in c id = required (composite_of c id) >>= as_function

abbrev pub struct_type : OperandContext → ℕ → Checked (List FieldType)
struct_type c id = required (composite_of c id) >>= as_struct

abbrev pub array_type : OperandContext → ℕ → Checked FieldType
array_type c id = required (composite_of c id) >>= as_array

-- ---- values of types

-- the type of an address
abbrev pub address : AddressType → ValType ℕ
address Address32 = I32
address Address64 = I64

-- "min"
abbrev pub narrower : AddressType → AddressType → AddressType
narrower Address64 Address64 = Address64
narrower _ _ = Address32

abbrev pub address_bits : AddressType → ℕ
address_bits Address32 = 32
address_bits Address64 = 64

-- "unpack"
abbrev pub unpacked : StorageType → ValType ℕ
unpacked (Unpacked t) = t
unpacked _ = I32

abbrev pub is_packed : StorageType → Bool
is_packed (Unpacked t) = false
is_packed _ = true

-- "numtype" or "vectype"
abbrev pub is_number : ValType ℕ → Bool
is_number (Ref r) = false
is_number _ = true

-- "defaultable": each but references that may not be null
abbrev pub has_default : ValType ℕ → Bool
has_default (Ref r) = r.nullable
has_default _ = true

-- the locals that are initialised where a function with these arguments begins: its arguments, and locals whose type has a default
abbrev pub initial_locals : OperandContext → (arguments : List ℕ) → List ℕ
initial_locals c arguments = arguments ++ filter (λ n. unwrap_or (option_map has_default (slice_get c.locals n)) false) (range_with_len 0 (length c.locals))
