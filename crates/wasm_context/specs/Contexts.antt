-- Contexts, as the code has them.
use Rattle.std.specs.Prelude.{ℕ, suc, List, [], ◌∷◌, map, Bool, true, false}
use Rattle.wasm_types.specs.declared.val_type.ValType.{ValType}
use Rattle.walrus_ir.specs.Types.{Signature, signature}
use Rattle.std.specs.Result.{result_unwrap_or}
use Rattle.wasm_typing.specs.Contexts as standard
use Rattle.wasm_typing.specs.Contexts.{OperandContext}
use Rattle.wasm_context.specs.declared.context.AddressType.{AddressType}
use Rattle.wasm_context.specs.declared.context.AddressType.TheVariants as address
use Rattle.wasm_context.specs.declared.context.Context.{Context}
use Rattle.wasm_context.specs.declared.context.GlobalType.{GlobalType}
use Rattle.wasm_context.specs.declared.context.TableType.{TableType}
use Rattle.wasm_context.specs.declared.types.CompositeType.{CompositeType}
use Rattle.wasm_context.specs.declared.types.CompositeType.TheVariants as composite
use Rattle.wasm_context.specs.declared.types.DefinedType.{DefinedType}
use Rattle.wasm_context.specs.declared.types.FieldType.{FieldType}
use Rattle.wasm_context.specs.declared.types.StorageType.{StorageType}
use Rattle.wasm_context.specs.declared.types.StorageType.TheVariants as storage
use Rattle.wasm_context.specs.Validation.{BodyContext}

abbrev pub storage_of : StorageType → standard.StorageType
storage_of storage.I8 = standard.I8
storage_of storage.I16 = standard.I16
storage_of (storage.Value t) = standard.Unpacked t

abbrev pub field_of : FieldType → standard.FieldType
field_of f = record { mutable = f.mutable; storage = storage_of f.storage }

abbrev pub composite_in : CompositeType → standard.CompositeType
composite_in (composite.Function params results) = standard.Function (signature params.items results.items)
composite_in (composite.Struct fields) = standard.Struct (map field_of fields.items)
composite_in (composite.Array element) = standard.Array (field_of element)

abbrev pub defined_of : DefinedType → standard.DefinedType
defined_of t = record { composite = composite_in t.composite; supertype = t.supertype; first = t.first }

abbrev pub address_of : AddressType → standard.AddressType
address_of address.Address32 = standard.Address32
address_of address.Address64 = standard.Address64

abbrev pub table_of : TableType → standard.TableType
table_of t = record { address = address_of t.address; element = t.element }

abbrev pub global_type_in : GlobalType → standard.GlobalType
global_type_in g = record { mutable = g.mutable; type = g.ty }

-- the numbers from n on at which the list has true
abbrev pub marked_from : ℕ → List Bool → List ℕ
marked_from n [] = []
marked_from n (true ∷ bs) = n ∷ marked_from (suc n) bs
marked_from n (false ∷ bs) = marked_from (suc n) bs

-- the types of the locals of a function
abbrev pub Locals : Type 0
Locals = List (ValType ℕ)

-- the context of a function with these locals
abbrev pub operands_in : Context → (locals : Locals) → OperandContext
operands_in c locals = record {
  types = map defined_of c.types.items;
  functions = c.functions.items;
  referenced = marked_from 0 c.referenced.items;
  tables = map table_of c.tables.items;
  memories = map address_of c.memories.items;
  globals = map global_type_in c.globals.items;
  elements = c.elements.items;
  data_segments = c.data_segments;
  locals = locals;
}

-- the context outside of functions
abbrev pub without_locals : Context → OperandContext
without_locals c = operands_in c []

-- the types of a function type, by its index; none if it isn't one
abbrev pub signature_at : Context → ℕ → Signature
signature_at c n = result_unwrap_or (standard.function_type_in (without_locals c) n) (signature [] [])

abbrev pub params_at : Context → ℕ → Locals
params_at c n = (signature_at c n).parameters

abbrev pub results_at : Context → ℕ → Locals
results_at c n = (signature_at c n).results

abbrev pub context_of : Context → (locals : Locals) → BodyContext
context_of c locals = record { operands = operands_in c locals; tags = c.tags.items }
