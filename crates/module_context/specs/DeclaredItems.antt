-- The types of imports and of element segments (WebAssembly core specification 3.0, section 5.5, import section and element section).
use Rattle.std.specs.Prelude.{ℕ, ◌==◌, ◌%◌, if◌then◌else◌, nat_le, Bool, true, false}
use Rattle.wasm_types.specs.declared.val_type.AbstractHeapType.TheVariants as heap
use Rattle.wasm_types.specs.declared.val_type.HeapType.TheVariants.{Abstract}
use Rattle.wasm_types.specs.declared.val_type.RefType.{RefType}
use Rattle.wasm_types.specs.declared.val_type.ValType.{ValType}
use Rattle.wasm_types.specs.declared.val_type.ValType.TheVariants.{Ref}
use Rattle.wasm_sections.specs.Format.{reference_part, table_type_part, limits_part, global_type_part, tag_part, name_part, import_kind, element_kind_byte, element_flags_part, element_offset_part, elements_part}
use Rattle.wasm_sections.specs.Parts.{Part, just, ◌>=>◌, checked, one_byte, number}
use Rattle.module_context.specs.declared.items.ImportType.{ImportType}
use Rattle.module_context.specs.declared.items.ImportType.TheVariants as import

-- "externtype", by its kind
abbrev pub import_type_of : (kind : ℕ) → Part ImportType
import_type_of kind =
    if kind == 0 then (number >=> λ type. just (import.Function type))
    else if kind == 1 then (table_type_part >=> λ type. just (import.Table type))
    else if kind == 2 then (limits_part >=> λ limits. just (import.Memory limits))
    else if kind == 3 then (global_type_part >=> λ type. just (import.Global type))
    else (tag_part >=> λ type. just (import.Tag type))

-- an import: what it is, after its names
abbrev pub import_type_part : Part ImportType
import_type_part = name_part >=> λ from. name_part >=> λ name. checked one_byte import_kind >=> import_type_of

-- a reference to a function
abbrev pub function_reference_type : (nullable : Bool) → RefType ℕ
function_reference_type nullable = record { nullable = nullable; heap_type = Abstract heap.Func }

-- the reference type that a value type is (of a reference type, that is)
abbrev pub reference_of : ValType ℕ → RefType ℕ
reference_of (Ref r) = r
reference_of _ = function_reference_type true

-- The type of the elements of a segment with these flags: references to functions that aren't null where indices follow, and which
-- may be null where expressions follow without a type.
abbrev pub element_reference_part : (flags : ℕ) → Part (RefType ℕ)
element_reference_part flags =
    if (flags % 4) == 0 then just (function_reference_type (nat_le 4 flags))
    else if nat_le 4 flags then (reference_part >=> λ t. just (reference_of t))
    else (checked one_byte element_kind_byte >=> λ u. just (function_reference_type false))

-- an element segment: the type of its elements
abbrev pub segment_type_part : Part (RefType ℕ)
segment_type_part =
    element_flags_part >=> λ flags. element_offset_part flags >=> λ u. element_reference_part flags >=> λ r.
    elements_part (nat_le 4 flags) >=> λ u. just r
