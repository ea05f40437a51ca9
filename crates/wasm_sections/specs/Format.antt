-- What the sections of a module consist of (WebAssembly core specification 3.0, binary format, types and modules), as functions
-- of the bytes: names, types, imports, tables, memories, globals, tags, exports, constant expressions and segments.
use Rattle.std.specs.Prelude.{ℕ, zero, suc, ◌-◌, ◌==◌, nat_lt, nat_le, ◌%◌, ◌&&◌, ◌||◌, Bool, true, false, if◌then◌else◌, List, [], ◌∷◌, ◌++◌, length, Option, Some, None, Result, Ok, Err}
use Rattle.std.specs.Str.{is_utf8}
use Rattle.wasm_types.specs.declared.val_type.HeapType.{HeapType}
use Rattle.wasm_types.specs.declared.val_type.HeapType.TheVariants.{Abstract, Concrete}
use Rattle.wasm_types.specs.declared.val_type.ValType.{ValType}
use Rattle.wasm_types.specs.declared.val_type.ValType.TheVariants.{Ref}
use Rattle.wasm_numbers.specs.declared.fault.ReadFault.TheVariants as unread
use Rattle.wasm_numbers.specs.Numbers.{u64}
use Rattle.wasm_numbers.specs.Reading.{starts}
use Rattle.wasm_numbers.specs.Results.{◌>>=◌, with_fault, some_or}
use Rattle.wasm_operators.specs.declared.types.Opcode.{Opcode}
use Rattle.wasm_operators.specs.declared.types.Opcode.TheVariants.{Byte, Prefixed}
use Rattle.wasm_operators.specs.declared.types.Space.{Space}
use Rattle.wasm_operators.specs.declared.types.Space.TheVariants as spaces
use Rattle.wasm_operators.specs.Operations.{RawOperation}
use Rattle.wasm_operators.specs.Spelling.{read_operation}
use Rattle.wasm_operators.specs.Types.{value_type, row_at}
use Rattle.wasm_body.specs.declared.error.IndexError.{IndexError}
use Rattle.walrus_maps.specs.declared.indices_to_ids.IndicesToIds.{IndicesToIds}
use Rattle.walrus_maps.specs.IndexMaps.{id_of}
use Rattle.walrus_ir.specs.Types.{ModuleType, Func, Other}
use Rattle.wasm_sections.specs.declared.fault.ModuleFault.{ModuleFault}
use Rattle.wasm_sections.specs.declared.fault.ModuleFault.TheVariants as fault
use Rattle.wasm_sections.specs.declared.globals.GlobalType.{GlobalType}
use Rattle.wasm_sections.specs.declared.imports.Imported.{Imported}
use Rattle.wasm_sections.specs.declared.imports.Imported.TheVariants as imported
use Rattle.wasm_sections.specs.declared.limits.Flags.{Flags}
use Rattle.wasm_sections.specs.declared.limits.Limits.{Limits}
use Rattle.wasm_sections.specs.declared.tables.TableType.{TableType}
use Rattle.wasm_sections.specs.declared.types.TypeKind.{TypeKind}
use Rattle.wasm_sections.specs.declared.types.TypeKind.TheVariants as kinds
use Rattle.wasm_sections.specs.Parts.{Part, fault_here, just, passed, ◌>=>◌, checked, repeated, extent, item, number, one_byte, bytes_part, vector_of}

-- ---- names (values, names)

abbrev pub text_if_utf8 : List ℕ → Result (List ℕ) ModuleFault
text_if_utf8 bytes = if is_utf8 bytes then Ok bytes else Err fault.BadName

-- a vector of bytes that is UTF-8
abbrev pub name_part : Part (List ℕ)
name_part = checked bytes_part text_if_utf8

-- ---- types of values, limits, mutability (types)

abbrev pub value_part : Part (ValType ℕ)
value_part = item value_type

abbrev pub reference_alone : ValType ℕ → Result (ValType ℕ) ModuleFault
reference_alone (Ref r) = Ok (Ref r)
reference_alone _ = Err (fault.Read unread.BadType)

-- a reference type
abbrev pub reference_part : Part (ValType ℕ)
reference_part = checked value_part reference_alone

-- what the flags of limits say: whether there is a maximum, whether a memory is shared (the proposal for threads), and whether
-- the numbers have 64 bits
abbrev pub limit_rows : List (ℕ × (Bool × Bool × Bool))
limit_rows =
    (0, (false, false, false)) ∷
    (1, (true, false, false)) ∷
    (3, (true, true, false)) ∷
    (4, (false, false, true)) ∷
    (5, (true, false, true)) ∷
    (7, (true, true, true)) ∷
    []

abbrev pub limit_flags : ℕ → Result (Bool × Bool × Bool) ModuleFault
limit_flags b = some_or (row_at limit_rows b) fault.BadLimits

-- a number of limits
abbrev pub size_part : (is_64 : Bool) → Part ℕ
size_part true = item u64
size_part false = number

abbrev pub maximum_part : (has_max is_64 : Bool) → Part (Option ℕ)
maximum_part false is_64 = just None
maximum_part true is_64 = size_part is_64 >=> λ max. just (Some max)

abbrev pub limits_with : Bool × Bool × Bool → Part Limits
limits_with flags =
    size_part flags.2 >=> λ min. maximum_part flags.0 flags.2 >=> λ max.
    just (record { min = min; max = max; is_shared = flags.1; is_64 = flags.2 })

-- the flags, the minimum, and the maximum if there is one
abbrev pub limits_part : Part Limits
limits_part = checked one_byte limit_flags >=> limits_with

abbrev pub is_mutable_by : ℕ → Result Bool ModuleFault
is_mutable_by b = if b == 0 then Ok false else if b == 1 then Ok true else Err fault.BadMutability

abbrev pub mutability_part : Part Bool
mutability_part = checked one_byte is_mutable_by

-- ---- constant expressions (expressions; values are the bytes of the operators, with the `end`)

-- an operator; a fault is at its first byte
abbrev pub operator_part : Part RawOperation
operator_part end text = with_fault (λ f. fault_here end text (fault.Read f)) (read_operation text)

-- the operators that open, divide or leave a construct
abbrev pub is_control_opcode : Opcode → Bool
is_control_opcode (Prefixed p n) = false
is_control_opcode (Byte b) =
    (nat_le 0x02 b && nat_le b 0x07) || (b == 0x18) || (b == 0x19) || (b == 0x1f)

abbrev pub is_end_opcode : Opcode → Bool
is_end_opcode (Prefixed p n) = false
is_end_opcode (Byte b) = b == 0x0b

-- whether an operator is the `end`, if it may be in a constant expression
abbrev pub ends_constant : RawOperation → Result Bool ModuleFault
ends_constant o = if is_control_opcode o.opcode then Err fault.BadConstant else Ok (is_end_opcode o.opcode)

-- operators up to the `end`, at most so many
unfoldable pub operators_part : (most : ℕ) → Part (Unit {0})
operators_part zero end text = Err (fault_here end text (fault.Read unread.Truncated))
operators_part (suc n) end text =
    checked operator_part ends_constant end text >>= λ x. if x.0 then Ok (tt, x.1) else operators_part n end x.1

-- The bytes of a constant expression; each operator has at least one byte. Whether an operator is constant isn't asked.
abbrev pub constant_part : Part (List ℕ)
constant_part end text = extent (operators_part (length text)) end text

-- ---- tables, memories, globals and tags (modules)

abbrev pub table_type_part : Part TableType
table_type_part = reference_part >=> λ element. limits_part >=> λ limits. just (record { element = element; limits = limits })

-- what follows the two bytes with which a table with an initial value begins
abbrev pub after_table_mark : List ℕ → Option (List ℕ)
after_table_mark (b ∷ c ∷ bytes) = if (b == 0x40) && (c == 0x00) then Some bytes else None
after_table_mark _ = None

abbrev pub initialized_part : Part (TableType × List ℕ)
initialized_part = table_type_part >=> λ type. constant_part >=> λ initial. just (type, initial)

abbrev pub table_after : Option (List ℕ) → Part (TableType × Option (List ℕ))
table_after None end text = (table_type_part >=> λ type. just (type, None)) end text
table_after (Some marked) end text = (initialized_part >=> λ x. just (x.0, Some x.1)) end marked

-- a table: its type, and the initial value of its elements, if it has one
abbrev pub table_part : Part (TableType × Option (List ℕ))
table_part end text = table_after (after_table_mark text) end text

-- what comes before the initial value of a table: its type, after the mark if there is one; and whether there is an initial value
abbrev pub front_after : Option (List ℕ) → Part Bool
front_after None end text = (table_type_part >=> λ type. just false) end text
front_after (Some marked) end text = (table_type_part >=> λ type. just true) end marked

abbrev pub table_front_part : Part Bool
table_front_part end text = front_after (after_table_mark text) end text

abbrev pub global_type_part : Part GlobalType
global_type_part = value_part >=> λ value. mutability_part >=> λ is_mutable. just (record { value = value; is_mutable = is_mutable })

-- a global: its type, and its initial value
abbrev pub global_part : Part (GlobalType × List ℕ)
global_part = global_type_part >=> λ type. constant_part >=> λ initial. just (type, initial)

abbrev pub tag_attribute : ℕ → Result (Unit {0}) ModuleFault
tag_attribute b = if b == 0 then Ok tt else Err fault.BadTagAttribute

-- a tag: the byte 0, and the index of its type
abbrev pub tag_part : Part ℕ
tag_part = checked one_byte tag_attribute >=> λ u. number

-- ---- imports (modules, import section)

-- what is imported, by its kind
abbrev pub imported_of : (kind : ℕ) → Part Imported
imported_of kind =
    if kind == 0 then (number >=> λ type. just (imported.Func type))
    else if kind == 1 then (table_type_part >=> λ type. just imported.Table)
    else if kind == 2 then (limits_part >=> λ limits. just imported.Memory)
    else if kind == 3 then (global_type_part >=> λ type. just imported.Global)
    else (tag_part >=> λ type. just (imported.Tag type))

abbrev pub import_kind : ℕ → Result ℕ ModuleFault
import_kind kind = if nat_le kind 4 then Ok kind else Err fault.BadImportKind

abbrev pub imported_part : Part Imported
imported_part = checked one_byte import_kind >=> imported_of

-- what is imported, after its names, and the place after them
abbrev pub at_place : {A : Type 0} → Part A → Part (A × ℕ)
at_place part end text = part end text >>= λ x. Ok ((x.0, end - length text), x.1)

abbrev pub placed_import_part : Part (Imported × ℕ)
placed_import_part = name_part >=> λ from. name_part >=> λ name. at_place imported_part

-- an import: the name of its module, its own name, and what it is
abbrev pub import_part : Part (List ℕ × List ℕ × Imported)
import_part = name_part >=> λ from. name_part >=> λ name. imported_part >=> λ it. just (from, name, it)

-- ---- exports (modules, export section)

abbrev pub export_rows : List (ℕ × Space)
export_rows = (0, spaces.Funcs) ∷ (1, spaces.Tables) ∷ (2, spaces.Memories) ∷ (3, spaces.Globals) ∷ (4, spaces.Tags) ∷ []

abbrev pub export_space : (kind : ℕ) → Result Space ModuleFault
export_space kind = some_or (row_at export_rows kind) fault.BadExportKind

-- the kind of an export of something in this index space, if there is one
abbrev pub kind_of_export : Space → Option ℕ
kind_of_export spaces.Funcs = Some 0
kind_of_export spaces.Tables = Some 1
kind_of_export spaces.Memories = Some 2
kind_of_export spaces.Globals = Some 3
kind_of_export spaces.Tags = Some 4
kind_of_export _ = None

-- an export: its name, and the index space and the index of what it names
abbrev pub export_part : Part (List ℕ × Space × ℕ)
export_part = name_part >=> λ name. checked one_byte export_space >=> λ space. number >=> λ index. just (name, space, index)

-- an index of a space that has so many items
abbrev pub index_among : (count : ℕ) → Space → (index : ℕ) → Result (Unit {0}) ModuleFault
index_among count space index = if nat_lt index count then Ok tt else Err (fault.IndexOutOfRange space index)

-- the same in an index map, in which an item has an id
abbrev pub id_found : IndicesToIds → Space → (index : ℕ) → Result (Unit {0}) IndexError
id_found m space index = id_of m space index >>= λ id. Ok tt

abbrev pub index_part : (count : ℕ) → Space → Part (Unit {0})
index_part count space = checked number (index_among count space)

-- an export of something that is there, by the number of items of each space
abbrev pub known_export_part : (counts : Space → ℕ) → Part (Unit {0})
known_export_part counts = name_part >=> λ name. checked one_byte export_space >=> λ space. index_part (counts space) space

-- ---- element and data segments (modules)

abbrev pub flags_up_to : (most : ℕ) → ℕ → Result ℕ ModuleFault
flags_up_to most flags = if nat_le flags most then Ok flags else Err fault.BadSegmentFlags

abbrev pub element_kind_byte : ℕ → Result (Unit {0}) ModuleFault
element_kind_byte b = if b == 0 then Ok tt else Err fault.BadElementKind

-- the flags of an element segment, and the index of its table, where bit 0 is clear and bit 1 is set
abbrev pub element_flags_part : Part ℕ
element_flags_part =
    checked number (flags_up_to 7) >=> λ flags.
    if (flags % 4) == 2 then (number >=> λ table. just flags) else just flags

-- its kind, or from flag 4 on the type of its elements, where bit 0 or 1 is set
abbrev pub element_kind_part : (is_type : Bool) → Part (Unit {0})
element_kind_part true = passed reference_part
element_kind_part false = checked one_byte element_kind_byte

abbrev pub element_type_part : (flags : ℕ) → Part (Unit {0})
element_type_part flags = if (flags % 4) == 0 then just tt else element_kind_part (nat_le 4 flags)

-- its offset, where bit 0 is clear
abbrev pub element_offset_part : (flags : ℕ) → Part (Unit {0})
element_offset_part flags = if (flags % 2) == 0 then passed constant_part else just tt

-- an element: an expression, from flag 4 on, or the index of a function
abbrev pub element_part : (are_expressions : Bool) → Part (Unit {0})
element_part true = passed constant_part
element_part false = passed number

abbrev pub elements_part : (are_expressions : Bool) → Part (Unit {0})
elements_part are_expressions = number >=> λ n. repeated (λ u. element_part are_expressions) n tt

abbrev pub before_elements_part : Part ℕ
before_elements_part =
    element_flags_part >=> λ flags. element_offset_part flags >=> λ u. element_type_part flags >=> λ u. just flags

-- an element segment
abbrev pub element_segment_part : Part (Unit {0})
element_segment_part = before_elements_part >=> λ flags. elements_part (nat_le 4 flags)

-- a data segment: its flags; the index of its memory, if they are 2; its offset, unless they are 1; and its bytes
abbrev pub data_memory_part : (flags : ℕ) → Part (Unit {0})
data_memory_part flags = if flags == 2 then passed number else just tt

abbrev pub data_offset_part : (flags : ℕ) → Part (Unit {0})
data_offset_part flags = if flags == 1 then just tt else passed constant_part

abbrev pub data_segment_part : Part (Unit {0})
data_segment_part =
    checked number (flags_up_to 2) >=> λ flags. data_memory_part flags >=> λ u. data_offset_part flags >=> λ u.
    bytes_part >=> λ bytes. just tt

-- ---- the type section (types; modules, type section)

abbrev pub heap_below : (limit : ℕ) → HeapType ℕ → Result (HeapType ℕ) ModuleFault
heap_below limit (Concrete index) = index_among limit spaces.Types index >>= λ u. Ok (Concrete index)
heap_below limit (Abstract heap) = Ok (Abstract heap)

abbrev pub type_below : (limit : ℕ) → ValType ℕ → Result (ValType ℕ) ModuleFault
type_below limit (Ref r) = heap_below limit r.heap_type >>= λ h. Ok (Ref r)
type_below limit type = Ok type

-- a value type, which names a type below the limit if it names one
abbrev pub value_below : (limit : ℕ) → Part (ValType ℕ)
value_below limit = checked value_part (type_below limit)

-- the type of a field: one of 8 or 16 bits, or a value type; and its mutability
abbrev pub is_packed_byte : ℕ → Bool
is_packed_byte b = (b == 0x77) || (b == 0x78)

abbrev pub storage_part : (limit : ℕ) → Part (Unit {0})
storage_part limit end text =
    if starts is_packed_byte text then passed one_byte end text else passed (value_below limit) end text

abbrev pub field_part : (limit : ℕ) → Part (Unit {0})
field_part limit = storage_part limit >=> λ u. mutability_part >=> λ is_mutable. just tt

-- the first byte of a composite type: a function type, a struct type, or an array type
abbrev pub composite_byte : ℕ → Result ℕ ModuleFault
composite_byte b = if nat_le 0x5e b && nat_le b 0x60 then Ok b else Err (fault.Read unread.BadType)

-- what follows it
abbrev pub composite_after : (limit b : ℕ) → Part ModuleType
composite_after limit b =
    if b == 0x60 then
    (vector_of (value_below limit) >=> λ parameters. vector_of (value_below limit) >=> λ results. just (Func parameters results))
    else if b == 0x5f then (number >=> λ n. repeated (λ u. field_part limit) n tt >=> λ u. just Other)
    else (field_part limit >=> λ u. just Other)

abbrev pub composite_part : (limit : ℕ) → Part ModuleType
composite_part limit = checked one_byte composite_byte >=> composite_after limit

-- a type with its supertypes, whose list is there after the bytes 0x4f (final) and 0x50
abbrev pub has_supertypes : ℕ → Bool
has_supertypes b = (b == 0x4f) || (b == 0x50)

abbrev pub supertypes_part : (limit : ℕ) → Part (Unit {0})
supertypes_part limit =
    one_byte >=> λ b. number >=> λ n. repeated (λ u. index_part limit spaces.Types) n tt

abbrev pub subtype_part : (limit : ℕ) → Part ModuleType
subtype_part limit end text =
    if starts has_supertypes text then (supertypes_part limit >=> λ u. composite_part limit) end text else composite_part limit end text

-- the number of types of a recursive group; a type alone is one
abbrev pub members_part : Part ℕ
members_part end text = if starts (λ b. b == 0x4e) text then (one_byte >=> λ b. number) end text else Ok (1, text)

-- the types of the groups so far, and those of the next group
abbrev pub next_type : (limit : ℕ) → List ModuleType → Part (List ModuleType)
next_type limit types = subtype_part limit >=> λ type. just (types ++ type ∷ [])

abbrev pub next_group : (limit : ℕ) → List ModuleType → Part (List ModuleType)
next_group limit types = members_part >=> λ n. repeated (next_type limit) n types

-- all types, in order
abbrev pub types_part : (limit : ℕ) → Part (List ModuleType)
types_part limit = number >=> λ n. repeated (next_group limit) n []

-- ---- for values of the code

-- the type that was read last, by its kind and the lists of a function type
abbrev pub type_read : TypeKind → (parameters results : List (ValType ℕ)) → ModuleType
type_read kinds.Func parameters results = Func parameters results
type_read kinds.Other parameters results = Other

abbrev pub flags_said : Flags → Bool × Bool × Bool
flags_said f = (f.has_max, f.is_shared, f.is_64)
