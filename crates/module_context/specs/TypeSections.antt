-- The types that a type section defines (WebAssembly core specification 3.0, sections 5.3 and 5.5, from composite types to the type section).
use Rattle.std.specs.Prelude.{ℕ, ◌+◌, ◌==◌, ◌^◌, if◌then◌else◌, nat_lt, Bool, true, List, [], ◌∷◌, ◌++◌, length, Option, Some, None, Result, Ok, Err}
use Rattle.std.specs.List.{flat_map, list_all}
use Rattle.walrus_ir.specs.Types.{signature}
use Rattle.wasm_numbers.specs.Reading.{starts}
use Rattle.wasm_numbers.specs.Results.{◌>>=◌}
use Rattle.wasm_typing.specs.Contexts.{StorageType, I8, I16, Unpacked, FieldType, CompositeType, Function, Struct, Array, DefinedType}
use Rattle.wasm_typing.specs.RecursiveTypes.{DeclaredType, Group, defined_types}
use Rattle.wasm_context.specs.Declarations.{declared_within}
use Rattle.wasm_context.specs.ValidTypes.{are_valid_types}
use Rattle.wasm_sections.specs.declared.fault.ModuleError.{ModuleError}
use Rattle.wasm_sections.specs.declared.fault.ModuleFault.{ModuleFault}
use Rattle.wasm_sections.specs.declared.fault.ModuleFault.TheVariants as fault
use Rattle.wasm_sections.specs.Format.{value_part, mutability_part, is_packed_byte, composite_byte, has_supertypes, members_part}
use Rattle.wasm_sections.specs.Parts.{Part, just, ◌>=>◌, checked, repeated, whole_part, one_byte, number, vector_of}
use Rattle.module_context.specs.InvalidFaults.{invalid_type}

-- ---- a composite type

-- "packtype"
abbrev pub packed_storage : (b : ℕ) → StorageType
packed_storage b = if b == 0x78 then I8 else I16

-- "storagetype"
abbrev pub storage_type_part : Part StorageType
storage_type_part end text =
    if starts is_packed_byte text then (one_byte >=> λ b. just (packed_storage b)) end text else (value_part >=> λ t. just (Unpacked t)) end text

-- "fieldtype"
abbrev pub field_type_part : Part FieldType
field_type_part = storage_type_part >=> λ s. mutability_part >=> λ m. just (record { mutable = m; storage = s })

-- "functype", after its first byte
abbrev pub function_lists_part : Part CompositeType
function_lists_part = vector_of value_part >=> λ ps. vector_of value_part >=> λ rs. just (Function (signature ps rs))

-- what follows the first byte of a "comptype"
abbrev pub composite_type_after : (b : ℕ) → Part CompositeType
composite_type_after b =
    if b == 0x60 then function_lists_part
    else if b == 0x5f then (vector_of field_type_part >=> λ fs. just (Struct fs))
    else (field_type_part >=> λ f. just (Array f))

abbrev pub composite_type_part : Part CompositeType
composite_type_part = checked one_byte composite_byte >=> composite_type_after

-- ---- a type as it is declared ("subtype"), with at most one supertype

abbrev pub only_supertype : List ℕ → Result (Option ℕ) ModuleFault
only_supertype [] = Ok None
only_supertype (n ∷ []) = Ok (Some n)
only_supertype _ = Err invalid_type

abbrev pub subtype_with : (final : Bool) → Part DeclaredType
subtype_with final =
    checked (vector_of number) only_supertype >=> λ s. composite_type_part >=> λ c. just (record { final = final; supertype = s; composite = c })

-- without a mark the type is final, and declares no supertype
abbrev pub declared_type_part : Part DeclaredType
declared_type_part end text =
    if starts has_supertypes text then (one_byte >=> λ b. subtype_with (b == 0x4f)) end text
    else (composite_type_part >=> λ c. just (record { final = true; supertype = None; composite = c })) end text

-- ---- recursive groups ("rectype")

abbrev pub with_declared_type : Group → Part Group
with_declared_type g = declared_type_part >=> λ t. just (g ++ t ∷ [])

abbrev pub group_part : Part Group
group_part = members_part >=> λ n. repeated with_declared_type n []

-- the number of types of these groups
abbrev pub type_count_of : List Group → ℕ
type_count_of gs = length (flat_map (λ g. g) gs)

-- No type of a group after so many types names one after the group's last, and there are fewer than 2^32 types.
abbrev pub closed_group : (before : ℕ) → Group → Result Group ModuleFault
closed_group before g =
    if nat_lt (before + length g) (2 ^ 32) then
    (if list_all (declared_within (before + length g)) g then Ok g else Err invalid_type)
    else Err fault.TooGreat

abbrev pub with_group : List Group → Part (List Group)
with_group gs = checked group_part (closed_group (type_count_of gs)) >=> λ g. just (gs ++ g ∷ [])

abbrev pub groups_part : Part (List Group)
groups_part = number >=> λ n. repeated with_group n []

abbrev pub if_valid_types : List Group → Result (List Group) ModuleFault
if_valid_types gs = if are_valid_types gs then Ok gs else Err invalid_type

-- the groups of a type section, which are valid; a fault of the whole is where the section's contents begin
abbrev pub type_groups : (end : ℕ) → (text : List ℕ) → Result (List Group) ModuleError
type_groups = whole_part (checked groups_part if_valid_types)

-- the types that it defines
abbrev pub section_types : (end : ℕ) → (text : List ℕ) → Result (List DefinedType) ModuleError
section_types end text = type_groups end text >>= λ gs. Ok (defined_types gs)
