-- What a module consists of, as far as bodies need it (WebAssembly core specification 3.0, binary format, modules), as a function
-- of its bytes: `module_of` is what they spell, or the first fault and its place.
use Rattle.std.specs.Prelude.{ℕ, zero, suc, ◌+◌, ◌-◌, ◌^◌, ◌==◌, nat_lt, nat_le, ◌&&◌, not, if◌then◌else◌, is_some, List, [], ◌∷◌, ◌++◌, length, bytes_eq, slice_get, Option, Some, None, Result, Ok, Err}
use Rattle.wasm_numbers.specs.Results.{◌>>=◌, with_fault}
use Rattle.wasm_body.specs.declared.error.ParseError.TheVariants as parse
use Rattle.wasm_operators.specs.declared.types.Space.{Space}
use Rattle.wasm_operators.specs.declared.types.Space.TheVariants as spaces
use Rattle.walrus_ir.specs.Types.{ModuleType, Func}
use Rattle.wasm_sections.specs.declared.fault.ModuleError.{ModuleError}
use Rattle.wasm_sections.specs.declared.fault.ModuleFault.{ModuleFault}
use Rattle.wasm_sections.specs.declared.fault.ModuleFault.TheVariants as fault
use Rattle.wasm_sections.specs.declared.imports.Imported.{Imported}
use Rattle.wasm_sections.specs.declared.imports.Imported.TheVariants as imported
use Rattle.wasm_sections.specs.Format.{name_part, table_part, limits_part, global_part, tag_part, imported_part, index_part, known_export_part, element_segment_part, data_segment_part, types_part}
use Rattle.wasm_sections.specs.Parts.{Part, fault_here, just, passed, ◌>=>◌, checked, repeated, whole_part, number, piece}
use Rattle.wasm_sections.specs.Sections.{section_part, rank_with}

-- ---- the items

-- Types and functions by index, the imported functions first; the number of these; the type of each tag; how many items the
-- other index spaces have; the number in the data count section, with its place; and the place where the code section ends, with its
-- contents. Data segments have an index if there is a data count section.
pub record Components : Type 0 where
  pub types : List ModuleType
  pub functions : List ℕ
  pub imported : ℕ
  pub tags : List ℕ
  pub tables : ℕ
  pub memories : ℕ
  pub globals : ℕ
  pub elements : ℕ
  pub datas : ℕ
  pub data_count : Option (ℕ × ℕ)
  pub code : Option (ℕ × List ℕ)

abbrev pub no_components : Components
no_components = record {
  types = [];
  functions = [];
  imported = 0;
  tags = [];
  tables = 0;
  memories = 0;
  globals = 0;
  elements = 0;
  datas = 0;
  data_count = None;
  code = None;
}

-- how many items an index space has
abbrev pub count_in : Components → Space → ℕ
count_in m spaces.Types = length m.types
count_in m spaces.Funcs = length m.functions
count_in m spaces.Tables = m.tables
count_in m spaces.Memories = m.memories
count_in m spaces.Globals = m.globals
count_in m spaces.Tags = length m.tags
count_in m spaces.Elements = m.elements
count_in m spaces.Data = m.datas

-- An index space has at most 2^32 items.
abbrev pub one_more_in : Space → Components → Components → Result Components ModuleFault
one_more_in space m more = if nat_lt (count_in m space) (2 ^ 32) then Ok more else Err fault.TooGreat

-- ---- functions and tags: the index of a function type

abbrev pub function_type_at : Option ModuleType → (index : ℕ) → Result ℕ ModuleFault
function_type_at None index = Err (fault.IndexOutOfRange spaces.Types index)
function_type_at (Some (Func parameters results)) index = Ok index
function_type_at (Some _) index = Err (fault.Parse parse.NotAFunctionType)

abbrev pub function_type_of : Components → (index : ℕ) → Result ℕ ModuleFault
function_type_of m index = function_type_at (slice_get m.types index) index

abbrev pub with_one_function : Components → (index : ℕ) → Result Components ModuleFault
with_one_function m index = function_type_of m index >>= λ type. one_more_in spaces.Funcs m (record m { functions = m.functions ++ type ∷ [] })

abbrev pub with_one_tag : Components → (index : ℕ) → Result Components ModuleFault
with_one_tag m index = function_type_of m index >>= λ type. one_more_in spaces.Tags m (record m { tags = m.tags ++ type ∷ [] })

abbrev pub with_one_table : Components → Result Components ModuleFault
with_one_table m = one_more_in spaces.Tables m (record m { tables = m.tables + 1 })

abbrev pub with_one_memory : Components → Result Components ModuleFault
with_one_memory m = one_more_in spaces.Memories m (record m { memories = m.memories + 1 })

abbrev pub with_one_global : Components → Result Components ModuleFault
with_one_global m = one_more_in spaces.Globals m (record m { globals = m.globals + 1 })

abbrev pub with_one_element : Components → Result Components ModuleFault
with_one_element m = one_more_in spaces.Elements m (record m { elements = m.elements + 1 })

-- a data segment, which has an index only if there is a data count section
abbrev pub with_one_data : Components → Result Components ModuleFault
with_one_data m = if is_some m.data_count then one_more_in spaces.Data m (record m { datas = m.datas + 1 }) else Ok m

-- ---- the items of a section, each at the place where it begins

abbrev pub with_one_import : Components → Imported → Result Components ModuleFault
with_one_import m (imported.Func index) = with_one_function m index >>= λ n. Ok (record n { imported = length n.functions })
with_one_import m (imported.Tag index) = with_one_tag m index
with_one_import m imported.Table = with_one_table m
with_one_import m imported.Memory = with_one_memory m
with_one_import m imported.Global = with_one_global m

-- an import, whose faults are after its names
abbrev pub import_step : Components → Part Components
import_step m = name_part >=> λ from. name_part >=> λ name. checked imported_part (with_one_import m)

abbrev pub export_step : Components → Part Components
export_step m = known_export_part (count_in m) >=> λ u. just m

-- the items of the section with this id, in the order of the standard
abbrev pub item_step : (id : ℕ) → Components → Part Components
item_step id m =
    if id == 2 then import_step m
    else if id == 3 then checked number (with_one_function m)
    else if id == 4 then checked table_part (λ x. with_one_table m)
    else if id == 5 then checked limits_part (λ x. with_one_memory m)
    else if id == 6 then checked global_part (λ x. with_one_global m)
    else if id == 7 then export_step m
    else if id == 9 then checked element_segment_part (λ x. with_one_element m)
    else if id == 13 then checked tag_part (with_one_tag m)
    else checked data_segment_part (λ x. with_one_data m)

abbrev pub items_part : (id : ℕ) → Components → Part Components
items_part id m = number >=> λ n. repeated (item_step id) n m

-- ---- the other sections

-- The type section: all types are read before a type index in them is looked up, since a type may name a later one.
abbrev pub few_types : List ModuleType → Result (List ModuleType) ModuleError
few_types all = if nat_le (length all) (2 ^ 32) then Ok all else Err (record { fault = fault.TooGreat; at = 0 })

abbrev pub type_section_part : Components → (end : ℕ) → (text : List ℕ) → Result Components ModuleError
type_section_part m end text =
    whole_part (types_part (2 ^ 64 - 1)) end text >>= few_types >>= λ all.
    types_part (length all) end text >>= λ x. Ok (record m { types = x.0 })

abbrev pub start_part : Components → Part Components
start_part m = index_part (count_in m spaces.Funcs) spaces.Funcs >=> λ u. just m

abbrev pub data_count_part : Components → Part Components
data_count_part m end text = (number >=> λ n. just (record m { data_count = Some (n, end - length text) })) end text

-- The code section has a body for each function that isn't imported; each is a size and so many bytes.
abbrev pub body_count_of : Components → ℕ
body_count_of m = length m.functions - m.imported

abbrev pub body_part : Part (List ℕ)
body_part = number >=> piece

abbrev pub as_many_bodies : Components → (count : ℕ) → Result ℕ ModuleFault
as_many_bodies m count = if count == body_count_of m then Ok count else Err fault.BodyCount

abbrev pub bodies_part : Components → Part (Unit {0})
bodies_part m = checked number (as_many_bodies m) >=> λ n. repeated (λ u. passed body_part) n tt

abbrev pub code_part : Components → Part Components
code_part m end text = (bodies_part m >=> λ u. just (record m { code = Some (end, text) })) end text

-- a custom section begins with a name
abbrev pub custom_section : Components → (end : ℕ) → (text : List ℕ) → Result Components ModuleError
custom_section m end text = name_part end text >>= λ x. Ok m

-- the contents of the section with this id
abbrev pub contents_of : (id : ℕ) → Components → (end : ℕ) → (text : List ℕ) → Result Components ModuleError
contents_of id m =
    if id == 0 then custom_section m
    else if id == 1 then type_section_part m
    else if id == 8 then whole_part (start_part m)
    else if id == 10 then whole_part (code_part m)
    else if id == 12 then whole_part (data_count_part m)
    else whole_part (items_part id m)

-- ---- sections (binary format, modules)

-- the sections of a module that are left, at most so many, after one of this rank
unfoldable pub sections_from : (most rank : ℕ) → Components → (end : ℕ) → (text : List ℕ) → Result Components ModuleError
sections_from most r m end [] = Ok m
sections_from zero r m end (b ∷ bytes) = Ok m
sections_from (suc most) r m end (b ∷ bytes) =
    section_part end (b ∷ bytes) >>= λ x.
    with_fault (fault_here end (b ∷ bytes)) (rank_with r x.0.0) >>= λ next.
    contents_of x.0.0 m (end - length x.1) x.0.1 >>= λ n. sections_from most next n end x.1

-- ---- the whole module

abbrev pub is_magic : List ℕ → Result (Unit {0}) ModuleFault
is_magic bytes = if bytes_eq bytes (0x00 ∷ 0x61 ∷ 0x73 ∷ 0x6d ∷ []) then Ok tt else Err fault.BadMagic

abbrev pub is_version : List ℕ → Result (Unit {0}) ModuleFault
is_version bytes = if bytes_eq bytes (0x01 ∷ 0x00 ∷ 0x00 ∷ 0x00 ∷ []) then Ok tt else Err fault.BadVersion

abbrev pub preamble_part : Part (Unit {0})
preamble_part = checked (piece 4) is_magic >=> λ u. checked (piece 4) is_version

-- The number in the data count section is that of the data segments.
abbrev pub data_agree : Components → Option (ℕ × ℕ) → Result Components ModuleError
data_agree m None = Ok m
data_agree m (Some count) = if count.0 == m.datas then Ok m else Err (record { fault = fault.DataCount; at = count.1 })

-- Each function that isn't imported has its body, and the data count is right.
abbrev pub counts_agree : Components → (end : ℕ) → Result Components ModuleError
counts_agree m end =
    if nat_lt 0 (body_count_of m) && not (is_some m.code) then Err (record { fault = fault.BodyCount; at = end }) else data_agree m m.data_count

-- what the bytes of a module spell, or the first fault
abbrev pub module_of : List ℕ → Result Components ModuleError
module_of bytes =
    preamble_part (length bytes) bytes >>= λ x.
    sections_from (length x.1) 0 no_components (length bytes) x.1 >>= λ m. counts_agree m (length bytes)
