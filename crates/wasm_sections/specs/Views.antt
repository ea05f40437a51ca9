-- Views of a module that was read: the items of its sections, as they are in the file (WebAssembly core specification 3.0,
-- binary format, modules).
use Rattle.std.specs.Prelude.{◌≡◌, ◌≢◌, ◌<◌, ◌⊎◌, ◌+◌, ◌-◌, ℕ, zero, suc, List, [], ◌∷◌, ◌++◌, length, Bool, true, false, nat_lt, option_map, Option, Some, None, Result, Ok, Err}
use Rattle.wasm_numbers.specs.Numbers.{u32}
use Rattle.wasm_operators.specs.declared.types.Space.{Space}
use Rattle.wasm_sections.specs.declared.code.Bodies.{Bodies}
use Rattle.wasm_sections.specs.declared.code.Body.{Body}
use Rattle.wasm_sections.specs.declared.exports.Export.{Export}
use Rattle.wasm_sections.specs.declared.exports.Exports.{Exports}
use Rattle.wasm_sections.specs.declared.fault.ModuleError.{ModuleError}
use Rattle.wasm_sections.specs.declared.functions.Function.{Function}
use Rattle.wasm_sections.specs.declared.functions.Functions.{Functions}
use Rattle.wasm_sections.specs.declared.globals.DefinedGlobal.{DefinedGlobal}
use Rattle.wasm_sections.specs.declared.globals.GlobalType.{GlobalType}
use Rattle.wasm_sections.specs.declared.globals.Globals.{Globals}
use Rattle.wasm_sections.specs.declared.imports.Import.{Import}
use Rattle.wasm_sections.specs.declared.imports.Imported.{Imported}
use Rattle.wasm_sections.specs.declared.imports.Imports.{Imports}
use Rattle.wasm_sections.specs.declared.memories.DefinedMemory.{DefinedMemory}
use Rattle.wasm_sections.specs.declared.memories.Memories.{Memories}
use Rattle.wasm_sections.specs.declared.names.NamedFunction.{NamedFunction}
use Rattle.wasm_sections.specs.declared.names.NamedFunctions.{NamedFunctions}
use Rattle.wasm_sections.specs.declared.tables.DefinedTable.{DefinedTable}
use Rattle.wasm_sections.specs.declared.tables.TableType.{TableType}
use Rattle.wasm_sections.specs.declared.tables.Tables.{Tables}
use Rattle.wasm_sections.specs.declared.tags.DefinedTag.{DefinedTag}
use Rattle.wasm_sections.specs.declared.tags.Tags.{Tags}
use Rattle.wasm_sections.specs.declared.items.Items.{Items}
use Rattle.wasm_sections.specs.CodeSections.{TakesBody}
use Rattle.wasm_sections.specs.Format.{kind_of_export, export_part, import_part, table_part, limits_part, global_part, tag_part}
use Rattle.wasm_sections.specs.Parts.{Part}
use Rattle.wasm_sections.specs.Sections.{SectionAt}

-- ---- the items of a section

-- The contents of a section are a number of items, and these bytes of them, which end where the section ends. Without the section
-- there are no items.
abbrev pub HasItems : Option SectionAt → Items → Type 0
HasItems None s = s.count ≡ 0
HasItems (Some section) s = (u32 section.contents ≡ Ok (s.count, s.left.rest.now)) × (s.left.end ≡ section.end)

-- the number alone
abbrev pub HasSomeItems : Option SectionAt → (count : ℕ) → Type 0
HasSomeItems None count = count ≡ 0
HasSomeItems (Some section) count = (text : List ℕ) × (u32 section.contents ≡ Ok (count, text))

-- The function that a start section names (binary format, start section); none without the section.
abbrev pub HasStart : Option SectionAt → (function : Option ℕ) → Type 0
HasStart None function = function ≡ None
HasStart (Some section) function = (index : ℕ) × (following : List ℕ) × (u32 section.contents ≡ Ok (index, following)) × (function ≡ Some index)

-- the place where the items that are left begin
abbrev pub place_of_items : Items → ℕ
place_of_items s = s.left.end - length s.left.rest.now

-- ---- exports

-- the kind of an export that names something in this index space
abbrev pub IsExportKind : Space → (kind : ℕ) → Type 0
IsExportKind space kind = kind_of_export space ≡ Some kind

-- Of so many exports, with which the text begins, one has this name; those before it can be read.
abbrev pub IsAmongExports : (name : List ℕ) → (count end : ℕ) → (text : List ℕ) → Type 0
IsAmongExports name zero end text = ⊥
IsAmongExports name (suc count) end text =
    (x : List ℕ × Space × ℕ) × (following : List ℕ) × (export_part end text ≡ Ok (x, following))
    × ((x.0 ≡ name) ⊎ IsAmongExports name count end following)

-- An export of these contents of an export section, which end at this place, has this name.
abbrev pub HasExport : (name : List ℕ) → (end : ℕ) → (contents : List ℕ) → Type 0
HasExport name end contents =
    (count : ℕ) × (items : List ℕ) × (u32 contents ≡ Ok (count, items)) × IsAmongExports name count end items

-- ---- exports, imports, tables, memories, globals and tags, by how they are read

-- An item is taken from those that are left, if there is one: the value that their bytes begin with, and its place; the others
-- follow it. Or these bytes begin with no such item: this is the first fault, and then none is left.
abbrev pub TakesItem : {X V : Type 0} → Part V → (value : X → V) → (place : X → ℕ) → Items → Option (Result X ModuleError) → Items → Type 0
TakesItem part value place s None t = s.count ≡ 0
TakesItem part value place s (Some (Err e)) t = (part s.left.end s.left.rest.now ≡ Err e) × (0 < s.count) × (t.count ≡ 0)
TakesItem part value place s (Some (Ok x)) t =
    (part s.left.end s.left.rest.now ≡ Ok (value x, t.left.rest.now)) × (place x ≡ place_of_items s) × (t.left.end ≡ s.left.end)
    × (s.count ≡ t.count + 1)

abbrev pub export_value : Export → List ℕ × Space × ℕ
export_value x = (x.name.now, x.space, x.index)

abbrev pub TakesExport : Exports → Option (Result Export ModuleError) → Exports → Type 0
TakesExport s o t = TakesItem export_part export_value (λ x. x.at) s.items o t.items

abbrev pub import_value : Import → List ℕ × List ℕ × Imported
import_value x = (x.from.now, x.name.now, x.imported)

abbrev pub TakesImport : Imports → Option (Result Import ModuleError) → Imports → Type 0
TakesImport s o t = TakesItem import_part import_value (λ x. x.at) s.items o t.items

abbrev pub table_value : DefinedTable → TableType × Option (List ℕ)
table_value x = (x.ty, option_map (λ initial. initial.now) x.init)

abbrev pub TakesTable : Tables → Option (Result DefinedTable ModuleError) → Tables → Type 0
TakesTable s o t = TakesItem table_part table_value (λ x. x.at) s.items o t.items

abbrev pub TakesMemory : Memories → Option (Result DefinedMemory ModuleError) → Memories → Type 0
TakesMemory s o t = TakesItem limits_part (λ x. x.limits) (λ x. x.at) s.items o t.items

abbrev pub global_value : DefinedGlobal → GlobalType × List ℕ
global_value x = (x.ty, x.init.now)

abbrev pub TakesGlobal : Globals → Option (Result DefinedGlobal ModuleError) → Globals → Type 0
TakesGlobal s o t = TakesItem global_part global_value (λ x. x.at) s.items o t.items

abbrev pub TakesTag : Tags → Option (Result DefinedTag ModuleError) → Tags → Type 0
TakesTag s o t = TakesItem tag_part (λ x. x.ty) (λ x. x.at) s.items o t.items

-- ---- functions

-- The bodies are those of a code section with this contents, the first of the function with the index `first`. Without the section
-- nothing is said.
abbrev pub HasBodies : Option SectionAt → (first : ℕ) → Bodies → Type 0
HasBodies None first s = Unit {0}
HasBodies (Some section) first s =
    (count : ℕ) × (u32 section.contents ≡ Ok (count, s.left.rest.now)) × (s.left.end ≡ section.end) × (s.next ≡ first)

-- An imported function has no body, and any other the next one.
abbrev pub TakesBodyUnless : (is_imported : Bool) → Bodies → Option Body → Bodies → Type 0
TakesBodyUnless true s body t = (body ≡ None) × (t ≡ s)
TakesBodyUnless false s body t = TakesBody s body t

-- A function is taken from those that are left: the one with the next index. None if none is left.
abbrev pub TakesFunction : Functions → Option Function → Functions → Type 0
TakesFunction s None t = s.types.now ≡ []
TakesFunction s (Some f) t =
    (s.types.now ≡ f.ty ∷ t.types.now) × (f.index ≡ s.total - length s.types.now) × (t.total ≡ s.total)
    × (t.imported ≡ s.imported) × TakesBodyUnless (nat_lt f.index s.imported) s.bodies f.body t.bodies

-- ---- names of functions (appendix, name section)

-- The text is subsections, each an id, its size and its contents, up to the first one with this id, which has these contents.
pub data HasSubsection (id : ℕ) : (text contents : List ℕ) → Type 0 where
  first : {text contents : List ℕ} (sized following : List ℕ)
      → text ≡ id ∷ sized → u32 sized ≡ Ok (length contents, contents ++ following) → HasSubsection id text contents
  later : {text following contents : List ℕ} (other : ℕ) (sized passed : List ℕ)
      → text ≡ other ∷ sized → other ≢ id → u32 sized ≡ Ok (length passed, passed ++ following) → HasSubsection id following contents
      → HasSubsection id text contents

-- The items are those of the first subsection 1, after the name of the section; or there are none.
abbrev pub HasNames : (contents : List ℕ) → Items → Type 0
HasNames contents s =
    (s.count ≡ 0)
    ⊎ ((name following names : List ℕ) × (u32 contents ≡ Ok (length name, name ++ following)) × HasSubsection 1 following names
    × (u32 names ≡ Ok (s.count, s.left.rest.now)))

-- The text begins with the index of a function and its name, and these bytes follow it.
pub record BeginsNamed (text : List ℕ) (index : ℕ) (name following : List ℕ) : Type 0 where
  pub named : List ℕ
  pub index_is : u32 text ≡ Ok (index, named)
  pub name_is : u32 named ≡ Ok (length name, name ++ following)

-- A function with its name is taken from those that are left, unless it can't be read: the one at the front. None if none is left.
abbrev pub TakesNamed : NamedFunctions → Option (Result NamedFunction ModuleError) → NamedFunctions → Type 0
TakesNamed s None t = s.items.count ≡ 0
TakesNamed s (Some (Err e)) t = t.items.count ≡ 0
TakesNamed s (Some (Ok x)) t =
    BeginsNamed s.items.left.rest.now x.index x.name.now t.items.left.rest.now
    × (x.at ≡ place_of_items s.items) × (t.items.left.end ≡ s.items.left.end) × (s.items.count ≡ t.items.count + 1)
