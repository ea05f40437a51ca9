-- Exports that are removed, renamed, or lead elsewhere; imports under other names; and the limits of memories and tables (WebAssembly
-- core specification 3.0, binary format, export section, import section, limits, table section).
use Rattle.std.specs.Prelude.{◌≡◌, ◌<◌, ◌⊎◌, ◌+◌, ◌*◌, ℕ, Bool, true, false, is_some, List, [], ◌∷◌, ◌++◌, take, length, ◌-◌, Option, Some, None, Result, Ok}
use Rattle.wasm_operators.specs.declared.types.Space.{Space}
use Rattle.wasm_operators.specs.Shortest.{short_number}
use Rattle.wasm_sections.specs.declared.changes.Changes.{Changes}
use Rattle.wasm_sections.specs.declared.limits.Limits.{Limits}
use Rattle.wasm_sections.specs.declared.sections.SectionKind.{SectionKind}
use Rattle.wasm_sections.specs.declared.sections.SectionKind.TheVariants as kind
use Rattle.wasm_sections.specs.Additions.{AreUnchanged}
use Rattle.wasm_sections.specs.CodeSections.{entry}
use Rattle.wasm_sections.specs.Format.{name_part, export_part, imported_part, after_table_mark, reference_part, constant_part, limits_part}
use Rattle.wasm_numbers.specs.Results.{◌>>=◌}
use Rattle.wasm_sections.specs.declared.fault.ModuleError.{ModuleError}
use Rattle.wasm_sections.specs.Parts.{Part, ◌>=>◌, extent, just, number}
use Rattle.wasm_sections.specs.Views.{HasExport, IsExportKind}
use Rattle.wasm_module.specs.AddedItems.{export_of}
use Rattle.module_items.specs.Items.{several_items}
use Rattle.module_items.specs.Replacing.{IsItemReplaced}

-- ---- exports

-- Of so many exports, with which the text begins, one has this name, after so many others; it names what has this index in this index
-- space.
pub record IsExportAmong (name : List ℕ) (place : ℕ) (space : Space) (index count end : ℕ) (text : List ℕ) : Type 0 where
  pub is_there : place < count
  pub before : List ℕ
  pub front : List ℕ
  pub passed : several_items kind.Export place end text ≡ Ok (before, front)
  pub following : List ℕ
  pub export : export_part end front ≡ Ok ((name, space, index), following)

-- The same of the contents of an export section.
abbrev pub HasExportAt : (name : List ℕ) → (place : ℕ) → Space → (index end : ℕ) → (contents : List ℕ) → Type 0
HasExportAt name place space index end contents =
    (count : ℕ) × (items : List ℕ) × (number end contents ≡ Ok (count, items)) × IsExportAmong name place space index count end items

-- The export with this name is found: its place among the others, and what it names. If none is found, none of these contents, which end at
-- this place, has the name.
abbrev pub FindsExport : (name : List ℕ) → (contents : Option (ℕ × List ℕ)) → (found : Option (ℕ × Space × ℕ)) → Type 0
FindsExport name None found = found ≡ None
FindsExport name (Some c) None = ¬ HasExport name c.0 c.1
FindsExport name (Some c) (Some x) = HasExportAt name x.0 x.1 x.2 c.0 c.1

-- No export of these contents, which end at this place, has this name, and nothing is changed; or one has it, and this holds of its place
-- among the others, and of what it names.
abbrev pub SeeksExport : (name : List ℕ) → (then : (contents : Option (ℕ × List ℕ)) → (place : ℕ) → Space → (index : ℕ) → Type 0) → (contents : Option (ℕ × List ℕ)) → (old new : Changes) → (is_there : Bool) → Type 0
SeeksExport name then None old new is_there = (is_there ≡ false) × AreUnchanged old new
SeeksExport name then (Some c) old new is_there =
    ((is_there ≡ false) × AreUnchanged old new × ¬ HasExport name c.0 c.1)
    ⊎ ((place : ℕ) × (space : Space) × (index : ℕ) × HasExportAt name place space index c.0 c.1 × then (Some c) place space index)

-- The export with this name is removed, if there is one.
abbrev pub IsExportRemoved : (name : List ℕ) → (contents : Option (ℕ × List ℕ)) → (old new : Changes) → (is_there : Bool) → Type 0
IsExportRemoved name contents old new is_there =
    SeeksExport name (λ c place space index. IsItemReplaced kind.Export place 0 [] c old new is_there) contents old new is_there

-- The item at this place gives way to an export with this name, of what has this index in this index space.
abbrev pub GivesWayTo : (place : ℕ) → (name : List ℕ) → Space → (index : ℕ) → (contents : Option (ℕ × List ℕ)) → (old new : Changes) → (is_there : Bool) → Type 0
GivesWayTo place name space index c old new is_there =
    (k : ℕ) × IsExportKind space k × IsItemReplaced kind.Export place 1 (export_of name k index) c old new is_there

-- The export with this name has another name, if there is one.
abbrev pub IsExportRenamed : (name other : List ℕ) → (contents : Option (ℕ × List ℕ)) → (old new : Changes) → (is_there : Bool) → Type 0
IsExportRenamed name other contents old new is_there =
    SeeksExport name (λ c place space index. GivesWayTo place other space index c old new is_there) contents old new is_there

-- The export with this name names what has this index in this index space, if there is such an export.
abbrev pub IsExportReplaced : (name : List ℕ) → Space → (index : ℕ) → (contents : Option (ℕ × List ℕ)) → (old new : Changes) → (is_there : Bool) → Type 0
IsExportReplaced name space index contents old new is_there =
    SeeksExport name (λ c place was old_index. GivesWayTo place name space index c old new is_there) contents old new is_there

-- An export of these contents has this name.
abbrev pub HasExportIn : (name : List ℕ) → (contents : Option (ℕ × List ℕ)) → Type 0
HasExportIn name None = ⊥
HasExportIn name (Some c) = HasExport name c.0 c.1

-- ---- an item that is made anew of what it was

-- After so many items of these contents come these bytes.
pub record IsItemFront (k : SectionKind) (place end : ℕ) (contents front : List ℕ) : Type 0 where
  pub count : ℕ
  pub items : List ℕ
  pub counted : number end contents ≡ Ok (count, items)
  pub is_there : place < count
  pub before : List ℕ
  pub passed : several_items k place end items ≡ Ok (before, front)

-- The item at this place of these contents is this, as this part of it is read.
pub record HasItemAt {X : Type 0} (k : SectionKind) (part : Part X) (place : ℕ) (x : X) (end : ℕ) (contents : List ℕ) : Type 0 where
  pub front : List ℕ
  pub at : IsItemFront k place end contents front
  pub following : List ℕ
  pub item : part end front ≡ Ok (x, following)

-- What is made of the item at this place, as its bytes; or there is no such item.
abbrev pub IsMadeOfItem :
    {X : Type 0} → (k : SectionKind) → (part : Part X) → (make : X → List ℕ) → (place : ℕ) → (contents : Option (ℕ × List ℕ)) → (made : Option (List ℕ)) → Type 0
IsMadeOfItem k part make place None made = made ≡ None
IsMadeOfItem {X = X} k part make place (Some c) None = ¬ ((x : X) × HasItemAt k part place x c.0 c.1)
IsMadeOfItem {X = X} k part make place (Some c) (Some bytes) = (x : X) × HasItemAt k part place x c.0 c.1 × (bytes ≡ make x)

-- The item at this place gives way to what is made of it, if there is such an item.
abbrev pub IsItemRemade :
    {X : Type 0} → (k : SectionKind) → (part : Part X) → (make : X → List ℕ) → (place : ℕ) → (contents : Option (ℕ × List ℕ)) → (old new : Changes) → (is_there : Bool) → Type 0
IsItemRemade k part make place None old new is_there = (is_there ≡ false) × AreUnchanged old new
IsItemRemade {X = X} k part make place (Some c) old new is_there =
    ((is_there ≡ false) × AreUnchanged old new × ¬ ((x : X) × HasItemAt k part place x c.0 c.1))
    ⊎ ((x : X) × HasItemAt k part place x c.0 c.1 × IsItemReplaced k place 1 (make x) (Some c) old new is_there)

-- ---- imports

-- what an import is, after its names, as its bytes
abbrev pub description_part : Part (List ℕ)
description_part = name_part >=> λ from. name_part >=> λ name. extent imported_part

-- an import with these names
abbrev pub import_written : (from name description : List ℕ) → List ℕ
import_written from name description = entry from ++ (entry name ++ description)

-- The import at this place has these names, and is what it was, if there is such an import.
abbrev pub IsImportRenamed : (place : ℕ) → (from name : List ℕ) → (contents : Option (ℕ × List ℕ)) → (old new : Changes) → (is_there : Bool) → Type 0
IsImportRenamed place from name = IsItemRemade kind.Import description_part (import_written from name) place

-- ---- limits

abbrev pub bit : Bool → ℕ
bit true = 1
bit false = 0

-- the number with which there is a maximum, with which a memory is shared, and with which sizes have 64 bits
abbrev pub limits_flag : Limits → ℕ
limits_flag l = bit (is_some l.max) + ((2 * bit l.is_shared) + (4 * bit l.is_64))

abbrev pub maximum_written : Option ℕ → List ℕ
maximum_written (Some max) = short_number max
maximum_written None = []

-- limits: their flag, the minimum, and the maximum if there is one
abbrev pub limits_written : Limits → List ℕ
limits_written l = limits_flag l ∷ (short_number l.min ++ maximum_written l.max)

-- ---- tables

-- the two bytes with which a table with an initial value begins, if it has one; whether it has one
abbrev pub mark_or_none : (marked : Option (List ℕ)) → (text : List ℕ) → Result (Bool × List ℕ) ModuleError
mark_or_none None text = Ok (false, text)
mark_or_none (Some marked) text = Ok (true, marked)

abbrev pub mark_part : Part Bool
mark_part end text = mark_or_none (after_table_mark text) text

-- what comes before the limits of a table, the type of its elements; whether the table has an initial value
abbrev pub before_limits_part : Part Bool
before_limits_part = mark_part >=> λ is_marked. reference_part >=> λ element. just is_marked

-- what comes after the limits of a table: its initial value, if it has one
abbrev pub after_limits_part : (is_marked : Bool) → Part (List ℕ)
after_limits_part true = constant_part
after_limits_part false = just []

-- the bytes of a table before its limits, and those after them
abbrev pub around_limits_part : Part (List ℕ × List ℕ)
around_limits_part end text =
    before_limits_part end text
    >>= λ x. (limits_part >=> λ limits. after_limits_part x.0 >=> λ after. just (take (length text - length x.1) text, after)) end x.1

-- a table with these limits
abbrev pub table_written : Limits → (around : List ℕ × List ℕ) → List ℕ
table_written limits around = around.0 ++ (limits_written limits ++ around.1)

-- The table at this place has these limits, and is else what it was, if there is such a table.
abbrev pub IsTableLimited : (place : ℕ) → Limits → (contents : Option (ℕ × List ℕ)) → (old new : Changes) → (is_there : Bool) → Type 0
IsTableLimited place limits = IsItemRemade kind.Table around_limits_part (table_written limits) place
