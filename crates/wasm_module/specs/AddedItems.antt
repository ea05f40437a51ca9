-- Items that are added to sections (WebAssembly core specification 3.0, binary format, modules): their bytes, each number in its
-- shortest encoding.
use Rattle.std.specs.Prelude.{◌≡◌, ◌≢◌, ◌⊎◌, ◌+◌, ◌||◌, ℕ, ℤ, Bool, true, false, is_some, List, ◌∷◌, ◌++◌, length, Option, Some, None, Ok, IsOk, IsErr}
use Rattle.std.specs.List.{flat_map}
use Rattle.wasm_types.specs.declared.val_type.ValType.{ValType}
use Rattle.walrus_ir.specs.declared.value.Value.TheVariants.{I32}
use Rattle.wasm_numbers.specs.Numbers.{u32}
use Rattle.wasm_numbers.specs.Results.{each}
use Rattle.walrus_ir.specs.Types.{ModuleType, find}
use Rattle.wasm_operators.specs.declared.types.Space.{Space}
use Rattle.wasm_operators.specs.declared.types.Space.TheVariants.{Types}
use Rattle.wasm_operators.specs.Shortest.{short_number, short_value}
use Rattle.wasm_body.specs.Translation.{translate_value}
use Rattle.walrus_maps.specs.declared.ids_to_indices.IdsToIndices.{IdsToIndices}
use Rattle.walrus_maps.specs.IndexMaps.{number_of}
use Rattle.wasm_sections.specs.declared.changes.Changes.{Changes}
use Rattle.wasm_module.specs.declared.parsed.ParsedModule.{ParsedModule}
use Rattle.wasm_sections.specs.DefinedItems.{ChangesNumbersOf, DefinesType}
use Rattle.wasm_sections.specs.Additions.{HasOneMore, AddsItem, contents_with}
use Rattle.wasm_sections.specs.CodeSections.{entry}
use Rattle.wasm_sections.specs.Constants.{constant_of}
use Rattle.wasm_sections.specs.Sections.{SectionAt, first_with}
use Rattle.wasm_sections.specs.Views.{IsExportKind, HasExport}
use Rattle.wasm_sections.specs.GivenContents.{contents_in}

-- ---- what an addition leaves of the module

-- Nothing of the module changes but the numbers of this index space, by which items are written, and the counts.
pub record ChangesNumbersAlone (space : Space) (old new : ParsedModule) : Type 0 where
  pub kept : new ≡ record old { spaces = new.spaces }
  pub numbers : ChangesNumbersOf space old.spaces new.spaces

-- ---- exports (binary format, export section)

-- an export: its name, the kind of what it names, and the index of that
abbrev pub export_of : (name : List ℕ) → (kind index : ℕ) → List ℕ
export_of name kind index = entry name ++ kind ∷ short_number index

-- What has this index in this index space is exported under a name.
abbrev pub AddsExport : (all : List SectionAt) → (old new : Changes) → (name : List ℕ) → Space → (index : ℕ) → Type 0
AddsExport all old new name space index = (kind : ℕ) × IsExportKind space kind × AddsItem all old new 7 (export_of name kind index)

-- An export of this section has this name.
abbrev pub SectionExports : (name : List ℕ) → Option SectionAt → Type 0
SectionExports name None = ⊥
SectionExports name (Some s) = HasExport name s.end s.contents

-- An export of these contents of an export section has this name.
abbrev pub GivenExports : (name : List ℕ) → Option (List ℕ) → Type 0
GivenExports name None = ⊥
GivenExports name (Some contents) = HasExport name (length contents) contents

-- An export of the source has this name, or one of those that are given. The names of exports differ (validation, modules).
abbrev pub IsExported : (all : List SectionAt) → Changes → (name : List ℕ) → Type 0
IsExported all changes name = SectionExports name (first_with 7 all) ⊎ GivenExports name (contents_in changes.given.items 7)

-- ---- function types (binary format, types)

-- The text is a vector of value types: of these, where each type that they name has its number.
pub record IsWrittenTypes (numbers : IdsToIndices) (types : List (ValType ℕ)) (text : List ℕ) : Type 0 where
  pub raw : List (ValType ℕ)
  pub raw_is : each (translate_value (number_of numbers)) types ≡ Ok raw
  pub text_is : text ≡ short_number (length raw) ++ flat_map short_value raw

-- The text is a function type: 0x60, the vector of its parameters, and that of its results.
abbrev pub IsWrittenFunctionType : IdsToIndices → (parameters results : List (ValType ℕ)) → (text : List ℕ) → Type 0
IsWrittenFunctionType numbers parameters results text =
    (first second : List ℕ) × IsWrittenTypes numbers parameters first × IsWrittenTypes numbers results second
    × (text ≡ 0x60 ∷ (first ++ second))

-- A function type is added after the others.
abbrev pub AddsFunctionType : (all : List SectionAt) → ParsedModule → (old new : Changes) → (parameters results : List (ValType ℕ)) → Type 0
AddsFunctionType all source old new parameters results =
    (item : List ℕ) × IsWrittenFunctionType source.spaces.numbers parameters results item × AddsItem all old new 1 item

-- Types are added after the module's own, at most, and nothing else of it changes but its spaces.
abbrev pub ChangesTypesAndSpaces : (old new : ParsedModule) → Type 0
ChangesTypesAndSpaces old new = new ≡ record old { «module» = record old.module { types = new.module.types }; spaces = new.spaces }

-- The first function type with these parameters and results has this id. If it had an index before, nothing else has changed;
-- otherwise it is added, and has the next index.
pub record HasFunctionType (all : List SectionAt) (source now : ParsedModule) (old new : Changes) (parameters results : List (ValType ℕ)) (id : ℕ) : Type 0 where
  pub is_first : find now.module.types parameters results ≡ Some id
  pub more : List ModuleType
  pub types : now.module.types ≡ source.module.types ++ more
  pub kept : ChangesTypesAndSpaces source now
  pub had : IsOk (number_of source.spaces.numbers Types id) → (new ≡ old) × (now.spaces ≡ source.spaces)
  pub adds :
      IsErr (number_of source.spaces.numbers Types id) → AddsFunctionType all source old new parameters results
      × DefinesType id source.spaces now.spaces

-- ---- data segments (binary format, data section, data count section)

-- a segment that is put into memory 0, from this address on
abbrev pub active_data : (address : ℤ) → (bytes : List ℕ) → List ℕ
active_data address bytes = 0 ∷ (constant_of (I32 address) ++ entry bytes)

-- a segment that operators put into memories
abbrev pub passive_data : (bytes : List ℕ) → List ℕ
passive_data bytes = 1 ∷ entry bytes

-- The data count is the number of segments, if they are counted; otherwise it stays.
abbrev pub CountsData : (is_counted : Bool) → (count : ℕ) → (old new : Option (List ℕ)) → Type 0
CountsData false count old new = new ≡ old
CountsData true count old new = new ≡ Some (short_number count)

-- whether the module of these sections has a data count section, with these changes
abbrev pub has_data_count : (all : List SectionAt) → Changes → Bool
has_data_count all changes = is_some (contents_in changes.given.items 12) || is_some (first_with 12 all)

-- how many data segments the module of these sections has, with these changes
abbrev pub HasSegments : (all : List SectionAt) → Changes → (count : ℕ) → Type 0
HasSegments all changes count = (following : List ℕ) × (u32 (contents_with all changes 11) ≡ Ok (count, following))

-- A data segment is added after the others.
pub record AddsData (all : List SectionAt) (old new : Changes) (is_counted : Bool) (segment : List ℕ) : Type 0 where
  pub contents : List ℕ
  pub has_one_more : HasOneMore (contents_with all old 11) segment contents
  pub given : contents_in new.given.items 11 ≡ Some contents
  pub counts : CountsData is_counted (has_one_more.count + 1) (contents_in old.given.items 12) (contents_in new.given.items 12)
  pub others : (other : ℕ) → other ≢ 11 → other ≢ 12 → contents_in new.given.items other ≡ contents_in old.given.items other
  pub imports : new.imports ≡ old.imports
