-- A function that is imported besides those of the source: what becomes of the module and of the changes of its sections
-- (WebAssembly core specification 3.0, binary format, import section).
use Rattle.std.specs.Prelude.{◌≡◌, ◌≢◌, ◌+◌, ℕ, List, [], ◌∷◌, length, Option, Some, None, Ok}
use Rattle.wasm_operators.specs.declared.types.Space.TheVariants.{Types, Funcs}
use Rattle.walrus_maps.specs.IndexMaps.{number_of}
use Rattle.wasm_sections.specs.declared.changes.Changes.{Changes}
use Rattle.wasm_module.specs.declared.parsed.ParsedModule.{ParsedModule}
use Rattle.wasm_sections.specs.declared.sections.SectionKind.{SectionKind}
use Rattle.wasm_sections.specs.declared.sections.SectionKind.TheVariants as section
use Rattle.wasm_sections.specs.Additions.{AddsItem}
use Rattle.wasm_sections.specs.MovedFunctions.{AreMovedContents, ImportsOneMore, import_of}
use Rattle.wasm_sections.specs.Sections.{SectionAt, first_with, section_id}
use Rattle.wasm_sections.specs.GivenContents.{contents_in}

-- ---- sections

-- the contents that are given for a section, or those of the section of the source, if there are some
abbrev pub given_or_section : (given : Option (List ℕ)) → (source : Option SectionAt) → Option (List ℕ)
given_or_section (Some contents) source = Some contents
given_or_section None (Some section) = Some section.contents
given_or_section None None = None

-- the contents of the section with this id in a module of these sections, with these changes
abbrev pub contents_if : (all : List SectionAt) → Changes → (id : ℕ) → Option (List ℕ)
contents_if all changes id = given_or_section (contents_in changes.given.items id) (first_with id all)

-- The contents of a section of this kind, if there is one, and the new contents: the indices of functions are others.
abbrev pub AreMovedIf : (imported added : ℕ) → SectionKind → (old new : Option (List ℕ)) → Type 0
AreMovedIf imported added k None new = new ≡ None
AreMovedIf imported added k (Some old) None = ⊥
AreMovedIf imported added k (Some old) (Some new) = AreMovedContents imported added k old new

-- The indices of functions are others in the section of this kind, if there is one, and all other sections stay.
pub record MovesSection (imported added : ℕ) (all : List SectionAt) (k : SectionKind) (old new : Changes) : Type 0 where
  pub moved : AreMovedIf imported added k (contents_if all old (section_id k)) (contents_in new.given.items (section_id k))
  pub others : (id : ℕ) → id ≢ section_id k → contents_in new.given.items id ≡ contents_in old.given.items id

-- The indices of functions are others in the sections of these kinds, one after the other.
abbrev pub MoveSections : (imported added : ℕ) → List SectionAt → List SectionKind → (old new : Changes) → Type 0
MoveSections imported added all [] old new = (id : ℕ) → contents_in new.given.items id ≡ contents_in old.given.items id
MoveSections imported added all (k ∷ ks) old new =
    (middle : Changes) × MovesSection imported added all k old middle × MoveSections imported added all ks middle new

-- the sections that name functions, besides the code section and custom sections
abbrev pub naming_functions : List SectionKind
naming_functions = section.Table ∷ section.Global ∷ section.Export ∷ section.Start ∷ section.Element ∷ []

-- The item is added after all imports, of which so many are those of functions, and what names functions names the same ones.
pub record ImportsFunction (all : List SectionAt) (imported added : ℕ) (item : List ℕ) (old new : Changes) : Type 0 where
  pub moved : Changes
  pub moves : MoveSections imported added all naming_functions old moved
  pub adds : AddsItem all moved new (section_id section.Import) item

-- The changes import a function with this name from the module with the name `from`, of this type of the source.
pub record AddsImport (source : ParsedModule) (from name : List ℕ) (ty : ℕ) (all : List SectionAt) (old new : Changes) : Type 0 where
  pub type : ℕ
  pub type_is : number_of source.spaces.numbers Types ty ≡ Ok type
  pub imports : ImportsFunction all (source.imported + source.spaces.more_imports) 1 (import_of from name type) old new

-- ---- the module

-- One more function is imported: the module is the same, but for the written indices of functions.
pub record HasOneImportMore (old new : ParsedModule) : Type 0 where
  pub kept : new ≡ record old { spaces = new.spaces }
  pub imports : ImportsOneMore (length old.func_types.items) old.imported old.spaces new.spaces

-- A function has this index in the module that is written: its id, unless functions were imported besides those of the source.
pub record IsWrittenFunction (source : ParsedModule) (id index : ℕ) : Type 0 where
  pub same : source.spaces.more_imports ≡ 0 → index ≡ id
  pub moved : source.spaces.more_imports ≢ 0 → number_of source.spaces.numbers Funcs id ≡ Ok index

-- the id of the next function that is imported
abbrev pub IsNextFunction : ParsedModule → (id : ℕ) → Type 0
IsNextFunction source id = id ≡ length source.func_types.items + source.spaces.more_imports
