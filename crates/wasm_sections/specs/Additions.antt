-- Sections that are given new contents, and items that are added after those of a section (WebAssembly core specification 3.0,
-- binary format, modules: the contents of most sections are a vector of items).
use Rattle.std.specs.Prelude.{◌≡◌, ◌≢◌, ◌⊎◌, ◌+◌, ℕ, List, [], ◌∷◌, ◌++◌, length, take, get_or, Option, Some, None, Ok, Err}
use Rattle.wasm_numbers.specs.Numbers.{u32}
use Rattle.wasm_operators.specs.Shortest.{short_number}
use Rattle.wasm_sections.specs.declared.changes.Changes.{Changes}
use Rattle.wasm_sections.specs.declared.changes.NewContents.{NewContents}
use Rattle.wasm_sections.specs.declared.fault.ModuleError.{ModuleError}
use Rattle.wasm_sections.specs.declared.fault.ModuleFault.TheVariants as fault
use Rattle.wasm_sections.specs.Parts.{number}
use Rattle.wasm_sections.specs.Sections.{SectionAt, first_with, section_id}
use Rattle.wasm_sections.specs.CodeSections.{entry}
use Rattle.wasm_sections.specs.GivenContents.{contents_in, added_bodies}

-- Why nothing is written: memory ran out, or a number doesn't fit 32 bits.
abbrev pub IsTooMuch : ModuleError → Type 0
IsTooMuch e = (e.fault ≡ fault.Memory) ⊎ (e.fault ≡ fault.TooGreat)

-- Why no item is added to these contents: the same, or they don't begin with the number of their items.
abbrev pub IsNotAdded : (contents : List ℕ) → ModuleError → Type 0
IsNotAdded contents e = IsTooMuch e ⊎ (number (length contents) contents ≡ Err e)

-- At this position of the list are the first contents that are given for the section with this id.
pub record IsGivenAt (given : List NewContents) (id at : ℕ) : Type 0 where
  pub one : NewContents
  pub is_there : one ≡ get_or given at one
  pub has_id : section_id one.kind ≡ id
  pub is_first : contents_in (take at given) id ≡ None

-- The section with this id is given these contents, and all else in the changes stays.
pub record SetsContents (old new : Changes) (id : ℕ) (contents : List ℕ) : Type 0 where
  pub given : contents_in new.given.items id ≡ Some contents
  pub others : (other : ℕ) → other ≢ id → contents_in new.given.items other ≡ contents_in old.given.items other
  pub imports : new.imports ≡ old.imports

-- The changes are as before.
abbrev pub AreUnchanged : (old new : Changes) → Type 0
AreUnchanged old new =
    (new.given.items ≡ old.given.items) × (new.imports ≡ old.imports)

-- The contents of a section with one more item, after the others: their number is one more, in its shortest encoding.
pub record HasOneMore (contents item new : List ℕ) : Type 0 where
  pub count : ℕ
  pub items : List ℕ
  pub contents_are : u32 contents ≡ Ok (count, items)
  pub new_is : new ≡ short_number (count + 1) ++ (items ++ item)

-- the contents that are given, or else these
abbrev pub given_or : (given : Option (List ℕ)) → (others : List ℕ) → List ℕ
given_or (Some contents) others = contents
given_or None others = others

-- the contents of a section of the source, or else an empty vector
abbrev pub source_contents : Option SectionAt → List ℕ
source_contents (Some section) = section.contents
source_contents None = 0 ∷ []

-- the contents of the section with this id in a module of these sections, with these changes
abbrev pub contents_with : (all : List SectionAt) → Changes → (id : ℕ) → List ℕ
contents_with all changes id = given_or (contents_in changes.given.items id) (source_contents (first_with id all))

-- An item is added after those that are given for the section with this id, or else after these.
pub record AddsAfter (old new : Changes) (id : ℕ) (others item : List ℕ) : Type 0 where
  pub contents : List ℕ
  pub has_one_more : HasOneMore (given_or (contents_in old.given.items id) others) item contents
  pub sets : SetsContents old new id contents

-- An item is added after those of the section with this id.
pub record AddsItem (all : List SectionAt) (old new : Changes) (id : ℕ) (item : List ℕ) : Type 0 where
  pub contents : List ℕ
  pub has_one_more : HasOneMore (contents_with all old id) item contents
  pub sets : SetsContents old new id contents

-- One raw body more is added to the code section, after those that the changes add before.
pub record AddsBody (old new : Changes) (raw : List ℕ) : Type 0 where
  pub contents : List ℕ
  pub has_one_more : HasOneMore (added_bodies old) (entry raw) contents
  pub sets : SetsContents old new 10 contents
