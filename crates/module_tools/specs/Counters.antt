-- The global in which a module counts its calls.
use Rattle.std.specs.Prelude.{◌≡◌, ℕ, List, [], ◌∷◌}
use Rattle.wasm_operators.specs.declared.types.Space.TheVariants.{Globals}
use Rattle.wasm_sections.specs.declared.changes.Changes.{Changes}
use Rattle.wasm_sections.specs.Additions.{AddsItem}
use Rattle.wasm_sections.specs.DefinedItems.{DefinesGlobal}
use Rattle.wasm_sections.specs.Sections.{SectionAt, IsModule}
use Rattle.wasm_module.specs.declared.parsed.ParsedModule.{ParsedModule}
use Rattle.wasm_module.specs.AddedItems.{AddsExport, ChangesNumbersAlone}

-- a mutable i64 that is 0 at first (WebAssembly core specification 3.0, binary format, global section)
abbrev pub counter_bytes : List ℕ
counter_bytes = 0x7e ∷ 0x01 ∷ 0x42 ∷ 0x00 ∷ 0x0b ∷ []

-- The changes are one more global, and its export under this name.
pub record AddsCounter (all : List SectionAt) (changes : Changes) (name : List ℕ) (global : ℕ) : Type 0 where
  pub none : Changes
  pub none_given : none.given.items ≡ []
  pub none_imported : none.imports ≡ 0
  pub between : Changes
  pub adds_global : AddsItem all none between 6 counter_bytes
  pub adds_export : AddsExport all between changes name Globals global

-- A module has one more global, with this id, and nothing else of it changes; it is exported under this name.
pub record HasCounter (old new : ParsedModule) (changes : Changes) (name : List ℕ) (global : ℕ) : Type 0 where
  pub kept : ChangesNumbersAlone Globals old new
  pub defines : DefinesGlobal global old.spaces new.spaces
  pub adds : (all : List SectionAt) → IsModule old.bytes.now all → AddsCounter all changes name global
