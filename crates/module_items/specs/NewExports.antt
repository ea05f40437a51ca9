-- Exports that are added after those of a module (WebAssembly core specification 3.0, binary format, export section).
use Rattle.std.specs.Prelude.{◌≡◌, ◌⊎◌, ◌+◌, ⊤, ℕ, List, [], ◌∷◌, ◌++◌, length, Option, Some, None, Result, Ok}
use Rattle.wasm_operators.specs.Shortest.{short_number}
use Rattle.wasm_sections.specs.declared.changes.Changes.{Changes}
use Rattle.wasm_sections.specs.declared.fault.ModuleError.{ModuleError}
use Rattle.wasm_sections.specs.Additions.{AreUnchanged, SetsContents}
use Rattle.wasm_sections.specs.Parts.{number}
use Rattle.wasm_sections.specs.Views.{IsExportKind}
use Rattle.wasm_module.specs.AddedItems.{export_of}
use Rattle.module_items.specs.declared.new_exports.NewExport.{NewExport}
use Rattle.module_items.specs.Renaming.{HasExportIn}

-- Each export has a name that isn't taken, and that none before it has (validation, modules: the names of exports differ).
abbrev pub HaveFreeNames : (taken : List ℕ → Type 0) → List NewExport → Type 0
HaveFreeNames taken [] = ⊤
HaveFreeNames taken (x ∷ xs) = (¬ taken x.name.now) × HaveFreeNames (λ name. taken name ⊎ (name ≡ x.name.now)) xs

-- These bytes are the exports, one after the other; each names what can be exported.
abbrev pub AreExportsWritten : List NewExport → (bytes : List ℕ) → Type 0
AreExportsWritten [] bytes = bytes ≡ []
AreExportsWritten (x ∷ xs) bytes =
    (kind : ℕ) × IsExportKind x.space kind × (following : List ℕ) × AreExportsWritten xs following
    × (bytes ≡ export_of x.name.now kind x.index ++ following)

-- the number of the exports of these contents, if there are any, and their bytes
abbrev pub exports_counted : (contents : Option (ℕ × List ℕ)) → Result (ℕ × List ℕ) ModuleError
exports_counted None = Ok (0, [])
exports_counted (Some c) = number c.0 c.1

-- These exports come after those of the contents, and have names of their own.
pub record FollowExports (exports : List NewExport) (contents : Option (ℕ × List ℕ)) (old new : Changes) : Type 0 where
  pub free : HaveFreeNames (λ name. HasExportIn name contents) exports
  pub count : ℕ
  pub items : List ℕ
  pub counted : exports_counted contents ≡ Ok (count, items)
  pub bytes : List ℕ
  pub written : AreExportsWritten exports bytes
  pub sets : SetsContents old new 7 (short_number (count + length exports) ++ (items ++ bytes))

-- The same, or there are none, and nothing is changed.
abbrev pub AreExportsAdded : List NewExport → (contents : Option (ℕ × List ℕ)) → (old new : Changes) → Type 0
AreExportsAdded [] contents old new = AreUnchanged old new
AreExportsAdded (x ∷ xs) contents old new = FollowExports (x ∷ xs) contents old new
