-- Sections with debug information that are written after a module (WebAssembly core specification 3.0, binary format, custom section).
use Rattle.std.specs.Prelude.{◌≡◌, ℕ, List, [], ◌∷◌, ◌++◌}
use Rattle.wasm_sections.specs.CodeSections.{entry}
use Rattle.wasm_sections.specs.Sections.{section}
use Rattle.module_debug.specs.declared.sections.DebugSection.{DebugSection}

-- a custom section with this name
abbrev pub custom : (name contents : List ℕ) → List ℕ
custom name contents = section 0 (entry name ++ contents)

-- custom sections with the names of these, in order, one after the other; of their contents nothing is said
abbrev pub AreDebugSections : List DebugSection → (bytes : List ℕ) → Type 0
AreDebugSections [] bytes = bytes ≡ []
AreDebugSections (s ∷ ss) bytes = (contents rest : List ℕ) × (bytes ≡ custom s.name.now contents ++ rest) × AreDebugSections ss rest
