-- The module that is written consists of the same as its source, and has its bodies as they are written (WebAssembly core
-- specification 3.0, binary format, modules).
use Rattle.std.specs.Prelude.{◌≡◌, ℕ, List, Option, Some, None, Ok}
use Rattle.wasm_sections.specs.Components.{Components, module_of}
use Rattle.wasm_sections.specs.SameComponents.{HasSameComponents}
use Rattle.wasm_sections.specs.Sections.{SectionAt}
use Rattle.wasm_module.specs.declared.parsed.ParsedModule.{ParsedModule}
use Rattle.wasm_module.specs.WrittenModules.{BodyWriting, IsWrittenCode}

module _ (writes : BodyWriting) (source : ParsedModule) where
  -- The code sections of the source and of the module that is written, if there are some: the place where each ends, and its
  -- contents. The second has the bodies of the first as they are written.
  abbrev pub HasWrittenCode : (old new : Option (ℕ × List ℕ)) → Type 0
  HasWrittenCode None None = Unit {0}
  HasWrittenCode (Some old) (Some new) = (s : SectionAt) × (old ≡ (s.end, s.contents)) × IsWrittenCode writes source s new.1
  HasWrittenCode _ _ = ⊥

  -- These bytes spell a module that consists of the same as the source, of which these are the components, and has its bodies as
  -- they are written.
  pub record IsSameModule (m : Components) (new : List ℕ) : Type 0 where
    pub written : Components
    pub spells : module_of new ≡ Ok written
    pub same : HasSameComponents HasWrittenCode m written
