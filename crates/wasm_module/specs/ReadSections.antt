-- The sections of a module that was read (WebAssembly core specification 3.0, binary format, modules).
use Rattle.std.specs.Prelude.{◌≡◌, ◌≢◌, ◌==◌, ◌<◌, ℕ, if◌then◌else◌, List, [], ◌∷◌, length, Ok}
use Rattle.wasm_sections.specs.Components.{Components, no_components, contents_of, counts_agree}
use Rattle.wasm_sections.specs.Sections.{SectionAt, rank}

-- Each section that isn't custom has a greater rank than those before it, and than this one.
abbrev pub AreInOrder : (before : ℕ) → List SectionAt → Type 0
AreInOrder before [] = Unit {0}
AreInOrder before (s ∷ ss) = (s.id ≢ 0 → before < rank s.id) × AreInOrder (if s.id == 0 then before else rank s.id) ss

-- The contents of the sections are read one after the other, from these components on.
abbrev pub AreRead : (before : Components) → List SectionAt → (after : Components) → Type 0
AreRead before [] after = before ≡ after
AreRead before (s ∷ ss) after =
    (middle : Components) × (contents_of s.id before s.end s.contents ≡ Ok middle) × AreRead middle ss after

-- The sections of a file are in order, and the module is what they spell.
pub record IsOfSections (file : List ℕ) (m : Components) (sections : List SectionAt) : Type 0 where
  pub in_order : AreInOrder 0 sections
  pub are_read : AreRead no_components sections m
  pub counts : counts_agree m (length file) ≡ Ok m
