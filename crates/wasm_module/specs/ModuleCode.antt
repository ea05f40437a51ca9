-- The bodies of the functions of a module that was read (WebAssembly core specification 3.0, binary format, code section and
-- modules).
use Rattle.std.specs.Prelude.{◌≡◌, ◌⊎◌, ◌==◌, ◌<◌, ◌≤◌, ◌+◌, ℕ, if◌then◌else◌, List, [], ◌∷◌, ◌++◌, length, Option, Some, None, MatchOption}
use Rattle.wasm_sections.specs.CodeSections.{BodyAt, IsCode}
use Rattle.wasm_sections.specs.Components.{Components, body_count_of}
use Rattle.wasm_sections.specs.Sections.{SectionAt}

-- the sections that have this id, in order
abbrev pub sections_with : (id : ℕ) → List SectionAt → List SectionAt
sections_with id [] = []
sections_with id (s ∷ ss) = if s.id == id then s ∷ sections_with id ss else sections_with id ss

-- The code of a module with these sections: of the only one that is a code section, the place where it ends, and its contents; or
-- none, if there is no such section.
abbrev pub IsCodeIn : List SectionAt → Option (ℕ × List ℕ) → Type 0
IsCodeIn sections None = sections_with 10 sections ≡ []
IsCodeIn sections (Some code) = (s : SectionAt) × (sections_with 10 sections ≡ s ∷ []) × (code ≡ (s.end, s.contents))

-- The bodies of a module, in order: those of its code, and none without code. There is one for each function that isn't imported.
pub record AreBodiesOf (m : Components) (bodies : List BodyAt) : Type 0 where
  pub are_code : MatchOption m.code (bodies ≡ []) (λ code. IsCode code.0 code.1 bodies)
  pub are_all : length bodies ≡ body_count_of m

-- The code is that of the sections, and it is these bodies, and no others.
pub record HasCode (m : Components) (sections : List SectionAt) : Type 0 where
  pub code_is : IsCodeIn sections m.code
  pub bodies : List BodyAt
  pub are_bodies : AreBodiesOf m bodies
  pub only : (others : List BodyAt) → AreBodiesOf m others → others ≡ bodies

-- This is the body of the function with this index: as many bodies come before it as functions that aren't imported.
pub record IsBodyOfFunction (m : Components) (index : ℕ) (body : BodyAt) : Type 0 where
  pub before : List BodyAt
  pub after : List BodyAt
  pub are_bodies : AreBodiesOf m (before ++ body ∷ after)
  pub index_is : index ≡ m.imported + length before

-- The function with this index is imported, or there is none.
abbrev pub HasNoFunctionBody : Components → (index : ℕ) → Type 0
HasNoFunctionBody m index = (index < m.imported) ⊎ (length m.functions ≤ index)
