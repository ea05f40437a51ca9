-- Custom sections by name (WebAssembly core specification 3.0, binary format, custom section).
use Rattle.std.specs.Prelude.{◌≡◌, ◌⊎◌, ◌++◌, ℕ, List, [], ◌∷◌, length, Option, Some, None, Ok}
use Rattle.wasm_numbers.specs.Numbers.{u32}
use Rattle.wasm_sections.specs.Sections.{SectionAt, BeginsWithName}

-- The section is a custom one with this name, and these contents follow the name; or it isn't.
abbrev pub IsCustomSection : (name : List ℕ) → SectionAt → (contents : Option (List ℕ)) → Type 0
IsCustomSection name s (Some contents) = (s.id ≡ 0) × (u32 s.contents ≡ Ok (length name, name ++ contents))
IsCustomSection name s None = ¬ ((s.id ≡ 0) × BeginsWithName s.contents name)

-- The first of these sections that is a custom one with this name has these contents; or there is none.
abbrev pub IsFirstCustom : (name : List ℕ) → List SectionAt → (contents : Option (List ℕ)) → Type 0
IsFirstCustom name [] contents = contents ≡ None
IsFirstCustom name (s ∷ ss) None = IsCustomSection name s None × IsFirstCustom name ss None
IsFirstCustom name (s ∷ ss) (Some contents) =
    IsCustomSection name s (Some contents) ⊎ (IsCustomSection name s None × IsFirstCustom name ss (Some contents))
