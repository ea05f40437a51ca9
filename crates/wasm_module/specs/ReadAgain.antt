-- A module that is read from what was written for another (WebAssembly core specification 3.0, structure, modules, indices).
use Rattle.std.specs.Prelude.{◌≡◌, ℕ, List, [], ◌∷◌, ◌++◌}
use Rattle.wasm_operators.specs.declared.types.Space.{Space}
use Rattle.walrus_maps.specs.IndexMaps.{ids_in, numbers_in}
use Rattle.wasm_module.specs.declared.parsed.ParsedModule.{ParsedModule}
use Rattle.wasm_module.specs.ReadModules.{components_of}
use Rattle.wasm_module.specs.SameModules.{HasWrittenCode}
use Rattle.wasm_module.specs.WrittenModules.{BodyWriting, HasFollowedName, HasSameName, IsSection, IsWrittenCode}
use Rattle.wasm_module.specs.RewrittenCode.{IsRewritten, IsRewrittenWith}
use Rattle.wasm_sections.specs.CodeSections.{BodyAt}
use Rattle.wasm_sections.specs.Sections.{preamble, SectionAt, IsModule, Each}

-- What a body can name is the same in both: each index names what it did, with the same type, and has the same id and number.
pub record HasSameItems (source again : ParsedModule) : Type 0 where
  pub types : again.«module».types ≡ source.«module».types
  pub tags : again.«module».tags ≡ source.«module».tags
  pub functions : again.func_types.items ≡ source.func_types.items
  pub imported : again.imported ≡ source.imported
  pub ids : (space : Space) → ids_in again.spaces.indices space ≡ ids_in source.spaces.indices space
  pub numbers : (space : Space) → numbers_in again.spaces.numbers space ≡ numbers_in source.spaces.numbers space

-- The module has the same items as the source, and the source's bodies as they are written.
pub record IsReadAgain (writes : BodyWriting) (source again : ParsedModule) : Type 0 where
  pub items : HasSameItems source again
  pub code : HasWrittenCode writes source (components_of source).code (components_of again).code

-- ---- what was written is written again

-- What is written of a body of the source is, as the body of the same function of the module that was read again, written unchanged.
abbrev pub IsRewrittenUnchanged : (source again : ParsedModule) → Type 0
IsRewrittenUnchanged source again =
    (function : ℕ) (b read : BodyAt) (raw raw' : List ℕ) → IsRewritten source function b raw → read.bytes ≡ raw → IsRewritten again function read raw' →
    raw' ≡ raw

-- So is what is written of the code section.
abbrev pub HasUnchangedCode : (source again : ParsedModule) → Type 0
HasUnchangedCode source again =
    (s read : SectionAt) (code code' : List ℕ) → IsWrittenCode IsRewrittenWith source s code → read.contents ≡ code → IsWrittenCode IsRewrittenWith again read code' →
    code' ≡ code

-- These bytes are written for a section: its own; or, for a custom section that is changed along with the code, others, which begin
-- with the same name.
pub data IsWrittenAlikeFor (s : SectionAt) (text : List ℕ) : Type 0 where
  unchanged : text ≡ s.whole → IsWrittenAlikeFor s text
  renewed : (contents : List ℕ) → s.id ≡ 0 → HasFollowedName s.contents → HasSameName s.contents contents → IsSection s.id contents text → IsWrittenAlikeFor s text

abbrev pub AreWrittenAlike : List SectionAt → (text : List ℕ) → Type 0
AreWrittenAlike [] text = text ≡ []
AreWrittenAlike (s ∷ ss) text = (first others : List ℕ) × (text ≡ first ++ others) × IsWrittenAlikeFor s first × AreWrittenAlike ss others

-- The second module has the sections of the first, byte for byte, but for custom sections that are changed along with the code.
pub record IsWrittenAlike (old new : List ℕ) : Type 0 where
  pub sections : List SectionAt
  pub is_module : IsModule old sections
  pub text : List ℕ
  pub are_alike : AreWrittenAlike sections text
  pub new_is : new ≡ preamble ++ text

-- No custom section of the module is changed along with the code.
abbrev pub HasNoFollowers : (file : List ℕ) → Type 0
HasNoFollowers file = (sections : List SectionAt) → IsModule file sections → Each (λ s. s.id ≡ 0 → HasFollowedName s.contents → ⊥) sections
