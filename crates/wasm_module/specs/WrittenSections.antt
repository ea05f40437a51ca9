-- The sections of a module that is written, by their ids and contents (WebAssembly core specification 3.0, binary format, modules): those of the
-- source, of which some have other contents, and given ones between them; what is read of them; and the bodies (binary format, code section).
use Rattle.std.specs.Prelude.{◌≡◌, ◌≢◌, ◌<◌, ◌↔◌, ℕ, zero, suc, List, [], ◌∷◌, ◌++◌, map, filter, Option, Some, None, option_map, Ok}
use Rattle.std.specs.Option.{option_or}
use Rattle.wasm_sections.specs.declared.changes.Changes.{Changes}
use Rattle.wasm_sections.specs.declared.changes.NewContents.{NewContents}
use Rattle.wasm_sections.specs.declared.omissions.OmittedSections.{OmittedSections}
use Rattle.wasm_sections.specs.CodeSections.{BodyAt, IsCode}
use Rattle.wasm_sections.specs.Components.{Components, module_of}
use Rattle.wasm_sections.specs.GivenContents.{contents_in, added_bodies}
use Rattle.wasm_sections.specs.Sections.{SectionAt, IsModule, first_with, rank, next_rank, section_id}
use Rattle.wasm_module.specs.declared.parsed.ParsedModule.{ParsedModule}
use Rattle.wasm_module.specs.ModuleCode.{AreBodiesOf}
use Rattle.wasm_module.specs.ReadModules.{components_of}
use Rattle.wasm_module.specs.ReadSections.{AreInOrder, IsOfSections}
use Rattle.wasm_module.specs.WrittenModules.{is_between, BodyWriting, HasItemsOf, IsWrittenCode, IsReplacedBy, IsCarriedOver, IsOmitted}

-- an id and contents
abbrev pub IdAndContents : Type 0
IdAndContents = ℕ × List ℕ

abbrev pub id_and_contents : SectionAt → IdAndContents
id_and_contents s = (s.id, s.contents)

-- the contents of the section with this id, if there is one
abbrev pub contents_at : (id : ℕ) → List SectionAt → Option (List ℕ)
contents_at id ss = option_map (λ s. s.contents) (first_with id ss)

abbrev pub given_section : NewContents → IdAndContents
given_section g = (section_id g.kind, g.contents.items)

-- the given sections with a rank between these two, in the order in which they are given
abbrev pub given_between : (first second : ℕ) → List NewContents → List IdAndContents
given_between first second given = map given_section (filter (is_between first second) given)

-- those after a section of this rank, in a module of these sections; none after a custom one, whose rank is 0
abbrev pub given_after_section : List NewContents → (all : List SectionAt) → (rank : ℕ) → List IdAndContents
given_after_section given all zero = []
given_after_section given all (suc r) = given_between (suc r) (next_rank (suc r) all) given

-- The given sections are in order: each has a greater rank than those before it, and than this one. So none is a custom one.
abbrev pub AreGivenInOrder : (before : ℕ) → List NewContents → Type 0
AreGivenInOrder before [] = Unit {0}
AreGivenInOrder before (g ∷ gs) = (before < rank (section_id g.kind)) × AreGivenInOrder (rank (section_id g.kind)) gs

-- The bodies of a module that is read are these raw bodies, in order, and then those that are added.
pub record HasBodiesAndAdded (changes : Changes) (raws : List (List ℕ)) (m : Components) : Type 0 where
  pub own : List BodyAt
  pub own_are : map (λ b. b.bytes) own ≡ raws
  pub added : List BodyAt
  pub end : ℕ
  pub added_are : IsCode end (added_bodies changes) added
  pub are_bodies : AreBodiesOf m (own ++ added)

module _ (writes : BodyWriting) (source : ParsedModule) (changes : Changes) where
  module _ (left_out : OmittedSections) where
    -- What becomes of a section: the code section has its bodies as they are written, and the added ones; another has the contents that
    -- are given for it, or its own; a custom section that follows the code begins with its name; or it is left out.
    pub data BecomesSections (s : SectionAt) (becomes : List IdAndContents) : Type 0 where
      code :
          (bodies contents : List ℕ) → s.id ≡ 10 → IsWrittenCode writes source s bodies → HasItemsOf bodies (added_bodies changes) contents →
          becomes ≡ (10, contents) ∷ [] → BecomesSections s becomes
      replaced : (contents : List ℕ) → s.id ≢ 10 → IsReplacedBy changes s contents → becomes ≡ (s.id, contents) ∷ [] → BecomesSections s becomes
      carried_over : s.id ≢ 10 → IsCarriedOver changes s → becomes ≡ id_and_contents s ∷ [] → BecomesSections s becomes
      omitted : IsOmitted left_out s → becomes ≡ [] → BecomesSections s becomes

    -- In a module of all these sections, what becomes of the last of them, each followed by the given sections after it.
    abbrev pub BecomeSections : (all : List SectionAt) → List SectionAt → (become : List IdAndContents) → Type 0
    BecomeSections all [] become = become ≡ []
    BecomeSections all (s ∷ ss) become =
        (own others : List IdAndContents) × (become ≡ own ++ (given_after_section changes.given.items all (rank s.id) ++ others)) × BecomesSections s own
        × BecomeSections all ss others

    -- The file is a module with these sections: those that the sections of the source become, and given ones.
    pub record HasWrittenSections (new : List ℕ) : Type 0 where
      pub old : List SectionAt
      pub is_source : IsModule source.bytes.now old
      pub sections : List SectionAt
      pub is_module : IsModule new sections
      pub others : List IdAndContents
      pub become : BecomeSections old old others
      pub are : map id_and_contents sections ≡ given_between 0 (next_rank 0 old) changes.given.items ++ others

    -- What the file spells is what these sections spell, one after the other. If the source is a module, each section has the contents that are
    -- given for it, or else its own, but for custom sections and the code section; and they are in order, if the given ones are.
    pub record IsReadAsWritten (new : List ℕ) : Type 0 where
      pub written : HasWrittenSections new
      pub spells : (m : Components) → (module_of new ≡ Ok m) ↔ IsOfSections new m written.sections
      pub contents :
          (m : Components) → module_of source.bytes.now ≡ Ok m → (id : ℕ) → 0 < rank id → id ≢ 10 →
          contents_at id written.sections ≡ option_or (contents_in changes.given.items id) (contents_at id written.old)
      pub in_order : (m : Components) → module_of source.bytes.now ≡ Ok m → AreGivenInOrder 0 changes.given.items → AreInOrder 0 written.sections

  -- The bodies of a module that is read are those of the source's code section, each as it is written, and then those that are added.
  pub record HasWrittenBodies (m : Components) : Type 0 where
    pub s : SectionAt
    pub is_source : (components_of source).code ≡ Some (s.end, s.contents)
    pub code : List ℕ
    pub written : IsWrittenCode writes source s code
    pub bodies : HasBodiesAndAdded changes written.raws m

-- ---- functions

-- No contents are given for the sections of types, imports and functions.
abbrev pub GivesNoFunctions : Changes → Type 0
GivesNoFunctions changes =
    (contents_in changes.given.items 1 ≡ None) × (contents_in changes.given.items 2 ≡ None) × (contents_in changes.given.items 3 ≡ None)

-- Both modules have the same types, and the same functions, each with the same type, of which the same ones are imported.
pub record HasSameFunctions (old new : Components) : Type 0 where
  pub types : new.types ≡ old.types
  pub functions : new.functions ≡ old.functions
  pub imported : new.imported ≡ old.imported
