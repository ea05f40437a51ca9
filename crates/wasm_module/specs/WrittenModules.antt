-- Modules that are written (WebAssembly core specification 3.0, binary format, modules), section by section. Each is unchanged,
-- except the code section, sections that are given new contents, custom sections that are changed along with the code, and
-- custom sections that are left out.
use Rattle.std.specs.Prelude.{◌≡◌, ◌≢◌, ◌⊎◌, ◌+◌, ◌-◌, ◌<◌, ◌^◌, ℕ, zero, suc, List, [], ◌∷◌, ◌++◌, length, Bool, true, false, ◌&&◌, nat_lt, if◌then◌else◌, Option, Some, None, Ok, codes}
use Rattle.std.specs.Io.KnownBytes.{Appends}
use Rattle.std.specs.List.{AllByRecursion}
use Rattle.wasm_numbers.specs.Numbers.{u32}
use Rattle.wasm_operators.specs.Shortest.{short_number}
use Rattle.wasm_body.specs.Pairs.{Pair}
use Rattle.wasm_sections.specs.declared.changes.Changes.{Changes}
use Rattle.wasm_sections.specs.declared.changes.NewContents.{NewContents}
use Rattle.wasm_module.specs.declared.parsed.ParsedModule.{ParsedModule}
use Rattle.wasm_module.specs.declared.rewriting.RewrittenModule.{RewrittenModule}
use Rattle.wasm_sections.specs.CodeSections.{BodyAt, IsCode, code_section, entry}
use Rattle.wasm_sections.specs.GivenContents.{contents_in, added_bodies}
use Rattle.wasm_sections.specs.Omissions.{omits_name, names_object}
use Rattle.wasm_sections.specs.declared.omissions.OmittedSections.{OmittedSections}
use Rattle.wasm_sections.specs.Sections.{preamble, section, SectionAt, IsModule, BeginsWithName, rank, next_rank, section_id}

-- Bytes go to a writer, whose contents may be known, and the place moves from `at` to `end`, after them.
pub record Puts (old new : Option (List ℕ)) (at end : ℕ) (bytes : List ℕ) : Type 0 where
  pub appends : Appends old new bytes
  pub end_is : end ≡ at + length bytes

-- ---- sizes

-- A size has 32 bits.
abbrev pub FitsSize : (bytes : List ℕ) → Type 0
FitsSize bytes = length bytes < 2 ^ 32

-- The text is the section with this id and these contents.
abbrev pub IsSection : (id : ℕ) → (contents text : List ℕ) → Type 0
IsSection id contents text = FitsSize contents × (text ≡ section id contents)

-- ---- sections that are given contents

-- the new contents that are given for a module
abbrev pub new_contents_in : {B : Type 0} → RewrittenModule B → List NewContents
new_contents_in m = m.changes.given.items

-- whether the rank of a given section is between these two
abbrev pub is_between : ℕ → ℕ → NewContents → Bool
is_between first second g = nat_lt first (rank (section_id g.kind)) && nat_lt (rank (section_id g.kind)) second

-- the given sections with such a rank, as they are written
abbrev pub between : (first second : ℕ) → List NewContents → List ℕ
between first second [] = []
between first second (g ∷ gs) =
    if is_between first second g then section (section_id g.kind) g.contents.items ++ between first second gs else between first second gs

-- The contents of each of them fit a size.
abbrev pub FitBetween : (first second : ℕ) → List NewContents → Type 0
FitBetween first second given = AllByRecursion (λ g. is_between first second g ≡ true → FitsSize g.contents.items) given

-- the new sections after a section of this rank, in a module of these sections: the given ones with a rank between this one and
-- that of the next section
abbrev pub new_after : List NewContents → (all : List SectionAt) → (rank : ℕ) → List ℕ
new_after given all r = between r (next_rank r all) given

-- the same after a section; none after a custom one, whose rank is 0
abbrev pub new_after_section : List NewContents → (all : List SectionAt) → (rank : ℕ) → List ℕ
new_after_section given all zero = []
new_after_section given all (suc r) = new_after given all (suc r)

-- The contents of each of these new sections fit a size.
abbrev pub NewFitAfter : List NewContents → (all : List SectionAt) → (rank : ℕ) → Type 0
NewFitAfter given all r = FitBetween r (next_rank r all) given

abbrev pub NewFitAfterSection : List NewContents → (all : List SectionAt) → (rank : ℕ) → Type 0
NewFitAfterSection given all zero = Unit {0}
NewFitAfterSection given all (suc r) = NewFitAfter given all (suc r)

-- A custom section contains names, or metadata of code, by its name. Such sections are changed along with the code.
abbrev pub HasFollowedName : (contents : List ℕ) → Type 0
HasFollowedName contents =
    (name following : List ℕ) × (u32 contents ≡ Ok (length name, name ++ following))
    × ((name ≡ codes "name") ⊎ ((kind : List ℕ) × (name ≡ codes "metadata.code." ++ kind)))

-- the contents of a custom section with the URL of a source map, as they are written: its name, and the URL
abbrev pub url_contents : (url : List ℕ) → List ℕ
url_contents url = entry (codes "sourceMappingURL") ++ entry url

-- The contents of two custom sections begin with the same name.
abbrev pub HasSameName : (old new : List ℕ) → Type 0
HasSameName old new = (name : List ℕ) × BeginsWithName old name × BeginsWithName new name

-- These contents are written in place of those of a section that isn't the code section. Those of a custom section begin with the
-- same name; nothing is said about what follows it.
pub data IsReplacedBy (changes : Changes) (s : SectionAt) (contents : List ℕ) : Type 0 where
  followed : s.id ≡ 0 → HasFollowedName s.contents → HasSameName s.contents contents → IsReplacedBy changes s contents
  given_so : s.id ≢ 0 → contents_in changes.given.items s.id ≡ Some contents → IsReplacedBy changes s contents

-- Or the section is written unchanged: it is a custom one, or no contents are given for it.
abbrev pub IsCarriedOver : Changes → SectionAt → Type 0
IsCarriedOver changes s = s.id ≢ 0 → contents_in changes.given.items s.id ≡ None

-- Or it is left out: a custom section, by its name.
pub record IsOmitted (left_out : OmittedSections) (s : SectionAt) : Type 0 where
  pub is_custom : s.id ≡ 0
  pub name : List ℕ
  pub begins : BeginsWithName s.contents name
  pub is_chosen : omits_name left_out name ≡ true

-- A section that is written isn't left out: if it is a custom one, it has another name.
abbrev pub IsNotOmitted : OmittedSections → SectionAt → Type 0
IsNotOmitted left_out s = s.id ≡ 0 → (name : List ℕ) × BeginsWithName s.contents name × (omits_name left_out name ≡ false)

-- ---- object files

-- A section that a linked module may have: if it is a custom one, it contains no symbols or relocations, by its name.
abbrev pub IsLinked : SectionAt → Type 0
IsLinked s = s.id ≡ 0 → (name : List ℕ) × BeginsWithName s.contents name × (names_object name ≡ false)

-- ---- bodies

-- The contents of a section that has the items of two, one after the other: their number is the sum, and has 32 bits.
pub record HasItemsOf (first second contents : List ℕ) : Type 0 where
  pub count : ℕ
  pub items : List ℕ
  pub first_is : u32 first ≡ Ok (count, items)
  pub more : ℕ
  pub others : List ℕ
  pub second_is : u32 second ≡ Ok (more, others)
  pub few : count + more < 2 ^ 32
  pub contents_are : contents ≡ short_number (count + more) ++ (items ++ others)

-- how many functions have a body: those that aren't imported
abbrev pub count_bodies : ParsedModule → ℕ
count_bodies source = length source.func_types.items - source.imported

-- these bytes with these location pairs are written for this body of the function of the source with this index
abbrev pub BodyWriting : Type 1
BodyWriting = ParsedModule → (function : ℕ) → BodyAt → (raw : List ℕ) → List Pair → Type 0

-- the same without the pairs
abbrev pub RawWriting : Type 1
RawWriting = ParsedModule → (function : ℕ) → BodyAt → (raw : List ℕ) → Type 0

-- with some pairs
abbrev pub with_some_pairs : BodyWriting → RawWriting
with_some_pairs writes source function b raw = (pairs : List Pair) × writes source function b raw pairs

module _ (writes : BodyWriting) (source : ParsedModule) where
  -- the bodies of the functions from this one on, in order
  abbrev pub AreWritten : (function : ℕ) → List BodyAt → (raws : List (List ℕ)) → (pairs : List (List Pair)) → Type 0
  AreWritten function [] [] [] = Unit {0}
  AreWritten function (b ∷ bs) (raw ∷ raws) (ps ∷ pairs) = writes source function b raw ps × AreWritten (function + 1) bs raws pairs
  AreWritten function _ _ _ = ⊥

  -- What the code section that is written begins with, as the contents of one: all bodies of the source's code section, in order,
  -- one for each function that isn't imported, each as it is written, after its size.
  pub record IsWrittenCode (s : SectionAt) (code : List ℕ) : Type 0 where
    pub bodies : List BodyAt
    pub are_bodies : IsCode s.end s.contents bodies
    pub are_all : length bodies ≡ count_bodies source
    pub raws : List (List ℕ)
    pub pairs : List (List Pair)
    pub are_written : AreWritten source.imported bodies raws pairs
    pub few : length raws < 2 ^ 32
    pub fit : AllByRecursion FitsSize raws
    pub code_is : code ≡ code_section raws

  -- ---- sections

  module _ (changes : Changes) (left_out : OmittedSections) where
    -- These bytes are written for a section.
    pub data IsWrittenFor (s : SectionAt) (text : List ℕ) : Type 0 where
      code :
          (bodies contents : List ℕ) → s.id ≡ 10 → IsWrittenCode s bodies → HasItemsOf bodies (added_bodies changes) contents →
          IsSection 10 contents text → IsWrittenFor s text
      replaced :
          (contents : List ℕ) → s.id ≢ 10 → IsNotOmitted left_out s → IsReplacedBy changes s contents → IsSection s.id contents text →
          IsWrittenFor s text
      carried_over : s.id ≢ 10 → IsNotOmitted left_out s → IsCarriedOver changes s → text ≡ s.whole → IsWrittenFor s text
      omitted : IsOmitted left_out s → text ≡ [] → IsWrittenFor s text

    module _ (all : List SectionAt) where
      -- These bytes are written for a section, and for the new sections after it.
      pub record IsWrittenAt (s : SectionAt) (text : List ℕ) : Type 0 where
        pub own : List ℕ
        pub is_written : IsWrittenFor s own
        pub text_is : text ≡ own ++ new_after_section changes.given.items all (rank s.id)
        pub new_fit : NewFitAfterSection changes.given.items all (rank s.id)

      abbrev pub AreWrittenAt : List SectionAt → (text : List ℕ) → Type 0
      AreWrittenAt [] text = text ≡ []
      AreWrittenAt (s ∷ ss) text = (first others : List ℕ) × (text ≡ first ++ others) × IsWrittenAt s first × AreWrittenAt ss others

    -- the module that is written for the source
    pub record IsWrittenModule (new : List ℕ) : Type 0 where
      pub sections : List SectionAt
      pub is_module : IsModule source.bytes.now sections
      pub text : List ℕ
      pub are_written : AreWrittenAt sections sections text
      pub new_is : new ≡ preamble ++ (new_after changes.given.items sections 0 ++ text)
      pub first_fit : NewFitAfter changes.given.items sections 0
