-- Sections (WebAssembly core specification 3.0, binary format, modules): each is an id, the size of its contents, and its
-- contents.
use Rattle.std.specs.Prelude.{◌≡◌, ◌≢◌, ◌-◌, ℕ, ◌==◌, nat_lt, nat_le, get_or, if◌then◌else◌, List, [], ◌∷◌, ◌++◌, length, Option, Some, None, Result, Ok, Err}
use Rattle.wasm_numbers.specs.Numbers.{u32}
use Rattle.wasm_numbers.specs.Results.{◌>>=◌}
use Rattle.wasm_operators.specs.Shortest.{short_number}
use Rattle.wasm_sections.specs.declared.fault.ModuleError.{ModuleError}
use Rattle.wasm_sections.specs.declared.fault.ModuleFault.{ModuleFault}
use Rattle.wasm_sections.specs.declared.fault.ModuleFault.TheVariants as fault
use Rattle.wasm_sections.specs.declared.sections.Section.{Section}
use Rattle.wasm_sections.specs.declared.sections.SectionKind.{SectionKind}
use Rattle.wasm_sections.specs.declared.sections.SectionKind.TheVariants as kind
use Rattle.wasm_sections.specs.declared.sections.Sections.{Sections}
use Rattle.wasm_sections.specs.Parts.{Part, ◌>=>◌, just, checked, one_byte, number, piece}

-- the bytes that a module begins with: the magic number, and the version
abbrev pub preamble : List ℕ
preamble = 0x00 ∷ 0x61 ∷ 0x73 ∷ 0x6d ∷ 0x01 ∷ 0x00 ∷ 0x00 ∷ 0x00 ∷ []

-- ---- as they are written: with the shortest encoding of the size

abbrev pub section : (id : ℕ) → (contents : List ℕ) → List ℕ
section id contents = id ∷ (short_number (length contents) ++ contents)

-- ---- as they are read: with any encoding of the size

-- a section in a file: its id, its contents, the place where they end, and all of its bytes
pub record SectionAt : Type 0 where
  pub id : ℕ
  pub contents : List ℕ
  pub end : ℕ
  pub whole : List ℕ

-- A text that ends at this place of the file begins with this section, and these bytes follow it.
pub record BeginsSection (end : ℕ) (text : List ℕ) (s : SectionAt) (following : List ℕ) : Type 0 where
  pub sized : List ℕ
  pub id_is : text ≡ s.id ∷ sized
  pub size_is : u32 sized ≡ Ok (length s.contents, s.contents ++ following)
  pub end_is : s.end ≡ end - length following
  pub whole_is : text ≡ s.whole ++ following

-- The text, which ends at this place of the file, is these sections.
abbrev pub AreSections : (end : ℕ) → (text : List ℕ) → List SectionAt → Type 0
AreSections end text [] = text ≡ []
AreSections end text (s ∷ ss) = (following : List ℕ) × BeginsSection end text s following × AreSections end following ss

-- the file is a module with these sections
abbrev pub IsModule : List ℕ → List SectionAt → Type 0
IsModule file ss = (text : List ℕ) × (file ≡ preamble ++ text) × AreSections (length file) text ss

-- The contents of a custom section begin with this name.
abbrev pub BeginsWithName : (contents name : List ℕ) → Type 0
BeginsWithName contents name = (following : List ℕ) × (u32 contents ≡ Ok (length name, name ++ following))

-- the first of these sections that has this id, if there is one
abbrev pub first_with : (id : ℕ) → List SectionAt → Option SectionAt
first_with id [] = None
first_with id (s ∷ ss) = if s.id == id then Some s else first_with id ss

-- This holds of each of these sections.
abbrev pub Each : (SectionAt → Type 0) → List SectionAt → Type 0
Each P [] = Unit {0}
Each P (s ∷ ss) = P s × Each P ss

-- ---- their order

-- The rank of a section, by its id: one that isn't custom comes before those of a greater rank. Custom ones may be anywhere.
-- Tags come after memories, and the data count after elements.
abbrev pub rank : (id : ℕ) → ℕ
rank id = get_or (0 ∷ 1 ∷ 2 ∷ 3 ∷ 4 ∷ 5 ∷ 7 ∷ 8 ∷ 9 ∷ 10 ∷ 12 ∷ 13 ∷ 11 ∷ 6 ∷ []) id 0

-- the first rank of these sections that is greater than this one; 14 if there is none
abbrev pub next_rank : ℕ → List SectionAt → ℕ
next_rank r [] = 14
next_rank r (s ∷ ss) = if nat_lt r (rank s.id) then rank s.id else next_rank r ss

-- ---- reading a section: its id, and its contents

abbrev pub known_section : (id : ℕ) → Result ℕ ModuleFault
known_section id = if nat_le id 13 then Ok id else Err fault.UnknownSection

-- the id of a section, and its contents
abbrev pub section_part : Part (ℕ × List ℕ)
section_part = checked one_byte known_section >=> λ id. number >=> λ size. piece size >=> λ contents. just (id, contents)

-- A section that isn't custom comes after all of a lower rank; the rank of the last one such.
abbrev pub rank_with : (before id : ℕ) → Result ℕ ModuleFault
rank_with before id =
    if id == 0 then Ok before else if nat_lt before (rank id) then Ok (rank id) else Err fault.SectionOutOfOrder

-- the next section after one of this rank, and the rank of the last one that isn't custom
abbrev pub next_section : (before : ℕ) → Part ((ℕ × List ℕ) × ℕ)
next_section before = checked section_part (λ x. rank_with before x.0 >>= λ next. Ok (x, next))

-- ---- for values of the code

abbrev pub section_id : SectionKind → ℕ
section_id kind.Custom = 0
section_id kind.Type = 1
section_id kind.Import = 2
section_id kind.Function = 3
section_id kind.Table = 4
section_id kind.Memory = 5
section_id kind.Global = 6
section_id kind.Export = 7
section_id kind.Start = 8
section_id kind.Element = 9
section_id kind.Code = 10
section_id kind.Data = 11
section_id kind.DataCount = 12
section_id kind.Tag = 13

abbrev pub section_at : Section → SectionAt
section_at s = record { id = section_id s.kind; contents = s.contents.rest.now; end = s.contents.end; whole = s.whole.now }

-- A section is taken from those that are left; none if nothing is left. Or this is the first fault, and then nothing is left.
abbrev pub TakesSection : Sections → Option (Result Section ModuleError) → Sections → Type 0
TakesSection s None t = s.left.rest.now ≡ []
TakesSection s (Some (Err e)) t =
    (s.left.rest.now ≢ []) × (next_section s.rank s.left.end s.left.rest.now ≡ Err e) × (t.left.rest.now ≡ [])
TakesSection s (Some (Ok x)) t =
    BeginsSection s.left.end s.left.rest.now (section_at x) t.left.rest.now × (t.left.end ≡ s.left.end)
    × (next_section s.rank s.left.end s.left.rest.now ≡ Ok (((section_id x.kind, x.contents.rest.now), t.rank), t.left.rest.now))
