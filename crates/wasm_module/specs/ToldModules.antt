-- The bodies of a module that is written, as a listener is told of them (WebAssembly core specification 3.0, binary format, modules
-- and code section): with their places in the file.
use Rattle.std.specs.Prelude.{◌≡◌, ◌+◌, ℕ, Bool, List, [], ◌∷◌, ◌++◌, length, Option}
use Rattle.std.specs.Io.KnownBytes.{Appends}
use Rattle.wasm_operators.specs.Shortest.{short_number}
use Rattle.wasm_sections.specs.declared.changes.Changes.{Changes}
use Rattle.wasm_sections.specs.declared.omissions.OmittedSections.{OmittedSections}
use Rattle.wasm_module.specs.declared.parsed.ParsedModule.{ParsedModule}
use Rattle.wasm_body.specs.Pairs.{Pair}
use Rattle.wasm_sections.specs.CodeSections.{BodyAt, entry}
use Rattle.wasm_sections.specs.Sections.{preamble, SectionAt}
use Rattle.wasm_module.specs.ToldBodies.{ToldBody, if_needed, told_of, told_entries, IsTold, TellsMore}
use Rattle.wasm_module.specs.WrittenModules.{Puts, FitsSize, BodyWriting, new_after, HasItemsOf, IsWrittenCode, IsWrittenFor, IsWrittenAt, AreWrittenAt, IsWrittenModule}
use Rattle.wasm_module.specs.WrittenModules.IsWrittenFor.{code, replaced, carried_over, omitted}

-- where the contents of a section begin that is at this place
abbrev pub contents_place : (place : ℕ) → (contents : List ℕ) → ℕ
contents_place place contents = place + length (10 ∷ short_number (length contents))

module _ (writes : BodyWriting) (source : ParsedModule) where
  -- the bodies of a code section whose contents are written at this place, and begin with this number
  abbrev pub code_told : (place count : ℕ) (s : SectionAt) (bodies : List ℕ) → IsWrittenCode writes source s bodies → List ToldBody
  code_told place count s bodies w = told_entries (place + length (short_number count)) w.bodies w.raws w.pairs

  module _ (changes : Changes) (left_out : OmittedSections) where
    -- the bodies of a section that is written at this place: only the code section has bodies
    abbrev pub section_told : (place : ℕ) (s : SectionAt) (text : List ℕ) → IsWrittenFor writes source changes left_out s text → List ToldBody
    section_told place s text (code bodies contents is w items parts) =
        code_told (contents_place place contents) (items.count + items.more) s bodies w
    section_told place s text (replaced contents other kept r parts) = []
    section_told place s text (carried_over other kept carried parts) = []
    section_told place s text (omitted h parts) = []

    abbrev pub sections_told : (all : List SectionAt) (place : ℕ) (ss : List SectionAt) (text : List ℕ) → AreWrittenAt writes source changes left_out all ss text → List ToldBody
    sections_told all place [] text h = []
    sections_told all place (s ∷ ss) text h =
        section_told place s h.3.own h.3.is_written ++ sections_told all (place + length h.0) ss h.1 h.4

    -- the bodies of the module
    abbrev pub module_told : (new : List ℕ) → IsWrittenModule writes source changes left_out new → List ToldBody
    module_told new w =
        sections_told w.sections (length (preamble ++ new_after changes.given.items w.sections 0)) w.sections w.text w.are_written

-- ---- what is written, piece by piece, while a listener is told of it

module _ (writes : BodyWriting) (source : ParsedModule) {L : Type 0} (records : L → L → ToldBody → Type 0) where
  -- A body is written in pieces, this many bytes, at this place, and the listener, if it was told of a body with some pairs before, is
  -- told of its pairs, if they are needed.
  pub record PutsPieces (function : ℕ) (b : BodyAt) (needed : Bool) (start len : ℕ) (old new : Option (List ℕ)) (before after : L) : Type 0 where
    pub raw : List ℕ
    pub pairs : List Pair
    pub is_written : writes source function b raw pairs
    pub len_is : len ≡ length raw
    pub appends : Appends old new raw
    pub told : TellsMore records before after b.start start (if_needed needed pairs)

  -- A body is written after its size, and the listener is told of it, with its pairs if they are needed.
  pub record PutsBody (function : ℕ) (b : BodyAt) (needed : Bool) (old new : Option (List ℕ)) (at end : ℕ) (before after : L) : Type 0 where
    pub raw : List ℕ
    pub pairs : List Pair
    pub is_written : writes source function b raw pairs
    pub fits : FitsSize raw
    pub puts : Puts old new at end (entry raw)
    pub told : records before after (record (told_of b at raw pairs) { pairs = if_needed needed pairs })

module _ (writes : BodyWriting) (source : ParsedModule) {L : Type 0} (records : L → L → ToldBody → Type 0) (needs : L → Bool) where
  -- The contents of the code section are written: its bodies, and then those that are given; and the listener is told of the first.
  pub record PutsCode (s : SectionAt) (given : List ℕ) (old new : Option (List ℕ)) (at end : ℕ) (before after : L) : Type 0 where
    pub code : List ℕ
    pub is_written : IsWrittenCode writes source s code
    pub contents : List ℕ
    pub has_items : HasItemsOf code given contents
    pub puts : Puts old new at end contents
    pub told : IsTold records needs before (code_told writes source at (has_items.count + has_items.more) s code is_written) after

  module _ (changes : Changes) (left_out : OmittedSections) where
    -- A section is written, or left out.
    pub record PutsSection (s : SectionAt) (old new : Option (List ℕ)) (at end : ℕ) (before after : L) : Type 0 where
      pub text : List ℕ
      pub is_written : IsWrittenFor writes source changes left_out s text
      pub puts : Puts old new at end text
      pub told : IsTold records needs before (section_told writes source changes left_out at s text is_written) after

    -- And the new sections after it are written.
    pub record PutsWithNew (all : List SectionAt) (s : SectionAt) (old new : Option (List ℕ)) (at end : ℕ) (before after : L) : Type 0 where
      pub text : List ℕ
      pub is_written : IsWrittenAt writes source changes left_out all s text
      pub puts : Puts old new at end text
      pub told : IsTold records needs before (section_told writes source changes left_out at s is_written.own is_written.is_written) after

    -- The module is written.
    pub record PutsModule (old new : Option (List ℕ)) (before after : L) : Type 0 where
      pub bytes : List ℕ
      pub is_written : IsWrittenModule writes source changes left_out bytes
      pub appends : Appends old new bytes
      pub told : IsTold records needs before (module_told writes source changes left_out bytes is_written) after
