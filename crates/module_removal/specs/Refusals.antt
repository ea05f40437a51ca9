-- Why a module isn't written: the first fault, in the order of their bytes, of what is read or copied. An index of a removed
-- item is the fault `Unnumbered`, at its place.
use Rattle.std.specs.Prelude.{◌≡◌, ◌⊎◌, ◌<◌, ◌-◌, ◌++◌, ℕ, Bool, true, false, List, length, Option, Some, None, Result, Ok, Err}
use Rattle.wasm_operators.specs.declared.types.Space.{Space}
use Rattle.wasm_operators.specs.declared.types.Space.TheVariants.{Types, Funcs}
use Rattle.item_sets.specs.ItemsLeft.{is_left}
use Rattle.wasm_sections.specs.declared.fault.ModuleError.{ModuleError}
use Rattle.wasm_sections.specs.declared.fault.ModuleFault.TheVariants as fault
use Rattle.wasm_sections.specs.declared.sections.SectionKind.{SectionKind}
use Rattle.wasm_sections.specs.declared.sections.SectionKind.TheVariants as kinds
use Rattle.wasm_sections.specs.Additions.{IsTooMuch}
use Rattle.wasm_sections.specs.Components.{preamble_part}
use Rattle.wasm_sections.specs.Format.{name_part, members_part}
use Rattle.wasm_sections.specs.Omissions.{names_object}
use Rattle.wasm_sections.specs.Sections.{preamble, section_id, next_section}
use Rattle.wasm_sections.specs.Parts.{number}
use Rattle.module_removal.specs.declared.code.LeftCode.{LeftCode}
use Rattle.module_removal.specs.declared.remainder.Remainder.{Remainder}
use Rattle.module_removal.specs.declared.writing.Writer.{Writer}
use Rattle.module_removal.specs.SeveralSteps.{SoManySteps}
use Rattle.module_removal.specs.ModuleSteps.{ContentsStep, OverSection}
use Rattle.module_removal.specs.ItemNumbers.{count_of}
use Rattle.module_removal.specs.LeftSpaces.{marks_of, index_written}
use Rattle.module_removal.specs.CopiedParts.{Copied, CopiedPart, NewIndices, copied_index}
use Rattle.module_removal.specs.CopiedItems.{copied_import, copied_export, copied_defined, copied_subtype, begins_group}
use Rattle.module_removal.specs.Written.{section_space, is_group_left, BeginsGroupIf, WritesType}
use Rattle.module_removal.specs.LeftSections.{WritesItem, WritesSegmentsBefore, follows_code, WritesAnySection, BeginsToWrite}

-- Of so many steps some are made, and the next one stops with this fault.
pub record StopsAfter {S : Type 0} (Step : S → S → Type 0) (Stops : S → ModuleError → Type 0) (count : ℕ) (old : S) (e : ModuleError) : Type 0 where
  pub made : ℕ
  pub less : made < count
  pub at : S
  pub steps : SoManySteps Step made old at
  pub stops : Stops at e

-- It is the fault of the part, unless memory ran out.
abbrev pub IsFaultOfPart : {A : Type 0} → Result A ModuleError → ModuleError → Type 0
IsFaultOfPart part e = (e.fault ≡ fault.Memory) ⊎ (part ≡ Err e)

-- the indices under which an item is written: the new ones, if it is left; what is passed over keeps its own
abbrev pub indices_if : (is_left : Bool) → Writer → NewIndices
indices_if true w = index_written w.kept.left
indices_if false w = index_written w.passed.left

-- the next item of its space
abbrev pub StopsAtNext : {A : Type 0} → Space → (part : NewIndices → CopiedPart A) → (end : ℕ) → (text : List ℕ) → Writer → ModuleError → Type 0
StopsAtNext space part end text w e =
    IsFaultOfPart (part (indices_if (is_left (marks_of w.remainder.now.left space) (count_of w.next space)) w) end text) e

-- an import, which is read before it is known to be left
abbrev pub StopsAtImport : (end : ℕ) → (text : List ℕ) → Writer → ModuleError → Type 0
StopsAtImport end text w e =
    IsFaultOfPart (copied_import (index_written w.passed.left) end text) e
    ⊎ ((space : Space) × (copied : Copied) × (rest : List ℕ) × (copied_import (index_written w.passed.left) end text ≡ Ok ((space, copied), rest))
    × StopsAtNext space copied_import end text w e)

abbrev pub StopsAtType : (end : ℕ) → Writer × List ℕ → ModuleError → Type 0
StopsAtType end w e = StopsAtNext Types copied_subtype end w.1 w.0 e

-- a recursive group: its number of types, or one of its types, after it was begun if it is left
abbrev pub StopsAtGroup : (end : ℕ) → Writer × List ℕ → ModuleError → Type 0
StopsAtGroup end w e =
    IsFaultOfPart (members_part end w.1) e
    ⊎ ((members : ℕ) × (rest : List ℕ) × (members_part end w.1 ≡ Ok (members, rest)) × (begun : Writer)
    × BeginsGroupIf (is_group_left members (is_left (marks_of w.0.remainder.now.left Types) w.0.next.types)) (begins_group w.1) members w.0 begun
    × StopsAfter (WritesType end) (StopsAtType end) members (begun, rest) e)

abbrev pub StopsAtDefined : Option Space → (end : ℕ) → Writer × List ℕ → ModuleError → Type 0
StopsAtDefined (Some space) end w e = StopsAtNext space (λ i. copied_defined i space) end w.1 w.0 e
StopsAtDefined None end w e = ⊥

-- an item of a section of this kind
abbrev pub StopsAtItem : SectionKind → (end : ℕ) → Writer × List ℕ → ModuleError → Type 0
StopsAtItem kinds.Type end w e = StopsAtGroup end w e
StopsAtItem kinds.Import end w e = StopsAtImport end w.1 w.0 e
StopsAtItem kinds.Export end w e = IsFaultOfPart (copied_export (index_written w.0.kept.left) end w.1) e
StopsAtItem kind end w e = StopsAtDefined (section_space kind) end w e

-- the number of the items of a section, or one of them
abbrev pub StopsAtItems : SectionKind → (end : ℕ) → (contents : List ℕ) → Writer → ModuleError → Type 0
StopsAtItems kind end contents w e =
    (number end contents ≡ Err e)
    ⊎ ((count : ℕ) × (text : List ℕ) × (number end contents ≡ Ok (count, text))
    × StopsAfter (WritesItem kind end) (StopsAtItem kind end) count (w, text) e)

-- ---- sections

-- The start function, or the items of a section; or what is written is too much.
abbrev pub StopsAtContents : SectionKind → (end : ℕ) → (contents : List ℕ) → Writer → ModuleError → Type 0
StopsAtContents kinds.Start end contents w e =
    IsTooMuch e ⊎ (copied_index (index_written w.kept.left) Funcs end contents ≡ Err e)
StopsAtContents kinds.DataCount end contents w e = IsTooMuch e
StopsAtContents kinds.Code end contents w e = IsTooMuch e
StopsAtContents kind end contents w e = IsTooMuch e ⊎ StopsAtItems kind end contents w e

-- a section that isn't custom, after that of element segments if it comes before this one
abbrev pub StopsAtSection : SectionKind → (end : ℕ) → (contents : List ℕ) → Writer → ModuleError → Type 0
StopsAtSection kind end contents w e =
    IsTooMuch e ⊎ ((mid : Writer) × WritesSegmentsBefore kind w mid × StopsAtContents kind end contents mid e)

-- A custom section that only an object file has. In one of names or metadata of code the fault may be any.
abbrev pub IsRefusedCustom : (name : List ℕ) → ModuleError → Type 0
IsRefusedCustom name e =
    IsTooMuch e ⊎ ((e.fault ≡ fault.ObjectFile) × (names_object name ≡ true)) ⊎ (follows_code name ≡ true)

abbrev pub StopsAtCustom : (end : ℕ) → (contents : List ℕ) → ModuleError → Type 0
StopsAtCustom end contents e =
    (name_part end contents ≡ Err e)
    ⊎ ((name : List ℕ) × (text : List ℕ) × (name_part end contents ≡ Ok (name, text)) × IsRefusedCustom name e)

abbrev pub StopsAtAnySection : SectionKind → (end : ℕ) → (contents : List ℕ) → Writer → ModuleError → Type 0
StopsAtAnySection kinds.Custom end contents w e = StopsAtCustom end contents e
StopsAtAnySection kind end contents w e = StopsAtSection kind end contents w e

-- ---- modules

-- a section of a file, of which these are all bytes
abbrev pub WritesWhole : ContentsStep Writer
WritesWhole kind end contents old new =
    (whole : List ℕ) × WritesAnySection kind (record { id = section_id kind; contents = contents; end = end; whole = whole }) old new

-- The next section, after one of this rank, can't be read, or isn't written.
abbrev pub StopsAtNextSection : (end : ℕ) → Writer × (ℕ × List ℕ) → ModuleError → Type 0
StopsAtNextSection end s e =
    (next_section s.1.0 end s.1.1 ≡ Err e)
    ⊎ ((kind : SectionKind) × (contents : List ℕ) × (rank : ℕ) × (following : List ℕ)
    × (next_section s.1.0 end s.1.1 ≡ Ok (((section_id kind, contents), rank), following))
    × StopsAtAnySection kind (end - length following) contents s.0 e)

-- Some sections are written, and the next one stops.
pub record StopsAmongSections (file : List ℕ) (old : Writer) (e : ModuleError) : Type 0 where
  pub text : List ℕ
  pub is : file ≡ preamble ++ text
  pub begun : Writer
  pub begins : begun ≡ record old { out = begun.out }
  pub out : begun.out.items ≡ old.out.items ++ preamble
  pub count : ℕ
  pub at : Writer × (ℕ × List ℕ)
  pub steps : SoManySteps (OverSection WritesWhole (length file)) count (begun, (0, text)) at
  pub stops : StopsAtNextSection (length file) at e

-- Why a module isn't written: what is written is too much, or memory runs out; the preamble; or the first section that stops.
abbrev pub StopsAtModule : (file : List ℕ) → Writer → ModuleError → Type 0
StopsAtModule file w e = IsTooMuch e ⊎ (preamble_part (length file) file ≡ Err e) ⊎ StopsAmongSections file w e

-- The new module isn't written for this reason.
pub record IsRefusedModule (remainder : Remainder) (code : LeftCode) (file : List ℕ) (e : ModuleError) : Type 0 where
  pub first : Writer
  pub begins : BeginsToWrite remainder code first
  pub stops : StopsAtModule file first e
