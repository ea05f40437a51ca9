-- What is written for the sections of a module of which some items are left (WebAssembly core specification 3.0, binary format, modules).
use Rattle.std.specs.Prelude.{◌≡◌, ◌==◌, ℕ, nat_lt, eqb, bytes_eq, codes, if◌then◌else◌, unwrap_or, option_map, ◌||◌, Bool, true, false, List, [], ◌∷◌, ◌++◌, length, Option, Some, None, Ok}
use Rattle.std.specs.List.{flat_map, starts_with}
use denote.Ref.{Bor}
use Rattle.wasm_numbers.specs.Numbers.{u32}
use Rattle.wasm_operators.specs.declared.types.Space.{Space}
use Rattle.wasm_operators.specs.declared.types.Space.TheVariants.{Funcs, Data}
use Rattle.wasm_operators.specs.Shortest.{short_number}
use Rattle.item_sets.specs.ItemsLeft.{left_count}
use Rattle.wasm_sections.specs.declared.sections.SectionKind.{SectionKind}
use Rattle.wasm_sections.specs.declared.sections.SectionKind.TheVariants as kinds
use Rattle.wasm_sections.specs.CodeSections.{entry}
use Rattle.wasm_sections.specs.Format.{name_part}
use Rattle.wasm_sections.specs.Omissions.{names_debug, names_object}
use Rattle.wasm_sections.specs.Sections.{preamble, section, rank, section_id, SectionAt, IsModule}
use Rattle.module_removal.specs.declared.code.LeftCode.{LeftCode}
use Rattle.module_removal.specs.declared.left.LeftItems.{LeftItems}
use Rattle.module_removal.specs.declared.remainder.Remainder.{Remainder}
use Rattle.module_removal.specs.declared.writing.Writer.{Writer}
use Rattle.module_removal.specs.SeveralSteps.{SoManySteps}
use Rattle.module_removal.specs.ItemNumbers.{counted_more, no_items_counted}
use Rattle.module_removal.specs.LeftSpaces.{marks_of, index_of, index_written}
use Rattle.module_removal.specs.CopiedParts.{Copied, item_at, copied_index}
use Rattle.module_removal.specs.CopiedItems.{copied_defined}
use Rattle.module_removal.specs.LeftNames.{AreLeftNames}
use Rattle.module_removal.specs.LeftParts.{ArePartsInOrder, LeavesParts}
use Rattle.module_removal.specs.Written.{task_of, section_space, data_count_section, WritesNextItem, WritesImport, WritesExport, WritesGroup}

-- ---- the bytes of a section

-- the contents of a section with so many items: their number, and the items
abbrev pub counted_items : (count : ℕ) → (items : List ℕ) → List ℕ
counted_items count items = if count == 0 then [] else short_number count ++ items

-- the section with this id and so many items; none without an item
abbrev pub items_section : (id count : ℕ) → (items : List ℕ) → List ℕ
items_section id count items = if count == 0 then [] else section id (short_number count ++ items)

-- No item waits to be written.
abbrev pub HasNoItems : Writer → Type 0
HasNoItems w = (w.items.items ≡ []) × (w.count ≡ 0)

-- These bytes follow what was written before, and then no item waits to be written.
pub record WritesBytes (bytes : List ℕ) (old new : Writer) : Type 0 where
  pub out : new.out.items ≡ old.out.items ++ bytes
  pub next : new.next ≡ old.next
  pub task : task_of new ≡ task_of old
  pub has_elements : new.has_elements ≡ old.has_elements
  pub none : HasNoItems new

-- ---- sections of items

-- an item that a section defines, by its index space; sections of other kinds have none
abbrev pub WritesDefined : Option Space → (end : ℕ) → (old new : Writer × List ℕ) → Type 0
WritesDefined None end old new = new ≡ old
WritesDefined (Some space) end old new = WritesNextItem space (λ w. copied_defined w space) end old.1 new.1 old.0 new.0

-- The bytes that are left begin with an item of a section of this kind: it is written if it is left.
abbrev pub WritesItem : SectionKind → (end : ℕ) → (old new : Writer × List ℕ) → Type 0
WritesItem kinds.Type end old new = WritesGroup end old new
WritesItem kinds.Import end old new = WritesImport end old.1 new.1 old.0 new.0
WritesItem kinds.Export end old new = WritesExport end old.1 new.1 old.0 new.0
WritesItem kind end old new = WritesDefined (section_space kind) end old new

-- The contents of a section are the number of its items, and the items: each is written if it is left.
abbrev pub WritesItems : SectionKind → (end : ℕ) → (contents : List ℕ) → (old new : Writer) → Type 0
WritesItems kind end contents old new =
    (count : ℕ) × (text following : List ℕ) × (u32 contents ≡ Ok (count, text)) × SoManySteps (WritesItem kind end) count (old, text) (new, following)

-- the section with the items that were written
abbrev pub section_of : (id : ℕ) → Writer → List ℕ
section_of id w = items_section id w.count w.items.items

-- ---- the element section

-- the new index of a function that is declared
abbrev pub declared_index : LeftItems → (func : ℕ) → ℕ
declared_index left func = unwrap_or (index_of left (item_at Funcs func)) func

-- a declarative segment with these functions: its flags, the kind of its elements, and the vector of their indices
abbrev pub declaring_segment : LeftItems → (functions : List ℕ) → List ℕ
declaring_segment left functions =
    0x03 ∷ 0x00 ∷ (short_number (length functions) ++ flat_map (λ func. short_number (declared_index left func)) functions)

-- If there are functions to declare, one more segment declares them.
abbrev pub DeclaresUnless : (is_none : Bool) → (old new : Writer) → Type 0
DeclaresUnless true old new = new ≡ old
DeclaresUnless false old new =
    (new.items.items ≡ old.items.items ++ declaring_segment old.remainder.now.left old.remainder.now.undeclared.items)
    × (new.count ≡ counted_more old.count 1) × (new ≡ record old { items = new.items; count = new.count })

abbrev pub DeclaresFunctions : (old new : Writer) → Type 0
DeclaresFunctions old new = DeclaresUnless (length old.remainder.now.undeclared.items == 0) old new

-- The element section is written: the segments that were added, and then the one that declares functions.
abbrev pub WritesSegments : (old new : Writer) → Type 0
WritesSegments old new = (mid : Writer) × DeclaresFunctions (record old { has_elements = true }) mid × WritesBytes (section_of 9 mid) mid new

-- If it wasn't written yet, it is written now.
abbrev pub WritesSegmentsUnless : (was_written : Bool) → (old new : Writer) → Type 0
WritesSegmentsUnless true old new = new ≡ old
WritesSegmentsUnless false old new = WritesSegments old new

-- It comes before each section of a greater rank.
abbrev pub WritesSegmentsIf : (is_before : Bool) → (old new : Writer) → Type 0
WritesSegmentsIf true old new = WritesSegmentsUnless old.has_elements old new
WritesSegmentsIf false old new = new ≡ old

abbrev pub WritesSegmentsBefore : SectionKind → (old new : Writer) → Type 0
WritesSegmentsBefore kind old new = WritesSegmentsIf (nat_lt (rank 9) (rank (section_id kind))) old new

-- ---- sections

-- the start section, with the new index of the function
abbrev pub WritesStart : (end : ℕ) → (contents : List ℕ) → (old new : Writer) → Type 0
WritesStart end contents old new =
    (copied : Copied) × (following : List ℕ) × (copied_index (index_written old.kept.left) Funcs end contents ≡ Ok ((tt, copied), following))
    × WritesBytes (section 8 copied.written) old new

-- What becomes of a section that isn't custom: the start section; the number of the data segments that are left; the bodies of the code,
-- as they are given; the element segments that are left, and the one that declares functions; or the items that are left.
abbrev pub WritesContents : SectionKind → (end : ℕ) → (contents : List ℕ) → (old new : Writer) → Type 0
WritesContents kinds.Start end contents old new = WritesStart end contents old new
WritesContents kinds.DataCount end contents old new = WritesBytes (data_count_section (left_count (marks_of old.remainder.now.left Data))) old new
WritesContents kinds.Code end contents old new = WritesBytes (items_section 10 old.code.now.count old.code.now.bodies.items) old new
WritesContents kinds.Element end contents old new = (mid : Writer) × WritesItems kinds.Element end contents old mid × WritesSegments mid new
WritesContents kind end contents old new = (mid : Writer) × WritesItems kind end contents old mid × WritesBytes (section_of (section_id kind) mid) mid new

abbrev pub WritesSection : SectionKind → (end : ℕ) → (contents : List ℕ) → (old new : Writer) → Type 0
WritesSection kind end contents old new = (mid : Writer) × WritesSegmentsBefore kind old mid × WritesContents kind end contents mid new

-- ---- custom sections

-- The section contains metadata of code, by its name (the proposal for custom annotations of code).
abbrev pub names_metadata : (name : List ℕ) → Bool
names_metadata name = starts_with eqb name (codes "metadata.code.")

-- It contains names (custom sections, name section); names and metadata follow the code.
abbrev pub names_names : (name : List ℕ) → Bool
names_names name = bytes_eq name (codes "name")

abbrev pub follows_code : (name : List ℕ) → Bool
follows_code name = names_names name || names_metadata name

-- What is left of metadata of operators, while the parts of functions are in order, as `LeftCode` has them.
abbrev pub LeavesMetadata : LeftItems → LeftCode → (end : ℕ) → (text new : List ℕ) → Type 0
LeavesMetadata left code end text new = ArePartsInOrder code.operators.parts.items → LeavesParts left code.operators.parts.items end text new

-- What is left of the text, after its name, of a section that follows the code: of names, or of metadata.
abbrev pub LeavesFollowed : (are_names : Bool) → LeftItems → LeftCode → (end : ℕ) → (text new : List ℕ) → Type 0
LeavesFollowed true left code end text new = AreLeftNames left code end text new
LeavesFollowed false left code end text new = LeavesMetadata left code end text new

-- The bytes are a custom section with this name, and with what is left.
abbrev pub IsLeftCustom : LeftItems → LeftCode → (end : ℕ) → (text name bytes : List ℕ) → Type 0
IsLeftCustom left code end text name bytes =
    (new : List ℕ) × LeavesFollowed (names_names name) left code end text new × (bytes ≡ section 0 (entry name ++ new))

-- What becomes of a custom section with this name: nothing of debug information; what is left, if it follows the code; or the same bytes.
abbrev pub BecomesCustom : (is_debug is_followed : Bool) → LeftItems → LeftCode → (end : ℕ) → (text name whole bytes : List ℕ) → Type 0
BecomesCustom true is_followed left code end text name whole bytes = bytes ≡ []
BecomesCustom false true left code end text name whole bytes = IsLeftCustom left code end text name bytes
BecomesCustom false false left code end text name whole bytes = bytes ≡ whole

-- A linked module has no custom section that only an object file has.
pub record WritesCustom (s : SectionAt) (old new : Writer) : Type 0 where
  pub name : List ℕ
  pub following : List ℕ
  pub begins : name_part s.end s.contents ≡ Ok (name, following)
  pub is_linked : names_object name ≡ false
  pub bytes : List ℕ
  pub becomes : BecomesCustom (names_debug name) (follows_code name) old.remainder.now.left old.code.now s.end following name s.whole bytes
  pub writes : WritesBytes bytes old new

-- ---- modules

abbrev pub WritesAnySection : SectionKind → SectionAt → (old new : Writer) → Type 0
WritesAnySection kinds.Custom s old new = WritesCustom s old new
WritesAnySection kind s old new = WritesSection kind s.end s.contents old new

-- These sections are written, in order, and the element section comes last if it wasn't written yet.
abbrev pub WritesSections : List SectionAt → (old new : Writer) → Type 0
WritesSections [] old new = WritesSegmentsUnless old.has_elements old new
WritesSections (s ∷ ss) old new =
    (mid : Writer) × (kind : SectionKind) × (section_id kind ≡ s.id) × WritesAnySection kind s old mid × WritesSections ss mid new

-- The file is a module, of which all sections are written after the preamble.
abbrev pub WritesModule : (file : List ℕ) → (old new : Writer) → Type 0
WritesModule file old new =
    (sections : List SectionAt) × IsModule file sections × (begun : Writer) × (begun.out.items ≡ old.out.items ++ preamble)
    × (begun ≡ record old { out = begun.out }) × WritesSections sections begun new

-- Nothing is written yet, and no item was passed.
pub record BeginsToWrite (remainder : Remainder) (code : LeftCode) (w : Writer) : Type 0 where
  pub remainder_is : w.remainder.now ≡ remainder
  pub code_is : w.code.now ≡ code
  pub kept : option_map (λ (left : Bor LeftItems). left.now) w.kept.left ≡ Some remainder.left
  pub passed : w.passed.left ≡ None
  pub next : w.next ≡ no_items_counted
  pub none : HasNoItems w
  pub has_elements : w.has_elements ≡ false
  pub out : w.out.items ≡ []

-- The new file is the module of this file with what is left of it, and with this code.
pub record IsModuleOfLeft (remainder : Remainder) (code : LeftCode) (file new : List ℕ) : Type 0 where
  pub first : Writer
  pub last : Writer
  pub begins : BeginsToWrite remainder code first
  pub writes : WritesModule file first last
  pub out : new ≡ last.out.items
