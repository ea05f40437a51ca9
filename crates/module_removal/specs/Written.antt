-- What is written for the items of a section that are left, one after the other (WebAssembly core specification 3.0, binary format, modules
-- and types).
use Rattle.std.specs.Prelude.{◌≡◌, ◌==◌, ◌&&◌, ℕ, not, if◌then◌else◌, Bool, true, false, List, [], ◌∷◌, ◌++◌, Option, Some, None, Ok}
use Rattle.wasm_operators.specs.declared.types.Space.{Space}
use Rattle.wasm_operators.specs.declared.types.Space.TheVariants.{Types, Funcs, Tables, Memories, Globals, Tags, Elements, Data}
use Rattle.wasm_operators.specs.Shortest.{short_number}
use Rattle.item_sets.specs.ItemsLeft.{is_left}
use Rattle.wasm_sections.specs.declared.sections.SectionKind.{SectionKind}
use Rattle.wasm_sections.specs.declared.sections.SectionKind.TheVariants as kind
use denote.Ref.{Bor}
use Rattle.wasm_sections.specs.Format.{members_part}
use Rattle.wasm_sections.specs.Sections.{section}
use Rattle.module_removal.specs.declared.code.LeftCode.{LeftCode}
use Rattle.module_removal.specs.declared.left.LeftItems.{LeftItems}
use Rattle.module_removal.specs.declared.remainder.Remainder.{Remainder}
use Rattle.module_removal.specs.declared.writing.Writer.{Writer}
use Rattle.module_removal.specs.SeveralSteps.{SoManySteps}
use Rattle.module_removal.specs.ItemNumbers.{count_of, counted_more, with_more_items}
use Rattle.module_removal.specs.LeftSpaces.{marks_of, index_written}
use Rattle.module_removal.specs.CopiedParts.{Copied, CopiedPart, NewIndices}
use Rattle.module_removal.specs.CopiedItems.{copied_import, copied_export, copied_subtype, begins_group}

-- the index space of the items that a section of this kind defines
abbrev pub section_space : SectionKind → Option Space
section_space kind.Function = Some Funcs
section_space kind.Table = Some Tables
section_space kind.Memory = Some Memories
section_space kind.Tag = Some Tags
section_space kind.Global = Some Globals
section_space kind.Element = Some Elements
section_space kind.Data = Some Data
section_space _ = None

-- the section with this number of data segments, if there are any
abbrev pub data_count_section : (count : ℕ) → List ℕ
data_count_section count = if count == 0 then [] else section 12 (short_number count)

-- what stays the same while a module is written: what is left of it, its code, and the indices of what is copied and of what is passed over
abbrev pub Task : Type 0
Task = Bor Remainder × Bor LeftCode × Option (Bor LeftItems) × Option (Bor LeftItems)

abbrev pub task_of : Writer → Task
task_of w = (w.remainder, w.code, w.kept.left, w.passed.left)

-- The part is an item that is copied to the items of the section, under the new indices; or it is passed over.
abbrev pub WritesIf : {A : Type 0} → (is_left : Bool) → (part : NewIndices → CopiedPart A) → (end : ℕ) → (text following : List ℕ) → (old new : Writer) → Type 0
WritesIf {A} true part end text following old new =
    (x : A) × (copied : Copied) × (part (index_written old.kept.left) end text ≡ Ok ((x, copied), following))
    × (new.items.items ≡ old.items.items ++ copied.written) × (new.count ≡ counted_more old.count 1)
WritesIf {A} false part end text following old new =
    (x : A) × (copied : Copied) × (part (index_written old.passed.left) end text ≡ Ok ((x, copied), following))
    × (new.items.items ≡ old.items.items) × (new.count ≡ old.count)

-- The part is the next item of its space: it is copied if it is left.
pub record WritesNextItem {A : Type 0} (space : Space) (part : NewIndices → CopiedPart A) (end : ℕ) (text following : List ℕ) (old new : Writer) : Type 0 where
  pub next : new.next ≡ with_more_items space 1 old.next
  pub task : task_of new ≡ task_of old
  pub has_elements : new.has_elements ≡ old.has_elements
  pub out : new.out ≡ old.out
  pub writes : WritesIf (is_left (marks_of old.remainder.now.left space) (count_of old.next space)) part end text following old new

-- The part is an import, which is the next item of its space: it is copied if it is left.
abbrev pub WritesImport : (end : ℕ) → (text following : List ℕ) → (old new : Writer) → Type 0
WritesImport end text following old new =
    (space : Space) × (copied : Copied) × (rest : List ℕ) × (copied_import (index_written old.passed.left) end text ≡ Ok ((space, copied), rest))
    × WritesNextItem space copied_import end text following old new

-- The part is an export: it is copied, since all are left.
pub record WritesExport (end : ℕ) (text following : List ℕ) (old new : Writer) : Type 0 where
  pub next : new.next ≡ old.next
  pub task : task_of new ≡ task_of old
  pub has_elements : new.has_elements ≡ old.has_elements
  pub out : new.out ≡ old.out
  pub writes : WritesIf true copied_export end text following old new

-- ---- recursive groups

abbrev pub WritesTypeIf : (is_left : Bool) → (end : ℕ) → (text following : List ℕ) → (old new : Writer) → Type 0
WritesTypeIf true end text following old new =
    (copied : Copied) × (copied_subtype (index_written old.kept.left) end text ≡ Ok ((tt, copied), following))
    × (new.items.items ≡ old.items.items ++ copied.written)
WritesTypeIf false end text following old new =
    (copied : Copied) × (copied_subtype (index_written old.passed.left) end text ≡ Ok ((tt, copied), following)) × (new.items.items ≡ old.items.items)

-- The bytes that are left begin with the next type: it is copied if it is left.
pub record WritesType (end : ℕ) (old new : Writer × List ℕ) : Type 0 where
  pub next : new.0.next ≡ with_more_items Types 1 old.0.next
  pub task : task_of new.0 ≡ task_of old.0
  pub has_elements : new.0.has_elements ≡ old.0.has_elements
  pub out : new.0.out ≡ old.0.out
  pub count : new.0.count ≡ old.0.count
  pub writes : WritesTypeIf (is_left (marks_of old.0.remainder.now.left Types) old.0.next.types) end old.1 new.1 old.0 new.0

-- what comes before the types of a group: how many they are, unless it is a type alone
abbrev pub group_mark : (is_group : Bool) → (members : ℕ) → List ℕ
group_mark true members = 0x4e ∷ short_number members
group_mark false members = []

-- A group is begun, and counts as one item, or nothing is written.
abbrev pub BeginsGroupIf : (is_left is_group : Bool) → (members : ℕ) → (old new : Writer) → Type 0
BeginsGroupIf true is_group members old new =
    (new.items.items ≡ old.items.items ++ group_mark is_group members) × (new.count ≡ counted_more old.count 1)
    × (new ≡ record old { items = new.items; count = new.count })
BeginsGroupIf false is_group members old new = new ≡ old

-- a group is left if its first type is; one without types isn't
abbrev pub is_group_left : (members : ℕ) → (is_first_left : Bool) → Bool
is_group_left members is_first_left = not (members == 0) && is_first_left

-- The bytes that are left begin with a group: it is begun if it is left, and then come its types.
abbrev pub WritesGroup : (end : ℕ) → (old new : Writer × List ℕ) → Type 0
WritesGroup end old new =
    (members : ℕ) × (rest : List ℕ) × (members_part end old.1 ≡ Ok (members, rest)) × (mid : Writer)
    × BeginsGroupIf (is_group_left members (is_left (marks_of old.0.remainder.now.left Types) old.0.next.types)) (begins_group old.1) members old.0 mid
    × SoManySteps (WritesType end) members (mid, rest) new
