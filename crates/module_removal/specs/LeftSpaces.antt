-- Which items of a module are left, and the index that is written for each.
use Rattle.std.specs.Prelude.{◌≡◌, ℕ, List, Bool, Option, None, Some}
use denote.Ref.{Bor}
use Rattle.wasm_operators.specs.declared.types.Space.{Space}
use Rattle.wasm_operators.specs.declared.types.Space.TheVariants.{Tables, Types, Funcs, Globals, Memories, Elements, Data, Tags}
use Rattle.item_sets.specs.ItemsLeft.{index_left}
use Rattle.module_removal.specs.declared.item.Item.{Item}
use Rattle.module_removal.specs.declared.item.ItemCounts.{ItemCounts}
use Rattle.module_removal.specs.declared.left.LeftItems.{LeftItems}
use Rattle.module_removal.specs.ItemNumbers.{AreMarksOf}

-- for each item of a space, whether it is left
abbrev pub marks_of : LeftItems → Space → List Bool
marks_of l Types = l.types.marks.items
marks_of l Funcs = l.funcs.marks.items
marks_of l Tables = l.tables.marks.items
marks_of l Memories = l.memories.marks.items
marks_of l Globals = l.globals.marks.items
marks_of l Tags = l.tags.marks.items
marks_of l Elements = l.elements.marks.items
marks_of l Data = l.«data».marks.items

-- the new index of an item: how many are left before it in its space, if it is left itself
abbrev pub index_of : LeftItems → Item → Option ℕ
index_of l item = index_left (marks_of l item.space) item.index

-- the index that is written for an item: the new one, or its own where nothing is removed
abbrev pub index_written : Option (Bor LeftItems) → Item → Option ℕ
index_written None item = Some item.index
index_written (Some l) item = index_of l.now item

-- each item has its own index
abbrev pub own_index : Item → Option ℕ
own_index = index_written None

-- the marks of each space after those of one were set
abbrev pub marks_set : Space → List Bool → (Space → List Bool) → Space → List Bool
marks_set Types own marks Types = own
marks_set Funcs own marks Funcs = own
marks_set Tables own marks Tables = own
marks_set Memories own marks Memories = own
marks_set Globals own marks Globals = own
marks_set Tags own marks Tags = own
marks_set Elements own marks Elements = own
marks_set Data own marks Data = own
marks_set set own marks space = marks space

-- The items of this space that are left are those with a mark that is set, of a mark for each number; the other spaces stay.
pub record SetsMarks (c : ItemCounts) (marks : List Bool) (space : Space) (old new : LeftItems) : Type 0 where
  pub own : List Bool
  pub are : AreMarksOf c marks space own
  pub each : (other : Space) → marks_of new other ≡ marks_set space own (marks_of old) other

-- In each space the items that are left are those with a mark that is set.
abbrev pub AreMarked : ItemCounts → List Bool → LeftItems → Type 0
AreMarked c marks left = (space : Space) → AreMarksOf c marks space (marks_of left space)
