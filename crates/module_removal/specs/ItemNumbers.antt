-- The numbers of items: 0 is that of the module itself, and then come all types, functions, tables, memories, globals, tags, element
-- segments and data segments (WebAssembly core specification 3.0, structure, indices).
use Rattle.std.specs.Prelude.{◌≡◌, ◌+◌, ◌-◌, ◌<◌, ◌^◌, ℕ, min, nat_lt, if◌then◌else◌, Bool, List, length, Option, Some, None}
use Rattle.wasm_operators.specs.declared.types.Space.{Space}
use Rattle.wasm_operators.specs.declared.types.Space.TheVariants.{Tables, Types, Funcs, Globals, Memories, Elements, Data, Tags}
use Rattle.item_sets.specs.ItemsLeft.{is_left}
use Rattle.module_removal.specs.declared.item.Item.{Item}
use Rattle.module_removal.specs.declared.item.ItemCounts.{ItemCounts}

-- how many items a space has
abbrev pub count_of : ItemCounts → Space → ℕ
count_of c Types = c.types
count_of c Funcs = c.funcs
count_of c Tables = c.tables
count_of c Memories = c.memories
count_of c Globals = c.globals
count_of c Tags = c.tags
count_of c Elements = c.elements
count_of c Data = c.«data»

-- the number of the first item of a space
abbrev pub first_number : ItemCounts → Space → ℕ
first_number c Types = 1
first_number c Funcs = 1 + c.types
first_number c Tables = 1 + c.types + c.funcs
first_number c Memories = 1 + c.types + c.funcs + c.tables
first_number c Globals = 1 + c.types + c.funcs + c.tables + c.memories
first_number c Tags = 1 + c.types + c.funcs + c.tables + c.memories + c.globals
first_number c Elements = 1 + c.types + c.funcs + c.tables + c.memories + c.globals + c.tags
first_number c Data = 1 + c.types + c.funcs + c.tables + c.memories + c.globals + c.tags + c.elements

-- how many numbers there are
abbrev pub all_numbers : ItemCounts → ℕ
all_numbers c = first_number c Data + c.«data»

-- the number of an item; none if the module has no such item, or if it doesn't fit 32 bits
abbrev pub number_if : (is_item fits : Bool) → ℕ → Option ℕ
number_if is_item fits n = if is_item then (if fits then Some n else None) else None

abbrev pub number_of_item : ItemCounts → Item → Option ℕ
number_of_item c item =
    number_if (nat_lt item.index (count_of c item.space)) (nat_lt (first_number c item.space + item.index) (2 ^ 32))
    (first_number c item.space + item.index)

-- so many more items of a space; a count ends at the greatest number of 64 bits
abbrev pub counted_more : ℕ → ℕ → ℕ
counted_more count more = min (count + more) (2 ^ 64 - 1)

abbrev pub with_more_items : Space → (more : ℕ) → ItemCounts → ItemCounts
with_more_items Types n c = record c { types = counted_more c.types n }
with_more_items Funcs n c = record c { funcs = counted_more c.funcs n }
with_more_items Tables n c = record c { tables = counted_more c.tables n }
with_more_items Memories n c = record c { memories = counted_more c.memories n }
with_more_items Globals n c = record c { globals = counted_more c.globals n }
with_more_items Tags n c = record c { tags = counted_more c.tags n }
with_more_items Elements n c = record c { elements = counted_more c.elements n }
with_more_items Data n c = record c { «data» = counted_more c.«data» n }

-- no items of any space
abbrev pub no_items_counted : ItemCounts
no_items_counted = record { types = 0; funcs = 0; tables = 0; memories = 0; globals = 0; tags = 0; elements = 0; «data» = 0 }

-- These marks of the items of a space, in order, are those among the marks of all numbers; a number without a mark has none that is set.
pub record AreMarksOf (c : ItemCounts) (marks : List Bool) (space : Space) (own : List Bool) : Type 0 where
  pub count : length own ≡ count_of c space
  pub each : (i : ℕ) → i < count_of c space → is_left own i ≡ is_left marks (first_number c space + i)
