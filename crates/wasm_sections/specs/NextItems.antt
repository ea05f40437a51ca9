-- The index spaces of a module as it is read (WebAssembly core specification 3.0, structure, modules, indices): each item of a space
-- has its index as its id, and its id as its number. What one more item changes, and what it leaves.
use Rattle.std.specs.Prelude.{◌≡◌, ◌⊎◌, ◌<◌, ◌≤◌, ◌+◌, ◌^◌, ℕ, zero, suc, length, IsOk, IsErr}
use Rattle.std.specs.Ordering.{nat_cmp}
use Rattle.std.specs.FinMap.{FinMap, empty, len}
use Rattle.wasm_operators.specs.declared.types.Space.{Space}
use Rattle.wasm_operators.specs.declared.types.Space.TheVariants as spaces
use Rattle.wasm_body.specs.declared.error.IndexError.{IndexError}
use Rattle.wasm_body.specs.declared.error.IndexError.TheVariants as index
use Rattle.walrus_maps.specs.IndexMaps.{ids_in, with_ids_in, with_next_id, numbers_in, with_numbers, number_of, with_next_number, numbered}
use Rattle.wasm_sections.specs.declared.spaces.Counts.{Counts}
use Rattle.wasm_sections.specs.declared.spaces.Spaces.{Spaces}
use Rattle.wasm_sections.specs.Components.{Components, count_in}
use Rattle.wasm_sections.specs.Declarations.{first_numbers}

-- the counts of no items, and the counts with this number of items of a space; functions aren't counted here
abbrev pub no_counts : Counts
no_counts = record { types = 0; tables = 0; memories = 0; globals = 0; tags = 0; elements = 0; «data» = 0 }

abbrev pub with_count : Space → ℕ → Counts → Counts
with_count spaces.Types n c = record c { types = n }
with_count spaces.Funcs n c = c
with_count spaces.Tables n c = record c { tables = n }
with_count spaces.Memories n c = record c { memories = n }
with_count spaces.Globals n c = record c { globals = n }
with_count spaces.Tags n c = record c { tags = n }
with_count spaces.Elements n c = record c { elements = n }
with_count spaces.Data n c = record c { «data» = n }

-- An id has the next index of a space, and the count of the space is that of its indices. All else but the numbers stays.
pub record HasNextIndex (space : Space) (id : ℕ) (old new : Spaces) : Type 0 where
  pub few : length (ids_in old.indices space) < 2 ^ 32
  pub indices : new.indices ≡ with_next_id space id old.indices
  pub counts : new.counts ≡ with_count space (length (ids_in old.indices space) + 1) old.counts
  pub more_imports : new.more_imports ≡ old.more_imports
  pub more_functions : new.more_functions ≡ old.more_functions
  pub locals : new.locals ≡ old.locals

-- It has the next number of the space, too, if it had none.
pub record HasNextNumber (space : Space) (id : ℕ) (old new : Spaces) : Type 0 where
  pub numbers : IsErr (number_of old.numbers space id) → new.numbers ≡ with_next_number space id old.numbers
  pub had_number : IsOk (number_of old.numbers space id) → new.numbers ≡ old.numbers

-- At most the indices and numbers of this space differ.
pub record HasItemsOfOthers (space : Space) (old new : Spaces) : Type 0 where
  pub indices : new.indices ≡ with_ids_in space (ids_in new.indices space) old.indices
  pub numbers : new.numbers ≡ with_numbers space (numbers_in new.numbers space) old.numbers
  pub counts : new.counts ≡ old.counts
  pub more_imports : new.more_imports ≡ old.more_imports
  pub more_functions : new.more_functions ≡ old.more_functions
  pub locals : new.locals ≡ old.locals

-- why a space has no more items: memory ran out, or it has 2^32 indices or numbers
abbrev pub NoNextItem : Space → Spaces → IndexError → Type 0
NoNextItem space s e =
    (e ≡ index.Memory) ⊎ ((e ≡ index.TooMany) × ((2 ^ 32 ≤ length (ids_in s.indices space)) ⊎ (2 ^ 32 ≤ len (numbers_in s.numbers space))))

-- the numbers in which each id below this one is its own number
unfoldable pub own_numbers : ℕ → FinMap nat_cmp ℕ
own_numbers zero = empty
own_numbers (suc n) = numbered (own_numbers n) n

-- Each item of each space has its index as its id, and its id as its number. The counts are those of the items.
pub record AreIndices (m : Components) (s : Spaces) : Type 0 where
  pub ids : (space : Space) → ids_in s.indices space ≡ first_numbers (count_in m space)
  pub numbers : (space : Space) → numbers_in s.numbers space ≡ own_numbers (count_in m space)
  pub more_imports : s.more_imports ≡ 0
  pub more_functions : s.more_functions ≡ 0
