-- Items that are added to a module that was read: they have ids and written indices, but no index of the source, so that no body of
-- the source can name them (WebAssembly core specification 3.0, structure, modules, indices).
use Rattle.std.specs.Prelude.{◌≡◌, ◌≢◌, ◌⊎◌, ◌<◌, ◌≤◌, ◌+◌, ◌^◌, ℕ, Ok, IsOk}
use Rattle.std.specs.FinMap.{len}
use Rattle.wasm_body.specs.declared.error.IndexError.{IndexError}
use Rattle.wasm_body.specs.declared.error.IndexError.TheVariants as index
use Rattle.wasm_operators.specs.declared.types.Space.{Space}
use Rattle.wasm_operators.specs.declared.types.Space.TheVariants.{Types, Globals, Data}
use Rattle.walrus_maps.specs.declared.ids_to_indices.IdsToIndices.{IdsToIndices}
use Rattle.walrus_maps.specs.IndexMaps.{numbers_in, number_of, with_next_number, with_number}
use Rattle.wasm_sections.specs.declared.spaces.Spaces.{Spaces}

-- The indices of the source stay, and so do the numbers of imported and added functions.
pub record KeepsSourceIndices (old new : Spaces) : Type 0 where
  pub indices : new.indices ≡ old.indices
  pub more_imports : new.more_imports ≡ old.more_imports
  pub more_functions : new.more_functions ≡ old.more_functions
  pub locals : new.locals ≡ old.locals

-- Only numbers of one space differ.
abbrev pub KeepsOtherNumbers : Space → (old new : IdsToIndices) → Type 0
KeepsOtherNumbers space old new = (other : Space) → other ≢ space → numbers_in new other ≡ numbers_in old other

-- A type, which had no number, has the next one.
pub record DefinesType (id : ℕ) (old new : Spaces) : Type 0 where
  pub kept : KeepsSourceIndices old new
  pub counts : new.counts ≡ old.counts
  pub numbers : new.numbers ≡ with_next_number Types id old.numbers

-- A global whose id is the number of globals so far has it as its written index.
pub record DefinesGlobal (id : ℕ) (old new : Spaces) : Type 0 where
  pub kept : KeepsSourceIndices old new
  pub id_is : id ≡ old.counts.globals
  pub counts : new.counts ≡ record old.counts { globals = id + 1 }
  pub numbers : new.numbers ≡ with_next_number Globals id old.numbers
  pub number_is : number_of new.numbers Globals id ≡ Ok id

-- The same for a data segment.
pub record DefinesData (id : ℕ) (old new : Spaces) : Type 0 where
  pub kept : KeepsSourceIndices old new
  pub id_is : id ≡ old.counts.«data»
  pub counts : new.counts ≡ record old.counts { «data» = id + 1 }
  pub numbers : new.numbers ≡ with_number Data id id old.numbers

-- Whether or not an item of this space is defined, only numbers of the space differ, and the counts.
pub record ChangesNumbersOf (space : Space) (old new : Spaces) : Type 0 where
  pub kept : KeepsSourceIndices old new
  pub numbers : KeepsOtherNumbers space old.numbers new.numbers

-- Why an id isn't given the next number of its space: memory ran out, or 2^32 ids of the space have a number.
abbrev pub NoNextNumber : Space → Spaces → IndexError → Type 0
NoNextNumber space s e = (e ≡ index.Memory) ⊎ ((e ≡ index.TooMany) × (2 ^ 32 ≤ len (numbers_in s.numbers space)))

-- Why no item is added whose id is its number: memory ran out, 2^32 ids of the space have a number, this one has a number, or another
-- number is the next one. Where each id is its own number and the next id is their count, the last two can't be.
abbrev pub NoNextOwnNumber : Space → (id : ℕ) → Spaces → IndexError → Type 0
NoNextOwnNumber space id s e =
    (e ≡ index.Memory)
    ⊎ ((e ≡ index.TooMany)
    × ((2 ^ 32 ≤ len (numbers_in s.numbers space)) ⊎ (IsOk (number_of s.numbers space id) ⊎ (len (numbers_in s.numbers space) ≢ id))))

-- Each data segment from the first one without an id on, up to so many, has its position as its id and its written index.
pub record NumbersData (count : ℕ) (old new : Spaces) : Type 0 where
  pub numbers : (id : ℕ) → old.counts.«data» ≤ id → id < count → number_of new.numbers Data id ≡ Ok id
  pub earlier : (id : ℕ) → id < old.counts.«data» → number_of new.numbers Data id ≡ number_of old.numbers Data id
