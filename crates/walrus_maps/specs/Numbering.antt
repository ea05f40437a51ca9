-- The numbers that pushes give to ids.
use Rattle.std.specs.Prelude.{◌≡◌, ℕ, List, [], ◌∷◌, nat_eq, Some, Ok, ◌↔◌, slice_get}
use Rattle.std.specs.List.{IsDistinct}
use Rattle.std.specs.FinMap.{empty}
use Rattle.wasm_operators.specs.declared.types.Space.{Space}
use Rattle.walrus_maps.specs.declared.ids_to_indices.IdsToIndices.{IdsToIndices}
use Rattle.walrus_maps.specs.IndexMaps.{numbers_in, with_next_number, number_of}

-- the maps after these ids are pushed into a space, in order
abbrev pub pushed : Space → List ℕ → IdsToIndices → IdsToIndices
pushed space [] m = m
pushed space (id ∷ ids) m = pushed space ids (with_next_number space id m)

-- The number of each of these ids is its position, so they are numbered from 0 on without gaps. No other id has a number, and
-- no two have the same one.
pub record AreNumberedInOrder (space : Space) (ids : List ℕ) (m : IdsToIndices) : Type 0 where
  pub by_place : (id index : ℕ) → (number_of m space id ≡ Ok index) ↔ (slice_get ids index ≡ Some id)
  pub injective : (a b index : ℕ) → number_of m space a ≡ Ok index → number_of m space b ≡ Ok index → a ≡ b

-- Distinct ids that are pushed into a space in which no id has a number are numbered in their order.
abbrev pub PushesNumberInOrder : Type 0
PushesNumberInOrder =
    (space : Space) (ids : List ℕ) (m : IdsToIndices) → IsDistinct nat_eq ids → numbers_in m space ≡ empty → AreNumberedInOrder space ids (pushed space ids m)
