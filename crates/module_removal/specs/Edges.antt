-- References between the items of a module, as edges between their numbers.
use Rattle.std.specs.Prelude.{◌≡◌, ◌⊎◌, ◌<◌, ℕ, List, [], ◌∷◌, ◌++◌, map, flat_map, Option, Some, None}
use Rattle.std.specs.List.{Contains}
use Rattle.reaching.specs.Reaching.{edges_of}
use Rattle.wasm_sections.specs.declared.fault.ModuleError.{ModuleError}
use Rattle.wasm_sections.specs.declared.fault.ModuleFault.TheVariants as fault
use Rattle.module_removal.specs.declared.item.Item.{Item}
use Rattle.module_removal.specs.declared.item.ItemCounts.{ItemCounts}
use Rattle.module_removal.specs.declared.references.References.{References}
use Rattle.module_removal.specs.ItemNumbers.{all_numbers, number_of_item}

abbrev pub edges_from : (from : ℕ) → (numbers : List ℕ) → List (ℕ × ℕ)
edges_from from numbers = map (λ to. (from, to)) numbers

-- From the item with this number there are edges to all of these items, in order, after the edges that were there.
pub record RefersTo (c : ItemCounts) (from : ℕ) (items : List Item) (old new : List (ℕ × ℕ)) : Type 0 where
  pub numbers : List ℕ
  pub are : map (number_of_item c) items ≡ map Some numbers
  pub edges : new ≡ old ++ edges_from from numbers

-- Such edges are added.
pub record AddsReferencesTo (from : ℕ) (items : List Item) (old new : References) : Type 0 where
  pub counts : new.counts ≡ old.counts
  pub taken : new.taken ≡ old.taken
  pub refers : from < all_numbers old.counts → RefersTo old.counts from items (edges_of old.graph) (edges_of new.graph)

-- From an item there is an edge to another one, after the edges that were there.
abbrev pub ItemRefersTo : ItemCounts → (from to : Item) → (old new : List (ℕ × ℕ)) → Type 0
ItemRefersTo c from to old new =
    (m : ℕ) × (n : ℕ) × (number_of_item c from ≡ Some m) × (number_of_item c to ≡ Some n) × (new ≡ old ++ (m, n) ∷ [])

-- From each of two items there is an edge to the other.
abbrev pub ReferToEachOther : ItemCounts → (first second : Item) → (old new : List (ℕ × ℕ)) → Type 0
ReferToEachOther c first second old new =
    (mid : List (ℕ × ℕ)) × ItemRefersTo c first second old mid × ItemRefersTo c second first mid new

-- One of these items, which are named at this place, isn't there, unless memory ran out.
abbrev pub IsNotThere : ItemCounts → List Item → (at : ℕ) → ModuleError → Type 0
IsNotThere c items at e =
    (e.fault ≡ fault.Memory)
    ⊎ ((item : Item) × Contains items item × (number_of_item c item ≡ None) × (e ≡ record { fault = fault.IndexOutOfRange item.space item.index; at = at }))

-- the numbers of the module itself and of these items
abbrev pub number_list : Option ℕ → List ℕ
number_list (Some n) = n ∷ []
number_list None = []

abbrev pub roots_of : ItemCounts → List Item → List ℕ
roots_of c items = 0 ∷ flat_map (λ item. number_list (number_of_item c item)) items
