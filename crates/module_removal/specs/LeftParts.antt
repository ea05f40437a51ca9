-- What is left of items of functions in custom sections: metadata of operators, by the offsets of these (the proposals for custom annotations of
-- code and for branch hinting), and names of locals, by their indices (WebAssembly core specification 3.0, custom sections, name section).
-- Such contents are a vector of functions: of each its index, and a vector of items, each a number and a vector of bytes.
use Rattle.std.specs.Prelude.{◌≡◌, ◌⊎◌, ◌<◌, ◌≤◌, ◌==◌, ◌&&◌, ◌||◌, ℕ, nat_lt, Bool, if◌then◌else◌, List, [], ◌∷◌, ◌++◌, length, map, slice_index_or, Option, Some, None, Ok}
use denote.Ref.{Bor}
use Rattle.std.specs.List.{flat_map}
use Rattle.std.specs.List.Sorted.{IsPermutation, IsNonDecreasingBy}
use Rattle.wasm_operators.specs.declared.types.Space.TheVariants.{Funcs}
use Rattle.wasm_operators.specs.Shortest.{short_number}
use Rattle.wasm_sections.specs.CodeSections.{entry}
use Rattle.wasm_sections.specs.Parts.{Part, ◌>=>◌, just, number, bytes_part, repeated}
use Rattle.module_removal.specs.declared.followed.Part.{Part as FunctionPart}
use Rattle.module_removal.specs.declared.left.LeftItems.{LeftItems}
use Rattle.module_removal.specs.LeftSpaces.{index_of}
use Rattle.module_removal.specs.CopiedParts.{item_at}
use Rattle.module_removal.specs.Entries.{with_entry, counted_bytes}
use Rattle.module_removal.specs.ModuleSteps.{PartStep, ThroughVector}

-- ---- the new numbers

-- the part of this function with this number has this new one, if it is written
abbrev pub new_number_in : List FunctionPart → (func old : ℕ) → Option ℕ
new_number_in [] func old = None
new_number_in (p ∷ ps) func old = if (p.func == func) && (p.old == old) then p.new else new_number_in ps func old

abbrev pub IsAtMost : FunctionPart → FunctionPart → Type 0
IsAtMost p q = (p.func < q.func) ⊎ ((p.func ≡ q.func) × (p.old ≤ q.old))

-- The parts are by ascending function and number.
abbrev pub ArePartsInOrder : List FunctionPart → Type 0
ArePartsInOrder parts = (i j : ℕ) (d : FunctionPart) → i ≤ j → j < length parts → IsAtMost (slice_index_or parts i d) (slice_index_or parts j d)

-- the functions and numbers of the parts
abbrev pub parts_numbered : List FunctionPart → List (ℕ × ℕ)
parts_numbered parts = map (λ p. (p.func, p.old)) parts

-- whether a part comes before those of this function with this number
abbrev pub is_part_before : (func old : ℕ) → FunctionPart → Bool
is_part_before func old p = nat_lt p.func func || ((p.func == func) && nat_lt p.old old)

-- ---- the items of a function

abbrev pub FunctionItem : Type 0
FunctionItem = ℕ × List ℕ

abbrev pub with_item : Option ℕ → List ℕ → List FunctionItem → List FunctionItem
with_item (Some new) bytes items = items ++ (new, bytes) ∷ []
with_item None bytes items = items

-- the next item, under its new number if it has one
abbrev pub next_item : (numbers : ℕ → Option ℕ) → List FunctionItem → Part (List FunctionItem)
next_item numbers items = number >=> λ old. bytes_part >=> λ bytes. just (with_item (numbers old) bytes items)

abbrev pub numbered_items : (numbers : ℕ → Option ℕ) → Part (List FunctionItem)
numbered_items numbers = number >=> λ count. repeated (next_item numbers) count []

abbrev pub item_bytes : FunctionItem → List ℕ
item_bytes x = short_number x.0 ++ entry x.1

-- their vector
abbrev pub items_vector_of : List FunctionItem → List ℕ
items_vector_of items = short_number (length items) ++ flat_map item_bytes items

-- ---- functions

-- a function that is left and has items, under its new index
abbrev pub with_items_of : Option ℕ → List FunctionItem → ℕ × List ℕ → ℕ × List ℕ
with_items_of index [] so = so
with_items_of index (x ∷ xs) so = with_entry index (items_vector_of (x ∷ xs)) so

-- The next function: its items come by ascending new number.
abbrev pub LeavesFunction : LeftItems → List FunctionPart → PartStep (ℕ × List ℕ)
LeavesFunction left parts end old new =
    (func : ℕ) × (rest : List ℕ) × (items : List FunctionItem) × (sorted : List FunctionItem) × (number end old.1 ≡ Ok (func, rest))
    × (numbered_items (new_number_in parts func) end rest ≡ Ok (items, new.1)) × IsPermutation items sorted
    × IsNonDecreasingBy (λ (x : FunctionItem). x.0) sorted × (new.0 ≡ with_items_of (index_of left (item_at Funcs func)) sorted old.0)

-- The new contents are the number of the functions, and the functions.
abbrev pub LeavesParts : LeftItems → List FunctionPart → (end : ℕ) → (text new : List ℕ) → Type 0
LeavesParts left parts end text new =
    (functions : ℕ × List ℕ) × ThroughVector (LeavesFunction left parts) end text (0, []) functions × (new ≡ counted_bytes functions)

-- ---- for values of the code

abbrev pub items_numbered : List (ℕ × Bor (List ℕ)) → List FunctionItem
items_numbered items = map (λ x. (x.0, x.1.now)) items
