-- Lists by ascending keys. Elements of one key keep their order.
use Rattle.std.specs.Prelude.{ℕ, List, [], ◌∷◌, nat_lt, if◌then◌else◌}

-- an element in front of the first one whose key isn't less
unfoldable pub inserted_by : {X : Type 0} → (key : X → ℕ) → X → List X → List X
inserted_by key x [] = x ∷ []
inserted_by key x (y ∷ ys) = if nat_lt (key y) (key x) then y ∷ inserted_by key x ys else x ∷ y ∷ ys

unfoldable pub sorted_by : {X : Type 0} → (key : X → ℕ) → List X → List X
sorted_by key [] = []
sorted_by key (x ∷ xs) = inserted_by key x (sorted_by key xs)
