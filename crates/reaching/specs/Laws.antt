-- What is reached is the least set that has the roots and is closed under edges.
use Rattle.std.specs.Prelude.{◌≡◌, ◌<◌, ℕ, Bool, true, List}
use Rattle.std.specs.List.{Contains}
use Rattle.reaching.specs.Reaching.{IsReachedFrom}

abbrev pub Roots : Type 0
Roots = (items : ℕ) (es : List (ℕ × ℕ)) (roots : List ℕ) (x : ℕ) → x < items → Contains roots x → IsReachedFrom items es roots x

abbrev pub Closed : Type 0
Closed = (items : ℕ) (es : List (ℕ × ℕ)) (roots : List ℕ) (x y : ℕ) → y < items → Contains es (x, y) → IsReachedFrom items es roots x → IsReachedFrom items es roots y

-- Each other set that has the roots and is closed contains what is reached.
abbrev pub Least : Type 0
Least = (items : ℕ) (es : List (ℕ × ℕ)) (roots : List ℕ) (has : ℕ → Bool) → ((x : ℕ) → Contains roots x → has x ≡ true)
    → ((x y : ℕ) → Contains es (x, y) → has x ≡ true → has y ≡ true) → (x : ℕ) → IsReachedFrom items es roots x → has x ≡ true
