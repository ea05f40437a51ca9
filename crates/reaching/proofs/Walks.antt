-- Walks, and what is reached by them.
use Rattle.std.proofs.Common.{◌≡◌, ℕ, zero, suc, ◌<◌, Bool, true, List, refl, subst}
use Rattle.std.specs.List.{Contains}
use Rattle.reaching.specs.Reaching.{IsWalk, IsReachedFrom}
use Rattle.reaching.specs.Laws.{Roots, Closed, Least}

pub roots_reached : Roots
roots_reached items es roots x within root = (within, x, zero, root, refl)

pub closed : Closed
closed items es roots x y within edge r = (within, r.1, suc r.2, r.3, (x, r.4, edge))

-- ---- each closed set that has the first item of a walk has the last

has_last : (es : List (ℕ × ℕ)) (has : ℕ → Bool) → ((x y : ℕ) → Contains es (x, y) → has x ≡ true → has y ≡ true)
    → (a b n : ℕ) → has a ≡ true → IsWalk es a b n → has b ≡ true
has_last es has goes_on a b zero start w = subst (λ x. has x ≡ true) w start
has_last es has goes_on a b (suc n) start w = goes_on w.0 b w.2 (has_last es has goes_on a w.0 n start w.1)

pub least : Least
least items es roots has start goes_on x r = has_last es has goes_on r.1 x r.2 (start r.1 r.3) r.4

-- ---- the same for a set of items, where edges go from items

-- from each marked item, edges to items go to marked ones
abbrev pub GoesOn : (items : ℕ) → List (ℕ × ℕ) → (ℕ → Bool) → Type 0
GoesOn items es has = (x y : ℕ) → Contains es (x, y) → y < items → has x ≡ true → has y ≡ true

marks_last : (items : ℕ) (es : List (ℕ × ℕ)) (has : ℕ → Bool) → ((x y : ℕ) → Contains es (x, y) → x < items) → GoesOn items es has
    → (a b n : ℕ) → b < items → (a < items → has a ≡ true) → IsWalk es a b n → has b ≡ true
marks_last items es has items_only goes_on a b zero within start w = subst (λ x. x < items → has x ≡ true) w start within
marks_last items es has items_only goes_on a b (suc n) within start w =
    goes_on w.0 b w.2 within (marks_last items es has items_only goes_on a w.0 n (items_only w.0 b w.2) start w.1)

pub marks_all : (items : ℕ) (es : List (ℕ × ℕ)) (roots : List ℕ) (has : ℕ → Bool) → ((x y : ℕ) → Contains es (x, y) → x < items) → GoesOn items es has
    → ((x : ℕ) → Contains roots x → x < items → has x ≡ true) → (x : ℕ) → IsReachedFrom items es roots x → has x ≡ true
marks_all items es roots has items_only goes_on start x r = marks_last items es has items_only goes_on r.1 x r.2 r.0 (start r.1 r.3) r.4
