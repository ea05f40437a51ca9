-- The edges from an item, by their numbers, when an edge is added.
use Rattle.std.proofs.Common.{inl, inr, ◌≡◌, ℕ, zero, suc, ◌+◌, ◌-◌, ◌<◌, ◌≤◌, ◌==◌, ◌⊎◌, Bool, true, false, true≢false, List, [], ◌∷◌, ◌++◌, length, map, get_or, set, Option, None, Some, slice_get, option_map, refl, sym, ap, subst, ◌∙◌, arith, eq-eqb, length-append, get_or-set_same, get_or-set_other}
use Rattle.std.specs.List.{Contains}
use Rattle.std.proofs.lemmas.Bool.{eqb-true, cases_eq}
use Rattle.std.proofs.lemmas.Option.{slice_get_read, slice_get_within}
use Rattle.reaching.specs.declared.graph.Edge.{Edge}
use Rattle.reaching.specs.Chains.{goes_from, is_from, IsLastFrom}
use Rattle.reaching.specs.Reaching.{ends_of}

-- ---- the edge of a number

abbrev value : {A : Type 0} → A → Option A → A
value d None = d
value d (Some x) = x

pub some_injective : {A : Type 0} (d : A) (x y : A) → Some x ≡ Some y → x ≡ y
some_injective {A} d x y same = ap (value d) same

pub from_edge : (es : List Edge) (a k : ℕ) (e : Edge) → slice_get es k ≡ Some e → is_from es a k ≡ true → e.from ≡ a
from_edge es a k e at from = eqb-true e.from a (subst (λ o. goes_from a o ≡ true) at from)

pub edge_from : (es : List Edge) (a k : ℕ) (e : Edge) → slice_get es k ≡ Some e → e.from ≡ a → is_from es a k ≡ true
edge_from es a k e at from = ap (goes_from a) at ∙ eq-eqb e.from a from

-- ---- an edge is one of a number

abbrev is_nothing : {A : Type 0} → Option A → Bool
is_nothing None = false
is_nothing (Some x) = true

none_some : {A : Type 0} (x : A) → None ≡ Some x → ⊥
none_some x same = true≢false (sym (ap is_nothing same))

pub Contains_edge : (es : List Edge) (k : ℕ) (e : Edge) → slice_get es k ≡ Some e → Contains (map ends_of es) (e.from, e.to)
Contains_edge [] k e at = absurd (none_some e at)
Contains_edge (x ∷ es) zero e at = (zero, omega arith, ap ends_of (some_injective e x e at))
Contains_edge (x ∷ es) (suc k) e at = let rest = Contains_edge es k e at in (suc rest.0, omega arith, rest.2)

number_at : (es : List Edge) (a b k : ℕ) → k < length (map ends_of es) → get_or (map ends_of es) k (a, b) ≡ (a, b)
    → (k : ℕ) × (e : Edge) × (slice_get es k ≡ Some e) × (e.from ≡ a) × (e.to ≡ b)
number_at [] a b k within is = absurd (omega arith)
number_at (x ∷ es) a b zero within is = (zero, x, refl, ap (λ p. p.0) is, ap (λ p. p.1) is)
number_at (x ∷ es) a b (suc k) within is =
    let rest = number_at es a b k (omega arith) is in
    (suc rest.0, rest.1, rest.2, rest.3, rest.4)

pub number_of : (es : List Edge) (a b : ℕ) → Contains (map ends_of es) (a, b) → (k : ℕ) × (e : Edge) × (slice_get es k ≡ Some e) × (e.from ≡ a) × (e.to ≡ b)
number_of es a b c = number_at es a b c.0 c.1 c.2

-- ---- an edge is added

slice_get_kept : (es : List Edge) (e : Edge) (k : ℕ) → k < length es → slice_get (es ++ e ∷ []) k ≡ slice_get es k
slice_get_kept [] e k within = absurd (omega arith)
slice_get_kept (x ∷ es) e zero within = refl
slice_get_kept (x ∷ es) e (suc k) within = slice_get_kept es e k (omega arith)

-- an edge of the longer list is one of the shorter, or the new one
pub edge_cases : (es : List Edge) (e : Edge) (k : ℕ) (f : Edge) → slice_get (es ++ e ∷ []) k ≡ Some f
    → ((k < length es) × (slice_get es k ≡ Some f)) ⊎ ((k ≡ length es) × (e ≡ f))
edge_cases [] e zero f at = inr (refl, some_injective e e f at)
edge_cases [] e (suc k) f at = absurd (none_some f at)
edge_cases (x ∷ es) e zero f at = inl (omega arith, at)
edge_cases (x ∷ es) e (suc k) f at = elim (edge_cases es e k f at) [
  | inl before ↦ inl (omega arith, before.1)
  | inr new ↦ inr (omega arith, new.1)
]

from_cases : (es : List Edge) (e : Edge) (a k : ℕ) → is_from (es ++ e ∷ []) a k ≡ true → (is_from es a k ≡ true) ⊎ ((k ≡ length es) × (e.from ≡ a))
from_cases [] e a zero from = inr (refl, eqb-true e.from a from)
from_cases [] e a (suc k) from = absurd (true≢false (sym from))
from_cases (x ∷ es) e a zero from = inl from
from_cases (x ∷ es) e a (suc k) from = elim (from_cases es e a k from) [
  | inl before ↦ inl before
  | inr new ↦ inr (omega arith, new.1)
]

from_kept : (es : List Edge) (e : Edge) (a k : ℕ) → is_from es a k ≡ true → is_from (es ++ e ∷ []) a k ≡ true
from_kept [] e a k from = absurd (true≢false (sym from))
from_kept (x ∷ es) e a zero from = from
from_kept (x ∷ es) e a (suc k) from = from_kept es e a k from

from_new : (es : List Edge) (e : Edge) (k : ℕ) → k ≡ length es → is_from (es ++ e ∷ []) e.from k ≡ true
from_new [] e zero is = eq-eqb e.from e.from refl
from_new [] e (suc k) is = absurd (omega arith)
from_new (x ∷ es) e zero is = absurd (omega arith)
from_new (x ∷ es) e (suc k) is = from_new es e k (omega arith)

pub from_within : (es : List Edge) (a k : ℕ) → is_from es a k ≡ true → k < length es
from_within [] a k from = absurd (true≢false (sym from))
from_within (x ∷ es) a zero from = omega arith
from_within (x ∷ es) a (suc k) from = let rest = from_within es a k from in omega arith

last_kept : (es : List Edge) (e : Edge) (a limit last : ℕ) → limit ≤ length es → IsLastFrom es a limit last → IsLastFrom (es ++ e ∷ []) a limit last
last_kept es e a limit last within is = (
  λ k from lt. elim (from_cases es e a k from) [
    | inl before ↦ is.0 k before lt
    | inr new ↦ absurd (omega (arith, new.0, lt, within))
  ],
  λ k same. ((is.1 k same).0, from_kept es e a k (is.1 k same).1),
)

last_other : (es : List Edge) (e : Edge) (a limit last : ℕ) → (a ≡ e.from → ⊥) → limit ≡ suc (length es) → IsLastFrom es a (length es) last → IsLastFrom (es ++ e ∷ []) a limit last
last_other es e a limit last other size is = (
  λ k from lt. elim (from_cases es e a k from) [
    | inl before ↦ is.0 k before (from_within es a k before)
    | inr new ↦ absurd (other (sym new.1))
  ],
  λ k same. (omega (arith, (is.1 k same).0), from_kept es e a k (is.1 k same).1),
)

last_new : (es : List Edge) (e : Edge) (limit : ℕ) → limit ≡ suc (length es) → IsLastFrom (es ++ e ∷ []) e.from limit limit
last_new es e limit size = (λ k from lt. lt, λ k same. (omega arith, from_new es e k (omega arith)))

-- the last edges from each item
pub last_added : (es new : List Edge) (e : Edge) (last : List ℕ) (limit size : ℕ) → new ≡ es ++ e ∷ [] → limit ≡ suc (length es) → size ≡ suc (length es)
    → e.from < length last → ((a : ℕ) → IsLastFrom es a (length es) (get_or last a 0)) → (a : ℕ) → IsLastFrom new a limit (get_or (set last e.from size) a 0)
last_added es new e last limit size is_new is_limit is_size within is a =
    subst (λ all. IsLastFrom all a limit (get_or (set last e.from size) a 0)) (sym is_new) (elim (cases_eq a e.from) [
      | inl same ↦
          let at : get_or (set last e.from size) a 0 ≡ limit =
          ap (λ i. get_or (set last e.from size) i 0) same ∙ get_or-set_same last e.from size 0 within ∙ (is_size ∙ sym is_limit) in
          subst (λ i. IsLastFrom (es ++ e ∷ []) a limit i) (sym at) (subst (λ i. IsLastFrom (es ++ e ∷ []) i limit limit) (sym same) (last_new es e limit is_limit))
      | inr other ↦
          let at : get_or (set last e.from size) a 0 ≡ get_or last a 0 = get_or-set_other last e.from a size 0 other in
          subst (λ i. IsLastFrom (es ++ e ∷ []) a limit i) (sym at) (last_other es e a limit (get_or last a 0) other is_limit (is a))
    ])

-- the edges before each edge
pub before_added : (es new : List Edge) (e : Edge) → new ≡ es ++ e ∷ [] → IsLastFrom es e.from (length es) e.before
    → ((k : ℕ) (f : Edge) → slice_get es k ≡ Some f → IsLastFrom es f.from k f.before) → (k : ℕ) (f : Edge) → slice_get new k ≡ Some f → IsLastFrom new f.from k f.before
before_added es new e is_new last is k f at =
    subst (λ all. IsLastFrom all f.from k f.before) (sym is_new) (elim (edge_cases es e k f (subst (λ all. slice_get all k ≡ Some f) is_new at)) [
      | inl before ↦ last_kept es e f.from k f.before (omega (arith, before.0)) (is k f before.1)
      | inr added ↦
          subst (λ (g : Edge). IsLastFrom (es ++ e ∷ []) g.from k g.before) added.1
          (subst (λ limit. IsLastFrom (es ++ e ∷ []) e.from limit e.before) (sym added.0) (last_kept es e e.from (length es) e.before (omega arith) last))
    ])

-- ---- what follows from the last edges

item_within : (last : List ℕ) (a k : ℕ) → k < get_or last a 0 → a < length last
item_within [] a k lt = absurd (omega arith)
item_within (x ∷ last) zero k lt = omega arith
item_within (x ∷ last) (suc a) k lt = let rest = item_within last a k lt in omega arith

-- each edge goes from an item
pub from_item : (es : List Edge) (last : List ℕ) → ((a : ℕ) → IsLastFrom es a (length es) (get_or last a 0)) → (a b : ℕ) → Contains (map ends_of es) (a, b) → a < length last
from_item es last is a b c =
    let edge = number_of es a b c in
    let from = edge_from es a edge.0 edge.1 edge.2 edge.3 in
    item_within last a edge.0 ((is a).0 edge.0 from (from_within es a edge.0 from))

pub last_within : (es : List Edge) (a limit last : ℕ) → IsLastFrom es a limit last → last ≤ limit
last_within es a limit zero is = omega arith
last_within es a limit (suc k) is = let lt = (is.1 k refl).0 in omega arith

-- ---- the edges from an item, one after the other

-- where each edge has the one before it
abbrev pub HaveLast : List Edge → Type 0
HaveLast es = (k : ℕ) (e : Edge) → slice_get es k ≡ Some e → IsLastFrom es e.from k e.before

-- the next edge goes from the item
abbrev pub IsNext : List Edge → (item at : ℕ) → Type 0
IsNext es item at = (k : ℕ) → at ≡ suc k → (k < length es) × (is_from es item k ≡ true)

pub next_within : (es : List Edge) (item at : ℕ) → 0 < at → IsNext es item at → at - 1 < length es
next_within es item at more next = (next (at - 1) (omega arith)).0

pub next_is : (es : List Edge) (item at : ℕ) (edge : Edge) → 0 < at → IsNext es item at → edge ≡ get_or es (at - 1) edge → slice_get es (at - 1) ≡ Some edge
next_is es item at edge more next is = slice_get_read es (length es) (at - 1) edge refl (next_within es item at more next) is

pub next_from : (es : List Edge) (item at : ℕ) (edge : Edge) → 0 < at → IsNext es item at → edge ≡ get_or es (at - 1) edge → edge.from ≡ item
next_from es item at edge more next is =
    from_edge es item (at - 1) edge (next_is es item at edge more next is) (next (at - 1) (omega arith)).1

pub next_last : (es : List Edge) (item at : ℕ) (edge : Edge) → 0 < at → IsNext es item at → edge ≡ get_or es (at - 1) edge → HaveLast es
    → IsLastFrom es item (at - 1) edge.before
next_last es item at edge more next is have =
    subst (λ a. IsLastFrom es a (at - 1) edge.before) (next_from es item at edge more next is) (have (at - 1) edge (next_is es item at edge more next is))

pub next_smaller : (es : List Edge) (item at : ℕ) (edge : Edge) → 0 < at → IsNext es item at → edge ≡ get_or es (at - 1) edge → HaveLast es → edge.before < at
next_smaller es item at edge more next is have =
    let le = last_within es item (at - 1) edge.before (next_last es item at edge more next is have) in
    omega arith

pub next_again : (es : List Edge) (item at : ℕ) (edge : Edge) → 0 < at → IsNext es item at → edge ≡ get_or es (at - 1) edge → HaveLast es → IsNext es item edge.before
next_again es item at edge more next is have k same =
    let from = ((next_last es item at edge more next is have).1 k same).1 in
    (from_within es item k from, from)

-- an edge from the item that comes before the next one, or is it
pub before_next : (es : List Edge) (item at : ℕ) (edge : Edge) → 0 < at → IsNext es item at → edge ≡ get_or es (at - 1) edge → HaveLast es
    → (k : ℕ) (e : Edge) → slice_get es k ≡ Some e → e.from ≡ item → k < at → (k < edge.before) ⊎ (edge ≡ e)
before_next es item at edge more next is have k e found from lt = elim (cases_eq k (at - 1)) [
  | inl same ↦ inr (some_injective edge edge e (sym (next_is es item at edge more next is) ∙ (sym (ap (slice_get es) same) ∙ found)))
  | inr other ↦ inl ((next_last es item at edge more next is have).0 k (edge_from es item k e found from) (omega arith))
]

-- the edges from an item, as a search begins with the last
pub first_next : (es : List Edge) (item last : ℕ) → IsLastFrom es item (length es) last → IsNext es item last
first_next es item last is k same = is.1 k same

pub first_before : (es : List Edge) (item last : ℕ) → IsLastFrom es item (length es) last → (k : ℕ) (e : Edge) → slice_get es k ≡ Some e → e.from ≡ item → k < last
first_before es item last is k e found from = is.0 k (edge_from es item k e found from) (slice_get_within es k e found)
