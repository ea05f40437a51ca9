-- The locals that are set where a function begins.
use Rattle.std.proofs.Common.{◌≡◌, ℕ, zero, suc, ◌+◌, ◌<◌, ◌≤◌, Bool, true, false, List, [], ◌∷◌, ◌++◌, length, Option, Some, None, refl, sym, ap, ◌∙◌, arith}
use Rattle.std.specs.Prelude.{slice_get, nat_lt, ◌||◌, ◌&&◌, nat_eq, cond, option_map, unwrap_or}
use Rattle.std.specs.List.{list_any, filter, range_with_len}
use Rattle.std.proofs.lemmas.Bool.{eqb-true, ltb-true, lt-ltb, le-ltb, false≢true}
use Rattle.std.proofs.lemmas.List.Folds.{list_any-append}
use Rattle.std.proofs.lemmas.List.FromFn.{length-range_with_len, get_or-range_with_len}
use Rattle.std.proofs.lemmas.Map.Views.{any-filter_same}
use Rattle.std.proofs.lemmas.Option.{slice_get_within, get_or_from_slice_get, slice_get-get_or}
use Rattle.wasm_types.specs.declared.val_type.ValType.{ValType}
use Rattle.wasm_locals.proofs.Places.{same_test, contains-at, at-contains}
use Rattle.wasm_typing.specs.Contexts.{OperandContext, contains, has_default, initial_locals}

and-left : (a b : Bool) → (a && b) ≡ true → a ≡ true
and-left true b h = refl
and-left false b h = h

range-within : (n k : ℕ) → n < k → contains n (range_with_len 0 k) ≡ true
range-within n k h =
    contains-at n (range_with_len 0 k) n
    (slice_get-get_or (range_with_len 0 k) n 0 (omega (arith, length-range_with_len 0 k))
    ∙ ap (λ m. Some m) (let at = get_or-range_with_len 0 k n 0 h in omega arith))

within-range : (n k : ℕ) → contains n (range_with_len 0 k) ≡ true → n < k
within-range n k h =
    let found = at-contains n (range_with_len 0 k) h in
    let inside = slice_get_within (range_with_len 0 k) found.0 n found.1 in
    let short : found.0 < k = omega (arith, length-range_with_len 0 k) in
    let at = get_or-range_with_len 0 k found.0 0 short in
    let is = get_or_from_slice_get (range_with_len 0 k) found.0 n 0 found.1 in
    omega arith

pub contains-range : (n k : ℕ) → contains n (range_with_len 0 k) ≡ nat_lt n k
contains-range n k =
    same_test (contains n (range_with_len 0 k)) (nat_lt n k) (λ h. lt-ltb n k (within-range n k h)) (λ h. range-within n k (ltb-true n k h))

-- whether a local's type has a default
abbrev pub defaults : List (ValType ℕ) → ℕ → Bool
defaults ts n = unwrap_or (option_map has_default (slice_get ts n)) false

default-within : (ts : List (ValType ℕ)) (n : ℕ) (at : Option (ValType ℕ)) → slice_get ts n ≡ at → unwrap_or (option_map has_default at) false ≡ true → n < length ts
default-within ts n None h d = absurd (false≢true d)
default-within ts n (Some t) h d = slice_get_within ts n t h

all_defaults : (ts : List (ValType ℕ)) (n : ℕ) → contains n (filter (defaults ts) (range_with_len 0 (length ts))) ≡ defaults ts n
all_defaults ts n =
    let kept = any-filter_same (nat_eq n) (defaults ts) (defaults ts n) (λ k e. ap (defaults ts) (sym (eqb-true n k e))) (range_with_len 0 (length ts)) in
    same_test (contains n (filter (defaults ts) (range_with_len 0 (length ts)))) (defaults ts n)
    (λ h. and-left (defaults ts n) (contains n (range_with_len 0 (length ts))) (sym kept ∙ h))
    (λ h. kept ∙ (ap (λ b. b && contains n (range_with_len 0 (length ts))) h ∙ range-within n (length ts) (default-within ts n (slice_get ts n) refl h)))

pub contains-initial : (c : OperandContext) (ts : List (ValType ℕ)) (k n : ℕ) → c.locals ≡ ts
    → contains n (initial_locals c (range_with_len 0 k)) ≡ (nat_lt n k || defaults ts n)
contains-initial c ts k n h =
    list_any-append (nat_eq n) (range_with_len 0 k) (filter (defaults c.locals) (range_with_len 0 (length c.locals)))
    ∙ (λ i. contains-range n k i || (all_defaults c.locals n ∙ ap (λ ls. defaults ls n) h) i)

-- a parameter; another local, by its type; no local

pub parameter-is_initial : (c : OperandContext) (ts : List (ValType ℕ)) (k n : ℕ) → c.locals ≡ ts → n < k → contains n (initial_locals c (range_with_len 0 k)) ≡ true
parameter-is_initial c ts k n h within = contains-initial c ts k n h ∙ ap (λ b. b || defaults ts n) (lt-ltb n k within)

pub declared-is_initial : (c : OperandContext) (ts : List (ValType ℕ)) (k n : ℕ) (local : Option (ValType ℕ)) → c.locals ≡ ts → k ≤ n → slice_get ts n ≡ local
    → contains n (initial_locals c (range_with_len 0 k)) ≡ unwrap_or (option_map has_default local) false
declared-is_initial c ts k n local h after at =
    contains-initial c ts k n h ∙ (ap (λ b. b || defaults ts n) (le-ltb n k after) ∙ ap (λ o. unwrap_or (option_map has_default o) false) at)

pub past-end : {X : Type 0} (xs : List X) (n : ℕ) → slice_get xs n ≡ None → length xs ≤ n
past-end [] n h = omega arith
past-end (x ∷ xs) zero h = absurd (cc)
past-end (x ∷ xs) (suc n) h = omega (arith, past-end xs n h)
