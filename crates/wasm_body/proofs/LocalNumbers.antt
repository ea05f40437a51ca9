-- The numbers of locals, and their declarations.
use Rattle.std.proofs.Common.{◌≡◌, ℕ, zero, suc, ◌+◌, ◌≤◌, ◌==◌, List, [], ◌∷◌, ◌++◌, Bool, true, false, Decides, not, ◌&&◌, ◌||◌, cond, Some, None, ◌⊎◌, inl, inr, subst, get_or, replicate, length, slice_get, refl, sym, ap, ◌∙◌, arith, add-one}
use Rattle.std.specs.List.{All, AllByRecursion, AllAdjacentBelow}
use Rattle.std.specs.Option.{option_map, option_or}
use Rattle.std.specs.Ordering.{ordering_reverse}
use Rattle.std.specs.declared.cmp.Ordering.TheVariants.{Less}
use Rattle.std.specs.Cmp.{IsTotalOrder}
use Rattle.std.proofs.lemmas.Bool.{eqb-true, eq-eqb}
use Rattle.std.proofs.lemmas.List.Folds.{list_any-append}
use Rattle.std.proofs.lemmas.Cmp.{nat_eq_equiv, on_total, then_total, nat_cmp_total, nat_list_cmp_total}
use Rattle.std.proofs.lemmas.List.Elements.{recursion_from_All, All-nil, All-cons, All-tail}
use Rattle.std.proofs.Math.Bool.{and-true, or-true}
use Rattle.std.proofs.lemmas.Option.{none-some, same_Some, cond_some}
use Rattle.wasm_types.specs.declared.val_type.ValType.{ValType}
use Rattle.walrus_ir.specs.Types.{same_type}
use Rattle.wasm_types.specs.TypeOrder.{type_key}
use Rattle.walrus_ir.specs.Unfolding.{among, Apart}
use Rattle.walrus_ir.proofs.SameTypes.{same_types-Decides}
use Rattle.wasm_body.specs.LocalNumbers.{Local, local_order, ids_of, AreDeclared, last_place, one_more, runs, OneDeclared, OneLocalEach, PlacesAreNumbers, spread, RunsAreMaximal}

-- ---- locals in ascending order

pub local_order-total : IsTotalOrder local_order
local_order-total = then_total (on_total (λ l. type_key l.0) nat_list_cmp_total) (on_total (λ l. l.1) nat_cmp_total)

abbrev pub Below : Local → Local → Type 0
Below l m = local_order l m ≡ Less

not_both : (l m : Local) → Below l m → Below m l → ⊥
not_both l m a b =
    let turned = local_order-total.antisymm l m in
    let less : Less ≡ ordering_reverse Less = sym a ∙ (turned ∙ ap ordering_reverse b) in
    cc

abbrev pub IsLocalIn : Local → List Local → Type 0
IsLocalIn x [] = ⊥
IsLocalIn x (l ∷ ls) = (x ≡ l) ⊎ IsLocalIn x ls

-- each local is below all that follow it
abbrev pub Ascends : List Local → Type 0
Ascends [] = Unit {0}
Ascends (l ∷ ls) = AllByRecursion (Below l) ls × Ascends ls

pub holds_of_local : (P : Local → Type 0) (x : Local) (ls : List Local) → AllByRecursion P ls → IsLocalIn x ls → P x
holds_of_local P x [] h s = absurd s
holds_of_local P x (l ∷ ls) h (inl e) = subst P (sym e) h.0
holds_of_local P x (l ∷ ls) h (inr s) = holds_of_local P x ls h.1 s

all_below : (l m : Local) (ls : List Local) → Below l m → AllByRecursion (Below m) ls → AllByRecursion (Below l) ls
all_below l m [] h a = tt
all_below l m (k ∷ ls) h a = (local_order-total.trans l m k h a.0, all_below l m ls h a.1)

-- a relation of neighbours in a list is one of neighbours in its tail
after_first : {A : Type 0} (R : A → A → Type 0) (x : A) (xs : List A) → AllAdjacentBelow R (x ∷ xs) (length (x ∷ xs)) → AllAdjacentBelow R xs (length xs)
after_first R x xs h = λ k d within.
    let next : suc k + 1 ≡ suc (k + 1) = omega arith in
    subst (λ n. R (get_or xs k d) (get_or (x ∷ xs) n d)) next (h (suc k) d (omega arith))

first_two : {A : Type 0} (R : A → A → Type 0) (x y : A) (xs : List A) → AllAdjacentBelow R (x ∷ y ∷ xs) (length (x ∷ y ∷ xs)) → R x y
first_two R x y xs h = h 0 x (omega arith)

pub ascends : (ls : List Local) → AllAdjacentBelow Below ls (length ls) → Ascends ls
ascends [] h = tt
ascends (l ∷ []) h = (tt, tt)
ascends (l ∷ m ∷ ls) h =
    let rest = ascends (m ∷ ls) (after_first Below l (m ∷ ls) h) in
    let first = first_two Below l m ls h in
    ((first, all_below l m ls first rest.0), rest)

-- two ascending lists of the same locals are equal
abbrev Within : List Local → List Local → Type 0
Within ls ms = (x : Local) → IsLocalIn x ls → IsLocalIn x ms

same_first : (l m : Local) (ls ms : List Local) → Ascends (l ∷ ls) → Ascends (m ∷ ms) → Within (l ∷ ls) (m ∷ ms) → Within (m ∷ ms) (l ∷ ls) → l ≡ m
same_first l m ls ms a b to from =
    elim (to l (inl refl)) [
      | inl e ↦ e
      | inr s ↦ elim (from m (inl refl)) [
        | inl e ↦ sym e
        | inr t ↦ absurd (not_both l m (holds_of_local (Below l) m ls a.0 t) (holds_of_local (Below m) l ms b.0 s))
      ]
    ]

within_rest : (l m : Local) (ls ms : List Local) → l ≡ m → AllByRecursion (Below l) ls → Within (l ∷ ls) (m ∷ ms) → Within ls ms
within_rest l m ls ms e below to x s =
    elim (to x (inr s)) [
      | inl f ↦
          let less = holds_of_local (Below l) x ls below s in
          let same : x ≡ l = f ∙ sym e in
          absurd (not_both l l (subst (Below l) same less) (subst (Below l) same less))
      | inr t ↦ t
    ]

same_locals : (ls ms : List Local) → Ascends ls → Ascends ms → Within ls ms → Within ms ls → ls ≡ ms
same_locals [] [] a b to from = refl
same_locals [] (m ∷ ms) a b to from = absurd (from m (inl refl))
same_locals (l ∷ ls) [] a b to from = absurd (to l (inl refl))
same_locals (l ∷ ls) (m ∷ ms) a b to from =
    let e = same_first l m ls ms a b to from in
    let es = same_locals ls ms a.1 b.1 (within_rest l m ls ms e a.0 to) (within_rest m l ms ls (sym e) b.0 from) in
    λ i. e i ∷ es i

-- ---- at most one list is declared

pub local_among : (x : Local) (ls : List Local) → IsLocalIn x ls → among x.1 (ids_of ls) ≡ true
local_among x [] s = absurd s
local_among x (l ∷ ls) (inl e) = ap (λ b. b || among x.1 (ids_of ls)) (eq-eqb x.1 l.1 (ap (λ (k : Local). k.1) e))
local_among x (l ∷ ls) (inr s) = ap (λ b. (x.1 == l.1) || b) (local_among x ls s) ∙ or-true (x.1 == l.1)

abbrev IsIdIn : ℕ → List Local → Type 0
IsIdIn id ls = (x : Local) × (x.1 ≡ id) × IsLocalIn x ls

among_local : (id : ℕ) (ls : List Local) → among id (ids_of ls) ≡ true → IsIdIn id ls
among_local id [] h = cc
among_local id (l ∷ ls) h =
    elim (id == l.1) as (λ b. (id == l.1) ≡ b → (b || among id (ids_of ls)) ≡ true → IsIdIn id (l ∷ ls)) [
      | true ↦ λ same all. (l, sym (eqb-true id l.1 same), inl refl)
      | false ↦ λ other all. let found = among_local id ls all in (found.0, found.1, inr found.2)
    ] refl h

module _ {types : List (ValType ℕ)} {args : List ℕ} {used : ℕ → Bool} where
  declared_within : (ls ms : List Local) → AreDeclared types args used ls → AreDeclared types args used ms → Within ls ms
  declared_within ls ms a b x s =
      let found = among_local x.1 ms (b.are_all x.1 ∙ sym (a.are_all x.1) ∙ local_among x ls s) in
      let mine : slice_get types x.1 ≡ Some x.0 = holds_of_local (λ l. slice_get types l.1 ≡ Some l.0) x ls (recursion_from_All _ ls a.typed) s in
      let its : slice_get types found.0.1 ≡ Some found.0.0 = holds_of_local (λ l. slice_get types l.1 ≡ Some l.0) found.0 ms (recursion_from_All _ ms b.typed) found.2 in
      let type : found.0.0 ≡ x.0 = same_Some _ _ (sym its ∙ (ap (slice_get types) found.1 ∙ mine)) in
      subst (λ (y : Local). IsLocalIn y ms) (λ i. (type i, found.1 i)) found.2

pub one_declared : OneDeclared
one_declared types args used ls ms a b =
    same_locals ls ms (ascends ls a.ascend) (ascends ms b.ascend) (declared_within ls ms a b) (declared_within ms ls b a)

-- ---- numbers

pub last_place_get : (xs : List ℕ) (id n : ℕ) → last_place xs id ≡ Some n → slice_get xs n ≡ Some id
last_place_get [] id n h = absurd (none-some n h)
last_place_get (x ∷ xs) id n h =
    elim (last_place xs id) as (λ o. last_place xs id ≡ o → option_or (option_map (λ n. n + 1) o) (cond (x == id) (Some 0) None) ≡ Some n → slice_get (x ∷ xs) n ≡ Some id) [
      | Some m ↦ λ is e. let here : n ≡ suc m = sym (same_Some _ _ e) ∙ add-one m in subst (λ k. slice_get (x ∷ xs) k ≡ Some id) (sym here) (last_place_get xs id m is)
      | None ↦ λ is e. let both = cond_some (x == id) 0 n e in subst (λ k. slice_get (x ∷ xs) k ≡ Some id) both.1 (ap Some (eqb-true x id both.0))
    ] refl h

pub one_local : OneLocalEach
one_local args others a b n h k = same_Some a b (sym (last_place_get (args ++ others) a n h) ∙ last_place_get (args ++ others) b n k)

-- each id of a list with none twice has its place
not_last : (xs : List ℕ) (id : ℕ) → among id xs ≡ false → last_place xs id ≡ None
not_last [] id h = refl
not_last (x ∷ xs) id h =
    elim (id == x) as (λ b. (id == x) ≡ b → (b || among id xs) ≡ false → last_place (x ∷ xs) id ≡ None) [
      | true ↦ λ e k. cc
      | false ↦ λ e k. ap (λ o. option_or (option_map (λ n. n + 1) o) (cond (x == id) (Some 0) None)) (not_last xs id k) ∙ ap (λ b. cond b (Some 0) None) (nat_eq_equiv.symm x id ∙ e)
    ] refl h

apart_place : (xs : List ℕ) (n id : ℕ) → Apart xs → slice_get xs n ≡ Some id → last_place xs id ≡ Some n
apart_place [] n id a h = absurd (none-some id h)
apart_place (x ∷ xs) zero id a h =
    let same : x ≡ id = same_Some x id h in
    ap (λ o. option_or (option_map (λ n. n + 1) o) (cond (x == id) (Some 0) None)) (not_last xs id (subst (λ y. among y xs ≡ false) same a.0))
    ∙ ap (λ b. cond b (Some 0) None) (eq-eqb x id same)
apart_place (x ∷ xs) (suc n) id a h =
    ap (λ o. option_or (option_map (λ n. n + 1) o) (cond (x == id) (Some 0) None)) (apart_place xs n id a.1 h) ∙ ap Some (add-one n)

abbrev Outside : List ℕ → List ℕ → Type 0
Outside ys xs = AllByRecursion (λ x. among x ys ≡ false) xs

apart_append : (xs ys : List ℕ) → Apart xs → Apart ys → Outside ys xs → Apart (xs ++ ys)
apart_append [] ys a b out = b
apart_append (x ∷ xs) ys a b out = (list_any-append (λ y. x == y) xs ys ∙ (ap (λ c. c || among x ys) a.0 ∙ out.0), apart_append xs ys a.1 b out.1)

outside : (xs ys : List ℕ) → ((id : ℕ) → among id xs ≡ true → among id ys ≡ false) → Outside ys xs
outside [] ys h = tt
outside (x ∷ xs) ys h =
    (h x (ap (λ b. b || among x xs) (eq-eqb x x refl)), outside xs ys (λ id is. h id (ap (λ b. (id == x) || b) is ∙ or-true (id == x))))

module _ (types : List (ValType ℕ)) where
  abbrev Typed : Local → Type 0
  Typed l = slice_get types l.1 ≡ Some l.0

  alone : (l : Local) (ls : List Local) → Typed l → AllByRecursion Typed ls → AllByRecursion (Below l) ls → among l.1 (ids_of ls) ≡ false
  alone l [] t ts below = refl
  alone l (m ∷ ls) t ts below =
      elim (l.1 == m.1) as (λ b. (l.1 == m.1) ≡ b → (b || among l.1 (ids_of ls)) ≡ false) [
        | true ↦ λ same.
            let id : l.1 ≡ m.1 = eqb-true l.1 m.1 same in
            let type : l.0 ≡ m.0 = same_Some _ _ (sym t ∙ (ap (slice_get types) id ∙ ts.0)) in
            let one : m ≡ l = λ i. (sym type i, sym id i) in
            let itself = subst (Below l) one below.0 in
            absurd (not_both l l itself itself)
        | false ↦ λ other. alone l ls t ts.1 below.1
      ] refl

  ids_apart : (ls : List Local) → Ascends ls → AllByRecursion Typed ls → Apart (ids_of ls)
  ids_apart [] a t = tt
  ids_apart (l ∷ ls) a t = (alone l ls t.0 t.1 a.0, ids_apart ls a.1 t.1)

not_used_argument : (u a b : Bool) → b ≡ (u && not a) → a ≡ true → b ≡ false
not_used_argument true a b h is = cc
not_used_argument false a b h is = h

pub places_are_numbers : PlacesAreNumbers
places_are_numbers types args used ls d apart n id h =
    let own = ids_apart types ls (ascends ls d.ascend) (recursion_from_All _ ls d.typed) in
    let out = outside args (ids_of ls) (λ id is. not_used_argument (used id) (among id args) (among id (ids_of ls)) (d.are_all id) is) in
    apart_place (args ++ ids_of ls) n id (apart_append args (ids_of ls) apart own out) h

-- ---- runs

pub same_type-Decides : (t u : ValType ℕ) → Decides (same_type t u) (t ≡ u)
same_type-Decides t u =
    let lists = same_types-Decides (t ∷ []) (u ∷ []) in
    let alone : (same_type t u && true) ≡ same_type t u = and-true (same_type t u) in
    (λ h. let same = lists.0 (alone ∙ h) in cc, λ e. sym alone ∙ lists.1 (ap (λ v. v ∷ []) e))

same_type-true : (t u : ValType ℕ) → same_type t u ≡ true → t ≡ u
same_type-true t u h = (same_type-Decides t u).0 h

one_more_whole : (t : ValType ℕ) (rs : List (ℕ × ValType ℕ)) → spread (one_more t rs) ≡ t ∷ spread rs
one_more_whole t [] = refl
one_more_whole t (r ∷ rs) =
    elim (same_type t r.1) as (λ b. same_type t r.1 ≡ b → spread (cond b ((r.0 + 1, t) ∷ rs) ((1, t) ∷ r ∷ rs)) ≡ t ∷ spread (r ∷ rs)) [
      | true ↦ λ same.
          ap (λ n. replicate n t ++ spread rs) (add-one r.0)
          ∙ ap (λ (u : ValType ℕ). t ∷ (replicate r.0 u ++ spread rs)) (same_type-true t r.1 same)
      | false ↦ λ other. refl
    ] refl

whole : (ts : List (ValType ℕ)) → spread (runs ts) ≡ ts
whole [] = refl
whole (t ∷ ts) = one_more_whole t (runs ts) ∙ ap (λ us. t ∷ us) (whole ts)

abbrev Present : ℕ × ValType ℕ → Type 0
Present r = 1 ≤ r.0

one_more_present : (t : ValType ℕ) (rs : List (ℕ × ValType ℕ)) → All Present rs → All Present (one_more t rs)
one_more_present t [] h = All-cons Present (1, t) [] (omega arith) (All-nil Present)
one_more_present t (r ∷ rs) h =
    elim (same_type t r.1) as (λ b. All Present (cond b ((r.0 + 1, t) ∷ rs) ((1, t) ∷ r ∷ rs))) [
      | true ↦ All-cons Present (r.0 + 1, t) rs (omega arith) (All-tail Present r rs h)
      | false ↦ All-cons Present (1, t) (r ∷ rs) (omega arith) h
    ]

present : (ts : List (ValType ℕ)) → All Present (runs ts)
present [] = All-nil Present
present (t ∷ ts) = one_more_present t (runs ts) (present ts)

abbrev Differ : ℕ × ValType ℕ → ℕ × ValType ℕ → Type 0
Differ r s = same_type r.1 s.1 ≡ false

abbrev Maximal : List (ℕ × ValType ℕ) → Type 0
Maximal rs = AllAdjacentBelow Differ rs (length rs)

maximal_cons : (r s : ℕ × ValType ℕ) (rs : List (ℕ × ValType ℕ)) → Differ r s → Maximal (s ∷ rs) → Maximal (r ∷ s ∷ rs)
maximal_cons r s rs first h zero d within = first
maximal_cons r s rs first h (suc k) d within =
    let next : suc (k + 1) ≡ suc k + 1 = omega arith in
    subst (λ n. Differ (get_or (s ∷ rs) k d) (get_or (r ∷ s ∷ rs) n d)) next (h k d (omega arith))

maximal_one : (r : ℕ × ValType ℕ) → Maximal (r ∷ [])
maximal_one r k d within = absurd (omega arith)

-- a longer first run
maximal_longer : (n : ℕ) (t : ValType ℕ) (r : ℕ × ValType ℕ) (rs : List (ℕ × ValType ℕ)) → t ≡ r.1 → Maximal (r ∷ rs) → Maximal ((n, t) ∷ rs)
maximal_longer n t r [] same h = maximal_one (n, t)
maximal_longer n t r (s ∷ rs) same h =
    maximal_cons (n, t) s rs (subst (λ u. same_type u s.1 ≡ false) (sym same) (first_two Differ r s rs h)) (after_first Differ r (s ∷ rs) h)

one_more_maximal : (t : ValType ℕ) (rs : List (ℕ × ValType ℕ)) → Maximal rs → Maximal (one_more t rs)
one_more_maximal t [] h = maximal_one (1, t)
one_more_maximal t (r ∷ rs) h =
    elim (same_type t r.1) as (λ b. same_type t r.1 ≡ b → Maximal (cond b ((r.0 + 1, t) ∷ rs) ((1, t) ∷ r ∷ rs))) [
      | true ↦ λ same. maximal_longer (r.0 + 1) t r rs (same_type-true t r.1 same) h
      | false ↦ λ other. maximal_cons (1, t) r rs other h
    ] refl

maximal : (ts : List (ValType ℕ)) → Maximal (runs ts)
maximal [] = λ k d within. absurd (omega arith)
maximal (t ∷ ts) = one_more_maximal t (runs ts) (maximal ts)

pub runs_maximal : RunsAreMaximal
runs_maximal ts = record { whole = whole ts; present = present ts; maximal = maximal ts }
