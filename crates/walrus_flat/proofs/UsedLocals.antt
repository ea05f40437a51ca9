-- Locals that are listed with marks, and others.
use Rattle.std.proofs.Common.{◌≡◌, ℕ, ◌==◌, ◌<◌, ◌≤◌, List, [], ◌∷◌, ◌++◌, Bool, true, false, not, ◌&&◌, ◌||◌, nat_lt, ◌-◌, take, length, length-append, refl, sym, ap, subst, ◌∙◌, arith, append-nil}
use Rattle.std.specs.HashSet.{HashSet}
use Rattle.std.specs.List.{All, AllByRecursion, list_all}
use Rattle.std.proofs.lemmas.Bool.{eq-eqb, eqb-true}
use Rattle.std.proofs.lemmas.Bool.Decides.{nat_tests}
use Rattle.std.proofs.lemmas.List.Sums.{AllPass-from_list_all}
use Rattle.std.proofs.lemmas.Cmp.{nat_eq_equiv}
use Rattle.std.proofs.lemmas.List.Elements.{All-from_recursion}
use Rattle.std.proofs.Math.Bool.{or-true, or-false}
use Rattle.wasm_types.specs.declared.val_type.ValType.{ValType}
use Rattle.walrus_ir.specs.Unfolding.{among, Apart}
use Rattle.wasm_body.specs.declared.error.EmitError.{EmitError}
use Rattle.wasm_body.specs.Bytes.{Numbers}
use Rattle.walrus_facts.specs.Marking.{is_marked}
use Rattle.walrus_numbering.specs.EmittedLocals.{Declares, IsNotDeclared}
use Rattle.walrus_numbering.specs.NumberTables.{entries_in}
use Rattle.walrus_flat.specs.UsedMarks.{is_apart, AreIdsBelow}
use Rattle.walrus_flat.specs.UsedLocals.{has_local}

-- ---- one more in a list

among_last : (x id : ℕ) (ids : List ℕ) → among x (ids ++ id ∷ []) ≡ ((x == id) || among x ids)
among_last x id [] = refl
among_last x id (k ∷ ids) = ap (λ b. (x == k) || b) (among_last x id ids) ∙ turned (x == k) (x == id) (among x ids)
  where
    turned : (a b c : Bool) → (a || (b || c)) ≡ (b || (a || c))
    turned true true c = refl
    turned true false c = refl
    turned false b c = refl

none_of : (b c : Bool) → (b || c) ≡ false → (b ≡ false) × (c ≡ false)
none_of true c h = absurd cc
none_of false c h = (refl, h)

both : (b c : Bool) → (not b && c) ≡ true → (b ≡ false) × (c ≡ true)
both true c h = absurd cc
both false c h = (refl, h)

pub apart_last : (id : ℕ) (ids : List ℕ) → among id ids ≡ false → is_apart ids ≡ true → is_apart (ids ++ id ∷ []) ≡ true
apart_last id [] none a = refl
apart_last id (k ∷ ids) none a =
    let first = none_of (id == k) (among id ids) none in
    let own = both (among k ids) (is_apart ids) a in
    let free : among k (ids ++ id ∷ []) ≡ false = among_last k id ids ∙ (ap (λ b. b || among k ids) (nat_eq_equiv.symm k id ∙ first.0) ∙ own.0) in
    ap (λ b. not b && is_apart (ids ++ id ∷ [])) free ∙ apart_last id ids first.1 own.1

pub are_apart : (ids : List ℕ) → is_apart ids ≡ true → Apart ids
are_apart [] a = tt
are_apart (id ∷ ids) a = let own = both (among id ids) (is_apart ids) a in (own.0, are_apart ids own.1)

take_last : (id : ℕ) (ids : List ℕ) → take (length ids) (ids ++ id ∷ []) ≡ ids
take_last id [] = refl
take_last id (k ∷ ids) = ap (λ ks. k ∷ ks) (take_last id ids)

-- the last one was taken away again
pub taken_away : (id n : ℕ) (ids pushed popped : List ℕ) → pushed ≡ ids ++ id ∷ [] → length pushed ≡ n → popped ≡ take (n - 1) pushed → popped ≡ ids
taken_away id n ids pushed popped is long rest =
    let count : n - 1 ≡ length ids = omega (arith, long, ap length is, length-append ids (id ∷ [])) in
    rest ∙ ((λ i. take (count i) (is i)) ∙ take_last id ids)

-- ---- one more local

module _ {S : Type 0} (id : ℕ) (ids : List ℕ) (others : HashSet ℕ S) where
  -- it is listed
  pub listed_more : (x : ℕ) → (among x (ids ++ id ∷ []) || has_local others x) ≡ ((x == id) || (among x ids || has_local others x))
  listed_more x = ap (λ b. b || has_local others x) (among_last x id ids) ∙ grouped (x == id) (among x ids) (has_local others x)
    where
      grouped : (a b c : Bool) → ((a || b) || c) ≡ (a || (b || c))
      grouped true b c = refl
      grouped false b c = refl

  -- it is among the others
  pub others_more : (more : HashSet ℕ S) → ((x : ℕ) → has_local more x ≡ ((x == id) || has_local others x))
      → (x : ℕ) → (among x ids || has_local more x) ≡ ((x == id) || (among x ids || has_local others x))
  others_more more adds x = ap (λ b. among x ids || b) (adds x) ∙ swapped (among x ids) (x == id) (has_local others x)
    where
      swapped : (a b c : Bool) → (a || (b || c)) ≡ (b || (a || c))
      swapped true true c = refl
      swapped true false c = refl
      swapped false b c = refl

  -- it was there
  pub there_already : among id ids ≡ true → (x : ℕ) → (among x ids || has_local others x) ≡ ((x == id) || (among x ids || has_local others x))
  there_already is x =
      elim (x == id) as (λ b. (x == id) ≡ b → (among x ids || has_local others x) ≡ (b || (among x ids || has_local others x))) [
        | true ↦ λ e. let same = eqb-true x id e in ap (λ b. b || has_local others x) (ap (λ y. among y ids) same ∙ is)
        | false ↦ λ e. refl
      ] refl

-- marks of a list that has one id more
pub marked_more : (id : ℕ) (ids : List ℕ) (old new : List Bool) → ((x : ℕ) → is_marked old x ≡ among x ids)
    → ((x : ℕ) → is_marked new x ≡ ((x == id) || is_marked old x)) → (x : ℕ) → is_marked new x ≡ among x (ids ++ id ∷ [])
marked_more id ids old new are puts x = puts x ∙ (ap (λ b. (x == id) || b) (are x) ∙ sym (among_last x id ids))

-- ---- ids of a table

small_each : (len : ℕ) (xs : List ℕ) → ((x : ℕ) → among x xs ≡ true → x < len) → AllByRecursion (λ id. id < len) xs
small_each len [] h = tt
small_each len (y ∷ ys) h =
    (h y (ap (λ b. b || among y ys) (eq-eqb y y refl)), small_each len ys (λ x is. h x (ap (λ b. (x == y) || b) is ∙ or-true (x == y))))

pub small_listed : (reach : ℕ) (ids : List ℕ) (len : ℕ) → AreIdsBelow reach ids → reach ≤ len → All (λ id. id < len) ids
small_listed reach ids len are room = All-from_recursion (λ id. id < len) ids (small_each len ids (λ x is. omega (arith, are x is, room)))

-- one more, and none
pub below_more : (id reach more : ℕ) (ids : List ℕ) → AreIdsBelow reach ids → reach ≤ more → id < more → AreIdsBelow more (ids ++ id ∷ [])
below_more id reach more ids are room within x is = first_or (x == id) (among x ids) refl (sym (among_last x id ids) ∙ is)
  where
    first_or : (b c : Bool) → (x == id) ≡ b → (b || among x ids) ≡ true → x < more
    first_or true c e h = let same = eqb-true x id e in omega (arith, same, within)
    first_or false c e h = omega (arith, are x h, room)

-- no marks are left where each marked id is listed
pub none_marked : (a b : Bool) → a ≡ b → (a && not b) ≡ false
none_marked true true e = refl
none_marked true false e = absurd cc
none_marked false b e = refl

-- one mark is taken away, and those of the ids that follow are left to take
pub one_cleared : (x id : ℕ) (following left : List ℕ) (old new : List Bool) → left ≡ id ∷ following → is_marked new x ≡ (is_marked old x && not (x == id))
    → (is_marked new x && not (among x following)) ≡ (is_marked old x && not (among x left))
one_cleared x id following left old new e h =
    ap (λ b. b && not (among x following)) h ∙ both_taken (is_marked old x) (x == id) (among x following) ∙ ap (λ l. is_marked old x && not (among x l)) (sym e)
  where
    both_taken : (a b c : Bool) → ((a && not b) && not c) ≡ (a && not (b || c))
    both_taken true true c = refl
    both_taken true false c = refl
    both_taken false b c = refl

pub all_cleared : (x : ℕ) (left : List ℕ) (marks : List Bool) → length left ≡ 0 → is_marked marks x ≡ (is_marked marks x && not (among x left))
all_cleared x [] marks none = kept (is_marked marks x)
  where
    kept : (a : Bool) → a ≡ (a && true)
    kept true = refl
    kept false = refl
all_cleared x (id ∷ ids) marks none = absurd (omega (arith, none))

-- ---- what is declared

module _ (to : Numbers) (types : List (ValType ℕ)) (args : List ℕ) (used more : ℕ → Bool) (same : (x : ℕ) → used x ≡ more x) where
  all_same : used ≡ more
  all_same i x = same x i

  pub same_declared : (declarations : List (ℕ × ValType ℕ)) (es fs : List (ℕ × ℕ)) → es ≡ fs → Declares to types args used declarations es → Declares to types args more declarations fs
  same_declared declarations es fs is d = subst (λ u. Declares to types args u declarations fs) all_same (subst (λ gs. Declares to types args used declarations gs) is d)

  pub same_not_declared : (e : EmitError) → IsNotDeclared to types args used e → IsNotDeclared to types args more e
  same_not_declared e h = subst (λ u. IsNotDeclared to types args u e) all_same h

-- all are listed
pub only_listed : {S : Type 0} (ids : List ℕ) (others : HashSet ℕ S) → others.keys ≡ [] → (x : ℕ) → among x ids ≡ (among x ids || has_local others x)
only_listed ids others none x = sym (or-false (among x ids)) ∙ ap (λ ks. among x ids || among x ks) (sym none)

pub no_map : (t : List _) (es : List (ℕ × ℕ)) → es ≡ [] → entries_in t ≡ entries_in t ++ es
no_map t es none = sym (append-nil (entries_in t)) ∙ ap (λ fs. entries_in t ++ fs) (sym none)

pub no_table : (t : List _) (es : List (ℕ × ℕ)) → t ≡ [] → es ≡ entries_in t ++ es
no_table t es none = ap (λ u. entries_in u ++ es) (sym none)

-- ---- all in one set

module _ {S : Type 0} (x : ℕ) where
  pub begun : (ids : List ℕ) (others all : HashSet ℕ S) → has_local all x ≡ has_local others x → (has_local all x || among x ids) ≡ (among x ids || has_local others x)
  begun ids others all same = ap (λ b. b || among x ids) same ∙ turned (has_local others x) (among x ids)
    where
      turned : (a b : Bool) → (a || b) ≡ (b || a)
      turned true b = sym (or-true b)
      turned false b = sym (or-false b)

  pub one_moved : (id : ℕ) (following left : List ℕ) (all more : HashSet ℕ S) → left ≡ id ∷ following → has_local more x ≡ ((x == id) || has_local all x)
      → (has_local more x || among x following) ≡ (has_local all x || among x left)
  one_moved id following left all more first put =
      ap (λ b. b || among x following) put
      ∙ (moved (x == id) (has_local all x) (among x following) ∙ ap (λ ids. has_local all x || among x ids) (sym first))
    where
      moved : (a b c : Bool) → ((a || b) || c) ≡ (b || (a || c))
      moved true true c = refl
      moved true false c = refl
      moved false b c = refl

  pub none_left : (left : List ℕ) (all : HashSet ℕ S) → length left ≡ 0 → has_local all x ≡ (has_local all x || among x left)
  none_left [] all none = sym (or-false (has_local all x))
  none_left (id ∷ left) all none = absurd (omega (arith, none))

less : (n len : ℕ) → nat_lt n len ≡ true → n < len
less n len h = grind (arith, nat_tests)

pub small_args : (len : ℕ) (ids : List ℕ) → list_all (λ id. nat_lt id len) ids ≡ true → All (λ id. id < len) ids
small_args len ids h k d within = less _ len (AllPass-from_list_all (λ id. nat_lt id len) ids h k d within)
