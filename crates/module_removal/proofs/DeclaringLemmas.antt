-- The functions that have to be declared, in loops.
use Rattle.std.proofs.Common.{◌≡◌, ◌⊎◌, ℕ, zero, suc, ◌+◌, ◌-◌, ◌^◌, ◌<◌, ◌≤◌, min, Bool, true, false, not, ◌&&◌, ◌||◌, nat_lt, eqb, if◌then◌else◌, List, [], ◌∷◌, ◌++◌, length, take, get_or, slice_set, refl, sym, ap, subst, ◌∙◌, ⊎_elim, inl, inr, arith}
use Rattle.std.proofs.Math.Bool.{or-false, or-true}
use Rattle.std.proofs.lemmas.Bool.{cases_lt, ltb-true, lt-ltb, eqb-true, eq-eqb, false≢true}
use Rattle.std.proofs.lemmas.Grind.{get_or-set_at}
use Rattle.std.proofs.lemmas.List.{get_or-set_other, get_or_past, length-set}
use Rattle.std.proofs.lemmas.List.Folds.{list_any-append}
use Rattle.std.proofs.lemmas.List.Sums.{fold_more}
use Rattle.std.specs.List.{Contains, fold, list_any}
use Rattle.item_sets.specs.ItemsLeft.{is_left}
use Rattle.wasm_operators.specs.declared.types.Space.TheVariants.{Funcs}
use Rattle.module_removal.specs.declared.declared.Named.{Named}
use Rattle.module_removal.specs.declared.item.ItemCounts.{ItemCounts}
use Rattle.module_removal.specs.Declaring.{is_declared, is_undeclared, with_function, undeclared_of, undeclared_in}
use Rattle.module_removal.specs.ItemNumbers.{first_number}
use Rattle.module_removal.specs.LeftLaws.{TakenAreDeclared}

-- ---- one more mark is set

marked_as : (marks : List Bool) (i k : ℕ) → k < length marks → (same : Bool) → eqb i k ≡ same → is_left (slice_set marks i true) k ≡ (is_left marks k || same)
marked_as marks i k within true e =
    let is : k ≡ i = sym (eqb-true i k e) in
    let less : i < length marks = omega arith in
    get_or-set_at marks i k true false is less ∙ sym (or-true (is_left marks k))
marked_as marks i k within false e =
    get_or-set_other marks i k true false (λ p. false≢true (sym e ∙ eq-eqb i k (sym p))) ∙ sym (or-false (is_left marks k))

abbrev set_if : (is_set : Bool) → List Bool → ℕ → List Bool
set_if true marks i = slice_set marks i true
set_if false marks i = marks

set_if_length : (is_set : Bool) (marks : List Bool) (i : ℕ) → length (set_if is_set marks i) ≡ length marks
set_if_length true marks i = length-set marks i true
set_if_length false marks i = refl

set_if_at : (is_set : Bool) (marks : List Bool) (i k : ℕ) → k < length marks → is_left (set_if is_set marks i) k ≡ (is_left marks k || (is_set && eqb i k))
set_if_at true marks i k within = marked_as marks i k within (eqb i k) refl
set_if_at false marks i k within = sym (or-false (is_left marks k))

-- a number past the end has no mark, so that a sum may end at the greatest number
pub mark_at_sum :
    (marks : List Bool) (first at by sum : ℕ) → length marks < 2 ^ 64 → at ≡ min first (2 ^ 64 - 1) → sum ≡ min (at + by) (2 ^ 64 - 1) →
    is_left marks sum ≡ is_left marks (first + by)
mark_at_sum marks first at by sum short a s = ⊎_elim (λ less. ap (is_left marks) (omega arith)) past (cases_lt (first + by) (2 ^ 64))
  where
    past : 2 ^ 64 ≤ first + by → is_left marks sum ≡ is_left marks (first + by)
    past great =
        let end : length marks ≤ sum = omega arith in
        let beyond : length marks ≤ first + by = omega arith in
        get_or_past marks sum false end ∙ sym (get_or_past marks (first + by) false beyond)

-- ---- those that are declared

-- The marks of so many functions are set where one of these names it.
pub record DeclaredLeft (funcs : ℕ) (outside : List Named) (marks declared : List Bool) : Type 0 where
  pub count : length declared ≡ funcs
  pub each : (func : ℕ) → func < funcs → is_left declared func ≡ is_declared outside marks func

-- ---- those that have to be declared

-- These functions have to be declared, and are marked with those that are declared.
pub record UndeclaredLeft (c : ItemCounts) (in_bodies outside : List Named) (marks declared : List Bool) (undeclared : List ℕ) : Type 0 where
  pub items : undeclared ≡ undeclared_of c in_bodies outside marks
  pub count : length declared ≡ c.funcs
  pub each :
      (func : ℕ) → func < c.funcs → is_left declared func ≡ (is_declared outside marks func || list_any (λ f. eqb f func) undeclared)

pub none_undeclared :
    (c : ItemCounts) (outside : List Named) (marks declared : List Bool) → DeclaredLeft c.funcs outside marks declared →
    UndeclaredLeft c [] outside marks declared []
none_undeclared c outside marks declared so = record {
  items = refl;
  count = so.count;
  each = λ func within. so.each func within ∙ sym (or-false (is_declared outside marks func));
}

-- whether one more is added
same_test :
    (left less mark is_declared is_there : Bool) → (less ≡ true → mark ≡ (is_declared || is_there)) →
    (left && less && not mark) ≡ ((left && less && not is_declared) && not is_there)
same_test false less mark d a e = refl
same_test true false mark d a e = refl
same_test true true mark d a e = ap not (e refl) ∙ both d a
  where
    both : (d a : Bool) → not (d || a) ≡ (not d && not a)
    both true a = refl
    both false a = refl

abbrev added_if : (is_added : Bool) → List ℕ → ℕ → List ℕ
added_if true funcs func = funcs ++ func ∷ []
added_if false funcs func = funcs

if_added : (b : Bool) (funcs : List ℕ) (func : ℕ) → (if b then funcs ++ func ∷ [] else funcs) ≡ added_if b funcs func
if_added true funcs func = refl
if_added false funcs func = refl

any_added :
    (b : Bool) (funcs : List ℕ) (func k : ℕ) → list_any (λ f. eqb f k) (added_if b funcs func) ≡ (list_any (λ f. eqb f k) funcs || (b && eqb func k))
any_added true funcs func k =
    list_any-append (λ f. eqb f k) funcs (func ∷ []) ∙ ap (λ (x : Bool). list_any (λ f. eqb f k) funcs || x) (or-false (eqb func k))
any_added false funcs func k = sym (or-false (list_any (λ f. eqb f k) funcs))

-- a mark that is set again, or for the first time
marked_again :
    (left less mark same d a : Bool) → mark ≡ (d || a) → (same ≡ true → less ≡ true) → (at : Bool) → (same ≡ true → at ≡ mark) →
    (mark || (left && same)) ≡ (d || (a || ((left && less && not at) && same)))
marked_again false less mark same d a e l at t = or-false mark ∙ e ∙ ap (λ (x : Bool). d || x) (sym (or-false a))
marked_again true less mark false d a e l at t =
    or-false mark ∙ e ∙ ap (λ (x : Bool). d || x) (sym (or-false a) ∙ ap (λ (x : Bool). a || x) (sym (none (less && not at))))
  where
    none : (b : Bool) → (b && false) ≡ false
    none true = refl
    none false = refl
marked_again true less mark true d a e l at t =
    subst (λ (x : Bool). (mark || true) ≡ (d || (a || ((x && not at) && true)))) (sym (l refl))
    (subst (λ (x : Bool). (mark || true) ≡ (d || (a || (not x && true)))) (sym (t refl)) (ends mark d a e))
  where
    ends : (mark d a : Bool) → mark ≡ (d || a) → (mark || true) ≡ (d || (a || (not mark && true)))
    ends true d a e = e ∙ ap (λ (x : Bool). d || x) (sym (or-false a))
    ends false d a e = sym (ap (λ (x : Bool). d || x) (or-true a) ∙ or-true d)

pub one_more_undeclared :
    (c : ItemCounts) (i : ℕ) (in_bodies outside : List Named) (marks declared new : List Bool) (undeclared more : List ℕ) (n none : Named) →
    UndeclaredLeft c (take i in_bodies) outside marks declared undeclared → i < length in_bodies → n ≡ get_or in_bodies i none → (left : Bool) →
    left ≡ is_left marks (first_number c Funcs + n.by) → new ≡ (if left then slice_set declared n.func true else declared) →
    more ≡ (if left && nat_lt n.func (length declared) && not (is_left declared n.func) then undeclared ++ n.func ∷ [] else undeclared) →
    UndeclaredLeft c (take (i + 1) in_bodies) outside marks new more
one_more_undeclared c i in_bodies outside marks declared new undeclared more n none so within is left left_is new_is more_is = record {
  items =
      more_as ∙ sym (fold_more (λ funcs m. with_function funcs (is_undeclared c outside marks m) m.func) [] in_bodies i none within
      ∙ ap (λ (m : Named). with_function (undeclared_of c (take i in_bodies) outside marks) (is_undeclared c outside marks m) m.func) (sym is)
      ∙ ap (λ (l : List ℕ). with_function l (is_undeclared c outside marks n) n.func) (sym so.items)
      ∙ if_added (is_undeclared c outside marks n && not (there n.func)) undeclared n.func
      ∙ ap (λ (b : Bool). added_if b undeclared n.func) (ap (λ (b : Bool). (b && less && not d) && not (there n.func)) (sym left_is) ∙ sym tests));
  count = ap length made ∙ set_if_length left declared n.func ∙ so.count;
  each = λ k small.
      ap (λ (l : List Bool). is_left l k) made ∙ set_if_at left declared n.func k (omega (arith, so.count))
      ∙ marked_again left less (is_left declared k) (eqb n.func k) (is_declared outside marks k) (there k) (so.each k small)
      (λ e. lt-ltb n.func c.funcs (omega (arith, eqb-true n.func k e))) (is_left declared n.func) (λ e. ap (is_left declared) (eqb-true n.func k e))
      ∙ ap (λ (b : Bool). is_declared outside marks k || b) (sym (any_added (left && less && not (is_left declared n.func)) undeclared n.func k))
      ∙ ap (λ (l : List ℕ). is_declared outside marks k || list_any (λ f. eqb f k) l) (sym more_as);
}
  where
    less : Bool
    less = nat_lt n.func c.funcs

    d : Bool
    d = is_declared outside marks n.func

    there : ℕ → Bool
    there k = list_any (λ f. eqb f k) undeclared

    same : (b : Bool) → (if b then slice_set declared n.func true else declared) ≡ set_if b declared n.func
    same true = refl
    same false = refl

    made : new ≡ set_if left declared n.func
    made = new_is ∙ same left

    more_as : more ≡ added_if (left && less && not (is_left declared n.func)) undeclared n.func
    more_as =
        more_is ∙ if_added (left && nat_lt n.func (length declared) && not (is_left declared n.func)) undeclared n.func
        ∙ ap (λ (m : ℕ). added_if (left && nat_lt n.func m && not (is_left declared n.func)) undeclared n.func) so.count

    tests : (left && less && not (is_left declared n.func)) ≡ ((left && less && not d) && not (there n.func))
    tests = same_test left less (is_left declared n.func) d (there n.func) (λ e. so.each n.func (ltb-true n.func c.funcs e))

-- ---- what is taken is declared

abbrev has : (funcs : List ℕ) → (func : ℕ) → Bool
has funcs func = list_any (λ f. eqb f func) funcs

-- those that have to be declared, after some
module _ (c : ItemCounts) (outside : List Named) (marks : List Bool) where
  abbrev after_some : List ℕ → List Named → List ℕ
  after_some funcs in_bodies = fold (λ l n. with_function l (is_undeclared c outside marks n) n.func) funcs in_bodies

  kept_with : (funcs : List ℕ) (wanted : Bool) (f g : ℕ) → has funcs g ≡ true → has (with_function funcs wanted f) g ≡ true
  kept_with funcs wanted f g h =
      ap (λ (l : List ℕ). has l g) (if_added (wanted && not (has funcs f)) funcs f) ∙ any_added (wanted && not (has funcs f)) funcs f g
      ∙ ap (λ (b : Bool). b || ((wanted && not (has funcs f)) && eqb f g)) h

  kept_after : (in_bodies : List Named) (funcs : List ℕ) (g : ℕ) → has funcs g ≡ true → has (after_some funcs in_bodies) g ≡ true
  kept_after [] funcs g h = h
  kept_after (n ∷ ns) funcs g h =
      kept_after ns (with_function funcs (is_undeclared c outside marks n) n.func) g (kept_with funcs (is_undeclared c outside marks n) n.func g h)

  there_with : (funcs : List ℕ) (f : ℕ) → has (with_function funcs true f) f ≡ true
  there_with funcs f = by_test (has funcs f) refl
    where
      same : eqb f f ≡ true
      same = eq-eqb f f refl

      by_test : (b : Bool) → has funcs f ≡ b → has (with_function funcs true f) f ≡ true
      by_test true e = kept_with funcs true f f e
      by_test false e =
          ap (λ (l : List ℕ). has l f) (if_added (not (has funcs f)) funcs f) ∙ any_added (not (has funcs f)) funcs f f
          ∙ ap (λ (b : Bool). has funcs f || (not b && eqb f f)) e ∙ ap (λ (b : Bool). has funcs f || b) same ∙ or-true (has funcs f)

  there_after :
      (in_bodies : List Named) (funcs : List ℕ) (i : ℕ) (n : Named) → i < length in_bodies → get_or in_bodies i n ≡ n → is_undeclared c outside marks n ≡ true →
      has (after_some funcs in_bodies) n.func ≡ true
  there_after [] funcs i n less at u = absurd (omega arith)
  there_after (m ∷ ms) funcs zero n less at u =
      kept_after ms (with_function funcs (is_undeclared c outside marks m) m.func) n.func
      (subst (λ (k : Named). has (with_function funcs (is_undeclared c outside marks k) k.func) n.func ≡ true) (sym at)
      (ap (λ (b : Bool). has (with_function funcs b n.func) n.func) u ∙ there_with funcs n.func))
  there_after (m ∷ ms) funcs (suc i) n less at u =
      there_after ms (with_function funcs (is_undeclared c outside marks m) m.func) i n (omega arith) at u

-- an element that a test finds
found_in : (funcs : List ℕ) (g : ℕ) → has funcs g ≡ true → Contains funcs g
found_in [] g h = absurd (false≢true h)
found_in (f ∷ fs) g h = by_test (eqb f g) refl (λ later. found_in fs g later)
  where
    by_test : (b : Bool) → eqb f g ≡ b → (has fs g ≡ true → Contains fs g) → Contains (f ∷ fs) g
    by_test true e rest = (0, omega arith, eqb-true f g e)
    by_test false e rest =
        let later = rest (ap (λ (b : Bool). b || has fs g) (sym e) ∙ h) in
        (suc later.0, omega (arith, later.1), later.2)

pub taken_declared : TakenAreDeclared
taken_declared t c marks n has_it left small = by_test (is_declared t.outside.items marks n.func) refl
  where
    by_test : (b : Bool) → is_declared t.outside.items marks n.func ≡ b → (is_declared t.outside.items marks n.func ≡ true) ⊎ Contains (undeclared_in t c marks) n.func
    by_test true e = inl e
    by_test false e =
        let less = lt-ltb n.func c.funcs small in
        let wanted : is_undeclared c t.outside.items marks n ≡ true =
        ap (λ (b : Bool). b && nat_lt n.func c.funcs && not (is_declared t.outside.items marks n.func)) left
        ∙ ap (λ (b : Bool). b && not (is_declared t.outside.items marks n.func)) less ∙ ap not e in
        inr (found_in (undeclared_in t c marks) n.func
        (there_after c t.outside.items marks t.in_bodies.items [] has_it.0 n has_it.1 has_it.2 wanted))
