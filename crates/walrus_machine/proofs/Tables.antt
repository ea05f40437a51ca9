-- Places in a list of operators, what is ahead of them, and how that changes when going back over one operator.
use Rattle.std.proofs.Common.{Ordering, ◌≡◌, ℕ, zero, suc, ◌+◌, ◌-◌, ◌<◌, ◌≤◌, List, [], ◌∷◌, ◌++◌, length, take, drop, map, get_or, length-drop, Bool, true, false, Some, None, refl, sym, ap, subst, ◌∙◌, arith, reverse, inl, inr}
use Rattle.std.specs.Prelude.{slice_get, ◌||◌, ◌&&◌, not, cond, eqb}
use Rattle.std.specs.List.{list_any}
use Rattle.std.specs.Ordering.{is_eq, nat_cmp}
use Rattle.std.proofs.lemmas.List.{drop_all, drop_at, length-map, take-append-drop, length-reverse, reverse-append}
use Rattle.std.proofs.lemmas.Bool.{cases_lt, cases_order}
use Rattle.std.proofs.lemmas.Grind.{common_steps}
use Rattle.std.proofs.lemmas.Option.{slice_get_read}
use Rattle.wasm_body.specs.Control.{Control, Marked, with_control}
use Rattle.wasm_body.specs.Machine.{Shape, Opener, Part, Closer, Other, control_shape, Found, found, seek_at, seek, tail, after_closer, has}
use Rattle.wasm_body.specs.Places.{placed_from}
use Rattle.walrus_machine.specs.declared.machine.table.Ahead.{Ahead}
use Rattle.walrus_machine.specs.declared.machine.table.Levels.{Levels}
use Rattle.walrus_machine.specs.Tables.{place_from, IsAhead, nothing_ahead, LevelsAhead, AreAhead, parts, passes_by}

-- ---- lists

-- the rest of the reversed list after removing the last items
pub reverse_take : {A : Type 0} → (n : ℕ) (xs : List A) → n ≤ length xs → reverse (take (length xs - n) xs) ≡ drop n (reverse xs)
reverse_take n xs le =
    let m = length xs - n in
    let whole : reverse xs ≡ reverse (drop m xs) ++ reverse (take m xs) =
    sym (ap reverse (take-append-drop m xs)) ∙ reverse-append (take m xs) (drop m xs) in
    let taken : length (reverse (drop m xs)) ≡ n = omega (arith, length-reverse (drop m xs), length-drop m xs) in
    sym (ap (drop n) whole ∙ drop_at (reverse (drop m xs)) (reverse (take m xs)) n taken)

pub reverse_left : {A : Type 0} → (n : ℕ) (xs : List A) → reverse (take (length xs - n) xs) ≡ drop n (reverse xs)
reverse_left n xs =
    elim (cases_lt (length xs) n) [
      | inr le ↦ reverse_take n xs le
      | inl lt ↦
          let none : length xs - n ≡ 0 = omega arith in
          ap (λ m. reverse (take m xs)) none ∙ sym (drop_all n (reverse xs) (omega (arith, length-reverse xs)))
    ]

tail_is : {A : Type 0} → (xs : List A) → drop 1 xs ≡ tail xs
tail_is [] = refl
tail_is (x ∷ xs) = refl

pub popped : {A : Type 0} → (n : ℕ) (xs ys : List A) → n ≡ length xs → ys ≡ take (n - 1) xs → reverse ys ≡ tail (reverse xs)
popped n xs ys e h = ap reverse h ∙ (ap (λ m. reverse (take (m - 1) xs)) e ∙ (reverse_left 1 xs ∙ tail_is (reverse xs)))

pub pushed : {A : Type 0} → (xs ys : List A) (x : A) → ys ≡ xs ++ x ∷ [] → reverse ys ≡ x ∷ reverse xs
pushed xs ys x h = ap reverse h ∙ reverse-append xs (x ∷ [])

get_map : {A B : Type 0} (f : A → B) (xs : List A) (i : ℕ) (x : A) → slice_get xs i ≡ Some x → slice_get (map f xs) i ≡ Some (f x)
get_map f [] i x h = absurd (cc h)
get_map f (y ∷ xs) zero x h = let e : y ≡ x = cc h in ap (λ z. Some (f z)) e
get_map f (y ∷ xs) (suc i) x h = get_map f xs i x h

-- ---- places

placed_get : (k : ℕ) (cs : List Control) (i : ℕ) (c : Control) → slice_get cs i ≡ Some c →
    drop i (placed_from k cs) ≡ with_control (k + i) c ∷ drop (suc i) (placed_from k cs)
placed_get k [] i c h = absurd (cc h)
placed_get k (x ∷ cs) zero c h =
    let e : x ≡ c = cc h in
    let n : k ≡ k + 0 = omega arith in
    ap (λ z. with_control k z ∷ placed_from (suc k) cs) e ∙ ap (λ m. with_control m c ∷ placed_from (suc k) cs) n
placed_get k (x ∷ cs) (suc i) c h =
    let n : suc k + i ≡ k + suc i = omega arith in
    placed_get (suc k) cs i c h ∙ ap (λ m. with_control m c ∷ drop (suc i) (placed_from (suc k) cs)) n

-- the operator at a place, and the place after it
pub here : (cs : List Control) (i : ℕ) (c : Control) → slice_get cs i ≡ Some c → place_from cs i ≡ with_control i c ∷ place_from cs (i + 1)
here cs i c h =
    let z : 0 + i ≡ i = omega arith in
    let s : suc i ≡ i + 1 = omega arith in
    placed_get 0 cs i c h ∙ (ap (λ m. with_control m c ∷ drop (suc i) (placed_from 0 cs)) z ∙ ap (λ m. with_control i c ∷ drop m (placed_from 0 cs)) s)

length_placed : (k : ℕ) (cs : List Control) → length (placed_from k cs) ≡ length cs
length_placed k [] = refl
length_placed k (c ∷ cs) = ap suc (length_placed (suc k) cs)

pub length_left : (cs : List Control) (i : ℕ) → length (place_from cs i) ≡ length cs - i
length_left cs i = omega (arith, length-drop i (placed_from 0 cs), length_placed 0 cs)

pub nothing_here : (cs : List Control) (i : ℕ) → length cs ≤ i → place_from cs i ≡ []
nothing_here cs i h = drop_all i (placed_from 0 cs) (omega (arith, length_placed 0 cs))

-- ---- searches

-- the number of parts passed before makes no difference
count_at : {A : Type 0} → (s : Shape) (d : ℕ) (b : Bool) (i j : ℕ) (xs : List (Marked A)) (on : ℕ → ℕ → Found A) →
    ((d i j : ℕ) → (on d i).rest ≡ (on d j).rest) → (seek_at s d b i xs on).rest ≡ (seek_at s d b j xs on).rest
count_at Opener d b i j xs on same = same (suc d) i j
count_at Other d b i j xs on same = same d i j
count_at Closer zero b i j xs on same = refl
count_at Closer (suc d) b i j xs on same = same d i j
count_at Part zero true i j xs on same = refl
count_at Part zero false i j xs on same = same zero (suc i) (suc j)
count_at Part (suc d) b i j xs on same = same (suc d) i j

pub any_count : {A : Type 0} → (test : Control → Bool) (d i j : ℕ) (xs : List (Marked A)) → (seek test d i xs).rest ≡ (seek test d j xs).rest
any_count test d i j [] = refl
any_count test d i j (x ∷ xs) = count_at (control_shape x.control) d (test x.control) i j (x ∷ xs) _ (λ d i j. any_count test d i j xs)

-- the list at which a search ends is not longer than the one at which it began
shorter_at : {A : Type 0} → (s : Shape) (d : ℕ) (b : Bool) (i : ℕ) (x : Marked A) (xs : List (Marked A)) (on : ℕ → ℕ → Found A) →
    ((d i : ℕ) → length (on d i).rest ≤ length xs) → length (seek_at s d b i (x ∷ xs) on).rest ≤ suc (length xs)
shorter_at Opener d b i x xs on le = omega (arith, le (suc d) i)
shorter_at Other d b i x xs on le = omega (arith, le d i)
shorter_at Closer zero b i x xs on le = omega arith
shorter_at Closer (suc d) b i x xs on le = omega (arith, le d i)
shorter_at Part zero true i x xs on le = omega arith
shorter_at Part zero false i x xs on le = omega (arith, le zero (suc i))
shorter_at Part (suc d) b i x xs on le = omega (arith, le (suc d) i)

pub no_longer : {A : Type 0} → (test : Control → Bool) (d i : ℕ) (xs : List (Marked A)) → length (seek test d i xs).rest ≤ length xs
no_longer test d i [] = omega arith
no_longer test d i (x ∷ xs) = shorter_at (control_shape x.control) d (test x.control) i x xs _ (λ d i. no_longer test d i xs)

-- A search for any part continues, from one part to the next, as a search for a part that passes a test.
abbrev pub choose : {A : Type 0} → Shape → Bool → ℕ → List (Marked A) → Found A → Found A
choose Part false i xs on = on
choose _ _ i xs on = found i xs

abbrev pub from_part : {A : Type 0} → (Control → Bool) → ℕ → List (Marked A) → Found A
from_part test i [] = found i []
from_part test i (x ∷ xs) = choose (control_shape x.control) (test x.control) i (x ∷ xs) (seek test 0 (suc i) xs)

first_at : {A : Type 0} → (test : Control → Bool) (x : Marked A) (xs : List (Marked A)) (s : Shape) (b : Bool) (d i : ℕ) → s ≡ control_shape x.control → b ≡ test x.control →
    ((d i : ℕ) → seek test d i xs ≡ from_part test i (seek (λ c. true) d 0 xs).rest) →
    seek_at s d b i (x ∷ xs) (λ d j. seek test d j xs) ≡ from_part test i (seek_at s d true 0 (x ∷ xs) (λ d j. seek (λ c. true) d j xs)).rest
first_at test x xs Opener b d i h t later = later (suc d) i
first_at test x xs Other b d i h t later = later d i
first_at test x xs Closer b zero i h t later = ap (λ s. choose s (test x.control) i (x ∷ xs) (seek test 0 (suc i) xs)) h
first_at test x xs Closer b (suc d) i h t later = later d i
first_at test x xs Part true zero i h t later =
    ap (λ s. choose s true i (x ∷ xs) (seek test 0 (suc i) xs)) h ∙ ap (λ b. choose (control_shape x.control) b i (x ∷ xs) (seek test 0 (suc i) xs)) t
first_at test x xs Part false zero i h t later =
    ap (λ s. choose s false i (x ∷ xs) (seek test 0 (suc i) xs)) h ∙ ap (λ b. choose (control_shape x.control) b i (x ∷ xs) (seek test 0 (suc i) xs)) t
first_at test x xs Part b (suc d) i h t later = later (suc d) i

pub first_part : {A : Type 0} → (test : Control → Bool) (d i : ℕ) (xs : List (Marked A)) → seek test d i xs ≡ from_part test i (seek (λ c. true) d 0 xs).rest
first_part test d i [] = refl
first_part test d i (x ∷ xs) = first_at test x xs (control_shape x.control) (test x.control) d i refl refl (λ d i. first_part test d i xs)

stop_chosen : {A : Type 0} → (s : Shape) (b : Bool) (i : ℕ) (xs : List (Marked A)) (on : Found A) → (parts s && not b) ≡ false → choose s b i xs on ≡ found i xs
stop_chosen Part true i xs on h = refl
stop_chosen Part false i xs on h = absurd (cc h)
stop_chosen Opener b i xs on h = refl
stop_chosen Closer b i xs on h = refl
stop_chosen Other b i xs on h = refl

pass_chosen : {A : Type 0} → (s : Shape) (b : Bool) (i : ℕ) (xs : List (Marked A)) (on : Found A) → (parts s && not b) ≡ true → choose s b i xs on ≡ on
pass_chosen Part false i xs on h = refl
pass_chosen Part true i xs on h = absurd (cc h)
pass_chosen Opener b i xs on h = absurd (cc h)
pass_chosen Closer b i xs on h = absurd (cc h)
pass_chosen Other b i xs on h = absurd (cc h)

module _ (test : Control → Bool) (cs : List Control) (i : ℕ) (c : Control) (at : slice_get cs i ≡ Some c) where
  pub stops_here : (n : ℕ) → false ≡ passes_by test c → from_part test n (place_from cs i) ≡ found n (place_from cs i)
  stops_here n h =
      ap (from_part test n) (here cs i c at)
      ∙ (stop_chosen (control_shape c) (test c) n (with_control i c ∷ place_from cs (i + 1)) (seek test 0 (suc n) (place_from cs (i + 1))) (sym h)
      ∙ ap (found n) (sym (here cs i c at)))

  -- the search continues from the next part
  pub passes_here : (n : ℕ) → true ≡ passes_by test c → (next : ℕ) → place_from cs next ≡ (seek (λ c. true) 0 0 (place_from cs (i + 1))).rest → from_part test n (place_from cs i) ≡ from_part test (n + 1) (place_from cs next)
  passes_here n h next e =
      let more : suc n ≡ n + 1 = omega arith in
      ap (from_part test n) (here cs i c at)
      ∙ (pass_chosen (control_shape c) (test c) n (with_control i c ∷ place_from cs (i + 1)) (seek test 0 (suc n) (place_from cs (i + 1))) (sym h)
      ∙ (first_part test 0 (suc n) (place_from cs (i + 1))
      ∙ (ap (from_part test (suc n)) (sym e) ∙ ap (λ m. from_part test m (place_from cs next)) more)))

pub next_part : (test : Control → Bool) (cs : List Control) (i : ℕ) (next : ℕ) → place_from cs next ≡ (seek (λ c. true) 0 0 (place_from cs i)).rest → (n : ℕ) →
    (length (place_from cs next) ≤ length (place_from cs i)) × (seek test 0 n (place_from cs i) ≡ from_part test n (place_from cs next))
next_part test cs i next e n = (
  omega (arith, ap length e, no_longer (λ c. true) 0 0 (place_from cs i)),
  first_part test 0 n (place_from cs i) ∙ ap (from_part test n) (sym e),
)

pub fewer_here : (cs : List Control) (i : ℕ) (c : Control) → slice_get cs i ≡ Some c → length (place_from cs i) ≡ length (place_from cs (i + 1)) + 1
fewer_here cs i c at = omega (arith, ap length (here cs i c at))

none_left : (cs : List Control) (i : ℕ) → slice_get cs i ≡ None → length cs ≤ i
none_left [] i h = omega arith
none_left (c ∷ cs) zero h = absurd (cc h)
none_left (c ∷ cs) (suc i) h = omega (arith, none_left cs i h)

pub nothing_at : (cs : List Control) (i : ℕ) → slice_get cs i ≡ None → place_from cs i ≡ []
nothing_at cs i h = nothing_here cs i (none_left cs i h)

pub ends_here : (test : Control → Bool) (cs : List Control) (i : ℕ) (n : ℕ) → slice_get cs i ≡ None → from_part test n (place_from cs i) ≡ found n (place_from cs i)
ends_here test cs i n h = ap (from_part test n) (nothing_at cs i h) ∙ ap (found n) (sym (nothing_at cs i h))

-- ---- going back over an operator

module _ (cs : List Control) (i : ℕ) (c : Control) (at : slice_get cs i ≡ Some c) where
  walk : (s : Shape) → s ≡ control_shape c → (test : Control → Bool) (d : ℕ) →
      seek test d 0 (place_from cs i) ≡ seek_at s d (test c) 0 (place_from cs i) (λ d j. seek test d j (place_from cs (i + 1)))
  walk s h test d =
      ap (seek test d 0) (here cs i c at)
      ∙ (ap (λ l. seek_at (control_shape c) d (test c) 0 l (λ d j. seek test d j (place_from cs (i + 1)))) (sym (here cs i c at))
      ∙ ap (λ s. seek_at s d (test c) 0 (place_from cs i) (λ d j. seek test d j (place_from cs (i + 1)))) (sym h))

  -- if the searches from both places find the same, the same is ahead of them
  same_ahead : (d e : ℕ) (a : Ahead) → ((test : Control → Bool) → (seek test e 0 (place_from cs i)).rest ≡ (seek test d 0 (place_from cs (i + 1))).rest) →
      IsAhead cs d (i + 1) a → IsAhead cs e i a
  same_ahead d e a same h = record { part = h.part ∙ sym (same (λ c. true)); following = h.following ∙ ap tail (sym (same (λ c. false))) }

  pub other_ahead : Other ≡ control_shape c → (d : ℕ) (a : Ahead) → IsAhead cs d (i + 1) a → IsAhead cs d i a
  other_ahead h d a = same_ahead d d a (λ test. ap (λ f. f.rest) (walk Other h test d))

  pub opener_ahead : Opener ≡ control_shape c → (d : ℕ) (a : Ahead) → IsAhead cs (suc d) (i + 1) a → IsAhead cs d i a
  opener_ahead h d a = same_ahead (suc d) d a (λ test. ap (λ f. f.rest) (walk Opener h test d))

  pub closer_ahead : Closer ≡ control_shape c → (d : ℕ) (a : Ahead) → IsAhead cs d (i + 1) a → IsAhead cs (suc d) i a
  closer_ahead h d a = same_ahead d (suc d) a (λ test. ap (λ f. f.rest) (walk Closer h test (suc d)))

  pub outer_ahead : Part ≡ control_shape c → (d : ℕ) (a : Ahead) → IsAhead cs (suc d) (i + 1) a → IsAhead cs (suc d) i a
  outer_ahead h d a = same_ahead (suc d) (suc d) a (λ test. ap (λ f. f.rest) (walk Part h test (suc d)))

  pub at_closer : Closer ≡ control_shape c → IsAhead cs 0 i (record { part = i; following = i + 1 })
  at_closer h = record {
    part = sym (ap (λ f. f.rest) (walk Closer h (λ c. true) 0));
    following = sym (ap tail (here cs i c at)) ∙ sym (ap (λ f. tail f.rest) (walk Closer h (λ c. false) 0));
  }

  pub at_part : Part ≡ control_shape c → (a : Ahead) → IsAhead cs 0 (i + 1) a → IsAhead cs 0 i (record { part = i; following = a.following })
  at_part h a following = record {
    part = sym (ap (λ f. f.rest) (walk Part h (λ c. true) 0));
    following = following.following ∙ ap tail (any_count (λ c. false) 0 0 1 (place_from cs (i + 1)) ∙ sym (ap (λ f. f.rest) (walk Part h (λ c. false) 0)));
  }

  -- in all constructs around

  abbrev pub ListAhead : ℕ → ℕ → List Ahead → Type 0
  ListAhead place end ls = (depth : ℕ) → IsAhead cs depth place (get_or ls depth (nothing_ahead end))

  pub others_listed : Other ≡ control_shape c → (l : Levels) → LevelsAhead cs (i + 1) l → LevelsAhead cs i l
  others_listed h l all_ahead depth = other_ahead h depth _ (all_ahead depth)

  pub opener_listed : Opener ≡ control_shape c → (end : ℕ) (ls : List Ahead) → ListAhead (i + 1) end ls → ListAhead i end (tail ls)
  opener_listed h end [] all_ahead depth = opener_ahead h depth _ (all_ahead (suc depth))
  opener_listed h end (a ∷ ls) all_ahead depth = opener_ahead h depth _ (all_ahead (suc depth))

  pub closer_listed : Closer ≡ control_shape c → (end : ℕ) (ls : List Ahead) → ListAhead (i + 1) end ls → ListAhead i end (record { part = i; following = i + 1 } ∷ ls)
  closer_listed h end ls all_ahead zero = at_closer h
  closer_listed h end ls all_ahead (suc depth) = closer_ahead h depth _ (all_ahead depth)

  pub part_listed : Part ≡ control_shape c → (end : ℕ) (ls : List Ahead) (a : Ahead) → IsAhead cs 0 (i + 1) a → ListAhead (i + 1) end ls → ListAhead i end (record { part = i; following = a.following } ∷ tail ls)
  part_listed h end ls a first all_ahead zero = at_part h a first
  part_listed h end [] a first all_ahead (suc depth) = outer_ahead h depth _ (all_ahead (suc depth))
  part_listed h end (b ∷ ls) a first all_ahead (suc depth) = outer_ahead h depth _ (all_ahead (suc depth))

-- ---- what is ahead, in a list for all operators

pub ahead_at : (cs : List Control) (k : ℕ) (as' : List Ahead) (i : ℕ) (a : Ahead) → AreAhead cs k as' → slice_get as' i ≡ Some a → IsAhead cs 0 (k + i + 1) a
ahead_at cs k [] i a all h = absurd (cc h)
ahead_at cs k (b ∷ more) zero a all h =
    let n : suc k ≡ k + 0 + 1 = omega arith in
    subst (λ m. IsAhead cs 0 m a) n (subst (IsAhead cs 0 (suc k)) (let e : b ≡ a = cc h in e) all.0)
ahead_at cs k (b ∷ more) (suc i) a all h =
    let n : suc k + i + 1 ≡ k + suc i + 1 = omega arith in
    subst (λ m. IsAhead cs 0 m a) n (ahead_at cs (suc k) more i a all.1 h)

pub nothing_listed : (cs : List Control) (end : ℕ) → length cs ≤ end → (depth : ℕ) → IsAhead cs depth end (nothing_ahead end)
nothing_listed cs end h depth =
    let none = nothing_here cs end h in
    record {
      part = none ∙ sym (ap (λ xs. (seek (λ c. true) depth 0 xs).rest) none);
      following = none ∙ sym (ap (λ xs. tail (seek (λ c. false) depth 0 xs).rest) none);
    }

pub get_mapped : {A B : Type 0} (f : A → B) (xs : List A) (i : ℕ) (x : A) → i < length xs → x ≡ get_or xs i x → slice_get (map f xs) i ≡ Some (f x)
get_mapped f xs i x lt is = get_map f xs i x (slice_get_read xs (length xs) i x refl lt is)

pub start_listed : (cs : List Control) (end place : ℕ) (ls : List Ahead) → end ≡ length cs → end ≡ place → ls ≡ [] → (depth : ℕ) → IsAhead cs depth place (get_or (reverse ls) depth (nothing_ahead end))
start_listed cs end place ls count same none depth =
    subst (λ l. IsAhead cs depth place (get_or (reverse l) depth (nothing_ahead end))) (sym none)
    (subst (λ m. IsAhead cs depth m (nothing_ahead end)) same (nothing_listed cs end (omega (arith, count)) depth))

pub more_ahead : (cs : List Control) (place : ℕ) (xs ys : List Ahead) (a : Ahead) → 0 < place → ys ≡ xs ++ a ∷ [] → IsAhead cs 0 place a → AreAhead cs place (reverse xs) → AreAhead cs (place - 1) (reverse ys)
more_ahead cs zero xs ys a pos more first all = absurd (omega arith)
more_ahead cs (suc place) xs ys a pos more first all =
    let n : place ≡ suc place - 1 = omega arith in
    subst (AreAhead cs (suc place - 1)) (sym (pushed xs ys a more)) (subst (λ m. AreAhead cs m (a ∷ reverse xs)) n (first, all))

pub read_ahead : (cs ds : List Control) (as' ws : List Ahead) (i : ℕ) (a : Ahead) → ds ≡ cs → AreAhead ds 0 as' → ws ≡ as' → i < length ws → a ≡ get_or ws i a → IsAhead cs 0 (i + 1) a
read_ahead cs ds as' ws i a view all same lt is =
    let z : 0 + i + 1 ≡ i + 1 = omega arith in
    let at = ap (λ l. slice_get l i) (sym same) ∙ slice_get_read ws (length ws) i a refl lt is in
    subst (λ l. IsAhead l 0 (i + 1) a) view (subst (λ m. IsAhead ds 0 m a) z (ahead_at ds 0 as' i a all at))

-- nothing is ahead after the last operator
pub past_all : (cs : List Control) (i : ℕ) → length cs ≤ i → (test : Control → Bool) → place_from cs i ≡ (seek test 0 0 (place_from cs (i + 1))).rest
past_all cs i h test = nothing_here cs i h ∙ sym (ap (λ xs. (seek test 0 0 xs).rest) (nothing_here cs (i + 1) (omega arith)))

pub past_closer : (cs : List Control) (i : ℕ) → length cs ≤ i → place_from cs i ≡ after_closer (place_from cs (i + 1))
past_closer cs i h = nothing_here cs i h ∙ sym (ap after_closer (nothing_here cs (i + 1) (omega arith)))

-- the number of operators in a table, from the length of its lists
pub as_many : (A : Type 0) (cs : List Control) (f : A → Control) (xs : List A) (as' ws : List Ahead) (i : ℕ) → map f xs ≡ cs → length as' ≡ length xs → ws ≡ as' → length ws ≤ i → length cs ≤ i
as_many A cs f xs as' ws i view count same le = omega (arith, ap length view, length-map xs f, count, ap length same)

-- ---- tags

same_test : (x t : ℕ) → is_eq (nat_cmp t x) ≡ eqb x t
same_test x t =
    elim (cases_order t x) [
      | inl e ↦ grind (arith, common_steps)
      | inr (inl lt) ↦ grind (arith, common_steps)
      | inr (inr gt) ↦ grind (arith, common_steps)
    ]

either : (a b : Bool) → (a || b) ≡ cond a true b
either true b = refl
either false b = refl

pub has_any : (cmp : ℕ → ℕ → Ordering) → ((m n : ℕ) → cmp m n ≡ nat_cmp m n) → (tags : List ℕ) (t : ℕ) → list_any (λ x. is_eq (cmp t x)) tags ≡ has tags t
has_any cmp same [] t = refl
has_any cmp same (x ∷ tags) t =
    ap (λ b. b || list_any (λ x. is_eq (cmp t x)) tags) (ap is_eq (same t x) ∙ same_test x t)
    ∙ (ap (λ b. eqb x t || b) (has_any cmp same tags t) ∙ either (eqb x t) (has tags t))

-- the position of an operator
pub within : (cs : List Control) (i : ℕ) (c : Control) → slice_get cs i ≡ Some c → i < length cs
within [] i c h = absurd (cc h)
within (x ∷ cs) zero c h = omega arith
within (x ∷ cs) (suc i) c h = omega (arith, within cs i c h)
