-- The steps of a search.
use Rattle.std.proofs.Common.{inl, inr, ◌≡◌, ℕ, zero, suc, ◌+◌, ◌<◌, ◌≤◌, ◌⊎◌, Bool, true, false, true≢false, not, cond, List, [], ◌∷◌, ◌++◌, length, get_or, set, replicate, refl, sym, ap, subst, ◌∙◌, arith, length-append, get_or-set_same, get_or-set_other}
use Rattle.std.specs.List.{Contains}
use Rattle.std.proofs.lemmas.Bool.{cases_eq}
use Rattle.std.proofs.lemmas.List.{length-set}
use Rattle.std.proofs.lemmas.List.Elements.{Contains-append_left, Contains-push, Contains-push_cases}
use Rattle.reaching.specs.declared.search.Search.{Search}
use Rattle.reaching.specs.Reaching.{IsReachedFrom}
use Rattle.reaching.specs.Searching.{is_set, is_unset, unset_count, weight, IsGrown}
use Rattle.reaching.proofs.Walks.{closed, GoesOn, marks_all}

-- ---- marks

pub set_within : (marks : List Bool) (x : ℕ) → is_set marks x ≡ true → x < length marks
set_within [] x is = absurd (true≢false (sym is))
set_within (m ∷ marks) zero is = omega arith
set_within (m ∷ marks) (suc x) is = let rest = set_within marks x is in omega arith

pub unset_within : (marks : List Bool) (x : ℕ) → is_unset marks x ≡ true → x < length marks
unset_within [] x is = absurd (true≢false (sym is))
unset_within (m ∷ marks) zero is = omega arith
unset_within (m ∷ marks) (suc x) is = let rest = unset_within marks x is in omega arith

-- an item that has a mark is marked, or not
set_or_unset : (marks : List Bool) (x : ℕ) → x < length marks → is_unset marks x ≡ false → is_set marks x ≡ true
set_or_unset [] x within is = absurd (omega arith)
set_or_unset (true ∷ marks) zero within is = refl
set_or_unset (false ∷ marks) zero within is = absurd (true≢false is)
set_or_unset (m ∷ marks) (suc x) within is = set_or_unset marks x (omega arith) is

unset_fewer : (marks : List Bool) (x : ℕ) → is_unset marks x ≡ true → unset_count (set marks x true) + 1 ≡ unset_count marks
unset_fewer [] x is = absurd (true≢false (sym is))
unset_fewer (true ∷ marks) zero is = absurd (true≢false (sym is))
unset_fewer (false ∷ marks) zero is = omega arith
unset_fewer (true ∷ marks) (suc x) is = unset_fewer marks x is
unset_fewer (false ∷ marks) (suc x) is = let rest = unset_fewer marks x is in omega arith

pub none_set : (n x : ℕ) → is_set (replicate n false) x ≡ false
none_set zero x = refl
none_set (suc n) zero = refl
none_set (suc n) (suc x) = none_set n x

-- ---- a step

pub same_grown : (P : ℕ → Type 0) (s : Search) → IsGrown P s s
same_grown P s = record {
  items = refl;
  kept = λ x h. h;
  waiting = λ x h. h;
  added = λ x h. inl h;
  marked = λ x h. inl h;
  weighs = omega arith;
}

pub grown_further : (P : ℕ → Type 0) (s t u : Search) → IsGrown P s t → IsGrown P t u → IsGrown P s u
grown_further P s t u first then = record {
  items = then.items ∙ first.items;
  kept = λ x h. then.kept x (first.kept x h);
  waiting = λ x h. then.waiting x (first.waiting x h);
  added = λ x h. elim (then.added x h) [
    | inl before ↦ elim (first.added x before) [
      | inl old ↦ inl old
      | inr new ↦ inr (then.waiting x new.0, new.1)
    ]
    | inr new ↦ inr new
  ];
  marked = λ x h. elim (then.marked x h) [
    | inl before ↦ elim (first.marked x before) [
      | inl old ↦ inl old
      | inr is ↦ inr (then.kept x is)
    ]
    | inr is ↦ inr is
  ];
  weighs = omega (arith, first.weighs, then.weighs);
}

-- the search with these marks, and these that are pending
abbrev pub Marked : (P : ℕ → Type 0) → (old new : Search) → (item : ℕ) → Type 0
Marked P s t item = IsGrown P s t × (item < length t.marks.items → is_set t.marks.items item ≡ true)

marked_new : (P : ℕ → Type 0) (s t : Search) (item : ℕ) → P item → is_unset s.marks.items item ≡ true → t.marks.items ≡ set s.marks.items item true
    → t.pending.items ≡ s.pending.items ++ item ∷ [] → Marked P s t item
marked_new P s t item holds unset is_marks is_pending =
    let ms = s.marks.items in
    let ps = s.pending.items in
    let within : item < length ms = unset_within ms item unset in
    let is_item : is_set t.marks.items item ≡ true = ap (λ xs. is_set xs item) is_marks ∙ get_or-set_same ms item true false within in
    let size : length t.marks.items ≡ length ms = ap length is_marks ∙ length-set ms item true in
    let pushed : length t.pending.items ≡ length ps + 1 = ap length is_pending ∙ length-append ps (item ∷ []) in
    let fewer : unset_count t.marks.items + 1 ≡ unset_count ms = ap (λ xs. unset_count xs + 1) is_marks ∙ unset_fewer ms item unset in (
      record {
        items = size;
        kept = λ x h. elim (cases_eq x item) [
          | inl same ↦ subst (λ i. is_set t.marks.items i ≡ true) (sym same) is_item
          | inr other ↦ ap (λ xs. is_set xs x) is_marks ∙ get_or-set_other ms item x true false other ∙ h
        ];
        waiting = λ x h. subst (λ xs. Contains xs x) (sym is_pending) (Contains-append_left ps (item ∷ []) x h);
        added = λ x h. elim (cases_eq x item) [
          | inl same ↦ inr (
            subst (λ xs. Contains xs x) (sym is_pending) (subst (λ i. Contains (ps ++ item ∷ []) i) (sym same) (Contains-push ps item)),
            subst P (sym same) holds,
          )
          | inr other ↦ inl (sym (ap (λ xs. is_set xs x) is_marks ∙ get_or-set_other ms item x true false other) ∙ h)
        ];
        marked = λ x h. elim (Contains-push_cases ps item x (subst (λ xs. Contains xs x) is_pending h)) [
          | inl before ↦ inl before
          | inr same ↦ inr (subst (λ i. is_set t.marks.items i ≡ true) same is_item)
        ];
        weighs = omega (arith, fewer, pushed);
      },
      λ lt. is_item,
    )

marked_before : (P : ℕ → Type 0) (s t : Search) (item : ℕ) → is_unset s.marks.items item ≡ false → t.marks.items ≡ s.marks.items
    → t.pending.items ≡ s.pending.items → Marked P s t item
marked_before P s t item unset is_marks is_pending = (
  record {
    items = ap length is_marks;
    kept = λ x h. subst (λ xs. is_set xs x ≡ true) (sym is_marks) h;
    waiting = λ x h. subst (λ xs. Contains xs x) (sym is_pending) h;
    added = λ x h. inl (subst (λ xs. is_set xs x ≡ true) is_marks h);
    marked = λ x h. inl (subst (λ xs. Contains xs x) is_pending h);
    weighs = omega (arith, ap unset_count is_marks, ap length is_pending);
  },
  λ lt. set_or_unset t.marks.items item lt (subst (λ xs. is_unset xs item ≡ false) (sym is_marks) unset),
)

marked_by : (P : ℕ → Type 0) (s t : Search) (item : ℕ) → P item → (unset : Bool) → is_unset s.marks.items item ≡ unset
    → t.marks.items ≡ cond unset (set s.marks.items item true) s.marks.items
    → t.pending.items ≡ cond unset (s.pending.items ++ item ∷ []) s.pending.items → Marked P s t item
marked_by P s t item holds true unset is_marks is_pending = marked_new P s t item holds unset is_marks is_pending
marked_by P s t item holds false unset is_marks is_pending = marked_before P s t item unset is_marks is_pending

pub marked : (P : ℕ → Type 0) (s t : Search) (item : ℕ) → P item
    → t.marks.items ≡ cond (is_unset s.marks.items item) (set s.marks.items item true) s.marks.items
    → t.pending.items ≡ cond (is_unset s.marks.items item) (s.pending.items ++ item ∷ []) s.pending.items → Marked P s t item
marked P s t item holds is_marks is_pending = marked_by P s t item holds (is_unset s.marks.items item) refl is_marks is_pending

-- ---- the whole search

-- while roots are marked: what is marked is a root, and pending
pub record IsBegun (items : ℕ) (roots : List ℕ) (s : Search) : Type 0 where
  pub size : length s.marks.items ≡ items
  pub from_roots : (x : ℕ) → is_set s.marks.items x ≡ true → Contains s.pending.items x × Contains roots x
  pub marked : (x : ℕ) → Contains s.pending.items x → is_set s.marks.items x ≡ true

pub none_in : (x : ℕ) → Contains [] x → ⊥
none_in x h = omega (arith, h.1)

pub begun : (items : ℕ) (roots : List ℕ) (s : Search) → length s.marks.items ≡ items → ((x : ℕ) → is_set s.marks.items x ≡ false) → s.pending.items ≡ []
    → IsBegun items roots s
begun items roots s size unmarked empty = record {
  size = size;
  from_roots = λ x h. absurd (true≢false (sym h ∙ unmarked x));
  marked = λ x h. absurd (none_in x (subst (λ xs. Contains xs x) empty h));
}

pub begun_further : (items : ℕ) (roots : List ℕ) (s t : Search) → IsGrown (λ x. Contains roots x) s t → IsBegun items roots s → IsBegun items roots t
begun_further items roots s t grown is = record {
  size = grown.items ∙ is.size;
  from_roots = λ x h. elim (grown.added x h) [
    | inl before ↦ (grown.waiting x (is.from_roots x before).0, (is.from_roots x before).1)
    | inr new ↦ new
  ];
  marked = λ x h. elim (grown.marked x h) [
    | inl before ↦ grown.kept x (is.marked x before)
    | inr now ↦ now
  ];
}

-- while edges are followed: what is marked is reached, and is pending, or its edges go to marked items
pub record IsSearched (items : ℕ) (es : List (ℕ × ℕ)) (roots : List ℕ) (s : Search) : Type 0 where
  pub size : length s.marks.items ≡ items
  pub reached : (x : ℕ) → is_set s.marks.items x ≡ true → IsReachedFrom items es roots x
  pub marked : (x : ℕ) → Contains s.pending.items x → is_set s.marks.items x ≡ true
  pub followed : (x : ℕ) → is_set s.marks.items x ≡ true
      → Contains s.pending.items x ⊎ ((y : ℕ) → Contains es (x, y) → y < items → is_set s.marks.items y ≡ true)
  pub all_roots : (x : ℕ) → Contains roots x → x < items → is_set s.marks.items x ≡ true

pub searched_first : (items : ℕ) (es : List (ℕ × ℕ)) (roots : List ℕ) (s : Search) → IsBegun items roots s
    → ((x : ℕ) → Contains roots x → x < items → is_set s.marks.items x ≡ true) → IsSearched items es roots s
searched_first items es roots s is all = record {
  size = is.size;
  reached = λ x h. (subst (λ n. x < n) is.size (set_within s.marks.items x h), x, zero, (is.from_roots x h).1, refl);
  marked = is.marked;
  followed = λ x h. inl (is.from_roots x h).0;
  all_roots = all;
}

-- an item is taken from those that are pending, and its edges are followed
pub searched_next : (items : ℕ) (es : List (ℕ × ℕ)) (roots : List ℕ) (s taken t : Search) (item : ℕ) → IsSearched items es roots s
    → taken.marks.items ≡ s.marks.items → s.pending.items ≡ taken.pending.items ++ item ∷ []
    → IsGrown (λ x. Contains es (item, x)) taken t
    → ((x : ℕ) → Contains es (item, x) → x < length t.marks.items → is_set t.marks.items x ≡ true) → IsSearched items es roots t
searched_next items es roots s taken t item is is_marks is_pending grown targets =
    let as_before = λ (x : ℕ) (h : is_set taken.marks.items x ≡ true). subst (λ xs. is_set xs x ≡ true) is_marks h in
    let as_taken = λ (x : ℕ) (h : is_set s.marks.items x ≡ true). subst (λ xs. is_set xs x ≡ true) (sym is_marks) h in
    let was_pending = λ (x : ℕ) (h : Contains (taken.pending.items ++ item ∷ []) x). subst (λ xs. Contains xs x) (sym is_pending) h in
    let size : length t.marks.items ≡ items = grown.items ∙ ap length is_marks ∙ is.size in
    let of_item : IsReachedFrom items es roots item = is.reached item (is.marked item (was_pending item (Contains-push taken.pending.items item))) in
    record {
      size = size;
      reached = λ x h. elim (grown.added x h) [
        | inl before ↦ is.reached x (as_before x before)
        | inr new ↦ closed items es roots item x (subst (λ n. x < n) size (set_within t.marks.items x h)) new.1 of_item
      ];
      marked = λ x h. elim (grown.marked x h) [
        | inl before ↦ grown.kept x (as_taken x (is.marked x (was_pending x (Contains-append_left taken.pending.items (item ∷ []) x before))))
        | inr now ↦ now
      ];
      followed = λ x h. elim (grown.added x h) [
        | inl before ↦ elim (is.followed x (as_before x before)) [
          | inl pending ↦ elim (Contains-push_cases taken.pending.items item x (subst (λ xs. Contains xs x) is_pending pending)) [
            | inl waits ↦ inl (grown.waiting x waits)
            | inr same ↦ inr (λ y edge lt. targets y (subst (λ i. Contains es (i, y)) (sym same) edge) (subst (λ n. y < n) (sym size) lt))
          ]
          | inr targets_before ↦ inr (λ y edge lt. grown.kept y (as_taken y (targets_before y edge lt)))
        ]
        | inr new ↦ inl new.0
      ];
      all_roots = λ x root lt. grown.kept x (as_taken x (is.all_roots x root lt));
    }

-- where none is pending
pub none_left : (xs : List ℕ) → length xs ≡ 0 → xs ≡ []
none_left [] none = refl
none_left (x ∷ xs) none = absurd (omega (arith, none))

pub searched_all : (items : ℕ) (es : List (ℕ × ℕ)) (roots : List ℕ) (s : Search) → ((x y : ℕ) → Contains es (x, y) → x < items)
    → IsSearched items es roots s → s.pending.items ≡ [] → (x : ℕ) → IsReachedFrom items es roots x → is_set s.marks.items x ≡ true
searched_all items es roots s items_only is empty x reached =
    let goes_on : GoesOn items es (is_set s.marks.items) =
    (λ x y edge lt h. elim (is.followed x h) [
      | inl pending ↦ absurd (none_in x (subst (λ xs. Contains xs x) empty pending))
      | inr followed ↦ followed y edge lt
    ]) in
    marks_all items es roots (is_set s.marks.items) items_only goes_on is.all_roots x reached

-- the measure of the search falls
pub weighs_less : (P : ℕ → Type 0) (s taken t : Search) (item : ℕ) → taken.marks.items ≡ s.marks.items → s.pending.items ≡ taken.pending.items ++ item ∷ []
    → IsGrown P taken t → weight t < weight s
weighs_less P s taken t item is_marks is_pending grown =
    let size : length s.pending.items ≡ length taken.pending.items + 1 = ap length is_pending ∙ length-append taken.pending.items (item ∷ []) in
    omega (arith, grown.weighs, ap unset_count is_marks, size)

get_or_default : {A : Type 0} (xs : List A) (k : ℕ) (d e : A) → k < length xs → get_or xs k d ≡ get_or xs k e
get_or_default [] k d e within = absurd (omega arith)
get_or_default (x ∷ xs) zero d e within = refl
get_or_default (x ∷ xs) (suc k) d e within = get_or_default xs k d e (omega arith)

-- a root that is one of the list is marked, where each place of it is
pub each_root : (roots : List ℕ) (marks : List Bool) (items : ℕ) → ((k : ℕ) → k < length roots → get_or roots k 0 < items → is_set marks (get_or roots k 0) ≡ true)
    → (x : ℕ) → Contains roots x → x < items → is_set marks x ≡ true
each_root roots marks items all x root lt =
    let same : get_or roots root.0 0 ≡ x = get_or_default roots root.0 0 x root.1 ∙ root.2 in
    subst (λ y. y < items → is_set marks y ≡ true) same (all root.0 root.1) lt
