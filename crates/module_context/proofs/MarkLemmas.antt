-- Marks of the functions that are named.
use Rattle.std.proofs.Common.{◌≡◌, ℕ, suc, ◌+◌, ◌<◌, ◌≤◌, ◌==◌, List, [], ◌∷◌, ◌++◌, length, take, set, get_or, replicate, Bool, true, false, cond, refl, sym, ap, ◌∙◌, arith, eq-eqb, get_or-set_same, get_or-set_other, inl, inr}
use Rattle.std.specs.Prelude.{◌||◌, filter}
use Rattle.std.specs.List.{range_with_len}
use Rattle.std.proofs.lemmas.Bool.{ne_eqb, cases_eq}
use Rattle.std.proofs.lemmas.List.{take_more, length-set, get_or-replicate, length-replicate}
use Rattle.std.proofs.lemmas.List.Folds.{list_any-append}
use Rattle.wasm_typing.specs.Contexts.{contains}
use Rattle.wasm_context.specs.Contexts.{marked_from}
use Rattle.module_context.specs.ModuleContexts.{referenced_in}

-- The functions of this list, among so many, have a mark.
pub record MarksNamed (count : ℕ) (named : List ℕ) (marks : List Bool) : Type 0 where
  pub count_is : length marks ≡ count
  pub marks_are : (f : ℕ) → f < count → get_or marks f false ≡ contains f named

pub none_marked : (count : ℕ) → MarksNamed count [] (replicate count false)
none_marked count = record { count_is = length-replicate count false; marks_are = λ f less. get_or-replicate count f false false less }

contains_more : (f x : ℕ) (named : List ℕ) → contains f (named ++ x ∷ []) ≡ (contains f named || ((f == x) || false))
contains_more f x named = list_any-append (λ m. f == m) named (x ∷ [])

or_true : (b : Bool) → (b || (true || false)) ≡ true
or_true true = refl
or_true false = refl

or_false : (b : Bool) → (b || (false || false)) ≡ b
or_false true = refl
or_false false = refl

module _ (count : ℕ) (all : List ℕ) (i x : ℕ) (marks : List Bool) (within : i < length all) (is : x ≡ get_or all i x) (so : MarksNamed count (take i all) marks) where
  next : take (i + 1) all ≡ take i all ++ x ∷ []
  next = take_more all i x within ∙ ap (λ (y : ℕ). take i all ++ y ∷ []) (sym is)

  with_next : (f : ℕ) → contains f (take (i + 1) all) ≡ (contains f (take i all) || ((f == x) || false))
  with_next f = ap (contains f) next ∙ contains_more f x (take i all)

  -- a function that is there
  pub one_marked : x < count → MarksNamed count (take (i + 1) all) (set marks x true)
  one_marked there = record {
    count_is = length-set marks x true ∙ so.count_is;
    marks_are = λ f less. elim (cases_eq f x) [
      | inl same ↦
          ap (λ (k : ℕ). get_or (set marks x true) k false) same ∙ get_or-set_same marks x true false (let long = so.count_is in omega arith)
          ∙ sym (with_next f ∙ ap (λ (b : Bool). contains f (take i all) || (b || false)) (eq-eqb f x same) ∙ or_true (contains f (take i all)))
      | inr other ↦
          get_or-set_other marks x f true false other ∙ so.marks_are f less
          ∙ sym (with_next f ∙ ap (λ (b : Bool). contains f (take i all) || (b || false)) (ne_eqb f x other) ∙ or_false (contains f (take i all)))
    ];
  }

  -- one that isn't there
  pub none_more : count ≤ x → MarksNamed count (take (i + 1) all) marks
  none_more past = record {
    count_is = so.count_is;
    marks_are = λ f less.
        so.marks_are f less
        ∙ sym (with_next f ∙ ap (λ (b : Bool). contains f (take i all) || (b || false)) (ne_eqb f x (λ e. omega arith)) ∙ or_false (contains f (take i all)));
  }

marked_filter :
    (p : ℕ → Bool) (b : ℕ) (marks : List Bool) → ((f : ℕ) → f < length marks → get_or marks f false ≡ p (b + f)) →
    marked_from b marks ≡ filter p (range_with_len b (length marks))
marked_filter p b [] are = refl
marked_filter p b (true ∷ ms) are =
    let here : b + 0 ≡ b = omega arith in
    let next : suc b ≡ b + 1 = omega arith in
    let rest : marked_from (b + 1) ms ≡ filter p (range_with_len (b + 1) (length ms)) = marked_filter p (b + 1) ms (λ f less. let same : b + suc f ≡ (b + 1) + f = omega arith in are (suc f) (omega arith) ∙ ap p same) in
    ap (λ (k : ℕ). b ∷ marked_from k ms) next ∙ ap (λ (l : List ℕ). b ∷ l) rest
    ∙ ap (λ (t : Bool). cond t (b ∷ filter p (range_with_len (b + 1) (length ms))) (filter p (range_with_len (b + 1) (length ms)))) (are 0 (omega arith) ∙ ap p here)
marked_filter p b (false ∷ ms) are =
    let here : b + 0 ≡ b = omega arith in
    let next : suc b ≡ b + 1 = omega arith in
    let rest : marked_from (b + 1) ms ≡ filter p (range_with_len (b + 1) (length ms)) = marked_filter p (b + 1) ms (λ f less. let same : b + suc f ≡ (b + 1) + f = omega arith in are (suc f) (omega arith) ∙ ap p same) in
    ap (λ (k : ℕ). marked_from k ms) next ∙ rest
    ∙ ap (λ (t : Bool). cond t (b ∷ filter p (range_with_len (b + 1) (length ms))) (filter p (range_with_len (b + 1) (length ms)))) (are 0 (omega arith) ∙ ap p here)

pub marked_named : (count : ℕ) (named : List ℕ) (marks : List Bool) → MarksNamed count named marks → marked_from 0 marks ≡ referenced_in named count
marked_named count named marks so =
    marked_filter (λ f. contains f named) 0 marks
    (λ f less. let there = so.count_is in let same : f ≡ 0 + f = omega arith in so.marks_are f (omega arith) ∙ ap (λ (k : ℕ). contains k named) same)
    ∙ ap (λ (n : ℕ). filter (λ f. contains f named) (range_with_len 0 n)) so.count_is
