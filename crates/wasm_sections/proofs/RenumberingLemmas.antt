-- Functions that get the next numbers, one after the other; and the numbers of all functions after three such runs.
use Rattle.std.proofs.Common.{◌≡◌, ◌⊎◌, ℕ, ◌+◌, ◌-◌, ◌<◌, ◌≤◌, ◌^◌, Bool, true, false, cond, nat_lt, if◌then◌else◌, Option, Some, None, is_some, Result, Ok, Err, refl, sym, ap, subst, ◌∙◌, inl, inr, arith}
use Rattle.std.specs.Result.{OnOk, IfErr}
use Rattle.std.specs.Ordering.{nat_cmp}
use Rattle.std.specs.Cmp.{nat_cmp_total}
use Rattle.std.specs.FinMap.{FinMap, empty, get, len, len-insert, len-empty, get-empty}
use Rattle.std.proofs.lemmas.Bool.{eq-eqb, ne_eqb, cases_eq}
use Rattle.std.proofs.lemmas.Bool.Decides.{nat_tests}
use Rattle.wasm_numbers.specs.Results.{some_or}
use Rattle.wasm_operators.specs.declared.types.Space.TheVariants.{Funcs}
use Rattle.wasm_body.specs.declared.error.IndexError.{IndexError}
use Rattle.wasm_body.specs.declared.error.IndexError.TheVariants.{Unnumbered}
use Rattle.wasm_body.specs.declared.error.IndexError.TheVariants as index
use Rattle.walrus_maps.specs.declared.ids_to_indices.IdsToIndices.{IdsToIndices}
use Rattle.walrus_maps.specs.IndexMaps.{numbers_in, numbered, number_of}
use Rattle.walrus_maps.proofs.NumberingLemmas.{get-numbered}
use Rattle.wasm_sections.specs.MovedFunctions.{ArePushed, AreUnnumbered, NoNumbersFor, AreRenumbered, NoImportMore}

abbrev Numbers : Type 0
Numbers = FinMap nat_cmp ℕ

-- ---- one more

numbered_here : (m : Numbers) (i q : ℕ) → q ≡ i → get (numbered m i) q ≡ Some (len m)
numbered_here m i q e = get-numbered m i q ∙ ap (λ (b : Bool). cond b (Some (len m)) (get m q)) (eq-eqb q i e)

numbered_other : (m : Numbers) (i q : ℕ) → (q ≡ i → ⊥) → get (numbered m i) q ≡ get m q
numbered_other m i q other = get-numbered m i q ∙ ap (λ (b : Bool). cond b (Some (len m)) (get m q)) (ne_eqb q i other)

pub none_pushed : (first : ℕ) (m : Numbers) → ArePushed first first m m
none_pushed first m = record {
  count = omega arith;
  numbers = λ id low high. absurd (omega (arith, low, high));
  lower = λ id low. refl;
  higher = λ id high. refl;
}

module _ (first i : ℕ) (old mid : Numbers) (from : first ≤ i) (a : ArePushed first i old mid) where
  number_more : (id : ℕ) → first ≤ id → id < i + 1 → get (numbered mid i) id ≡ Some (len old + (id - first))
  number_more id low high =
      elim (cases_eq id i) [
        | inl same ↦
            let count : len mid ≡ len old + (id - first) = omega (arith, a.count, same) in
            numbered_here mid i id same ∙ ap (λ (n : ℕ). Some n) count
        | inr other ↦ numbered_other mid i id other ∙ a.numbers id low (omega (arith, high, other))
      ]

  more_pushed : get mid i ≡ None → ArePushed first (i + 1) old (numbered mid i)
  more_pushed none = record {
    count = len-insert nat_cmp_total mid i (len mid) ∙ ap (λ (o : Option ℕ). cond (is_some o) (len mid) (len mid + 1)) none ∙ omega (arith, a.count);
    numbers = number_more;
    lower = λ id low. numbered_other mid i id (λ same. omega (arith, same, low)) ∙ a.lower id low;
    higher = λ id high. numbered_other mid i id (λ same. omega (arith, same, high)) ∙ a.higher id (omega (arith, high));
  }

  pub one_pushed : (new : Numbers) → get mid i ≡ None → new ≡ numbered mid i → ArePushed first (i + 1) old new
  one_pushed new none e = subst (λ (m : Numbers). ArePushed first (i + 1) old m) (sym e) (more_pushed none)

pub all_pushed : (first i end : ℕ) (old new : Numbers) → i ≡ end → ArePushed first i old new → ArePushed first end old new
all_pushed first i end old new e a = subst (λ (n : ℕ). ArePushed first n old new) e a

-- an id that isn't found has no number
pub none_of_error : {E : Type 0} (o : Option ℕ) (e f : E) → some_or o e ≡ Err f → o ≡ None
none_of_error None e f h = refl
none_of_error {E} (Some n) e f h = let h : ◌≡◌ {A = Result ℕ E} (Ok n) (Err f) = h in absurd cc

-- ---- all

module _ (total imported added end : ℕ) (zeroth one two : Numbers) (m : IdsToIndices) (fits : imported ≤ total) (end_is : end ≡ total + added) (none : zeroth ≡ empty)
    (p : ArePushed 0 imported zeroth one) (q : ArePushed total end one two) (r : ArePushed imported total two (numbers_in m Funcs)) where
  no_numbers : len zeroth ≡ 0
  no_numbers = ap len none ∙ len-empty nat_cmp ℕ

  before_added : (id : ℕ) → id < imported → get (numbers_in m Funcs) id ≡ Some id
  before_added id low =
      let number : len zeroth + (id - 0) ≡ id = omega (arith, no_numbers) in
      r.lower id low ∙ q.lower id (omega (arith, low)) ∙ p.numbers id (omega arith) low ∙ ap (λ (n : ℕ). Some n) number

  after_added : (id : ℕ) → imported ≤ id → id < total → get (numbers_in m Funcs) id ≡ Some (id + added)
  after_added id low high =
      let number : len two + (id - imported) ≡ id + added = omega (arith, no_numbers, p.count, q.count, low, end_is) in
      r.numbers id low high ∙ ap (λ (n : ℕ). Some n) number

  of_source : (id : ℕ) → id < total → (b : Bool) → nat_lt id imported ≡ b → number_of m Funcs id ≡ Ok (if b then id else id + added)
  of_source id high true e = ap (λ (o : Option ℕ). some_or o (Unnumbered Funcs)) (before_added id (grind (arith, nat_tests, e)))
  of_source id high false e = ap (λ (o : Option ℕ). some_or o (Unnumbered Funcs)) (after_added id (grind (arith, nat_tests, e)) high)

  of_added : (id : ℕ) → id < added → number_of m Funcs (total + id) ≡ Ok (imported + id)
  of_added id high =
      let number : len one + (total + id - total) ≡ imported + id = omega (arith, no_numbers, p.count) in
      let found : get (numbers_in m Funcs) (total + id) ≡ Some (imported + id) =
      r.higher (total + id) (omega arith) ∙ q.numbers (total + id) (omega arith) (omega (arith, high, end_is)) ∙ ap (λ (n : ℕ). Some n) number in
      ap (λ (o : Option ℕ). some_or o (Unnumbered Funcs)) found

  pub renumbered : AreRenumbered total imported added m
  renumbered = record { source = λ id high. of_source id high (nat_lt id imported) refl; more = of_added }

-- the same in maps with these numbers of functions
pub renumbered_in :
    (total imported added : ℕ) (m n : IdsToIndices) → numbers_in n Funcs ≡ numbers_in m Funcs → AreRenumbered total imported added m → AreRenumbered total imported added n
renumbered_in total imported added m n e a =
    let same : (id : ℕ) → number_of n Funcs id ≡ number_of m Funcs id = λ id. ap (λ (f : Numbers). some_or (get f id) (Unnumbered Funcs)) e in
    record { source = λ id high. same id ∙ a.source id high; more = λ id high. same (total + id) ∙ a.more id high }

-- ---- refusals

module _ (total imported added end : ℕ) (e : IndexError) (zeroth one two : Numbers) (fits : imported ≤ total) (end_is : end ≡ total + added) (none : zeroth ≡ empty) where
  free : (id : ℕ) → get zeroth id ≡ None
  free id = ap (λ (m : Numbers). get m id) none ∙ get-empty nat_cmp id

  no_count : len zeroth ≡ 0
  no_count = ap len none ∙ len-empty nat_cmp ℕ

  too_many : (count : ℕ) → count ≤ total + added → (e ≡ index.Memory) ⊎ ((e ≡ index.TooMany) × (2 ^ 32 < count)) → NoImportMore total imported added e
  too_many count most h = elim h [ inl memory ↦ inl memory | inr many ↦ inr (many.0, inr (omega (arith, many.1, most))) ]

  pub first_refused : (AreUnnumbered 0 imported zeroth → NoNumbersFor 0 imported zeroth e) → NoImportMore total imported added e
  first_refused h = too_many (len zeroth + (imported - 0)) (omega (arith, no_count, fits)) (h (omega arith, λ id low high. free id))

  module _ (p : ArePushed 0 imported zeroth one) where
    free_after : (id : ℕ) → imported ≤ id → get one id ≡ None
    free_after id low = p.higher id low ∙ free id

    pub second_refused : (AreUnnumbered total end one → NoNumbersFor total end one e) → NoImportMore total imported added e
    second_refused h =
        too_many (len one + (end - total)) (omega (arith, no_count, p.count, fits, end_is)) (h (omega (arith, end_is), λ id low high. free_after id (omega (arith, low, fits))))

    pub third_refused : ArePushed total end one two → (AreUnnumbered imported total two → NoNumbersFor imported total two e) → NoImportMore total imported added e
    third_refused q h =
        too_many (len two + (total - imported)) (omega (arith, no_count, p.count, q.count, fits, end_is))
        (h (fits, λ id low high. q.lower id high ∙ free_after id low))

-- ---- by the result of the last run

pub all_numbered : {U : Type 0} {P Q : Type 0} (r : Result U IndexError) → (P → Q) → OnOk r P → OnOk r Q
all_numbered (Ok u) f p = f p
all_numbered (Err e) f p = tt

pub all_refused : {U : Type 0} {P : Type 0} {Q R : IndexError → Type 0} (r : Result U IndexError) → ((e : IndexError) → (P → Q e) → R e) → (P → IfErr r Q) → IfErr r R
all_refused (Ok u) f h = tt
all_refused (Err e) f h = f e h
