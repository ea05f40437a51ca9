-- The ranks of sections: those of a module in order, and the next one.
use Rattle.std.proofs.Common.{◌≡◌, ◌≢◌, ◌==◌, ◌<◌, ◌≤◌, ℕ, zero, suc, nat_lt, List, [], ◌∷◌, get_or, Bool, true, false, ◌&&◌, if◌then◌else◌, refl, sym, ap, ◌∙◌, subst, inl, inr, arith}
use Rattle.std.specs.List.{AllByRecursion}
use Rattle.std.proofs.lemmas.Bool.{lt-ltb}
use Rattle.std.proofs.lemmas.Bool.Decides.{nat_tests}
use Rattle.wasm_sections.specs.Sections.{SectionAt, rank, next_rank}
use Rattle.wasm_module.specs.ReadSections.{AreInOrder}
use Rattle.wasm_module.proofs.ModuleCodeLemmas.{either_is, is_number, rank_after}

low_in : (ranks : List ℕ) (i : ℕ) → AllByRecursion (λ r. r < 14) ranks → get_or ranks i 0 < 14
low_in [] i low = omega arith
low_in (r ∷ rs) zero low = low.0
low_in (r ∷ rs) (suc i) low = low_in rs i low.1

pub rank_low : (id : ℕ) → rank id < 14
rank_low id = low_in (0 ∷ 1 ∷ 2 ∷ 3 ∷ 4 ∷ 5 ∷ 7 ∷ 8 ∷ 9 ∷ 10 ∷ 12 ∷ 13 ∷ 11 ∷ 6 ∷ []) id
    (omega arith, (omega arith, (omega arith, (omega arith, (omega arith, (omega arith, (omega arith, (omega arith, (omega arith, (omega arith, (omega arith, (omega arith, (omega arith, (omega arith, tt))))))))))))))

pub less_by : (a b : ℕ) → nat_lt a b ≡ true → a < b
less_by a b h = grind (arith, nat_tests)

pub not_less : (a b : ℕ) → b ≤ a → nat_lt a b ≡ false
not_less a b h = grind (arith, nat_tests)

pub both_true : (a b : Bool) → (a && b) ≡ true → (a ≡ true) × (b ≡ true)
both_true true b h = (refl, h)
both_true false b h = absurd cc

pub not_custom : (id : ℕ) → (id == 0) ≡ false → id ≢ 0
not_custom id isnt custom = let wrong = ap (λ (k : ℕ). k == 0) custom in let both : true ≡ false = sym wrong ∙ isnt in cc

pub custom_rank : (id : ℕ) → id ≡ 0 → rank id ≡ 0
custom_rank id custom = ap rank custom

-- one with a rank isn't custom
pub has_rank : (id r : ℕ) → r < rank id → (id == 0) ≡ false
has_rank id r h = elim (either_is (id == 0)) [ inl is ↦ absurd (let none = custom_rank id (is_number id 0 is) in omega arith) | inr isnt ↦ isnt ]

pub after_custom : (before id : ℕ) → id ≡ 0 → rank_after before id ≡ before
after_custom before id custom = ap (rank_after before) custom

pub after_other : (before id : ℕ) → (id == 0) ≡ false → rank_after before id ≡ rank id
after_other before id isnt = ap (λ (b : Bool). if b then before else rank id) isnt

pub next_first : (r : ℕ) (s : SectionAt) (ss : List SectionAt) → r < rank s.id → next_rank r (s ∷ ss) ≡ rank s.id
next_first r s ss h = ap (λ (b : Bool). if b then rank s.id else next_rank r ss) (lt-ltb r (rank s.id) h)

pub next_later : (r : ℕ) (s : SectionAt) (ss : List SectionAt) → rank s.id ≤ r → next_rank r (s ∷ ss) ≡ next_rank r ss
next_later r s ss h = ap (λ (b : Bool). if b then rank s.id else next_rank r ss) (not_less r (rank s.id) h)

pub next_greater : (r : ℕ) (ss : List SectionAt) → r < 14 → r < next_rank r ss
next_greater r [] low = low
next_greater r (s ∷ ss) low =
    elim (either_is (nat_lt r (rank s.id))) [
      | inl is ↦ subst (λ (b : Bool). r < (if b then rank s.id else next_rank r ss)) (sym is) (less_by r (rank s.id) is)
      | inr isnt ↦ subst (λ (b : Bool). r < (if b then rank s.id else next_rank r ss)) (sym isnt) (next_greater r ss low)
    ]

-- the id of a rank
abbrev id_of_rank : ℕ → ℕ
id_of_rank r = get_or (0 ∷ 1 ∷ 2 ∷ 3 ∷ 4 ∷ 5 ∷ 13 ∷ 6 ∷ 7 ∷ 8 ∷ 9 ∷ 12 ∷ 10 ∷ 11 ∷ []) r 0

id_again : (id : ℕ) → 0 < rank id → id_of_rank (rank id) ≡ id
id_again zero some = refl
id_again (suc zero) some = refl
id_again (suc (suc zero)) some = refl
id_again (suc (suc (suc zero))) some = refl
id_again (suc (suc (suc (suc zero)))) some = refl
id_again (suc (suc (suc (suc (suc zero))))) some = refl
id_again (suc (suc (suc (suc (suc (suc zero)))))) some = refl
id_again (suc (suc (suc (suc (suc (suc (suc zero))))))) some = refl
id_again (suc (suc (suc (suc (suc (suc (suc (suc zero)))))))) some = refl
id_again (suc (suc (suc (suc (suc (suc (suc (suc (suc zero))))))))) some = refl
id_again (suc (suc (suc (suc (suc (suc (suc (suc (suc (suc zero)))))))))) some = refl
id_again (suc (suc (suc (suc (suc (suc (suc (suc (suc (suc (suc zero))))))))))) some = refl
id_again (suc (suc (suc (suc (suc (suc (suc (suc (suc (suc (suc (suc zero)))))))))))) some = refl
id_again (suc (suc (suc (suc (suc (suc (suc (suc (suc (suc (suc (suc (suc zero))))))))))))) some = refl
id_again (suc (suc (suc (suc (suc (suc (suc (suc (suc (suc (suc (suc (suc (suc n)))))))))))))) some = absurd (omega arith)

pub same_id : (a b : ℕ) → rank a ≡ rank b → 0 < rank a → a ≡ b
same_id a b same some = sym (id_again a some) ∙ (ap id_of_rank same ∙ id_again b (subst (λ (n : ℕ). 0 < n) same some))

-- sections in order are so after each rank before the first of them
pub raised : (before q : ℕ) (ss : List SectionAt) → AreInOrder before ss → q < next_rank before ss → AreInOrder q ss
raised before q [] order less = tt
raised before q (s ∷ ss) order less =
    elim (either_is (s.id == 0)) [
      | inl is ↦
          let custom : s.id ≡ 0 = is_number s.id 0 is in
          let none : rank s.id ≡ 0 = custom_rank s.id custom in
          let others = raised before q ss (subst (λ (b : Bool). AreInOrder (if b then before else rank s.id) ss) is order.1)
          (subst (λ (n : ℕ). q < n) (next_later before s ss (omega arith)) less) in
          (λ some. absurd (some custom), subst (λ (b : Bool). AreInOrder (if b then q else rank s.id) ss) (sym is) others)
      | inr isnt ↦
          let first : before < rank s.id = order.0 (not_custom s.id isnt) in (
            λ some. subst (λ (n : ℕ). q < n) (next_first before s ss first) less,
            subst (λ (b : Bool). AreInOrder (if b then q else rank s.id) ss) (sym isnt) (subst (λ (b : Bool). AreInOrder (if b then before else rank s.id) ss) isnt order.1),
          )
    ]
