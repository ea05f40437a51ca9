-- The sections of a module that is written are in order, if those of the source and the given ones are.
use Rattle.std.proofs.Common.{◌≡◌, ◌≢◌, ◌==◌, ◌<◌, ◌≤◌, ℕ, zero, suc, nat_lt, List, [], ◌∷◌, ◌++◌, map, Bool, false, cond, if◌then◌else◌, Ok, refl, sym, ◌∙◌, subst, inl, inr, arith}
use Rattle.std.specs.Prelude.{filter}
use Rattle.wasm_sections.specs.declared.changes.Changes.{Changes}
use Rattle.wasm_sections.specs.declared.changes.NewContents.{NewContents}
use Rattle.wasm_sections.specs.declared.omissions.OmittedSections.{OmittedSections}
use Rattle.wasm_sections.specs.Components.{Components, module_of}
use Rattle.wasm_sections.specs.Sections.{SectionAt, rank, next_rank, section_id}
use Rattle.wasm_module.specs.declared.parsed.ParsedModule.{ParsedModule}
use Rattle.wasm_module.specs.ReadSections.{AreInOrder}
use Rattle.wasm_module.specs.WrittenModules.{is_between, BodyWriting}
use Rattle.wasm_module.specs.WrittenSections.{IdAndContents, id_and_contents, given_section, given_between, given_after_section, AreGivenInOrder, BecomesSections, BecomeSections, HasWrittenSections}
use Rattle.wasm_module.specs.WrittenSections.BecomesSections.{code, replaced, carried_over, omitted}
use Rattle.wasm_module.proofs.ModuleCodeLemmas.{either_is, is_number, rank_after, of_sections}
use Rattle.wasm_module.proofs.RankLemmas.{rank_low, less_by, both_true, not_custom, custom_rank, has_rank, after_custom, after_other, next_first, next_later, next_greater}

-- ---- order by ids and contents

abbrev AreOrdered : (before : ℕ) → List IdAndContents → Type 0
AreOrdered before [] = Unit {0}
AreOrdered before (x ∷ xs) = (x.0 ≢ 0 → before < rank x.0) × AreOrdered (rank_after before x.0) xs

in_order_by : (before : ℕ) (ss : List SectionAt) → AreOrdered before (map id_and_contents ss) → AreInOrder before ss
in_order_by before [] h = tt
in_order_by before (s ∷ ss) h = (h.0, in_order_by (rank_after before s.id) ss h.1)

-- ---- given sections, before others whose first rank is the second one

given_ordered :
    (first second q before : ℕ) (given : List NewContents) (others : List IdAndContents) → AreGivenInOrder before given → ((y : ℕ) → first < y → before < y → q < y) → q < second →
    ((p : ℕ) → p < second → AreOrdered p others) → AreOrdered q (given_between first second given ++ others)
given_ordered first second q before [] others order bound less rest = rest q less
given_ordered first second q before (g ∷ gs) others order bound less rest =
    let id : ℕ = section_id g.kind in
    let after : List NewContents = filter (is_between first second) gs in
    elim (either_is (is_between first second g)) [
      | inl is ↦
          let both = both_true (nat_lt first (rank id)) (nat_lt (rank id) second) is in
          let above : first < rank id = less_by first (rank id) both.0 in
          let below : rank id < second = less_by (rank id) second both.1 in
          let next : AreOrdered (rank id) (given_between first second gs ++ others) =
          given_ordered first second (rank id) (rank id) gs others order.1 (λ y a b. b) below rest in
          subst (λ (b : Bool). AreOrdered q (map given_section (cond b (g ∷ after) after) ++ others)) (sym is)
          (λ some. bound (rank id) above order.0, subst (λ (n : ℕ). AreOrdered n (given_between first second gs ++ others)) (sym (after_other q id (has_rank id first above))) next)
      | inr isnt ↦
          let next : AreOrdered q (given_between first second gs ++ others) =
          given_ordered first second q (rank id) gs others order.1 (λ y a b. bound y a (let first_less = order.0 in omega arith)) less rest in
          subst (λ (b : Bool). AreOrdered q (map given_section (cond b (g ∷ after) after) ++ others)) (sym isnt) next
    ]

after_ordered :
    (r : ℕ) (given : List NewContents) (all : List SectionAt) (others : List IdAndContents) → 0 < r → r < 14 → AreGivenInOrder 0 given →
    ((p : ℕ) → p < next_rank r all → AreOrdered p others) → AreOrdered r (given_after_section given all r ++ others)
after_ordered zero given all others some low order rest = absurd (omega arith)
after_ordered (suc r) given all others some low order rest =
    given_ordered (suc r) (next_rank (suc r) all) (suc r) 0 given others order (λ y a b. a) (next_greater (suc r) all low) rest

-- ---- sections of the source

module _ (writes : BodyWriting) (source : ParsedModule) (changes : Changes) (omits : OmittedSections) where
  -- what becomes of a custom section, and of another one
  of_custom :
      (s : SectionAt) (own : List IdAndContents) (q : ℕ) (others : List IdAndContents) → s.id ≡ 0 → BecomesSections writes source changes omits s own → AreOrdered q others →
      AreOrdered q (own ++ others)
  of_custom s own q others custom (code bodies contents is w items own_is) h = absurd (omega arith)
  of_custom s own q others custom (replaced contents other r own_is) h =
      subst (λ l. AreOrdered q (l ++ others)) (sym own_is) (λ some. absurd (some custom), subst (λ (n : ℕ). AreOrdered n others) (sym (after_custom q s.id custom)) h)
  of_custom s own q others custom (carried_over other c own_is) h =
      subst (λ l. AreOrdered q (l ++ others)) (sym own_is) (λ some. absurd (some custom), subst (λ (n : ℕ). AreOrdered n others) (sym (after_custom q s.id custom)) h)
  of_custom s own q others custom (omitted o own_is) h = subst (λ l. AreOrdered q (l ++ others)) (sym own_is) h

  of_other :
      (s : SectionAt) (own : List IdAndContents) (q : ℕ) (others : List IdAndContents) → (s.id == 0) ≡ false → BecomesSections writes source changes omits s own → q < rank s.id →
      AreOrdered (rank s.id) others → AreOrdered q (own ++ others)
  of_other s own q others isnt (code bodies contents is w items own_is) less h =
      subst (λ l. AreOrdered q (l ++ others)) (sym own_is) (λ some. subst (λ (k : ℕ). q < rank k) is less, subst (λ (k : ℕ). AreOrdered (rank k) others) is h)
  of_other s own q others isnt (replaced contents other r own_is) less h =
      subst (λ l. AreOrdered q (l ++ others)) (sym own_is) (λ some. less, subst (λ (n : ℕ). AreOrdered n others) (sym (after_other q s.id isnt)) h)
  of_other s own q others isnt (carried_over other c own_is) less h =
      subst (λ l. AreOrdered q (l ++ others)) (sym own_is) (λ some. less, subst (λ (n : ℕ). AreOrdered n others) (sym (after_other q s.id isnt)) h)
  of_other s own q others isnt (omitted o own_is) less h = absurd (not_custom s.id isnt o.is_custom)

  all_ordered :
      (all ss : List SectionAt) (before : ℕ) (become : List IdAndContents) → AreGivenInOrder 0 changes.given.items → AreInOrder before ss →
      ((r : ℕ) → before ≤ r → next_rank r all ≡ next_rank r ss) → BecomeSections writes source changes omits all ss become → (q : ℕ) → q < next_rank before ss → AreOrdered q become
  all_ordered all [] before become given order same h q less = subst (λ l. AreOrdered q l) (sym h) tt
  all_ordered all (s ∷ ss) before become given order same h q less =
      let own : List IdAndContents = h.0 in
      let others : List IdAndContents = h.1 in
      subst (λ l. AreOrdered q l) (sym h.2) (elim (either_is (s.id == 0)) [
        | inl is ↦
            let custom : s.id ≡ 0 = is_number s.id 0 is in
            let none : rank s.id ≡ 0 = custom_rank s.id custom in
            let later : (r : ℕ) → next_rank r (s ∷ ss) ≡ next_rank r ss = λ r. next_later r s ss (omega arith) in
            let after : AreOrdered q others =
            all_ordered all ss before others given (subst (λ (b : Bool). AreInOrder (if b then before else rank s.id) ss) is order.1) (λ r least. same r least ∙ later r) h.4 q
            (subst (λ (n : ℕ). q < n) (later before) less) in
            of_custom s own q (given_after_section changes.given.items all (rank s.id) ++ others) custom h.3
            (subst (λ (r : ℕ). AreOrdered q (given_after_section changes.given.items all r ++ others)) (sym none) after)
        | inr isnt ↦
            let first : before < rank s.id = order.0 (not_custom s.id isnt) in
            let here : q < rank s.id = subst (λ (n : ℕ). q < n) (next_first before s ss first) less in
            let same_next : (r : ℕ) → rank s.id ≤ r → next_rank r all ≡ next_rank r ss = λ r least. same r (omega arith) ∙ next_later r s ss least in
            let rest : (p : ℕ) → p < next_rank (rank s.id) all → AreOrdered p others =
            λ p few. all_ordered all ss (rank s.id) others given (subst (λ (b : Bool). AreInOrder (if b then before else rank s.id) ss) isnt order.1) same_next h.4 p
            (subst (λ (n : ℕ). p < n) (same_next (rank s.id) (omega arith)) few) in
            let after = after_ordered (rank s.id) changes.given.items all others (omega arith) (rank_low s.id) given rest in
            of_other s own q (given_after_section changes.given.items all (rank s.id) ++ others) isnt h.3 here after
      ])

  pub written_in_order :
      (new : List ℕ) (h : HasWrittenSections writes source changes omits new) (m : Components) → module_of source.bytes.now ≡ Ok m → AreGivenInOrder 0 changes.given.items →
      AreInOrder 0 h.sections
  written_in_order new h m spells given =
      let old = (of_sections source.bytes.now m h.old spells h.is_source).in_order in
      let rest = all_ordered h.old h.old 0 h.others given old (λ r least. refl) h.become in
      let all = given_ordered 0 (next_rank 0 h.old) 0 0 changes.given.items h.others given (λ y a b. a) (next_greater 0 h.old (omega arith)) rest in
      in_order_by 0 h.sections (subst (λ l. AreOrdered 0 l) (sym h.are) all)
