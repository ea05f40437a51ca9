-- The contents of each section of a module that is written: those that are given for it, or else its own.
use Rattle.std.proofs.Common.{◌≡◌, ◌≢◌, ◌==◌, ◌<◌, ◌≤◌, ℕ, zero, suc, nat_lt, List, [], ◌∷◌, ◌++◌, map, Bool, true, false, cond, ◌&&◌, if◌then◌else◌, Option, Some, None, Ok, refl, sym, ap, ◌∙◌, subst, inl, inr, arith}
use Rattle.std.specs.Prelude.{filter, option_map}
use Rattle.std.specs.Option.{option_or}
use Rattle.std.proofs.lemmas.Bool.{lt-ltb, cases_lt}
use Rattle.std.proofs.lemmas.Bool.Decides.{nat_tests}
use Rattle.wasm_sections.specs.declared.changes.Changes.{Changes}
use Rattle.wasm_sections.specs.declared.changes.NewContents.{NewContents}
use Rattle.wasm_sections.specs.declared.omissions.OmittedSections.{OmittedSections}
use Rattle.wasm_sections.specs.Components.{Components, module_of}
use Rattle.wasm_sections.specs.GivenContents.{contents_in}
use Rattle.wasm_sections.specs.Sections.{SectionAt, first_with, rank, next_rank, section_id}
use Rattle.wasm_module.specs.declared.parsed.ParsedModule.{ParsedModule}
use Rattle.wasm_module.specs.ReadSections.{AreInOrder}
use Rattle.wasm_module.specs.WrittenModules.{is_between, BodyWriting}
use Rattle.wasm_module.specs.WrittenModules.IsReplacedBy.{followed, given_so}
use Rattle.wasm_module.specs.WrittenSections.{IdAndContents, id_and_contents, contents_at, given_section, given_between, given_after_section, BecomesSections, BecomeSections, HasWrittenSections}
use Rattle.wasm_module.specs.WrittenSections.BecomesSections.{code, replaced, carried_over, omitted}
use Rattle.wasm_module.proofs.ModuleCodeLemmas.{either_is, is_number, of_sections}
use Rattle.wasm_module.proofs.RankLemmas.{rank_low, less_by, both_true, not_custom, custom_rank, next_first, next_later, same_id, raised}

-- ---- the first with an id

abbrev found : (id : ℕ) → List IdAndContents → Option (List ℕ)
found id [] = None
found id (x ∷ xs) = if x.0 == id then Some x.1 else found id xs

found_or : (id : ℕ) (xs ys : List IdAndContents) → found id (xs ++ ys) ≡ option_or (found id xs) (found id ys)
found_or id [] ys = refl
found_or id (x ∷ xs) ys =
    elim (x.0 == id) as (λ b. (if b then Some x.1 else found id (xs ++ ys)) ≡ option_or (if b then Some x.1 else found id xs) (found id ys)) [
      | true ↦ refl
      | false ↦ found_or id xs ys
    ]

or_none : (o : Option (List ℕ)) → option_or o None ≡ o
or_none None = refl
or_none (Some x) = refl

found_at : (id : ℕ) (ss : List SectionAt) → found id (map id_and_contents ss) ≡ contents_at id ss
found_at id [] = refl
found_at id (s ∷ ss) =
    elim (s.id == id) as (λ b. (if b then Some s.contents else found id (map id_and_contents ss)) ≡ option_map (λ (t : SectionAt). t.contents) (if b then Some s else first_with id ss)) [
      | true ↦ refl
      | false ↦ found_at id ss
    ]

other_id : (a b : ℕ) → (a ≡ b → ⊥) → (a == b) ≡ false
other_id a b differ = elim (either_is (a == b)) [ inl is ↦ absurd (differ (is_number a b is)) | inr isnt ↦ isnt ]

same_number : (a b : ℕ) → a ≡ b → (a == b) ≡ true
same_number a b same = grind (arith, nat_tests)

pub at_first : (id : ℕ) (s : SectionAt) (ss : List SectionAt) → s.id ≡ id → contents_at id (s ∷ ss) ≡ Some s.contents
at_first id s ss same = ap (λ (b : Bool). option_map (λ (t : SectionAt). t.contents) (if b then Some s else first_with id ss)) (same_number s.id id same)

pub at_later : (id : ℕ) (s : SectionAt) (ss : List SectionAt) → (s.id ≡ id → ⊥) → contents_at id (s ∷ ss) ≡ contents_at id ss
at_later id s ss differ = ap (λ (b : Bool). option_map (λ (t : SectionAt). t.contents) (if b then Some s else first_with id ss)) (other_id s.id id differ)

found_first : (id k : ℕ) (contents : List ℕ) (ys : List IdAndContents) → k ≡ id → found id ((k, contents) ∷ ys) ≡ Some contents
found_first id k contents ys same = ap (λ (b : Bool). let o : Option (List ℕ) = if b then Some contents else found id ys in o) (same_number k id same)

found_later : (id k : ℕ) (contents : List ℕ) (ys : List IdAndContents) → (k ≡ id → ⊥) → found id ((k, contents) ∷ ys) ≡ found id ys
found_later id k contents ys differ = ap (λ (b : Bool). let o : Option (List ℕ) = if b then Some contents else found id ys in o) (other_id k id differ)

-- ---- given sections

module _ (id : ℕ) (some : 0 < rank id) where
  in_gap : (first second : ℕ) (given : List NewContents) → first < rank id → rank id < second → found id (given_between first second given) ≡ contents_in given id
  in_gap first second [] above below = refl
  in_gap first second (g ∷ gs) above below =
      let after : List NewContents = filter (is_between first second) gs in
      let rest : found id (map given_section after) ≡ contents_in gs id = in_gap first second gs above below in
      elim (either_is (section_id g.kind == id)) [
        | inl is ↦
            let same : section_id g.kind ≡ id = is_number (section_id g.kind) id is in
            let low : (nat_lt first (rank id) && nat_lt (rank id) second) ≡ true = (λ i. lt-ltb first (rank id) above i && lt-ltb (rank id) second below i) in
            let within : is_between first second g ≡ true = ap (λ (k : ℕ). nat_lt first (rank k) && nat_lt (rank k) second) same ∙ low in
            ap (λ (b : Bool). found id (map given_section (cond b (g ∷ after) after))) within
            ∙ (ap (λ (b : Bool). let o : Option (List ℕ) = if b then Some g.contents.items else found id (map given_section after) in o) is
            ∙ sym (ap (λ (b : Bool). let o : Option (List ℕ) = if b then Some g.contents.items else contents_in gs id in o) is))
        | inr isnt ↦
            let here : contents_in (g ∷ gs) id ≡ contents_in gs id = ap (λ (b : Bool). let o : Option (List ℕ) = if b then Some g.contents.items else contents_in gs id in o) isnt in
            let skipped : found id (map given_section (g ∷ after)) ≡ found id (map given_section after) =
            ap (λ (b : Bool). let o : Option (List ℕ) = if b then Some g.contents.items else found id (map given_section after) in o) isnt in
            elim (is_between first second g) as (λ b. found id (map given_section (cond b (g ∷ after) after)) ≡ contents_in (g ∷ gs) id) [
              | true ↦ skipped ∙ (rest ∙ sym here)
              | false ↦ rest ∙ sym here
            ]
      ]

  out_of_gap : (first second : ℕ) (given : List NewContents) → (first < rank id → rank id < second → ⊥) → found id (given_between first second given) ≡ None
  out_of_gap first second [] outside = refl
  out_of_gap first second (g ∷ gs) outside =
      let after : List NewContents = filter (is_between first second) gs in
      let rest : found id (map given_section after) ≡ None = out_of_gap first second gs outside in
      elim (either_is (is_between first second g)) [
        | inl is ↦
            let both = both_true (nat_lt first (rank (section_id g.kind))) (nat_lt (rank (section_id g.kind)) second) is in
            let differ : section_id g.kind ≡ id → ⊥ =
            λ same.
            outside (subst (λ (k : ℕ). first < rank k) same (less_by first (rank (section_id g.kind)) both.0))
            (subst (λ (k : ℕ). rank k < second) same (less_by (rank (section_id g.kind)) second both.1)) in
            ap (λ (b : Bool). found id (map given_section (cond b (g ∷ after) after))) is
            ∙ (found_later id (section_id g.kind) g.contents.items (map given_section after) differ ∙ rest)
        | inr isnt ↦ ap (λ (b : Bool). found id (map given_section (cond b (g ∷ after) after))) isnt ∙ rest
      ]

  -- a custom section has another id
  pub custom_differs : (s : SectionAt) → s.id ≡ 0 → s.id ≡ id → ⊥
  custom_differs s custom same = let none : rank id ≡ 0 = custom_rank id (sym same ∙ custom) in omega arith

  -- a section with another rank too
  pub rank_differs : (s : SectionAt) → (rank s.id ≡ rank id → ⊥) → s.id ≡ id → ⊥
  rank_differs s differ same = differ (ap rank same)

  -- among sections after a rank that isn't less there is none with this id
  pub none_in : (ss : List SectionAt) (q : ℕ) → rank id ≤ q → AreInOrder q ss → contents_at id ss ≡ None
  none_in [] q least order = refl
  none_in (s ∷ ss) q least order =
      elim (either_is (s.id == 0)) [
        | inl is ↦ at_later id s ss (custom_differs s (is_number s.id 0 is)) ∙ none_in ss q least (subst (λ (b : Bool). AreInOrder (if b then q else rank s.id) ss) is order.1)
        | inr isnt ↦
            let first : q < rank s.id = order.0 (not_custom s.id isnt) in
            at_later id s ss (rank_differs s (λ same. omega arith)) ∙ none_in ss (rank s.id) (omega arith) (subst (λ (b : Bool). AreInOrder (if b then q else rank s.id) ss) isnt order.1)
      ]

  -- ---- sections of the source

  module _ (writes : BodyWriting) (source : ParsedModule) (changes : Changes) (omits : OmittedSections) where
    -- what becomes of a section with another id
    own_later :
        (s : SectionAt) (own others : List IdAndContents) → (s.id ≡ id → ⊥) → BecomesSections writes source changes omits s own → found id (own ++ others) ≡ found id others
    own_later s own others differ (code bodies contents is w items own_is) =
        ap (λ l. found id (l ++ others)) own_is ∙ found_later id 10 contents others (λ ten. differ (is ∙ ten))
    own_later s own others differ (replaced contents other r own_is) = ap (λ l. found id (l ++ others)) own_is ∙ found_later id s.id contents others differ
    own_later s own others differ (carried_over other c own_is) = ap (λ l. found id (l ++ others)) own_is ∙ found_later id s.id s.contents others differ
    own_later s own others differ (omitted o own_is) = ap (λ l. found id (l ++ others)) own_is

    -- and of that with this one
    own_first :
        (s : SectionAt) (own others : List IdAndContents) → s.id ≡ id → s.id ≢ 0 → id ≢ 10 → BecomesSections writes source changes omits s own →
        found id (own ++ others) ≡ option_or (contents_in changes.given.items id) (Some s.contents)
    own_first s own others same other ten (code bodies contents is w items own_is) = absurd (ten (sym same ∙ is))
    own_first s own others same other ten (replaced contents not_code (followed custom n h) own_is) = absurd (other custom)
    own_first s own others same other ten (replaced contents not_code (given_so isnt given) own_is) =
        ap (λ l. found id (l ++ others)) own_is
        ∙ (found_first id s.id contents others same
        ∙ sym (ap (λ (o : Option (List ℕ)). option_or o (Some s.contents)) (ap (contents_in changes.given.items) (sym same) ∙ given)))
    own_first s own others same other ten (carried_over not_code c own_is) =
        ap (λ l. found id (l ++ others)) own_is
        ∙ (found_first id s.id s.contents others same
        ∙ sym (ap (λ (o : Option (List ℕ)). option_or o (Some s.contents)) (ap (contents_in changes.given.items) (sym same) ∙ c other)))
    own_first s own others same other ten (omitted o own_is) = absurd (other o.is_custom)

    after_is : (all : List SectionAt) (r : ℕ) → 0 < r → given_after_section changes.given.items all r ≡ given_between r (next_rank r all) changes.given.items
    after_is all zero positive = absurd (omega arith)
    after_is all (suc r) positive = refl

    -- after a custom section
    custom_found :
        (all : List SectionAt) (s : SectionAt) (own others : List IdAndContents) → s.id ≡ 0 → BecomesSections writes source changes omits s own →
        found id (own ++ (given_after_section changes.given.items all (rank s.id) ++ others)) ≡ found id others
    custom_found all s own others custom b =
        own_later s own (given_after_section changes.given.items all (rank s.id) ++ others) (custom_differs s custom) b
        ∙ ap (λ (r : ℕ). found id (given_after_section changes.given.items all r ++ others)) (custom_rank s.id custom)

    -- after a section with a rank that isn't this one
    other_found :
        (all : List SectionAt) (s : SectionAt) (own others : List IdAndContents) → 0 < rank s.id → (rank s.id ≡ rank id → ⊥) → BecomesSections writes source changes omits s own →
        found id (own ++ (given_after_section changes.given.items all (rank s.id) ++ others))
        ≡ option_or (found id (given_between (rank s.id) (next_rank (rank s.id) all) changes.given.items)) (found id others)
    other_found all s own others positive differ b =
        own_later s own (given_after_section changes.given.items all (rank s.id) ++ others) (rank_differs s differ) b
        ∙ (ap (λ l. found id (l ++ others)) (after_is all (rank s.id) positive) ∙ found_or id (given_between (rank s.id) (next_rank (rank s.id) all) changes.given.items) others)

    none_later :
        (all ss : List SectionAt) (q : ℕ) (become : List IdAndContents) → rank id ≤ q → AreInOrder q ss → BecomeSections writes source changes omits all ss become → found id become ≡ None
    none_later all [] q become least order h = ap (found id) h
    none_later all (s ∷ ss) q become least order h =
        elim (either_is (s.id == 0)) [
          | inl is ↦
              let custom : s.id ≡ 0 = is_number s.id 0 is in
              ap (found id) h.2
              ∙ (custom_found all s h.0 h.1 custom h.3 ∙ none_later all ss q h.1 least (subst (λ (b : Bool). AreInOrder (if b then q else rank s.id) ss) is order.1) h.4)
          | inr isnt ↦
              let first : q < rank s.id = order.0 (not_custom s.id isnt) in
              let differ : rank s.id ≡ rank id → ⊥ = λ same. omega arith in
              let none = out_of_gap (rank s.id) (next_rank (rank s.id) all) changes.given.items (λ a b. omega arith) in
              ap (found id) h.2
              ∙ (other_found all s h.0 h.1 (omega arith) differ h.3
              ∙ (ap (λ (o : Option (List ℕ)). option_or o (found id h.1)) none
              ∙ none_later all ss (rank s.id) h.1 (omega arith) (subst (λ (b : Bool). AreInOrder (if b then q else rank s.id) ss) isnt order.1) h.4))
        ]

    -- given sections after this rank, and what becomes of those after it
    all_found :
        (all ss : List SectionAt) (before : ℕ) (become : List IdAndContents) → id ≢ 10 → before < rank id → AreInOrder before ss →
        ((r : ℕ) → before ≤ r → next_rank r all ≡ next_rank r ss) → BecomeSections writes source changes omits all ss become →
        option_or (found id (given_between before (next_rank before all) changes.given.items)) (found id become) ≡ option_or (contents_in changes.given.items id) (contents_at id ss)
    all_found all [] before become ten above order same h =
        let low : rank id < next_rank before all = subst (λ (n : ℕ). rank id < n) (sym (same before (omega arith))) (rank_low id) in
        (λ i. option_or (in_gap before (next_rank before all) changes.given.items above low i) (found id (h i)))
    all_found all (s ∷ ss) before become ten above order same h =
        let given = changes.given.items in
        elim (either_is (s.id == 0)) [
          | inl is ↦
              let custom : s.id ≡ 0 = is_number s.id 0 is in
              let none : rank s.id ≡ 0 = custom_rank s.id custom in
              let rest = all_found all ss before h.1 ten above (subst (λ (b : Bool). AreInOrder (if b then before else rank s.id) ss) is order.1)
              (λ r least. same r least ∙ next_later r s ss (omega arith)) h.4 in
              ap (λ (o : Option (List ℕ)). option_or (found id (given_between before (next_rank before all) given)) o) (ap (found id) h.2 ∙ custom_found all s h.0 h.1 custom h.3)
              ∙ (rest ∙ ap (λ (o : Option (List ℕ)). option_or (contents_in given id) o) (sym (at_later id s ss (custom_differs s custom))))
          | inr isnt ↦
              let other : s.id ≢ 0 = not_custom s.id isnt in
              let first : before < rank s.id = order.0 other in
              let next : next_rank before all ≡ rank s.id = same before (omega arith) ∙ next_first before s ss first in
              elim (cases_lt (rank id) (rank s.id)) [
                | inl less ↦
                    let gap = in_gap before (next_rank before all) given above (subst (λ (n : ℕ). rank id < n) (sym next) less) in
                    let late = raised before (rank id) (s ∷ ss) order (subst (λ (n : ℕ). rank id < n) (sym (next_first before s ss first)) less) in
                    let after = none_later all (s ∷ ss) (rank id) become (omega arith) late h ∙ sym (none_in (s ∷ ss) (rank id) (omega arith) late) in
                    (λ i. option_or (gap i) (after i))
                | inr least ↦
                    let none = out_of_gap before (next_rank before all) given (λ a b. let here = subst (λ (n : ℕ). rank id < n) next b in omega arith) in
                    ap (λ (o : Option (List ℕ)). option_or o (found id become)) none
                    ∙ (ap (found id) h.2
                    ∙ elim (cases_lt (rank s.id) (rank id)) [
                      | inl less ↦
                          let differ : rank s.id ≡ rank id → ⊥ = λ is. omega arith in
                          let rest = all_found all ss (rank s.id) h.1 ten less (subst (λ (b : Bool). AreInOrder (if b then before else rank s.id) ss) isnt order.1)
                          (λ r more. same r (omega arith) ∙ next_later r s ss more) h.4 in
                          other_found all s h.0 h.1 (omega arith) differ h.3 ∙ (rest ∙ ap (λ (o : Option (List ℕ)). option_or (contents_in given id) o) (sym (at_later id s ss (rank_differs s differ))))
                      | inr most ↦
                          let is : s.id ≡ id = same_id s.id id (omega arith) (omega arith) in
                          own_first s h.0 (given_after_section given all (rank s.id) ++ h.1) is other ten h.3 ∙ ap (λ (o : Option (List ℕ)). option_or (contents_in given id) o) (sym (at_first id s ss is))
                    ])
              ]
        ]

    pub written_contents :
        (new : List ℕ) (h : HasWrittenSections writes source changes omits new) (m : Components) → module_of source.bytes.now ≡ Ok m → id ≢ 10 →
        contents_at id h.sections ≡ option_or (contents_in changes.given.items id) (contents_at id h.old)
    written_contents new h m spells ten =
        let old = (of_sections source.bytes.now m h.old spells h.is_source).in_order in
        sym (found_at id h.sections)
        ∙ (ap (found id) h.are
        ∙ (found_or id (given_between 0 (next_rank 0 h.old) changes.given.items) h.others ∙ all_found h.old h.old 0 h.others ten some old (λ r least. refl) h.become))
