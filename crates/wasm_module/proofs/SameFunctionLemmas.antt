-- The functions of a module that is read from what was written are those of the source, if no types, imports or functions are given.
use Rattle.std.proofs.Common.{◌≡◌, ◌≢◌, ◌==◌, ◌<◌, ◌≤◌, ℕ, List, [], ◌∷◌, Bool, true, false, if◌then◌else◌, Option, Some, None, Ok, refl, sym, ap, ◌∙◌, subst, inl, inr, arith}
use Rattle.std.specs.Prelude.{option_map}
use Rattle.std.specs.List.{AllByRecursion}
use Rattle.std.specs.Option.{option_or}
use Rattle.std.proofs.lemmas.Bool.{cases_lt}
use Rattle.wasm_numbers.proofs.ResultLemmas.{ok_same}
use Rattle.wasm_sections.specs.declared.changes.Changes.{Changes}
use Rattle.wasm_sections.specs.declared.omissions.OmittedSections.{OmittedSections}
use Rattle.wasm_sections.specs.Components.{Components, no_components, bodies_part, code_part, contents_of, module_of}
use Rattle.wasm_sections.specs.GivenContents.{contents_in}
use Rattle.wasm_sections.specs.Parts.{just}
use Rattle.wasm_sections.specs.SameComponents.{CodeRelation, HasSameComponents}
use Rattle.wasm_sections.specs.Sections.{SectionAt, first_with, rank}
use Rattle.wasm_sections.proofs.SameContentLemmas.{contents_same}
use Rattle.wasm_module.specs.declared.parsed.ParsedModule.{ParsedModule}
use Rattle.wasm_module.specs.ReadSections.{AreInOrder, AreRead}
use Rattle.wasm_module.specs.WrittenModules.{BodyWriting}
use Rattle.wasm_module.specs.WrittenSections.{contents_at, HasWrittenSections, GivesNoFunctions, HasSameFunctions}
use Rattle.wasm_module.proofs.ComponentLemmas.{AllowsOthers, PartLeads, then_leads, whole_leads, other_contents_lead}
use Rattle.wasm_module.proofs.ModuleCodeLemmas.{either_is, is_number, rank_after, custom_same, of_sections}
use Rattle.wasm_module.proofs.RankLemmas.{not_custom, after_other, same_id}
use Rattle.wasm_module.proofs.SectionContentLemmas.{at_first, at_later, custom_differs, rank_differs, none_in, written_contents}

-- ---- sections without the custom ones

abbrev ranked : List SectionAt → List SectionAt
ranked [] = []
ranked (s ∷ ss) = if s.id == 0 then ranked ss else s ∷ ranked ss

abbrev AreRanked : List SectionAt → Type 0
AreRanked ss = AllByRecursion (λ (s : SectionAt). (s.id == 0) ≡ false) ss

are_ranked : (ss : List SectionAt) → AreRanked (ranked ss)
are_ranked [] = tt
are_ranked (s ∷ ss) =
    elim (either_is (s.id == 0)) [
      | inl is ↦ subst (λ (b : Bool). AreRanked (if b then ranked ss else s ∷ ranked ss)) (sym is) (are_ranked ss)
      | inr isnt ↦ subst (λ (b : Bool). AreRanked (if b then ranked ss else s ∷ ranked ss)) (sym isnt) (isnt, are_ranked ss)
    ]

ranked_read : (ss : List SectionAt) (m n : Components) → AreRead m ss n → AreRead m (ranked ss) n
ranked_read [] m n h = h
ranked_read (s ∷ ss) m n h =
    elim (either_is (s.id == 0)) [
      | inl is ↦
          let same : m ≡ h.0 = custom_same m h.0 s.end s.contents (ap (λ (k : ℕ). contents_of k m s.end s.contents) (sym (is_number s.id 0 is)) ∙ h.1) in
          subst (λ (b : Bool). AreRead m (if b then ranked ss else s ∷ ranked ss) n) (sym is) (subst (λ (c : Components). AreRead c (ranked ss) n) (sym same) (ranked_read ss h.0 n h.2))
      | inr isnt ↦ subst (λ (b : Bool). AreRead m (if b then ranked ss else s ∷ ranked ss) n) (sym isnt) (h.0, h.1, ranked_read ss h.0 n h.2)
    ]

ranked_order : (r : ℕ) (ss : List SectionAt) → AreInOrder r ss → AreInOrder r (ranked ss)
ranked_order r [] order = tt
ranked_order r (s ∷ ss) order =
    elim (either_is (s.id == 0)) [
      | inl is ↦
          subst (λ (b : Bool). AreInOrder r (if b then ranked ss else s ∷ ranked ss)) (sym is)
          (ranked_order r ss (subst (λ (b : Bool). AreInOrder (if b then r else rank s.id) ss) is order.1))
      | inr isnt ↦
          subst (λ (b : Bool). AreInOrder r (if b then ranked ss else s ∷ ranked ss)) (sym isnt) (order.0, ranked_order (rank_after r s.id) ss order.1)
    ]

module _ (id : ℕ) (some : 0 < rank id) where
  ranked_contents : (ss : List SectionAt) → contents_at id (ranked ss) ≡ contents_at id ss
  ranked_contents [] = refl
  ranked_contents (s ∷ ss) =
      let rest : contents_at id (ranked ss) ≡ contents_at id ss = ranked_contents ss in
      elim (either_is (s.id == 0)) [
        | inl is ↦
            ap (λ (b : Bool). contents_at id (if b then ranked ss else s ∷ ranked ss)) is
            ∙ (rest ∙ sym (at_later id s ss (custom_differs id some s (is_number s.id 0 is))))
        | inr isnt ↦
            ap (λ (b : Bool). contents_at id (if b then ranked ss else s ∷ ranked ss)) isnt
            ∙ elim (s.id == id) as (λ b. option_map (λ (t : SectionAt). t.contents) (if b then Some s else first_with id (ranked ss)) ≡ option_map (λ (t : SectionAt). t.contents) (if b then Some s else first_with id ss)) [
              | true ↦ refl
              | false ↦ rest
            ]
      ]

-- ---- sections up to a rank that have the same contents in two modules

-- nothing is said of the code
abbrev AnyCode : CodeRelation
AnyCode old new = Unit {0}

abbrev Same : Components → Components → Type 0
Same m o = HasSameComponents AnyCode m o

after_ranked : (r : ℕ) (s : SectionAt) (ss : List SectionAt) → (s.id == 0) ≡ false → AreInOrder r (s ∷ ss) → AreInOrder (rank s.id) ss
after_ranked r s ss isnt order = subst (λ (n : ℕ). AreInOrder n ss) (after_other r s.id isnt) order.1

-- sections whose first has a greater rank
ranked_first : (r : ℕ) (s : SectionAt) (ss : List SectionAt) → (s.id == 0) ≡ false → r < rank s.id → AreInOrder (rank s.id) ss → AreInOrder r (s ∷ ss)
ranked_first r s ss isnt less order = (λ other. less, subst (λ (n : ℕ). AreInOrder n ss) (sym (after_other r s.id isnt)) order)

module _ (most : ℕ) (before_code : most < 12) where
  -- what is read of the sections up to this rank, and the others
  record BothRead (n p : Components) : Type 0 where
    c : Components
    d : Components
    same : Same c d
    cs : List SectionAt
    c_order : AreInOrder most cs
    c_read : AreRead c cs n
    ds : List SectionAt
    d_order : AreInOrder most ds
    d_read : AreRead d ds p

  abbrev AlikeUpTo : (ss ts : List SectionAt) → Type 0
  AlikeUpTo ss ts = (id : ℕ) → 0 < rank id → rank id ≤ most → contents_at id ts ≡ contents_at id ss

  -- where the first has none left
  also_after : (ss ts : List SectionAt) (r : ℕ) → AreRanked ts → AreInOrder most ss → AreInOrder r ts → AlikeUpTo ss ts → AreInOrder most ts
  also_after ss [] r are after order alike = tt
  also_after ss (t ∷ ts) r are after order alike =
      elim (cases_lt most (rank t.id)) [
        | inl less ↦ ranked_first most t ts are.0 less (after_ranked r t ts are.0 order)
        | inr least ↦
            let first : r < rank t.id = order.0 (not_custom t.id are.0) in
            let some : 0 < rank t.id = omega arith in
            let there = sym (at_first t.id t ts refl) ∙ (alike t.id some least ∙ none_in t.id some ss most least after) in
            absurd cc
      ]

  both_read :
      (ss ts : List SectionAt) (r : ℕ) (m o n p : Components) → AreRanked ss → AreRanked ts → AreInOrder r ss → AreInOrder r ts → AreRead m ss n → AreRead o ts p → Same m o → AlikeUpTo ss ts →
      BothRead n p
  both_read [] ts r m o n p are also order other read reads same alike = record {
    c = m;
    d = o;
    same = same;
    cs = [];
    c_order = tt;
    c_read = read;
    ds = ts;
    d_order = also_after [] ts r also tt other alike;
    d_read = reads;
  }
  both_read (s ∷ ss) [] r m o n p are also order other read reads same alike =
      elim (cases_lt most (rank s.id)) [
        | inl less ↦ record {
          c = m;
          d = o;
          same = same;
          cs = s ∷ ss;
          c_order = ranked_first most s ss are.0 less (after_ranked r s ss are.0 order);
          c_read = read;
          ds = [];
          d_order = tt;
          d_read = reads;
        }
        | inr least ↦
            let first : r < rank s.id = order.0 (not_custom s.id are.0) in
            let there = sym (at_first s.id s ss refl) ∙ sym (alike s.id (omega arith) least) in
            absurd cc
      ]
  both_read (s ∷ ss) (t ∷ ts) r m o n p are also order other read reads same alike =
      let s_first : r < rank s.id = order.0 (not_custom s.id are.0) in
      let t_first : r < rank t.id = other.0 (not_custom t.id also.0) in
      let s_later = after_ranked r s ss are.0 order in
      let t_later = after_ranked r t ts also.0 other in
      elim (cases_lt most (rank s.id)) [
        | inl less ↦
            let after = ranked_first most s ss are.0 less s_later in
            record {
              c = m;
              d = o;
              same = same;
              cs = s ∷ ss;
              c_order = after;
              c_read = read;
              ds = t ∷ ts;
              d_order = also_after (s ∷ ss) (t ∷ ts) r also after other alike;
              d_read = reads;
            }
        | inr least ↦
            elim (cases_lt (rank t.id) (rank s.id)) [
              | inl less ↦
                  let some : 0 < rank t.id = omega arith in
                  let none = none_in t.id some (s ∷ ss) (rank t.id) (omega arith) (ranked_first (rank t.id) s ss are.0 less s_later) in
                  let there = sym (at_first t.id t ts refl) ∙ (alike t.id some (omega arith) ∙ none) in
                  absurd cc
              | inr no_less ↦
                  elim (cases_lt (rank s.id) (rank t.id)) [
                    | inl less ↦
                        let some : 0 < rank s.id = omega arith in
                        let none = none_in s.id some (t ∷ ts) (rank s.id) (omega arith) (ranked_first (rank s.id) t ts also.0 less t_later) in
                        let there = sym (at_first s.id s ss refl) ∙ (sym (alike s.id some least) ∙ none) in
                        absurd cc
                    | inr no_more ↦
                        let some : 0 < rank s.id = omega arith in
                        let is : s.id ≡ t.id = same_id s.id t.id (omega arith) some in
                        let both : Some t.contents ≡ Some s.contents = sym (at_first s.id t ts (sym is)) ∙ (alike s.id some least ∙ at_first s.id s ss refl) in
                        let contents : t.contents ≡ s.contents = cc in
                        let ten : s.id ≢ 10 = λ code. let late : rank s.id ≡ 12 = ap rank code in omega arith in
                        let q = contents_same AnyCode s.id ten m o read.0 s.end t.end s.contents same read.1 in
                        let here = (λ i. contents_of (is i) o t.end (sym contents i)) ∙ reads.1 in
                        let made : q.0 ≡ reads.0 = ok_same q.0 reads.0 (sym q.1 ∙ here) in
                        let t_order : AreInOrder (rank s.id) ts = subst (λ (k : ℕ). AreInOrder (rank k) ts) (sym is) t_later in
                        both_read ss ts (rank s.id) read.0 reads.0 n p are.1 also.1 s_later t_order read.2 reads.2 (subst (λ (x : Components). Same read.0 x) made q.2)
                        (λ id positive few.
                        elim (cases_lt (rank s.id) (rank id)) [
                          | inl later ↦
                              let differ : s.id ≡ id → ⊥ = rank_differs id positive s (λ e. omega arith) in
                              sym (at_later id t ts (λ e. differ (is ∙ e))) ∙ (alike id positive few ∙ at_later id s ss differ)
                          | inr early ↦ none_in id positive ts (rank s.id) early t_order ∙ sym (none_in id positive ss (rank s.id) early s_later)
                        ])
                  ]
            ]
      ]

-- ---- sections after that of functions

others_keep : AllowsOthers HasSameFunctions
others_keep = record {
  same = λ m. record { types = refl; functions = refl; imported = refl };
  both = λ a b c p q. record { types = q.types ∙ p.types; functions = q.functions ∙ p.functions; imported = q.imported ∙ p.imported };
  tags = λ m l. record { types = refl; functions = refl; imported = refl };
  tables = λ m k. record { types = refl; functions = refl; imported = refl };
  memories = λ m k. record { types = refl; functions = refl; imported = refl };
  globals = λ m k. record { types = refl; functions = refl; imported = refl };
  elements = λ m k. record { types = refl; functions = refl; imported = refl };
  datas = λ m k. record { types = refl; functions = refl; imported = refl };
  data_count = λ m o. record { types = refl; functions = refl; imported = refl };
}

code_keeps : (m : Components) → PartLeads HasSameFunctions m (code_part m)
code_keeps m end text x e =
    let n : Components = record m { code = Some (end, text) } in
    then_leads HasSameFunctions m (bodies_part m) (λ u. just n)
    (λ u there rest y f. subst (λ (p : Components × List ℕ). HasSameFunctions m p.0) (ok_same (n, rest) y f) (record { types = refl; functions = refl; imported = refl })) end text x e

-- a section with a greater rank than 3 has none of these ids
early : (id k : ℕ) → 0 < k → rank k ≤ 3 → (id ≢ 0 → 3 < rank id) → (id == k) ≡ true → ⊥
early id k some low order is =
    let same : id ≡ k = is_number id k is in
    let less : 3 < rank id = order (λ custom. omega arith) in
    let ranks : rank id ≡ rank k = ap rank same in
    omega arith

later_keep : (ss : List SectionAt) (r : ℕ) (m n : Components) → 3 ≤ r → AreInOrder r ss → AreRead m ss n → HasSameFunctions m n
later_keep [] r m n late order read = subst (λ (c : Components). HasSameFunctions m c) read (others_keep.same m)
later_keep (s ∷ ss) r m n late order read =
    let above : s.id ≢ 0 → 3 < rank s.id = λ other. let less = order.0 other in omega arith in
    let first = other_contents_lead HasSameFunctions others_keep s.id m (λ is. absurd (early s.id 1 (omega arith) (omega arith) above is)) (λ is. absurd (early s.id 2 (omega arith) (omega arith) above is))
    (λ is. absurd (early s.id 3 (omega arith) (omega arith) above is)) (λ is. whole_leads HasSameFunctions m (code_part m) (code_keeps m)) s.end s.contents read.0 read.1 in
    others_keep.both m read.0 n first
    (elim (either_is (s.id == 0)) [
      | inl is ↦ later_keep ss r read.0 n late (subst (λ (b : Bool). AreInOrder (if b then r else rank s.id) ss) is order.1) read.2
      | inr isnt ↦
          let less = above (not_custom s.id isnt) in
          later_keep ss (rank s.id) read.0 n (omega arith) (subst (λ (b : Bool). AreInOrder (if b then r else rank s.id) ss) isnt order.1) read.2
    ])

-- ---- the module

none_given : (changes : Changes) → GivesNoFunctions changes → (id : ℕ) → 0 < rank id → rank id ≤ 3 → contents_in changes.given.items id ≡ None
none_given changes none id some low =
    let of = contents_in changes.given.items in
    elim (cases_lt (rank id) 2) [
      | inl first ↦ let is : id ≡ 1 = same_id id 1 (omega arith) some in ap of is ∙ none.0
      | inr past ↦
          elim (cases_lt (rank id) 3) [
            | inl second ↦ let is : id ≡ 2 = same_id id 2 (omega arith) some in ap of is ∙ none.1
            | inr third ↦ let is : id ≡ 3 = same_id id 3 (omega arith) some in ap of is ∙ none.2
          ]
    ]

pub same_functions :
    (writes : BodyWriting) (source : ParsedModule) (changes : Changes) (omits : OmittedSections) (new : List ℕ) (h : HasWrittenSections writes source changes omits new) (m n : Components) →
    module_of source.bytes.now ≡ Ok m → module_of new ≡ Ok n → GivesNoFunctions changes → HasSameFunctions m n
same_functions writes source changes omits new h m n spells reads none =
    let old = of_sections source.bytes.now m h.old spells h.is_source in
    let now = of_sections new n h.sections reads h.is_module in
    let alike : (id : ℕ) → 0 < rank id → rank id ≤ 3 → contents_at id (ranked h.sections) ≡ contents_at id (ranked h.old) =
    λ id some low.
    let ten : id ≢ 10 = λ code. let late : rank id ≡ 12 = ap rank code in omega arith in
    ranked_contents id some h.sections
    ∙ (written_contents id some writes source changes omits new h m spells ten
    ∙ (ap (λ (o : Option (List ℕ)). option_or o (contents_at id h.old)) (none_given changes none id some low) ∙ sym (ranked_contents id some h.old))) in
    let start : Same no_components no_components = record { others = refl; counted = refl; code = tt } in
    let b = both_read 3 (omega arith) (ranked h.old) (ranked h.sections) 0 no_components no_components m n (are_ranked h.old) (are_ranked h.sections) (ranked_order 0 h.old old.in_order)
    (ranked_order 0 h.sections now.in_order) (ranked_read h.old no_components m old.are_read) (ranked_read h.sections no_components n now.are_read) start alike in
    let first = later_keep b.cs 3 b.c m (omega arith) b.c_order b.c_read in
    let second = later_keep b.ds 3 b.d n (omega arith) b.d_order b.d_read in
    let same = b.same.others in
    record {
      types = second.types ∙ (ap (λ (c : Components). c.types) same ∙ sym first.types);
      functions = second.functions ∙ (ap (λ (c : Components). c.functions) same ∙ sym first.functions);
      imported = second.imported ∙ (ap (λ (c : Components). c.imported) same ∙ sym first.imported);
    }
