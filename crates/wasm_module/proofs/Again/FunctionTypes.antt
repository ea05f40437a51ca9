-- The types of a module that was read: each is a function type, or one of which nothing else is known; and the type of each function is a
-- function type.
use Rattle.std.proofs.Common.{◌≡◌, ◌≢◌, ◌⊎◌, inl, inr, ◌==◌, ℕ, zero, suc, ◌-◌, ◌<◌, ◌^◌, Bool, true, false, if◌then◌else◌, List, [], ◌∷◌, length, slice_get, Option, Some, None, Ok, refl, sym, ap, ◌∙◌, subst, arith}
use Rattle.std.specs.List.{AllByRecursion}
use Rattle.wasm_numbers.specs.Results.{◌>>=◌}
use Rattle.wasm_numbers.proofs.ResultLemmas.{bind_ok, ok_same}
use Rattle.walrus_ir.specs.Types.{ModuleType, Func, Entry, Other}
use Rattle.wasm_sections.specs.Components.{Components, no_components, function_type_at, few_types, type_section_part, bodies_part, code_part, contents_of, module_of}
use Rattle.wasm_sections.specs.Format.{types_part}
use Rattle.wasm_sections.specs.Parts.{just, whole_part}
use Rattle.wasm_sections.specs.Sections.{SectionAt, rank}
use Rattle.wasm_module.specs.ReadModules.{IsOfSection}
use Rattle.wasm_module.specs.ReadSections.{AreInOrder, AreRead}
use Rattle.wasm_module.proofs.ComponentLemmas.{Allows, PartLeads, then_leads, whole_leads, contents_lead}
use Rattle.wasm_module.proofs.ModuleLawLemmas.{one_spelling}
use Rattle.wasm_module.proofs.ModuleCodeLemmas.{either_is, is_number, rank_after, custom_same, of_sections}
use Rattle.wasm_module.proofs.TypeSectionLemmas.{one_more_holds, types_are_of_section}
use Rattle.wasm_module.proofs.Again.AddedTypes.{IsFunctionType}

-- ---- steps that leave the types

record KeepsTypes (m n : Components) : Type 0 where
  types : n.types ≡ m.types
  functions : AllByRecursion (IsFunctionType m.types) m.functions → AllByRecursion (IsFunctionType m.types) n.functions

kept_both : (a b c : Components) → KeepsTypes a b → KeepsTypes b c → KeepsTypes a c
kept_both a b c p q = record {
  types = q.types ∙ p.types;
  functions = λ all.
      subst (λ ts. AllByRecursion (IsFunctionType ts) c.functions) p.types
      (q.functions (subst (λ ts. AllByRecursion (IsFunctionType ts) b.functions) (sym p.types) (p.functions all)));
}

-- an index that a function is given is that of a function type
found_type : (types : List ModuleType) (index type : ℕ) (o : Option ModuleType) → slice_get types index ≡ o → function_type_at o index ≡ Ok type → IsFunctionType types type
found_type types index type None is e = absurd cc
found_type types index type (Some (Func ps rs)) is e = let same : index ≡ type = cc e in (ps, rs, ap (slice_get types) (sym same) ∙ is)
found_type types index type (Some (Entry rs)) is e = absurd cc
found_type types index type (Some Other) is e = absurd cc

allowed : Allows KeepsTypes
allowed = record {
  others = record {
    same = λ m. record { types = refl; functions = λ all. all };
    both = kept_both;
    tags = λ m l. record { types = refl; functions = λ all. all };
    tables = λ m k. record { types = refl; functions = λ all. all };
    memories = λ m k. record { types = refl; functions = λ all. all };
    globals = λ m k. record { types = refl; functions = λ all. all };
    elements = λ m k. record { types = refl; functions = λ all. all };
    datas = λ m k. record { types = refl; functions = λ all. all };
    data_count = λ m o. record { types = refl; functions = λ all. all };
  };
  functions = λ m index type found room. record {
    types = refl;
    functions = λ all. one_more_holds (IsFunctionType m.types) m.functions type all (found_type m.types index type (slice_get m.types index) refl found);
  };
  imported = λ m k. record { types = refl; functions = λ all. all };
}

code_leads : (m : Components) → PartLeads KeepsTypes m (code_part m)
code_leads m end text x e =
    let n : Components = record m { code = Some (end, text) } in
    then_leads KeepsTypes m (bodies_part m) (λ u. just n)
    (λ u there rest y f. subst (λ (p : Components × List ℕ). KeepsTypes m p.0) (ok_same (n, rest) y f) (record { types = refl; functions = λ all. all })) end text x e

other_section : (id : ℕ) (m : Components) (end : ℕ) (text : List ℕ) (n : Components) → (id == 1) ≡ false → contents_of id m end text ≡ Ok n → KeepsTypes m n
other_section id m end text n other e =
    contents_lead KeepsTypes allowed id m (λ is. absurd (let both : true ≡ false = sym is ∙ other in cc)) (λ is. whole_leads KeepsTypes m (code_part m) (code_leads m)) end text n e

-- ---- the type section

types_read :
    (m : Components) (end : ℕ) (text : List ℕ) (n : Components) → type_section_part m end text ≡ Ok n →
    (types : List ModuleType) × (n ≡ record m { types = types }) × AllByRecursion IsOfSection types
types_read m end text n e =
    let a = bind_ok (whole_part (types_part (2 ^ 64 - 1)) end text >>= few_types) (λ all. types_part (length all) end text >>= λ x. Ok (record m { types = x.0 })) n e in
    let b = bind_ok (types_part (length a.0) end text) (λ x. Ok (record m { types = x.0 })) n a.2 in
    (b.0.0, sym (ok_same (record m { types = b.0.0 }) n b.2), types_are_of_section (length a.0) end text b.0 b.1)

-- ---- all sections

-- Each function has a function type; and the types are those of a type section.
pub record HasTypes (m : Components) : Type 0 where
  pub functions : AllByRecursion (IsFunctionType m.types) m.functions
  pub types : AllByRecursion IsOfSection m.types

-- the type section comes before all functions
type_section_first : (r id : ℕ) → id ≡ 1 → (id ≢ 0 → r < rank id) → r ≡ 0
type_section_first r id is order =
    let less : r < rank 1 = subst (λ k. r < rank k) is (order (λ none. let e : id ≡ 0 = none in omega arith)) in
    omega arith

-- until then there are none
none_then :
    (r : ℕ) (m c : Components) (s : SectionAt) → (s.id ≢ 0 → r < rank s.id) → contents_of s.id m s.end s.contents ≡ Ok c → (r ≡ 0 → m.functions ≡ []) → rank_after r s.id ≡ 0 →
    c.functions ≡ []
none_then r m c s order read none is =
    elim (either_is (s.id == 0)) [
      | inl custom ↦
          let same : m ≡ c = custom_same m c s.end s.contents (ap (λ (k : ℕ). contents_of k m s.end s.contents) (sym (is_number s.id 0 custom)) ∙ read) in
          let first : r ≡ 0 = sym (ap (λ (b : Bool). if b then r else rank s.id) custom) ∙ is in
          subst (λ (y : Components). y.functions ≡ []) same (none first)
      | inr other ↦
          let less : r < rank s.id = order (λ custom. let wrong = ap (λ (k : ℕ). k == 0) custom in let both : true ≡ false = sym wrong ∙ other in cc) in
          let greater : rank s.id ≡ 0 = sym (ap (λ (b : Bool). if b then r else rank s.id) other) ∙ is in
          absurd (omega arith)
    ]

all_hold : (r : ℕ) (m n : Components) (ss : List SectionAt) → AreInOrder r ss → AreRead m ss n → (r ≡ 0 → m.functions ≡ []) → HasTypes m → HasTypes n
all_hold r m n [] order read none h = subst HasTypes read h
all_hold r m n (s ∷ ss) order read none h =
    elim (either_is (s.id == 1)) [
      | inl is ↦
          let id_is : s.id ≡ 1 = is_number s.id 1 is in
          let t = types_read m s.end s.contents read.0 (ap (λ (k : ℕ). contents_of k m s.end s.contents) (sym id_is) ∙ read.1) in
          let no_functions : m.functions ≡ [] = none (type_section_first r s.id id_is order.0) in
          let next : HasTypes read.0 =
          subst HasTypes (sym t.1) (record { functions = subst (λ (l : List ℕ). AllByRecursion (IsFunctionType t.0) l) (sym no_functions) tt; types = t.2 }) in
          all_hold (rank_after r s.id) read.0 n ss order.1 read.2 (none_then r m read.0 s order.0 read.1 none) next
      | inr other ↦
          let kept = other_section s.id m s.end s.contents read.0 other read.1 in
          let next : HasTypes read.0 =
          record {
            functions = subst (λ ts. AllByRecursion (IsFunctionType ts) read.0.functions) (sym kept.types) (kept.functions h.functions);
            types = subst (AllByRecursion IsOfSection) (sym kept.types) h.types;
          } in
          all_hold (rank_after r s.id) read.0 n ss order.1 read.2 (none_then r m read.0 s order.0 read.1 none) next
    ]

pub has_types : (file : List ℕ) (m : Components) → module_of file ≡ Ok m → HasTypes m
has_types file m e =
    let o = one_spelling file m e in
    let s = of_sections file m o.sections e o.are in
    all_hold 0 no_components m o.sections s.in_order s.are_read (λ first. refl) (record { functions = tt; types = tt })

-- each type is known so far
pub known_type_of : (types : List ModuleType) (id : ℕ) → AllByRecursion IsOfSection types → id < length types → IsFunctionType types id ⊎ (slice_get types id ≡ Some Other)
known_type_of (Func ps rs ∷ ts) zero all h = inl (ps, rs, refl)
known_type_of (Entry rs ∷ ts) zero all h = absurd all.0
known_type_of (Other ∷ ts) zero all h = inr refl
known_type_of (t ∷ ts) (suc id) all h = known_type_of ts id all.1 (omega arith)
known_type_of [] id all h = absurd (omega arith)
