-- The first custom section with a name, among those that are left of a module.
use Rattle.std.proofs.Common.{◌≡◌, ℕ, List, ◌∷◌, ◌++◌, length, drop, Option, Some, None, Ok, refl, sym, ap, subst, ◌∙◌, inl, inr}
use Rattle.wasm_sections.specs.declared.sections.Section.{Section}
use Rattle.wasm_sections.specs.declared.sections.Sections.{Sections}
use Rattle.wasm_sections.specs.Sections.{preamble, SectionAt, AreSections, IsModule, section_at, TakesSection}
use Rattle.wasm_sections.proofs.ViewLemmas.{first_left, nothing_left}
use Rattle.module_items.specs.CustomSections.{IsCustomSection, IsFirstCustom}

-- The first section with this name is among those that are left.
pub record NamedSoFar (all : List SectionAt) (name : List ℕ) (s : Sections) : Type 0 where
  pub left : List SectionAt
  pub are_left : AreSections s.left.end s.left.rest.now left
  pub back : (contents : Option (List ℕ)) → IsFirstCustom name left contents → IsFirstCustom name all contents

pub no_section_passed :
    (file : List ℕ) (all : List SectionAt) (name : List ℕ) (s : Sections) → IsModule file all → file ≡ preamble ++ s.left.rest.now → s.left.end ≡ length file →
    NamedSoFar all name s
no_section_passed file all name s m e f =
    let text : m.0 ≡ s.left.rest.now = ap (λ (l : List ℕ). drop 8 l) (sym m.1 ∙ e) in
    let here = subst (λ (n : ℕ). AreSections n m.0 all) (sym f) m.2 in
    record { left = all; are_left = subst (λ (l : List ℕ). AreSections s.left.end l all) text here; back = λ contents h. h }

module _ (all : List SectionAt) (name : List ℕ) (s t : Sections) (x : Section) (p : NamedSoFar all name s) (takes : TakesSection s (Some (Ok x)) t) where
  taken : (ys : List SectionAt) × (p.left ≡ section_at x ∷ ys) × AreSections t.left.end t.left.rest.now ys
  taken =
      let f = first_left s.left.end s.left.rest.now p.left (section_at x) t.left.rest.now p.are_left takes.0 in
      (f.0, f.1, subst (λ (n : ℕ). AreSections n t.left.rest.now f.0) (sym takes.1) f.2)

  after : (ys : List SectionAt) → IsCustomSection name (section_at x) None → (contents : Option (List ℕ)) → IsFirstCustom name ys contents
      → IsFirstCustom name (section_at x ∷ ys) contents
  after ys other None h = (other, h)
  after ys other (Some c) h = inr (other, h)

  pub one_passed : IsCustomSection name (section_at x) None → NamedSoFar all name t
  one_passed other =
      let f = taken in
      record {
        left = f.0;
        are_left = f.2;
        back = λ c h. p.back c (subst (λ (l : List SectionAt). IsFirstCustom name l c) (sym f.1) (after f.0 other c h));
      }

  pub one_found : (c : List ℕ) → IsCustomSection name (section_at x) (Some c) → IsFirstCustom name all (Some c)
  one_found c h =
      let f = taken in
      p.back (Some c) (subst (λ (l : List SectionAt). IsFirstCustom name l (Some c)) (sym f.1) (inl h))

pub none_found : (all : List SectionAt) (name : List ℕ) (s t : Sections) → NamedSoFar all name s → TakesSection s None t → IsFirstCustom name all None
none_found all name s t p takes =
    p.back None (subst (λ (l : List SectionAt). IsFirstCustom name l None) (sym (nothing_left s.left.end s.left.rest.now p.left p.are_left takes)) refl)
