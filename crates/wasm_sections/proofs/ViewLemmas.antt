-- The first section with an id, among those that are left of a module; the items of a section.
use Rattle.std.proofs.Common.{◌≡◌, ◌-◌, ℕ, Bool, true, false, ◌==◌, List, [], ◌∷◌, ◌++◌, length, take, drop, get_or, if◌then◌else◌, Option, Some, None, Result, Ok, refl, sym, ap, subst, ◌∙◌, option_map}
use Rattle.std.proofs.Math.Seq.{take-append_seam, drop-append_seam}
use Rattle.std.proofs.lemmas.List.{append_cancel_right}
use Rattle.wasm_numbers.specs.Numbers.{u32}
use Rattle.wasm_numbers.proofs.Agreement.{ok_is}
use Rattle.wasm_sections.specs.declared.fault.ModuleError.{ModuleError}
use Rattle.wasm_sections.specs.declared.sections.Section.{Section}
use Rattle.wasm_sections.specs.declared.sections.Sections.{Sections}
use Rattle.wasm_sections.specs.declared.code.Bodies.{Bodies}
use Rattle.wasm_sections.specs.declared.items.Items.{Items}
use Rattle.wasm_sections.specs.Sections.{preamble, SectionAt, BeginsSection, AreSections, IsModule, Each, first_with, section_at, section_id, TakesSection}
use Rattle.wasm_sections.specs.Views.{HasItems, HasSomeItems, HasBodies}

-- ---- at the front of a module

-- The section at the front is one, and so are the bytes that follow it.
one_section : (end : ℕ) (text : List ℕ) (s t : SectionAt) (following after : List ℕ) → BeginsSection end text s following → BeginsSection end text t after → (s ≡ t) × (following ≡ after)
one_section end text s t following after p q =
    let whole : s.id ∷ p.sized ≡ t.id ∷ q.sized = sym p.id_is ∙ q.id_is in
    let sized = sym p.size_is ∙ ap (λ (l : List ℕ). u32 (drop 1 l)) whole ∙ q.size_is in
    let same = ok_is (length s.contents, s.contents ++ following) (length t.contents, t.contents ++ after) sized in
    let id : s.id ≡ t.id = ap (λ (l : List ℕ). get_or l 0 0) whole in
    let contents : s.contents ≡ t.contents =
    sym (take-append_seam s.contents following) ∙ ap (λ (x : ℕ × List ℕ). take x.0 x.1) same ∙ take-append_seam t.contents after in
    let rest : following ≡ after =
    sym (drop-append_seam s.contents following) ∙ ap (λ (x : ℕ × List ℕ). drop x.0 x.1) same ∙ drop-append_seam t.contents after in
    let stop : s.end ≡ t.end = p.end_is ∙ ap (λ (l : List ℕ). end - length l) rest ∙ sym q.end_is in
    let both : s.whole ++ following ≡ t.whole ++ following = sym p.whole_is ∙ q.whole_is ∙ ap (λ (l : List ℕ). t.whole ++ l) (sym rest) in
    let bytes : s.whole ≡ t.whole = append_cancel_right s.whole t.whole following both in
    (λ i. record { id = id i; contents = contents i; end = stop i; whole = bytes i }, rest)

pub first_left :
    (end : ℕ) (text : List ℕ) (left : List SectionAt) (x : SectionAt) (following : List ℕ) → AreSections end text left → BeginsSection end text x following →
    (ys : List SectionAt) × (left ≡ x ∷ ys) × AreSections end following ys
first_left end text [] x following a b = let e : [] ≡ x.id ∷ b.sized = sym a ∙ b.id_is in absurd cc
first_left end text (y ∷ ys) x following a b =
    let same = one_section end text y x a.0 following a.1 b in
    (ys, ap (λ (z : SectionAt). z ∷ ys) same.0, subst (λ (l : List ℕ). AreSections end l ys) same.1 a.2)

-- ---- the first with an id

-- The first section with this id is among those that are left.
pub record FirstSoFar (all : List SectionAt) (id : ℕ) (s : Sections) : Type 0 where
  pub left : List SectionAt
  pub are_left : AreSections s.left.end s.left.rest.now left
  pub same : first_with id left ≡ first_with id all

pub none_passed : (file : List ℕ) (all : List SectionAt) (id : ℕ) (s : Sections) → IsModule file all → file ≡ preamble ++ s.left.rest.now → s.left.end ≡ length file → FirstSoFar all id s
none_passed file all id s m e f =
    let text : m.0 ≡ s.left.rest.now = ap (λ (l : List ℕ). drop 8 l) (sym m.1 ∙ e) in
    let here = subst (λ (n : ℕ). AreSections n m.0 all) (sym f) m.2 in
    record { left = all; are_left = subst (λ (l : List ℕ). AreSections s.left.end l all) text here; same = refl }

module _ (all : List SectionAt) (id : ℕ) (s t : Sections) (o : Option (Result Section ModuleError)) (x : Section) where
  first_taken : (p : FirstSoFar all id s) → o ≡ Some (Ok x) → TakesSection s o t
      → (ys : List SectionAt) × (p.left ≡ section_at x ∷ ys) × AreSections t.left.end t.left.rest.now ys
  first_taken p i takes =
      let taken : TakesSection s (Some (Ok x)) t = subst (λ (o : Option (Result Section ModuleError)). TakesSection s o t) i takes in
      let f = first_left s.left.end s.left.rest.now p.left (section_at x) t.left.rest.now p.are_left taken.0 in
      (f.0, f.1, subst (λ (n : ℕ). AreSections n t.left.rest.now f.0) (sym taken.1) f.2)

  first_of : (b : Bool) → (section_id x.kind == id) ≡ b → (ys : List SectionAt)
      → first_with id (section_at x ∷ ys) ≡ (if b then Some (section_at x) else first_with id ys)
  first_of b e ys = ap (λ (b : Bool). if b then Some (section_at x) else first_with id ys) e

  pub one_passed : FirstSoFar all id s → o ≡ Some (Ok x) → TakesSection s o t → (section_id x.kind == id) ≡ false → FirstSoFar all id t
  one_passed p i takes e =
      let f = first_taken p i takes in
      record { left = f.0; are_left = f.2; same = sym (first_of false e f.0) ∙ ap (λ (ss : List SectionAt). first_with id ss) (sym f.1) ∙ p.same }

  pub one_found : FirstSoFar all id s → o ≡ Some (Ok x) → TakesSection s o t → (section_id x.kind == id) ≡ true → first_with id all ≡ Some (section_at x)
  one_found p i takes e =
      let f = first_taken p i takes in
      sym p.same ∙ ap (λ (ss : List SectionAt). first_with id ss) f.1 ∙ first_of true e f.0

-- if no section is left
pub nothing_left : (end : ℕ) (text : List ℕ) (left : List SectionAt) → AreSections end text left → text ≡ [] → left ≡ []
nothing_left end text [] a e = refl
nothing_left end text (y ∷ ys) a e = let e : [] ≡ y.id ∷ a.1.sized = sym e ∙ a.1.id_is in absurd cc

pub none_found : (all : List SectionAt) (id : ℕ) (s t : Sections) (o : Option (Result Section ModuleError)) → FirstSoFar all id s → o ≡ None → TakesSection s o t → first_with id all ≡ None
none_found all id s t o p i takes =
    let none : TakesSection s None t = subst (λ (o : Option (Result Section ModuleError)). TakesSection s o t) i takes in
    sym p.same ∙ ap (λ (ss : List SectionAt). first_with id ss) (nothing_left s.left.end s.left.rest.now p.left p.are_left none)

-- ---- what holds of each

-- What holds of each section that is left and held of each one before holds of all.
pub record EachSoFar (P : SectionAt → Type 0) (all : List SectionAt) (s : Sections) : Type 0 where
  pub left : List SectionAt
  pub are_left : AreSections s.left.end s.left.rest.now left
  pub each : Each P left → Each P all

pub each_at_first :
    (P : SectionAt → Type 0) (file : List ℕ) (all : List SectionAt) (s : Sections) → IsModule file all → file ≡ preamble ++ s.left.rest.now →
    s.left.end ≡ length file → EachSoFar P all s
each_at_first P file all s m e f =
    let text : m.0 ≡ s.left.rest.now = ap (λ (l : List ℕ). drop 8 l) (sym m.1 ∙ e) in
    let here = subst (λ (n : ℕ). AreSections n m.0 all) (sym f) m.2 in
    record { left = all; are_left = subst (λ (l : List ℕ). AreSections s.left.end l all) text here; each = λ h. h }

module _ (P : SectionAt → Type 0) (all : List SectionAt) (s t : Sections) (o : Option (Result Section ModuleError)) where
  pub each_passed : (x : Section) → EachSoFar P all s → o ≡ Some (Ok x) → TakesSection s o t → P (section_at x) → EachSoFar P all t
  each_passed x p i takes here =
      let taken : TakesSection s (Some (Ok x)) t = subst (λ (o : Option (Result Section ModuleError)). TakesSection s o t) i takes in
      let f = first_left s.left.end s.left.rest.now p.left (section_at x) t.left.rest.now p.are_left taken.0 in
      record {
        left = f.0;
        are_left = subst (λ (n : ℕ). AreSections n t.left.rest.now f.0) (sym taken.1) f.2;
        each = λ h. p.each (subst (λ (ss : List SectionAt). Each P ss) (sym f.1) (here, h));
      }

  pub each_of_all : EachSoFar P all s → o ≡ None → TakesSection s o t → Each P all
  each_of_all p i takes =
      let none : TakesSection s None t = subst (λ (o : Option (Result Section ModuleError)). TakesSection s o t) i takes in
      p.each (subst (λ (ss : List SectionAt). Each P ss) (sym (nothing_left s.left.end s.left.rest.now p.left p.are_left none)) tt)

-- ---- the items of a section

pub some_items : (o : Option SectionAt) (s : Items) → HasItems o s → HasSomeItems o s.count
some_items None s h = h
some_items (Some section) s h = (s.left.rest.now, h.0)

pub items_of_none : (o : Option SectionAt) (found : Option Section) (s : Items) → o ≡ option_map section_at found → found ≡ None → s.count ≡ 0 → HasItems o s
items_of_none o found s e n h = subst (λ (o : Option SectionAt). HasItems o s) (sym (e ∙ ap (λ (x : Option Section). option_map section_at x) n)) h

pub items_of_some : (o : Option SectionAt) (found : Option Section) (x : Section) (s : Items) → o ≡ option_map section_at found → found ≡ Some x
    → u32 x.contents.rest.now ≡ Ok (s.count, s.left.rest.now) → s.left.end ≡ x.contents.end → HasItems o s
items_of_some o found x s e n h end = subst (λ (o : Option SectionAt). HasItems o s) (sym (e ∙ ap (λ (x : Option Section). option_map section_at x) n)) (h, end)

pub bodies_of_none : (o : Option SectionAt) (found : Option Section) (first : ℕ) (s : Bodies) → o ≡ option_map section_at found → found ≡ None → HasBodies o first s
bodies_of_none o found first s e n =
    subst (λ (o : Option SectionAt). HasBodies o first s) (sym (e ∙ ap (λ (x : Option Section). option_map section_at x) n)) tt

pub bodies_of_some : (o : Option SectionAt) (found : Option Section) (x : Section) (count first : ℕ) (s : Bodies) → o ≡ option_map section_at found → found ≡ Some x
    → u32 x.contents.rest.now ≡ Ok (count, s.left.rest.now) → s.left.end ≡ x.contents.end → s.next ≡ first → HasBodies o first s
bodies_of_some o found x count first s e n h end is =
    subst (λ (o : Option SectionAt). HasBodies o first s) (sym (e ∙ ap (λ (x : Option Section). option_map section_at x) n)) (count, h, end, is)
