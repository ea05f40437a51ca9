-- Sections that are given contents, and the places of new ones.
use Rattle.std.proofs.Common.{◌≡◌, ◌≢◌, ◌≤◌, ◌<◌, ◌+◌, ℕ, zero, suc, add-one, Bool, true, false, List, [], ◌∷◌, ◌++◌, length, drop, get_or, nat_lt, ◌&&◌, if◌then◌else◌, Option, Some, None, Result, Ok, refl, sym, ap, subst, ◌∙◌, append_assoc}
use Rattle.std.proofs.Math.Seq.{drop-cons, drop-append_seam}
use Rattle.std.proofs.lemmas.Bool.{lt-ltb, le-ltb}
use Rattle.std.proofs.lemmas.List.{append-nil, drop_all}
use Rattle.wasm_numbers.specs.Numbers.{u32}
use Rattle.wasm_numbers.proofs.Agreement.{ok_is}
use Rattle.wasm_sections.specs.declared.changes.NewContents.{NewContents}
use Rattle.wasm_sections.specs.declared.fault.ModuleError.{ModuleError}
use Rattle.wasm_sections.specs.declared.sections.Section.{Section}
use Rattle.wasm_sections.specs.declared.sections.Sections.{Sections}
use Rattle.wasm_sections.specs.Sections.{preamble, rank, next_rank, SectionAt, BeginsSection, AreSections, IsModule, section, section_at, section_id, TakesSection}
use Rattle.wasm_module.specs.WrittenModules.{Puts, FitsSize, is_between, between, FitBetween, new_after, new_after_section, NewFitAfter, NewFitAfterSection}
use Rattle.wasm_module.proofs.WritingLemmas.{puts_then, puts_nothing, puts_same}

-- ---- at the front of a module

-- A section at the front has one rank, and one end.
one_rank :
    (end : ℕ) (text : List ℕ) (s t : SectionAt) (following after : List ℕ) → BeginsSection end text s following → BeginsSection end text t after →
    (rank s.id ≡ rank t.id) × (following ≡ after)
one_rank end text s t following after p q =
    let whole : s.id ∷ p.sized ≡ t.id ∷ q.sized = sym p.id_is ∙ q.id_is in
    let sized = sym p.size_is ∙ ap (λ (l : List ℕ). u32 (drop 1 l)) whole ∙ q.size_is in
    let same = ok_is (length s.contents, s.contents ++ following) (length t.contents, t.contents ++ after) sized in (
      ap (λ (l : List ℕ). rank (get_or l 0 0)) whole,
      sym (drop-append_seam s.contents following) ∙ ap (λ (x : ℕ × List ℕ). drop x.0 x.1) same ∙ drop-append_seam t.contents after,
    )

first_left :
    (end : ℕ) (text : List ℕ) (left : List SectionAt) (x : SectionAt) (following : List ℕ) → AreSections end text left → BeginsSection end text x following →
    (y : SectionAt) × (ys : List SectionAt) × (left ≡ y ∷ ys) × (rank y.id ≡ rank x.id) × AreSections end following ys
first_left end text [] x following a b = let e : [] ≡ x.id ∷ b.sized = sym a ∙ b.id_is in absurd cc
first_left end text (y ∷ ys) x following a b =
    let same = one_rank end text y x a.0 following a.1 b in (y, ys, refl, same.0, subst (λ (l : List ℕ). AreSections end l ys) same.1 a.2)

-- ---- the next rank

-- The sections that are left of a module have the next rank of all.
pub record RankSoFar (all : List SectionAt) (r : ℕ) (s : Sections) : Type 0 where
  pub left : List SectionAt
  pub are_left : AreSections s.left.end s.left.rest.now left
  pub same : next_rank r left ≡ next_rank r all

pub all_left :
    (file : List ℕ) (all : List SectionAt) (r : ℕ) (s : Sections) → IsModule file all → file ≡ preamble ++ s.left.rest.now → s.left.end ≡ length file → RankSoFar all r s
all_left file all r s m e f =
    let text : m.0 ≡ s.left.rest.now = ap (λ (l : List ℕ). drop 8 l) (sym m.1 ∙ e) in
    let here = subst (λ (n : ℕ). AreSections n m.0 all) (sym f) m.2 in
    record { left = all; are_left = subst (λ (l : List ℕ). AreSections s.left.end l all) text here; same = refl }

rank_passed : (r : ℕ) (y : SectionAt) (ys : List SectionAt) → rank y.id ≤ r → next_rank r (y ∷ ys) ≡ next_rank r ys
rank_passed r y ys h = ap (λ (b : Bool). if b then rank y.id else next_rank r ys) (le-ltb r (rank y.id) h)

rank_found : (r : ℕ) (y : SectionAt) (ys : List SectionAt) → r < rank y.id → next_rank r (y ∷ ys) ≡ rank y.id
rank_found r y ys h = ap (λ (b : Bool). if b then rank y.id else next_rank r ys) (lt-ltb r (rank y.id) h)

module _ (all : List SectionAt) (r : ℕ) (s t : Sections) (o : Option (Result Section ModuleError)) (x : Section) where
  first_taken :
      (p : RankSoFar all r s) → o ≡ Some (Ok x) → TakesSection s o t →
      (y : SectionAt) × (ys : List SectionAt) × (p.left ≡ y ∷ ys) × (rank y.id ≡ rank (section_id x.kind)) × AreSections t.left.end t.left.rest.now ys
  first_taken p i takes =
      let taken : TakesSection s (Some (Ok x)) t = subst (λ (o : Option (Result Section ModuleError)). TakesSection s o t) i takes in
      let f = first_left s.left.end s.left.rest.now p.left (section_at x) t.left.rest.now p.are_left taken.0 in
      (f.0, f.1, f.2, f.3, subst (λ (n : ℕ). AreSections n t.left.rest.now f.1) (sym taken.1) f.4)

  pub one_passed : RankSoFar all r s → o ≡ Some (Ok x) → TakesSection s o t → rank (section_id x.kind) ≤ r → RankSoFar all r t
  one_passed p i takes h =
      let f = first_taken p i takes in
      let passed = rank_passed r f.0 f.1 (subst (λ (n : ℕ). n ≤ r) (sym f.3) h) in
      record { left = f.1; are_left = f.4; same = sym passed ∙ ap (λ (ss : List SectionAt). next_rank r ss) (sym f.2) ∙ p.same }

  pub one_found : RankSoFar all r s → o ≡ Some (Ok x) → TakesSection s o t → r < rank (section_id x.kind) → rank (section_id x.kind) ≡ next_rank r all
  one_found p i takes h =
      let f = first_taken p i takes in
      let found = rank_found r f.0 f.1 (subst (λ (n : ℕ). r < n) (sym f.3) h) in
      sym f.3 ∙ sym found ∙ ap (λ (ss : List SectionAt). next_rank r ss) (sym f.2) ∙ p.same

-- if no section is left
nothing_left : (end : ℕ) (text : List ℕ) (left : List SectionAt) → AreSections end text left → text ≡ [] → left ≡ []
nothing_left end text [] a e = refl
nothing_left end text (y ∷ ys) a e = let e : [] ≡ y.id ∷ a.1.sized = sym e ∙ a.1.id_is in absurd cc

pub none_found :
    (all : List SectionAt) (r : ℕ) (s t : Sections) (o : Option (Result Section ModuleError)) → RankSoFar all r s → o ≡ None → TakesSection s o t → 14 ≡ next_rank r all
none_found all r s t o p i takes =
    let none : TakesSection s None t = subst (λ (o : Option (Result Section ModuleError)). TakesSection s o t) i takes in
    ap (λ (ss : List SectionAt). next_rank r ss) (sym (nothing_left s.left.end s.left.rest.now p.left p.are_left none)) ∙ p.same

-- ---- given contents, one after the other

-- The first `i` of the given sections were looked at, and those between the two ranks were written.
pub record NewSoFar (first second : ℕ) (gs : List NewContents) (i : ℕ) (old now : Option (List ℕ)) (at end : ℕ) : Type 0 where
  pub text : List ℕ
  pub puts : Puts old now at end text
  pub same : text ++ between first second (drop i gs) ≡ between first second gs
  pub fits : FitBetween first second (drop i gs) → FitBetween first second gs

pub nothing_new : (first second : ℕ) (gs : List NewContents) (known : Option (List ℕ)) (at : ℕ) → NewSoFar first second gs 0 known known at at
nothing_new first second gs known at = record { text = []; puts = puts_nothing known at; same = refl; fits = λ h. h }

pub is_within_ranks : (first middle second : ℕ) → first < middle → middle < second → (nat_lt first middle && nat_lt middle second) ≡ true
is_within_ranks first middle second p q = ap (λ (b : Bool). b && nat_lt middle second) (lt-ltb first middle p) ∙ lt-ltb middle second q

pub is_before_ranks : (first middle second : ℕ) → middle ≤ first → (nat_lt first middle && nat_lt middle second) ≡ false
is_before_ranks first middle second p = ap (λ (b : Bool). b && nat_lt middle second) (le-ltb first middle p)

pub is_after_ranks : (first middle second : ℕ) → first < middle → second ≤ middle → (nat_lt first middle && nat_lt middle second) ≡ false
is_after_ranks first middle second p q = ap (λ (b : Bool). b && nat_lt middle second) (lt-ltb first middle p) ∙ le-ltb middle second q

module _ (first second : ℕ) (gs : List NewContents) (i : ℕ) (g : NewContents) (within : i < length gs) (is : g ≡ get_or gs i g) where
  here : drop i gs ≡ g ∷ drop (i + 1) gs
  here = drop-cons gs i g within ∙ ap (λ (x : NewContents). x ∷ drop (suc i) gs) (sym is) ∙ ap (λ (n : ℕ). g ∷ drop n gs) (sym (add-one i))

  -- the bytes for this section and for those after it
  step :
      (b : Bool) → is_between first second g ≡ b →
      between first second (drop i gs) ≡ (if b then section (section_id g.kind) g.contents.items ++ between first second (drop (i + 1) gs) else between first second (drop (i + 1) gs))
  step b e =
      ap (λ (l : List NewContents). between first second l) here
      ∙ ap (λ (b : Bool). if b then section (section_id g.kind) g.contents.items ++ between first second (drop (i + 1) gs) else between first second (drop (i + 1) gs)) e

  pub one_new :
      (old now later new : Option (List ℕ)) (at middle end last : ℕ) → NewSoFar first second gs i old now at middle → is_between first second g ≡ true →
      Puts now later middle end (section (section_id g.kind) g.contents.items) → FitsSize g.contents.items → later ≡ new → end ≡ last →
      NewSoFar first second gs (i + 1) old new at last
  one_new old now later new at middle end last p b q fit out end_is =
      let own = section (section_id g.kind) g.contents.items in
      let put = subst (λ (n : ℕ). Puts now new middle n own) end_is (subst (λ (l : Option (List ℕ)). Puts now l middle end own) out q) in
      record {
        text = p.text ++ own;
        puts = puts_then old now new at middle last p.text own p.puts put;
        same = append_assoc p.text own (between first second (drop (i + 1) gs)) ∙ ap (λ (l : List ℕ). p.text ++ l) (sym (step true b)) ∙ p.same;
        fits = λ h. p.fits (subst (λ (l : List NewContents). FitBetween first second l) (sym here) (λ t. fit, h));
      }

  pub one_elsewhere :
      (old now new : Option (List ℕ)) (at middle last : ℕ) → NewSoFar first second gs i old now at middle → is_between first second g ≡ false → now ≡ new → middle ≡ last →
      NewSoFar first second gs (i + 1) old new at last
  one_elsewhere old now new at middle last p b out end_is = record {
    text = p.text;
    puts = subst (λ (n : ℕ). Puts old new at n p.text) end_is (subst (λ (l : Option (List ℕ)). Puts old l at middle p.text) out p.puts);
    same = ap (λ (l : List ℕ). p.text ++ l) (sym (step false b)) ∙ p.same;
    fits = λ h. p.fits (subst (λ (l : List NewContents). FitBetween first second l) (sym here) (λ t. absurd cc, h));
  }

pub all_new :
    (first second : ℕ) (gs : List NewContents) (i : ℕ) (old now : Option (List ℕ)) (at end : ℕ) → NewSoFar first second gs i old now at end → length gs ≤ i →
    Puts old now at end (between first second gs)
all_new first second gs i old now at end p h =
    let none = ap (λ (l : List NewContents). p.text ++ between first second l) (drop_all i gs h) in
    puts_same old now at end p.text (between first second gs) (sym (append-nil p.text) ∙ sym none ∙ p.same) p.puts

pub all_fit :
    (first second : ℕ) (gs : List NewContents) (i : ℕ) (old now : Option (List ℕ)) (at end : ℕ) → NewSoFar first second gs i old now at end → length gs ≤ i →
    FitBetween first second gs
all_fit first second gs i old now at end p h = p.fits (subst (λ (l : List NewContents). FitBetween first second l) (sym (drop_all i gs h)) tt)

-- ---- after a section

pub fit_after_other : (given : List NewContents) (all : List SectionAt) (r : ℕ) → r ≢ 0 → NewFitAfter given all r → NewFitAfterSection given all r
fit_after_other given all zero h f = absurd (h refl)
fit_after_other given all (suc r) h f = f

pub after_other :
    (given : List NewContents) (all : List SectionAt) (r : ℕ) → r ≢ 0 → new_after given all r ≡ new_after_section given all r
after_other given all zero h = absurd (h refl)
after_other given all (suc r) h = refl
