-- What is written for sections of which some items are left, and for a module.
use Rattle.std.proofs.Common.{◌≡◌, ◌≢◌, ℕ, Bool, true, false, ◌||◌, List, [], ◌∷◌, ◌++◌, length, codes, Some, None, Result, Ok, Err, OnOk, refl, sym, ap, subst, ◌∙◌}
use Rattle.std.proofs.lemmas.List.{append-nil}
use Rattle.std.proofs.lemmas.Slice.Eq.{bytes_eq-Decides}
use Rattle.wasm_sections.specs.declared.fault.ModuleError.{ModuleError}
use Rattle.wasm_sections.specs.declared.sections.Section.{Section}
use Rattle.wasm_sections.specs.declared.sections.SectionKind.{SectionKind}
use Rattle.wasm_sections.specs.declared.sections.SectionKind.TheVariants as kinds
use Rattle.wasm_sections.specs.declared.sections.Sections.{Sections}
use Rattle.wasm_sections.specs.Format.{name_part}
use Rattle.wasm_sections.specs.Omissions.{names_debug, names_object}
use Rattle.wasm_sections.specs.Sections.{preamble, section_id, section_at, SectionAt, AreSections, IsModule, TakesSection}
use Rattle.module_removal.specs.declared.writing.Writer.{Writer}
use Rattle.module_removal.specs.Written.{task_of}
use Rattle.module_removal.specs.LeftSections.{section_of, HasNoItems, WritesBytes, WritesItems, WritesSegmentsUnless, WritesSegmentsIf, WritesContents, WritesSection, names_names, follows_code, BecomesCustom, WritesCustom, WritesAnySection, WritesSections}
use Rattle.module_removal.specs.Refusals.{WritesWhole}
use Rattle.module_removal.proofs.SectionStepLemmas.{SectionsPassed, no_section_passed, one_more_passed}

pub ok_then : {X Y : Type 0} (r : Result (Unit {0}) ModuleError) → OnOk r X → (X → Y) → OnOk r Y
ok_then (Ok u) x f = f x
ok_then (Err e) x f = tt

-- ---- bytes of a section

-- Bytes are written while nothing else changes.
pub writes_bytes :
    (bytes : List ℕ) (old new : Writer) → HasNoItems old → new.out.items ≡ old.out.items ++ bytes → new ≡ record old { out = new.out } →
    WritesBytes bytes old new
writes_bytes bytes old new none out same = record {
  out = out;
  next = ap (λ (w : Writer). w.next) same;
  task = ap task_of same;
  has_elements = ap (λ (w : Writer). w.has_elements) same;
  none = (ap (λ (w : Writer). w.items.items) same ∙ none.0, ap (λ (w : Writer). w.count) same ∙ none.1);
}

-- No bytes are written.
pub writes_nothing : (w : Writer) → HasNoItems w → WritesBytes [] w w
writes_nothing w none = record { out = sym (append-nil w.out.items); next = refl; task = refl; has_elements = refl; none = none }

-- ---- no item waits after a section

after_segments : (was_written : Bool) (old new : Writer) → HasNoItems old → WritesSegmentsUnless was_written old new → HasNoItems new
after_segments true old new none w = subst HasNoItems (sym w) none
after_segments false old new none w = w.2.none

pub after_segments_before : (is_before : Bool) (old new : Writer) → HasNoItems old → WritesSegmentsIf is_before old new → HasNoItems new
after_segments_before true old new none w = after_segments old.has_elements old new none w
after_segments_before false old new none w = subst HasNoItems (sym w) none

after_contents : (kind : SectionKind) (end : ℕ) (contents : List ℕ) (old new : Writer) → WritesContents kind end contents old new → HasNoItems new
after_contents kinds.Start end contents old new w = w.3.none
after_contents kinds.DataCount end contents old new w = w.none
after_contents kinds.Code end contents old new w = w.none
after_contents kinds.Element end contents old new w = w.2.2.none
after_contents kind end contents old new w = w.2.none

pub after_any_section : (kind : SectionKind) (s : SectionAt) (old new : Writer) → WritesAnySection kind s old new → HasNoItems new
after_any_section kinds.Custom s old new w = w.writes.none
after_any_section kind s old new w = after_contents kind s.end s.contents w.0 new w.2

-- ---- a section by its kind

pub contents_of_kind :
    (kind other : SectionKind) (end : ℕ) (contents : List ℕ) (old new : Writer) (r : Result (Unit {0}) ModuleError) → kind ≡ other →
    OnOk r (WritesContents other end contents old new) → OnOk r (WritesContents kind end contents old new)
contents_of_kind kind other end contents old new r e w = subst (λ (k : SectionKind). OnOk r (WritesContents k end contents old new)) (sym e) w

pub other_contents :
    (kind : SectionKind) (end : ℕ) (contents : List ℕ) (old new : Writer) → kind ≢ kinds.Start → kind ≢ kinds.DataCount → kind ≢ kinds.Code →
    kind ≢ kinds.Element → (mid : Writer) → WritesItems kind end contents old mid → WritesBytes (section_of (section_id kind) mid) mid new →
    WritesContents kind end contents old new
other_contents kinds.Start end contents old new s d c e mid items w = absurd (s refl)
other_contents kinds.DataCount end contents old new s d c e mid items w = absurd (d refl)
other_contents kinds.Code end contents old new s d c e mid items w = absurd (c refl)
other_contents kinds.Element end contents old new s d c e mid items w = absurd (e refl)
other_contents kind end contents old new s d c e mid items w = (mid, items, w)

pub not_custom : (kind : SectionKind) (s : SectionAt) (old new : Writer) → kind ≢ kinds.Custom → WritesSection kind s.end s.contents old new → WritesAnySection kind s old new
not_custom kinds.Custom s old new c w = absurd (c refl)
not_custom kind s old new c w = w

-- ---- custom sections

pub or_second : (a b : Bool) → a ≡ false → (a || b) ≡ b
or_second a b e = ap (λ (x : Bool). x || b) e

pub or_first : (a b : Bool) → a ≡ true → (a || b) ≡ true
or_first a b e = ap (λ (x : Bool). x || b) e

-- the name of the section `name`
pub is_name : (name : List ℕ) → names_names name ≡ true → codes "name" ≡ name
is_name name e = sym ((bytes_eq-Decides name (codes "name")).0 e)

pub custom_becomes :
    (s : SectionAt) (old new : Writer) (name following : List ℕ) → name_part s.end s.contents ≡ Ok (name, following) → names_object name ≡ false →
    (is_debug is_followed : Bool) → names_debug name ≡ is_debug → follows_code name ≡ is_followed → (bytes : List ℕ) →
    BecomesCustom is_debug is_followed old.remainder.now.left old.code.now s.end following name s.whole bytes → WritesBytes bytes old new → WritesCustom s old new
custom_becomes s old new name following begins linked is_debug is_followed d f bytes becomes w = record {
  name = name;
  following = following;
  begins = begins;
  is_linked = linked;
  bytes = bytes;
  becomes =
      subst (λ (b : Bool). BecomesCustom b (follows_code name) old.remainder.now.left old.code.now s.end following name s.whole bytes) (sym d)
      (subst (λ (b : Bool). BecomesCustom is_debug b old.remainder.now.left old.code.now s.end following name s.whole bytes) (sym f) becomes);
  writes = w;
}

-- ---- all sections

-- Some sections are written; what is written of those that are left leads to where all lead.
pub record SectionsToWrite (file : List ℕ) (start : Writer) (s : Sections) (now : Writer) : Type 0 where
  pub after :
      (left : List SectionAt) (new : Writer) → AreSections s.left.end s.left.rest.now left → WritesSections left now new
      → (all : List SectionAt) × IsModule file all × WritesSections all start new
  pub none : HasNoItems now
  pub passed : SectionsPassed WritesWhole file start now s

pub no_section_written :
    (file : List ℕ) (start : Writer) (s : Sections) → file ≡ preamble ++ s.left.rest.now → s.left.end ≡ length file → s.rank ≡ 0 →
    HasNoItems start → SectionsToWrite file start s start
no_section_written file start s e f rank none = record {
  after = λ left new are w. (left, (s.left.rest.now, e, subst (λ (n : ℕ). AreSections n s.left.rest.now left) f are), w);
  none = none;
  passed = no_section_passed WritesWhole file start s s e f rank refl;
}

module _ (file : List ℕ) (start : Writer) (s t : Sections) (now : Writer) (left : SectionsToWrite file start s now) where
  pub one_more_written :
      (x : Section) (next : Writer) → TakesSection s (Some (Ok x)) t → WritesAnySection x.kind (section_at x) now next → SectionsToWrite file start t next
  one_more_written x next takes w = record {
    after = λ rest new are ws.
        left.after (section_at x ∷ rest) new (t.left.rest.now, takes.0, subst (λ (n : ℕ). AreSections n t.left.rest.now rest) takes.1 are)
        (next, x.kind, refl, w, ws);
    none = after_any_section x.kind (section_at x) now next w;
    passed = one_more_passed WritesWhole file start now next s t x left.passed takes (x.whole.now, w);
  }

  pub all_written :
      (new : Writer) → TakesSection s None t → WritesSegmentsUnless now.has_elements now new → (all : List SectionAt) × IsModule file all × WritesSections all start new
  all_written new takes w = left.after [] new takes w
