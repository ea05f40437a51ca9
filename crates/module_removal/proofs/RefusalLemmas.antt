-- Why items aren't written.
use Rattle.std.proofs.Common.{◌≡◌, ◌≢◌, ◌⊎◌, ℕ, ◌-◌, ◌<◌, Bool, true, false, List, ◌++◌, length, Option, Some, Result, Ok, Err, IfErr, refl, sym, ap, subst, ◌∙◌, inl, inr}
use denote.Ref.{Bor}
use Rattle.wasm_operators.specs.declared.types.Space.{Space}
use Rattle.item_sets.specs.ItemsLeft.{is_left}
use Rattle.wasm_sections.specs.declared.fault.ModuleError.{ModuleError}
use Rattle.wasm_sections.specs.declared.sections.Section.{Section}
use Rattle.wasm_sections.specs.declared.sections.Sections.{Sections}
use Rattle.wasm_sections.specs.declared.sections.SectionKind.{SectionKind}
use Rattle.wasm_sections.specs.declared.sections.SectionKind.TheVariants as kinds
use Rattle.wasm_sections.specs.Additions.{IsTooMuch}
use Rattle.wasm_sections.specs.Sections.{preamble, next_section, TakesSection}
use Rattle.module_removal.specs.declared.copier.Copier.{Copier}
use Rattle.module_removal.specs.declared.left.LeftItems.{LeftItems}
use Rattle.module_removal.specs.declared.writing.Writer.{Writer}
use Rattle.module_removal.specs.ItemNumbers.{count_of}
use Rattle.module_removal.specs.LeftSpaces.{marks_of, index_written}
use Rattle.module_removal.specs.CopiedParts.{Copied, CopiedPart, NewIndices, Copies}
use Rattle.module_removal.specs.CopiedItems.{copied_defined}
use Rattle.module_removal.specs.Written.{section_space, WritesNextItem}
use Rattle.module_removal.specs.LeftSections.{WritesDefined, WritesItem}
use Rattle.module_removal.specs.Refusals.{StopsAfter, IsFaultOfPart, indices_if, StopsAtNext, StopsAtDefined, StopsAtItem, StopsAtItems, StopsAtContents, StopsAtSection, StopsAtAnySection, WritesWhole, StopsAtNextSection, StopsAmongSections}
use Rattle.module_removal.proofs.SectionStepLemmas.{SectionsPassed}
use Rattle.module_removal.proofs.SeveralStepsLemmas.{StepsLeft}

-- ---- errors of results

pub if_err_then : {X : Type 0} (P Q : ModuleError → Type 0) (r : Result X ModuleError) → IfErr r P → ((e : ModuleError) → P e → Q e) → IfErr r Q
if_err_then P Q (Ok x) h f = tt
if_err_then P Q (Err e) h f = f e h

pub copy_fails :
    {A : Type 0} (old new : Copier) (following : List ℕ) (part : Result ((A × Copied) × List ℕ) ModuleError) (Q : ModuleError → Type 0) (r : Result A ModuleError) →
    Copies old new following r part → ((e : ModuleError) → IsFaultOfPart part e → Q e) → IfErr r Q
copy_fails old new following part Q (Ok x) c f = tt
copy_fails old new following part Q (Err e) c f = f e c

-- ---- items

pub fault_under :
    {A : Type 0} (part : NewIndices → CopiedPart A) (end : ℕ) (text : List ℕ) (cleared left : Option (Bor LeftItems)) (e : ModuleError) → cleared ≡ left →
    IsFaultOfPart (part (index_written cleared) end text) e → IsFaultOfPart (part (index_written left) end text) e
fault_under part end text cleared left e same f = subst (λ (l : Option (Bor LeftItems)). IsFaultOfPart (part (index_written l) end text) e) same f

module _ {A : Type 0} (space : Space) (part : NewIndices → CopiedPart A) (end : ℕ) (text : List ℕ) (old : Writer) (cleared : Option (Bor LeftItems)) (e : ModuleError) where
  pub stops_left : true ≡ is_left (marks_of old.remainder.now.left space) (count_of old.next space) → cleared ≡ old.kept.left →
      IsFaultOfPart (part (index_written cleared) end text) e → StopsAtNext space part end text old e
  stops_left is same f =
      subst (λ (b : Bool). IsFaultOfPart (part (indices_if b old) end text) e) is (fault_under part end text cleared old.kept.left e same f)

  pub stops_passed : false ≡ is_left (marks_of old.remainder.now.left space) (count_of old.next space) → cleared ≡ old.passed.left →
      IsFaultOfPart (part (index_written cleared) end text) e → StopsAtNext space part end text old e
  stops_passed is same f =
      subst (λ (b : Bool). IsFaultOfPart (part (indices_if b old) end text) e) is (fault_under part end text cleared old.passed.left e same f)

-- ---- items by the kind of their section

pub item_of_kind :
    (kind : SectionKind) (space : Space) (end : ℕ) (old new : Writer × List ℕ) → kind ≢ kinds.Type → kind ≢ kinds.Import → kind ≢ kinds.Export →
    section_space kind ≡ Some space → WritesNextItem space (λ w. copied_defined w space) end old.1 new.1 old.0 new.0 → WritesItem kind end old new
item_of_kind kinds.Type space end old new t i x is w = absurd (t refl)
item_of_kind kinds.Import space end old new t i x is w = absurd (i refl)
item_of_kind kinds.Export space end old new t i x is w = absurd (x refl)
item_of_kind kind space end old new t i x is w = subst (λ (o : Option Space). WritesDefined o end old new) (sym is) w

pub stops_of_kind :
    (kind : SectionKind) (space : Space) (end : ℕ) (w : Writer × List ℕ) (e : ModuleError) → kind ≢ kinds.Type → kind ≢ kinds.Import → kind ≢ kinds.Export →
    section_space kind ≡ Some space → StopsAtNext space (λ i. copied_defined i space) end w.1 w.0 e → StopsAtItem kind end w e
stops_of_kind kinds.Type space end w e t i x is s = absurd (t refl)
stops_of_kind kinds.Import space end w e t i x is s = absurd (i refl)
stops_of_kind kinds.Export space end w e t i x is s = absurd (x refl)
stops_of_kind kind space end w e t i x is s = subst (λ (o : Option Space). StopsAtDefined o end w e) (sym is) s

-- ---- steps

pub stops_now :
    {S : Type 0} (Step : S → S → Type 0) (Stops : S → ModuleError → Type 0) (count i : ℕ) (old now : S) (e : ModuleError) → StepsLeft Step count i old now →
    i < count → Stops now e → StopsAfter Step Stops count old e
stops_now Step Stops count i old now e left less stops = record { made = i; less = less; at = now; steps = left.made; stops = stops }

-- ---- sections

pub stops_of_contents :
    (kind : SectionKind) (end : ℕ) (contents : List ℕ) (w : Writer) (e : ModuleError) → kind ≢ kinds.Start → kind ≢ kinds.DataCount → kind ≢ kinds.Code →
    IsTooMuch e ⊎ StopsAtItems kind end contents w e → StopsAtContents kind end contents w e
stops_of_contents kinds.Start end contents w e s d c stops = absurd (s refl)
stops_of_contents kinds.DataCount end contents w e s d c stops = absurd (d refl)
stops_of_contents kinds.Code end contents w e s d c stops = absurd (c refl)
stops_of_contents kind end contents w e s d c stops = stops

pub stops_of_section :
    (kind : SectionKind) (end : ℕ) (contents : List ℕ) (w : Writer) (e : ModuleError) → kind ≢ kinds.Custom → StopsAtSection kind end contents w e →
    StopsAtAnySection kind end contents w e
stops_of_section kinds.Custom end contents w e c stops = absurd (c refl)
stops_of_section kind end contents w e c stops = stops

-- ---- modules

module _ (file : List ℕ) (now : Writer) (left then : Sections) (whole : left.left.end ≡ length file) where
  pub section_unread : (e : ModuleError) → TakesSection left (Some (Err e)) then → StopsAtNextSection (length file) (now, (left.rank, left.left.rest.now)) e
  section_unread e takes = inl (ap (λ (n : ℕ). next_section left.rank n left.left.rest.now) (sym whole) ∙ takes.1)

  pub section_stops :
      (x : Section) (e : ModuleError) → TakesSection left (Some (Ok x)) then → StopsAtAnySection x.kind x.contents.end x.contents.rest.now now e →
      StopsAtNextSection (length file) (now, (left.rank, left.left.rest.now)) e
  section_stops x e takes stops =
      let place : x.contents.end ≡ length file - length then.left.rest.now =
      takes.0.end_is ∙ ap (λ (n : ℕ). n - length then.left.rest.now) whole in
      inr (
        x.kind,
        x.contents.rest.now,
        then.rank,
        then.left.rest.now,
        ap (λ (n : ℕ). next_section left.rank n left.left.rest.now) (sym whole) ∙ takes.2,
        subst (λ (n : ℕ). StopsAtAnySection x.kind n x.contents.rest.now now e) place stops,
      )

pub stops_among :
    (file : List ℕ) (old start now : Writer) (left : Sections) (e : ModuleError) → start ≡ record old { out = start.out } →
    start.out.items ≡ old.out.items ++ preamble → SectionsPassed WritesWhole file start now left →
    StopsAtNextSection (length file) (now, (left.rank, left.left.rest.now)) e → StopsAmongSections file old e
stops_among file old start now left e begins out passed stops = record {
  text = passed.text;
  is = passed.is;
  begun = start;
  begins = begins;
  out = out;
  count = passed.count;
  at = (now, (left.rank, left.left.rest.now));
  steps = passed.steps;
  stops = stops;
}
