-- A module that is written, in terms of another meaning of what is written for its bodies.
use Rattle.std.proofs.Common.{◌≡◌, inl, inr, ℕ, ◌+◌, List, [], ◌∷◌, ◌++◌, length, Result, Ok, Err, OnOk, IfOk, refl, subst, ◌∙◌}
use Rattle.wasm_body.specs.Pairs.{Pair}
use Rattle.wasm_sections.specs.declared.changes.Changes.{Changes as NewSections}
use Rattle.wasm_sections.specs.declared.omissions.OmittedSections.{OmittedSections}
use Rattle.wasm_module.specs.declared.changing.kept_bodies.KeptBodies.{KeptBodies}
use Rattle.wasm_module.specs.declared.parsed.ParsedModule.{ParsedModule}
use Rattle.wasm_sections.specs.CodeSections.{BodyAt}
use Rattle.wasm_module.specs.KeptCode.{IsKept, AreKeptAs, AreKeptWithAs, IsKeptWith, kept_or, kept_with_or, StaysWritten}
use Rattle.wasm_module.specs.RewrittenCode.{Extends}
use Rattle.wasm_sections.specs.Sections.{preamble, SectionAt, IsModule}
use Rattle.wasm_module.specs.ToldModules.{section_told, sections_told, module_told}
use Rattle.wasm_module.specs.WrittenModules.{BodyWriting, new_after, with_some_pairs, AreWritten, IsWrittenCode, IsWrittenFor, AreWrittenAt, IsWrittenModule}
use Rattle.wasm_module.specs.WrittenModules.IsWrittenFor.{code, replaced, carried_over, omitted}
use Rattle.wasm_module.proofs.CodeLemmas.{same_bodies}
use Rattle.wasm_module.proofs.KeptPairLemmas.{kept_with_then}

-- ---- one meaning for another

-- What is written for a later state of the module is written for the source too, if that holds of the code section.
module _ (v w : BodyWriting) (source now : ParsedModule) (x : Extends source now) (code_by : (s : SectionAt) (text : List ℕ) → IsWrittenCode v now s text → IsWrittenCode w source s text)
    (changes : NewSections) (left_out : OmittedSections) where
  section_by : (s : SectionAt) (text : List ℕ) → IsWrittenFor v now changes left_out s text → IsWrittenFor w source changes left_out s text
  section_by s text (code bodies contents i h m t) = code bodies contents i (code_by s bodies h) m t
  section_by s text (replaced contents i n h t) = replaced contents i n h t
  section_by s text (carried_over i n h t) = carried_over i n h t
  section_by s text (omitted h t) = omitted h t

  sections_by : (all ss : List SectionAt) (text : List ℕ) → AreWrittenAt v now changes left_out all ss text → AreWrittenAt w source changes left_out all ss text
  sections_by all [] text h = h
  sections_by all (s ∷ ss) text h = (
    h.0,
    h.1,
    h.2,
    record { own = h.3.own; is_written = section_by s h.3.own h.3.is_written; text_is = h.3.text_is; new_fit = h.3.new_fit },
    sections_by all ss h.1 h.4,
  )

  module_by : (new : List ℕ) → IsWrittenModule v now changes left_out new → IsWrittenModule w source changes left_out new
  module_by new h = record {
    sections = h.sections;
    is_module = subst (λ (l : List ℕ). IsModule l h.sections) x.bytes h.is_module;
    text = h.text;
    are_written = sections_by h.sections h.sections h.text h.are_written;
    new_is = h.new_is;
    first_fit = h.first_fit;
  }

-- What is written for a later state of the module is written for the source too, if that holds of each body.
module _ (v w : BodyWriting) (source now : ParsedModule) (x : Extends source now) (each : (f : ℕ) (b : BodyAt) (raw : List ℕ) (ps : List Pair) → v now f b raw ps → w source f b raw ps) where
  bodies_as : (f : ℕ) (bs : List BodyAt) (raws : List (List ℕ)) (pss : List (List Pair)) → AreWritten v now f bs raws pss → AreWritten w source f bs raws pss
  bodies_as f [] [] [] h = tt
  bodies_as f (b ∷ bs) (r ∷ raws) (ps ∷ pss) h = (each f b r ps h.0, bodies_as (f + 1) bs raws pss h.1)
  bodies_as f [] [] (ps ∷ pss) h = absurd h
  bodies_as f [] (r ∷ raws) pss h = absurd h
  bodies_as f (b ∷ bs) [] pss h = absurd h
  bodies_as f (b ∷ bs) (r ∷ raws) [] h = absurd h

  pub code_as : (s : SectionAt) (text : List ℕ) → IsWrittenCode v now s text → IsWrittenCode w source s text
  code_as s text h = record {
    bodies = h.bodies;
    are_bodies = h.are_bodies;
    are_all = h.are_all ∙ same_bodies source now x;
    raws = h.raws;
    pairs = h.pairs;
    are_written = subst (λ (n : ℕ). AreWritten w source n h.bodies h.raws h.pairs) x.imported (bodies_as now.imported h.bodies h.raws h.pairs h.are_written);
    few = h.few;
    fit = h.fit;
    code_is = h.code_is;
  }

  module _ (changes : NewSections) (left_out : OmittedSections) where
    module_as : (new : List ℕ) → IsWrittenModule v now changes left_out new → IsWrittenModule w source changes left_out new
    module_as = module_by v w source now x code_as changes left_out

    -- ---- the bodies that are told

    section_told_as :
        (place : ℕ) (s : SectionAt) (text : List ℕ) (h : IsWrittenFor v now changes left_out s text) →
        section_told w source changes left_out place s text (section_by v w source now x code_as changes left_out s text h) ≡ section_told v now changes left_out place s text h
    unfolding section_by code_as
    section_told_as place s text (code bodies contents i h m t) = refl
    section_told_as place s text (replaced contents i n h t) = refl
    section_told_as place s text (carried_over i n h t) = refl
    section_told_as place s text (omitted h t) = refl

    sections_told_as :
        (all : List SectionAt) (place : ℕ) (ss : List SectionAt) (text : List ℕ) (h : AreWrittenAt v now changes left_out all ss text) →
        sections_told w source changes left_out all place ss text (sections_by v w source now x code_as changes left_out all ss text h) ≡ sections_told v now changes left_out all place ss text h
    unfolding sections_by
    sections_told_as all place [] text h = refl
    sections_told_as all place (s ∷ ss) text h =
        let first = section_told_as place s h.3.own h.3.is_written in
        let others = sections_told_as all (place + length h.0) ss h.1 h.4 in
        λ i. first i ++ others i

    module_told_as :
        (new : List ℕ) (h : IsWrittenModule v now changes left_out new) → module_told w source changes left_out new (module_as new h) ≡ module_told v now changes left_out new h
    unfolding module_as module_by
    module_told_as new h = sections_told_as h.sections (length (preamble ++ new_after changes.given.items h.sections 0)) h.sections h.text h.are_written

    pub module_with :
        (new : List ℕ) (h : IsWrittenModule v now changes left_out new) →
        (m : IsWrittenModule w source changes left_out new) × (module_told w source changes left_out new m ≡ module_told v now changes left_out new h)
    module_with new h = (module_as new h, module_told_as new h)

-- ---- with other pairs

-- What is written for a later state of the module is written for the source with some pairs, if that holds of each body.
module _ (v w : BodyWriting) (source now : ParsedModule) (x : Extends source now) (each : (f : ℕ) (b : BodyAt) (raw : List ℕ) (ps : List Pair) → v now f b raw ps → with_some_pairs w source f b raw) where
  bodies_some : (f : ℕ) (bs : List BodyAt) (raws : List (List ℕ)) (pss : List (List Pair)) → AreWritten v now f bs raws pss → (found : List (List Pair)) × AreWritten w source f bs raws found
  bodies_some f [] [] [] h = ([], tt)
  bodies_some f (b ∷ bs) (r ∷ raws) (ps ∷ pss) h =
      let first = each f b r ps h.0 in
      let others = bodies_some (f + 1) bs raws pss h.1 in
      (first.0 ∷ others.0, (first.1, others.1))
  bodies_some f [] [] (ps ∷ pss) h = absurd h
  bodies_some f [] (r ∷ raws) pss h = absurd h
  bodies_some f (b ∷ bs) [] pss h = absurd h
  bodies_some f (b ∷ bs) (r ∷ raws) [] h = absurd h

  pub code_some : (s : SectionAt) (text : List ℕ) → IsWrittenCode v now s text → IsWrittenCode w source s text
  code_some s text h =
      let found = bodies_some now.imported h.bodies h.raws h.pairs h.are_written in
      record {
        bodies = h.bodies;
        are_bodies = h.are_bodies;
        are_all = h.are_all ∙ same_bodies source now x;
        raws = h.raws;
        pairs = found.0;
        are_written = subst (λ (n : ℕ). AreWritten w source n h.bodies h.raws found.0) x.imported found.1;
        few = h.few;
        fit = h.fit;
        code_is = h.code_is;
      }

-- the same source at a later state: nothing is said of it
kept_then : (kept : KeptBodies) (source now : ParsedModule) (f : ℕ) (b : BodyAt) (raw : List ℕ) → IsKept kept now f b raw → IsKept kept source f b raw
kept_then kept source now f b raw h = record { at = h.at; function_is = h.function_is; body_is = h.body_is; raw_is = h.raw_is }

-- Where what is kept was written in this way, and all others are: the code section and the module are written so.
module _ (w : BodyWriting) (source now : ParsedModule) (kept : KeptBodies) (x : Extends source now) (every : AreKeptAs (with_some_pairs w) source kept) (before : StaysWritten w source now) where
  either_written : (f : ℕ) (b : BodyAt) (raw : List ℕ) (ps : List Pair) → kept_or kept w now f b raw ps → with_some_pairs w source f b raw
  either_written f b raw ps (inl k) = every f b raw (kept_then kept source now f b raw k)
  either_written f b raw ps (inr h) = (ps, before f b raw ps h)

  pub kept_code_as : (s : SectionAt) (text : List ℕ) → IsWrittenCode (kept_or kept w) now s text → IsWrittenCode w source s text
  kept_code_as s text h = code_some (kept_or kept w) w source now x either_written s text h

  pub kept_module_as :
      (changes : NewSections) (left_out : OmittedSections) (new : List ℕ) → IsWrittenModule (kept_or kept w) now changes left_out new →
      IsWrittenModule w source changes left_out new
  kept_module_as changes left_out new h = module_by (kept_or kept w) w source now x kept_code_as changes left_out new h

-- Where what is kept with its pairs was written in this way: what is written as it is kept is written so.
pub as_kept :
    (w : BodyWriting) (source now : ParsedModule) (kept : KeptBodies) → AreKeptWithAs w source kept → (f : ℕ) (b : BodyAt) (raw : List ℕ) (ps : List Pair) → IsKeptWith kept now f b raw ps →
    w source f b raw ps
as_kept w source now kept every f b raw ps k = every f b raw ps (kept_with_then kept source now f b raw ps k)

-- Where all others are written in this way too: the module is written so, and the same bodies are told.
module _ (w : BodyWriting) (source now : ParsedModule) (kept : KeptBodies) (x : Extends source now) (every : AreKeptWithAs w source kept) (before : StaysWritten w source now) where
  pub either_with : (f : ℕ) (b : BodyAt) (raw : List ℕ) (ps : List Pair) → kept_with_or kept w now f b raw ps → w source f b raw ps
  either_with f b raw ps (inl k) = as_kept w source now kept every f b raw ps k
  either_with f b raw ps (inr h) = before f b raw ps h

  pub kept_module_with :
      (changes : NewSections) (left_out : OmittedSections) (new : List ℕ) (h : IsWrittenModule (kept_with_or kept w) now changes left_out new) →
      (v : IsWrittenModule w source changes left_out new) × (module_told w source changes left_out new v ≡ module_told (kept_with_or kept w) now changes left_out new h)
  kept_module_with changes left_out new h = module_with (kept_with_or kept w) w source now x either_with changes left_out new h

-- ---- of a result

pub if_pair : {A E : Type 0} (P Q : A → Type 0) (r : Result A E) → IfOk r P → IfOk r Q → IfOk r (λ x. P x × Q x)
if_pair P Q (Ok x) p q = (p, q)
if_pair P Q (Err e) p q = tt

pub if_both : {A E X : Type 0} {P Q : A → Type 0} (r : Result A E) → OnOk r X → IfOk r P → ((a : A) → X → P a → Q a) → IfOk r Q
if_both (Ok a) x p f = f a x p
if_both (Err e) x p f = tt
