-- The module that is written, one section after the other.
use Rattle.std.proofs.Common.{◌≡◌, ℕ, ◌+◌, Bool, List, [], ◌∷◌, ◌++◌, length, Option, Some, None, Result, Ok, refl, sym, ap, subst, ◌∙◌, append_assoc, length-append, arith}
use Rattle.std.proofs.lemmas.List.{append-nil}
use Rattle.wasm_sections.specs.declared.fault.ModuleError.{ModuleError}
use Rattle.wasm_module.specs.declared.parsed.ParsedModule.{ParsedModule}
use Rattle.wasm_sections.specs.declared.sections.Section.{Section}
use Rattle.wasm_sections.specs.declared.sections.Sections.{Sections}
use Rattle.wasm_sections.specs.Sections.{preamble, SectionAt, BeginsSection, AreSections, IsModule, section_at, TakesSection}
use Rattle.wasm_sections.specs.declared.changes.Changes.{Changes}
use Rattle.wasm_sections.specs.declared.omissions.OmittedSections.{OmittedSections}
use Rattle.wasm_module.specs.ToldBodies.{ToldBody, IsTold}
use Rattle.wasm_module.specs.ToldModules.{section_told, sections_told, PutsWithNew, PutsModule}
use Rattle.wasm_module.specs.WrittenModules.{Puts, BodyWriting, new_after, NewFitAfter, IsWrittenAt, AreWrittenAt}
use Rattle.wasm_module.proofs.ToldLemmas.{told_then}
use Rattle.wasm_module.proofs.WritingLemmas.{puts_then, puts_same}

-- ---- one more after others

-- these sections come first, and then the bytes that are left
abbrev pub ComeFirst : (end : ℕ) → (text : List ℕ) → List SectionAt → (left : List ℕ) → Type 0
ComeFirst end text [] left = text ≡ left
ComeFirst end text (s ∷ ss) left = (following : List ℕ) × BeginsSection end text s following × ComeFirst end following ss left

come_more :
    (end : ℕ) (text : List ℕ) (ss : List SectionAt) (left : List ℕ) (s : SectionAt) (following : List ℕ) → ComeFirst end text ss left → BeginsSection end left s following →
    ComeFirst end text (ss ++ s ∷ []) following
come_more end text [] left s following h b = (following, subst (λ (l : List ℕ). BeginsSection end l s following) (sym h) b, refl)
come_more end text (a ∷ ss) left s following h b = (h.0, h.1, come_more end h.0 ss left s following h.2 b)

come_alone : (end : ℕ) (text : List ℕ) (ss : List SectionAt) (left : List ℕ) → ComeFirst end text ss left → left ≡ [] → AreSections end text ss
come_alone end text [] left h e = h ∙ e
come_alone end text (s ∷ ss) left h e = (h.0, h.1, come_alone end h.0 ss left h.2 e)

module _ (writes : BodyWriting) (source : ParsedModule) (changes : Changes) (left_out : OmittedSections) (all : List SectionAt) where
  written_more :
      (ss : List SectionAt) (text : List ℕ) (s : SectionAt) (more : List ℕ) → AreWrittenAt writes source changes left_out all ss text →
      IsWrittenAt writes source changes left_out all s more → AreWrittenAt writes source changes left_out all (ss ++ s ∷ []) (text ++ more)
  written_more [] text s more h w = (more, [], ap (λ (l : List ℕ). l ++ more) h ∙ sym (append-nil more), w, refl)
  written_more (a ∷ ss) text s more h w =
      (h.0, h.1 ++ more, ap (λ (l : List ℕ). l ++ more) h.2 ∙ append_assoc h.0 h.1 more, h.3, written_more ss h.1 s more h.4 w)

  -- the bodies of the last section are told where the others end
  told_more :
      (ss : List SectionAt) (text : List ℕ) (s : SectionAt) (more : List ℕ) (h : AreWrittenAt writes source changes left_out all ss text) (w : IsWrittenAt writes source changes left_out all s more)
      (place here : ℕ) → here ≡ place + length text →
      sections_told writes source changes left_out all place (ss ++ s ∷ []) (text ++ more) (written_more ss text s more h w)
      ≡ sections_told writes source changes left_out all place ss text h ++ section_told writes source changes left_out here s w.own w.is_written
  unfolding written_more
  told_more [] text s more h w place here e =
      let same : place ≡ here = let none : length text ≡ 0 = ap (λ (l : List ℕ). length l) h in omega arith in
      append-nil (section_told writes source changes left_out place s w.own w.is_written)
      ∙ ap (λ (n : ℕ). section_told writes source changes left_out n s w.own w.is_written) same
  told_more (a ∷ ss) text s more h w place here e =
      let next : here ≡ place + length h.0 + length h.1 =
      let all = ap (λ (l : List ℕ). length l) h.2 in let len = length-append h.0 h.1 in omega arith in
      let first = section_told writes source changes left_out place a h.3.own h.3.is_written in
      ap (λ (l : List ToldBody). first ++ l) (told_more ss h.1 s more h.4 w (place + length h.0) here next)
      ∙ sym (append_assoc first (sections_told writes source changes left_out all (place + length h.0) ss h.1 h.4) (section_told writes source changes left_out here s w.own w.is_written))

-- ---- the first sections are written

-- The sections before those that are left are these.
pub record ReadSoFar (stop : ℕ) (text : List ℕ) (left : Sections) (ss : List SectionAt) : Type 0 where
  pub come_first : ComeFirst stop text ss left.left.rest.now
  pub stop_is : left.left.end ≡ stop

module _ (writes : BodyWriting) (source : ParsedModule) {L : Type 0} (records : L → L → ToldBody → Type 0) (needs : L → Bool) (changes : Changes) (left_out : OmittedSections) where
  -- These first sections are written in a module of these sections, and a listener was told of their bodies.
  pub record WrittenSoFar (all ss : List SectionAt) (old now : Option (List ℕ)) (at end : ℕ) (before after : L) : Type 0 where
    pub new : List ℕ
    pub are_written : AreWrittenAt writes source changes left_out all ss new
    pub puts : Puts old now at end (preamble ++ (new_after changes.given.items all 0 ++ new))
    pub told :
        IsTold records needs before (sections_told writes source changes left_out all (at + length (preamble ++ new_after changes.given.items all 0)) ss new are_written) after

  -- Of the text after the preamble, which ends at this place, the sections before those that are left are written.
  pub record ModuleSoFar (stop : ℕ) (text : List ℕ) (left : Sections) (old now : Option (List ℕ)) (at end : ℕ) (before after : L) : Type 0 where
    pub sections : List SectionAt
    pub are_read : ReadSoFar stop text left sections
    pub written : (all : List SectionAt) → IsModule source.bytes.now all → WrittenSoFar all sections old now at end before after
    pub first_fit : (all : List SectionAt) → IsModule source.bytes.now all → NewFitAfter changes.given.items all 0

  pub no_sections :
      (stop : ℕ) (text : List ℕ) (left : Sections) (old middle now : Option (List ℕ)) (at begin end : ℕ) (front : List ℕ) (s : L) → left.left.rest.now ≡ text → left.left.end ≡ stop →
      front ≡ preamble → Puts old middle at begin front →
      ((all : List SectionAt) → IsModule source.bytes.now all → Puts middle now begin end (new_after changes.given.items all 0)) →
      ((all : List SectionAt) → IsModule source.bytes.now all → NewFitAfter changes.given.items all 0) → ModuleSoFar stop text left old now at end s s
  no_sections stop text left old middle now at begin end front s t e f p q fit = record {
    first_fit = fit;
    sections = [];
    are_read = record { come_first = sym t; stop_is = e };
    written = λ all m.
        let both = puts_then old middle now at begin end preamble (new_after changes.given.items all 0) (puts_same old middle at begin front preamble f p) (q all m) in
        record {
          new = [];
          are_written = refl;
          puts = puts_same old now at end (preamble ++ new_after changes.given.items all 0) (preamble ++ (new_after changes.given.items all 0 ++ [])) (ap (λ (l : List ℕ). preamble ++ l) (sym (append-nil (new_after changes.given.items all 0)))) both;
          told = refl;
        };
  }

  one_more_written :
      (all ss : List SectionAt) (s : SectionAt) (old now later : Option (List ℕ)) (at middle end : ℕ) (before between after : L) →
      WrittenSoFar all ss old now at middle before between → PutsWithNew writes source records needs changes left_out all s now later middle end between after →
      WrittenSoFar all (ss ++ s ∷ []) old later at end before after
  one_more_written all ss s old now later at middle end before between after w q =
      let front = new_after changes.given.items all 0 in
      let parts : (preamble ++ (front ++ w.new)) ++ q.text ≡ preamble ++ (front ++ (w.new ++ q.text)) =
      append_assoc preamble (front ++ w.new) q.text ∙ ap (λ (l : List ℕ). preamble ++ l) (append_assoc front w.new q.text) in
      let here : middle ≡ at + length (preamble ++ front) + length w.new =
      let e = w.puts.end_is in
      let first = length-append preamble (front ++ w.new) in
      let second = length-append front w.new in
      let third = length-append preamble front in
      omega arith in
      let place = at + length (preamble ++ front) in
      let list = told_more writes source changes left_out all ss w.new s q.text w.are_written q.is_written place middle here in
      record {
        new = w.new ++ q.text;
        are_written = written_more writes source changes left_out all ss w.new s q.text w.are_written q.is_written;
        puts = puts_same old later at end ((preamble ++ (front ++ w.new)) ++ q.text) (preamble ++ (front ++ (w.new ++ q.text))) parts
            (puts_then old now later at middle end (preamble ++ (front ++ w.new)) q.text w.puts q.puts);
        told = subst (λ (l : List ToldBody). IsTold records needs before l after) (sym list)
            (told_then records needs before (sections_told writes source changes left_out all place ss w.new w.are_written) between (section_told writes source changes left_out middle s q.is_written.own q.is_written.is_written) after w.told q.told);
      }

  pub one_more_section :
      (stop : ℕ) (text : List ℕ) (s t : Sections) (r : Option (Result Section ModuleError)) (x : Section) (old now later : Option (List ℕ)) (at middle end : ℕ) (before between after : L) →
      ModuleSoFar stop text s old now at middle before between → r ≡ Some (Ok x) → TakesSection s r t →
      ((all : List SectionAt) → IsModule source.bytes.now all → PutsWithNew writes source records needs changes left_out all (section_at x) now later middle end between after) →
      ModuleSoFar stop text t old later at end before after
  one_more_section stop text s t r x old now later at middle end before between after p i takes q =
      let taken : TakesSection s (Some (Ok x)) t = subst (λ (o : Option (Result Section ModuleError)). TakesSection s o t) i takes in
      let begins = subst (λ (n : ℕ). BeginsSection n s.left.rest.now (section_at x) t.left.rest.now) p.are_read.stop_is taken.0 in
      record {
        first_fit = p.first_fit;
        sections = p.sections ++ section_at x ∷ [];
        are_read = record {
          come_first = come_more stop text p.sections s.left.rest.now (section_at x) t.left.rest.now p.are_read.come_first begins;
          stop_is = taken.1 ∙ p.are_read.stop_is;
        };
        written = λ all m. one_more_written all p.sections (section_at x) old now later at middle end before between after (p.written all m) (q all m);
      }

  pub all_sections :
      (file text : List ℕ) (s t : Sections) (r : Option (Result Section ModuleError)) (old now : Option (List ℕ)) (end : ℕ) (before after : L) → file ≡ source.bytes.now →
      file ≡ preamble ++ text → ModuleSoFar (length file) text s old now 0 end before after → r ≡ None → TakesSection s r t →
      PutsModule writes source records needs changes left_out old now before after
  all_sections file text s t r old now end before after f e p i takes =
      let none : TakesSection s None t = subst (λ (o : Option (Result Section ModuleError)). TakesSection s o t) i takes in
      let is_module : IsModule file p.sections = (text, e, come_alone (length file) text p.sections s.left.rest.now p.are_read.come_first none) in
      let here = subst (λ (l : List ℕ). IsModule l p.sections) f is_module in
      let w = p.written p.sections here in
      let front = preamble ++ new_after changes.given.items p.sections 0 in
      let place : 0 + length front ≡ length front = omega arith in
      record {
        bytes = preamble ++ (new_after changes.given.items p.sections 0 ++ w.new);
        is_written = record {
          sections = p.sections;
          is_module = here;
          text = w.new;
          are_written = w.are_written;
          new_is = refl;
          first_fit = p.first_fit p.sections here;
        };
        appends = w.puts.appends;
        told = subst (λ (n : ℕ). IsTold records needs before (sections_told writes source changes left_out p.sections n p.sections w.new w.are_written) after) place w.told;
      }
