-- The sections of a module that is written; and what sections spell that are read one after the other.
use Rattle.std.proofs.Common.{◌≡◌, ◌-◌, ◌<◌, ◌^◌, ℕ, zero, suc, List, [], ◌∷◌, ◌++◌, length, map, true, false, cond, if◌then◌else◌, refl, sym, ap, ◌∙◌, subst, append_assoc}
use Rattle.std.specs.Prelude.{filter}
use Rattle.wasm_sections.specs.declared.changes.Changes.{Changes}
use Rattle.wasm_sections.specs.declared.changes.NewContents.{NewContents}
use Rattle.wasm_sections.specs.declared.omissions.OmittedSections.{OmittedSections}
use Rattle.wasm_sections.specs.Sections.{section, section_id, SectionAt, BeginsSection, AreSections, rank, next_rank}
use Rattle.wasm_module.specs.declared.parsed.ParsedModule.{ParsedModule}
use Rattle.wasm_module.specs.WrittenModules.{is_between, between, FitBetween, new_after_section, NewFitAfterSection, BodyWriting, IsWrittenFor, AreWrittenAt, IsWrittenModule}
use Rattle.wasm_module.specs.WrittenModules.IsWrittenFor.{code, replaced, carried_over, omitted}
use Rattle.wasm_module.specs.WrittenSections.{IdAndContents, id_and_contents, given_section, given_between, given_after_section, BecomesSections, BecomeSections, HasWrittenSections}
use Rattle.wasm_module.specs.WrittenSections.BecomesSections.{code as becomes_code, replaced as becomes_replaced, carried_over as becomes_carried_over, omitted as becomes_omitted}
use Rattle.wasm_module.proofs.Again.Modules.{begins_again, written_at, begins_new}

-- sections that a text is, by their ids and contents
record Spelled (end : ℕ) (text : List ℕ) (cs : List IdAndContents) : Type 0 where
  sections : List SectionAt
  are : AreSections end text sections
  contents : map id_and_contents sections ≡ cs

-- one more in front
one_more : (end : ℕ) (first others : List ℕ) (t : SectionAt) (cs : List IdAndContents) → BeginsSection end (first ++ others) t others → Spelled end others cs → Spelled end (first ++ others) (id_and_contents t ∷ cs)
one_more end first others t cs begins h = record { sections = t ∷ h.sections; are = (others, begins, h.are); contents = ap (λ l. id_and_contents t ∷ l) h.contents }

-- ---- given sections

given_spelled :
    (first second end : ℕ) (given : List NewContents) (others : List ℕ) (cs : List IdAndContents) → FitBetween first second given → Spelled end others cs →
    Spelled end (between first second given ++ others) (given_between first second given ++ cs)
given_spelled first second end [] others cs fits h = h
given_spelled first second end (g ∷ gs) others cs fits h =
    let id : ℕ = section_id g.kind in
    let contents : List ℕ = g.contents.items in
    let after : List NewContents = filter (is_between first second) gs in
    let rest = given_spelled first second end gs others cs fits.1 h in
    elim (is_between first second g) as (λ b. (b ≡ true → length contents < 2 ^ 32) → Spelled end ((if b then section id contents ++ between first second gs else between first second gs) ++ others) (map given_section (cond b (g ∷ after) after) ++ cs)) [
      | true ↦ λ fit.
          subst (λ l. Spelled end l ((id, contents) ∷ (given_between first second gs ++ cs))) (sym (append_assoc (section id contents) (between first second gs) others))
          (one_more end (section id contents) (between first second gs ++ others) (written_at end id contents (between first second gs ++ others)) (given_between first second gs ++ cs)
          (begins_new end id contents (between first second gs ++ others) (fit refl)) rest)
      | false ↦ λ fit. rest
    ] fits.0

after_spelled :
    (end rank : ℕ) (given : List NewContents) (all : List SectionAt) (others : List ℕ) (cs : List IdAndContents) → NewFitAfterSection given all rank → Spelled end others cs →
    Spelled end (new_after_section given all rank ++ others) (given_after_section given all rank ++ cs)
after_spelled end zero given all others cs fits h = h
after_spelled end (suc r) given all others cs fits h = given_spelled (suc r) (next_rank (suc r) all) end given others cs fits h

-- ---- sections of the source

module _ (writes : BodyWriting) (source : ParsedModule) (changes : Changes) (omits : OmittedSections) where
  -- what becomes of a section, before others
  record Became (end : ℕ) (s : SectionAt) (first others : List ℕ) (cs : List IdAndContents) : Type 0 where
    own : List IdAndContents
    becomes : BecomesSections writes source changes omits s own
    spelled : Spelled end (first ++ others) (own ++ cs)

  became :
      (end0 end : ℕ) (text0 following0 first others : List ℕ) (s : SectionAt) (cs : List IdAndContents) → BeginsSection end0 text0 s following0 →
      IsWrittenFor writes source changes omits s first → Spelled end others cs → Became end s first others cs
  became end0 end text0 following0 first others s cs begins (omitted h parts) rest = record {
    own = [];
    becomes = becomes_omitted h refl;
    spelled = subst (λ l. Spelled end (l ++ others) cs) (sym parts) rest;
  }
  became end0 end text0 following0 first others s cs begins (code bodies contents is w items parts) rest = record {
    own = (10, contents) ∷ [];
    becomes = becomes_code bodies contents is w items refl;
    spelled =
        subst (λ l. Spelled end (l ++ others) ((10, contents) ∷ cs)) (sym parts.1)
        (one_more end (section 10 contents) others (written_at end 10 contents others) cs (begins_new end 10 contents others parts.0) rest);
  }
  became end0 end text0 following0 first others s cs begins (replaced contents other kept r parts) rest = record {
    own = (s.id, contents) ∷ [];
    becomes = becomes_replaced contents other r refl;
    spelled =
        subst (λ l. Spelled end (l ++ others) ((s.id, contents) ∷ cs)) (sym parts.1)
        (one_more end (section s.id contents) others (written_at end s.id contents others) cs (begins_new end s.id contents others parts.0) rest);
  }
  became end0 end text0 following0 first others s cs begins (carried_over other kept carried parts) rest = record {
    own = id_and_contents s ∷ [];
    becomes = becomes_carried_over other carried refl;
    spelled =
        subst (λ l. Spelled end (l ++ others) (id_and_contents s ∷ cs)) (sym parts)
        (one_more end s.whole others (record s { end = end - length others }) cs (begins_again end0 end text0 s following0 others begins) rest);
  }

  record AllBecame (end : ℕ) (all ss : List SectionAt) (text : List ℕ) : Type 0 where
    cs : List IdAndContents
    become : BecomeSections writes source changes omits all ss cs
    spelled : Spelled end text cs

  all_became :
      (all ss : List SectionAt) (end0 end : ℕ) (text0 text : List ℕ) → AreSections end0 text0 ss → AreWrittenAt writes source changes omits all ss text → AllBecame end all ss text
  all_became all [] end0 end text0 text old h = record { cs = []; become = refl; spelled = record { sections = []; are = h; contents = refl } }
  all_became all (s ∷ ss) end0 end text0 text old h =
      let others = all_became all ss end0 end old.0 h.1 old.2 h.4 in
      let new = new_after_section changes.given.items all (rank s.id) in
      let given = given_after_section changes.given.items all (rank s.id) in
      let after = after_spelled end (rank s.id) changes.given.items all h.1 others.cs h.3.new_fit others.spelled in
      let first = became end0 end text0 old.0 h.3.own (new ++ h.1) s (given ++ others.cs) old.1 h.3.is_written after in
      let parts : text ≡ h.3.own ++ (new ++ h.1) = h.2 ∙ (ap (λ l. l ++ h.1) h.3.text_is ∙ append_assoc h.3.own new h.1) in
      record {
        cs = first.own ++ (given ++ others.cs);
        become = (first.own, others.cs, refl, first.becomes, others.become);
        spelled = subst (λ l. Spelled end l (first.own ++ (given ++ others.cs))) (sym parts) first.spelled;
      }

  pub written_sections : (new : List ℕ) → IsWrittenModule writes source changes omits new → HasWrittenSections writes source changes omits new
  written_sections new w =
      let m = w.is_module in
      let first = next_rank 0 w.sections in
      let all = all_became w.sections w.sections (length source.bytes.now) (length new) m.0 w.text m.2 w.are_written in
      let whole = given_spelled 0 first (length new) changes.given.items w.text all.cs w.first_fit all.spelled in
      record {
        old = w.sections;
        is_source = m;
        sections = whole.sections;
        is_module = (between 0 first changes.given.items ++ w.text, w.new_is, whole.are);
        others = all.cs;
        become = all.become;
        are = whole.contents;
      }
