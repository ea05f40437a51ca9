-- A module that was written, read again, is written with the same sections.
use Rattle.std.proofs.Common.{◌≡◌, ◌-◌, ℕ, List, [], ◌∷◌, ◌++◌, length, Some, None, refl, sym, ap, ◌∙◌, subst, append_assoc}
use Rattle.std.proofs.lemmas.List.{append-nil, append_cancel_right}
use Rattle.wasm_numbers.specs.Numbers.{u32, unsigned}
use Rattle.wasm_operators.specs.Shortest.{short_number}
use Rattle.wasm_sections.specs.declared.changes.Changes.{Changes}
use Rattle.wasm_sections.specs.declared.changes.NewContents.{NewContents}
use Rattle.wasm_sections.specs.declared.omissions.OmittedSections.{OmittedSections}
use Rattle.wasm_sections.specs.GivenContents.{contents_in, bodies_or_none, added_bodies}
use Rattle.wasm_sections.specs.Omissions.{OmitsNothing}
use Rattle.wasm_sections.specs.Sections.{preamble, section, SectionAt, BeginsSection, AreSections, IsModule, Each, rank}
use Rattle.wasm_sections.proofs.NumberLemmas.{number_again, short_read}
use Rattle.wasm_module.specs.declared.parsed.ParsedModule.{ParsedModule}
use Rattle.wasm_module.specs.ReadAgain.{HasUnchangedCode, IsWrittenAlikeFor, AreWrittenAlike, IsWrittenAlike, HasNoFollowers}
use Rattle.wasm_module.specs.ReadAgain.IsWrittenAlikeFor.{unchanged, renewed}
use Rattle.wasm_module.specs.RewrittenCode.{IsRewrittenWith}
use Rattle.wasm_module.specs.WrittenModules.{FitsSize, HasFollowedName, new_after, new_after_section, HasItemsOf, IsWrittenCode, IsWrittenFor, IsWrittenAt, AreWrittenAt, IsWrittenModule}
use Rattle.wasm_module.specs.WrittenModules.IsReplacedBy.{followed, given_so}
use Rattle.wasm_module.specs.WrittenModules.IsWrittenFor.{code, replaced, carried_over, omitted}
use Rattle.wasm_module.proofs.ModuleLawLemmas.{split_two, same_section}
use Rattle.wasm_module.proofs.SameModuleLemmas.{nothing_after, code_alone}

-- ---- sections that a text begins with

-- a section of another file, whatever follows it
pub begins_again :
    (end end' : ℕ) (text : List ℕ) (s : SectionAt) (following others : List ℕ) → BeginsSection end text s following →
    BeginsSection end' (s.whole ++ others) (record s { end = end' - length others }) others
begins_again end end' text s following others begins =
    let front = number_again unsigned 32 begins.sized (length s.contents) (s.contents ++ following) begins.size_is in
    let parts : s.whole ++ following ≡ (s.id ∷ (front.front ++ s.contents)) ++ following =
    sym begins.whole_is ∙ (begins.id_is ∙ ap (λ (l : List ℕ). s.id ∷ l) (front.parts ∙ sym (append_assoc front.front s.contents following))) in
    record {
      sized = (front.front ++ s.contents) ++ others;
      id_is = ap (λ (l : List ℕ). l ++ others) (append_cancel_right s.whole (s.id ∷ (front.front ++ s.contents)) following parts);
      size_is = ap u32 (append_assoc front.front s.contents others) ∙ front.again (s.contents ++ others);
      end_is = refl;
      whole_is = refl;
    }

-- a section that is written
abbrev pub written_at : (end id : ℕ) (contents others : List ℕ) → SectionAt
written_at end id contents others = record { id = id; contents = contents; end = end - length others; whole = section id contents }

pub begins_new : (end id : ℕ) (contents others : List ℕ) → FitsSize contents → BeginsSection end (section id contents ++ others) (written_at end id contents others) others
begins_new end id contents others fits = record {
  sized = (short_number (length contents) ++ contents) ++ others;
  id_is = refl;
  size_is = ap u32 (append_assoc (short_number (length contents)) contents others) ∙ short_read (length contents) (contents ++ others) fits;
  end_is = refl;
  whole_is = refl;
}

-- The text begins with this section, and the others follow.
abbrev Begins : (end : ℕ) (text first others : List ℕ) (t : SectionAt) → Type 0
Begins end text first others t = (text ≡ first ++ others) × BeginsSection end (first ++ others) t others

-- so its sections are this one, and those of the others
next_section :
    (end : ℕ) (text first others : List ℕ) (t : SectionAt) (ss : List SectionAt) → Begins end text first others t → AreSections end text ss →
    (rest : List SectionAt) × (ss ≡ t ∷ rest) × AreSections end others rest
next_section end text first others t [] b h = absurd (let no = sym h ∙ (b.0 ∙ b.1.id_is) in cc)
next_section end text first others t (s ∷ ss) b h =
    let same = same_section end text s t h.0 others h.1 (subst (λ l. BeginsSection end l t others) (sym b.0) b.1) in
    (ss, ap (λ x. x ∷ ss) same.0, subst (λ l. AreSections end l ss) same.1 h.2)

-- ---- where nothing is given, each section is written by itself

module _ (module' : ParsedModule) (changes : Changes) (omits : OmittedSections) (none : changes.given.items ≡ []) where
  alone : (all : List SectionAt) (s : SectionAt) (text : List ℕ) → IsWrittenAt IsRewrittenWith module' changes omits all s text → IsWrittenFor IsRewrittenWith module' changes omits s text
  alone all s text h =
      let after : new_after_section changes.given.items all (rank s.id) ≡ [] =
      ap (λ (given : List NewContents). new_after_section given all (rank s.id)) none ∙ nothing_after all (rank s.id) in
      let own : text ≡ h.own = h.text_is ∙ (ap (λ (l : List ℕ). h.own ++ l) after ∙ append-nil h.own) in
      subst (λ l. IsWrittenFor IsRewrittenWith module' changes omits s l) (sym own) h.is_written

  no_more_bodies : (s : SectionAt) (bodies contents : List ℕ) → IsWrittenCode IsRewrittenWith module' s bodies → HasItemsOf bodies (added_bodies changes) contents → contents ≡ bodies
  no_more_bodies s bodies contents w items =
      code_alone w.raws bodies (added_bodies changes) contents w.few w.code_is (ap (λ (given : List NewContents). bodies_or_none (contents_in given 10)) none) items ∙ sym w.code_is

  nothing_given : (s : SectionAt) (contents : List ℕ) → contents_in changes.given.items s.id ≡ Some contents → ⊥
  nothing_given s contents given = let no : None ≡ Some contents = ap (λ (l : List NewContents). contents_in l s.id) (sym none) ∙ given in cc

  text_is : (new : List ℕ) (w : IsWrittenModule IsRewrittenWith module' changes omits new) → new ≡ preamble ++ w.text
  text_is new w =
      w.new_is ∙ ap (λ (l : List ℕ). preamble ++ (l ++ w.text)) (ap (λ (given : List NewContents). new_after given w.sections 0) none ∙ nothing_after w.sections 0)

-- ---- the code section of what was written

-- It has its size in the shortest encoding, and the bodies of the source as they are written.
record IsWrittenFrom (source : ParsedModule) (t : SectionAt) : Type 0 where
  s : SectionAt
  code : List ℕ
  written : IsWrittenCode IsRewrittenWith source s code
  contents : t.contents ≡ code
  whole : t.whole ≡ section 10 code

module _ (source : ParsedModule) (changes : Changes) (omits : OmittedSections) (none : changes.given.items ≡ []) where
  abbrev IfCode : SectionAt → Type 0
  IfCode t = t.id ≡ 10 → IsWrittenFrom source t

  -- what is written for a section is nothing, or a section
  data Wrote (end : ℕ) (first others : List ℕ) : Type 0 where
    nothing : first ≡ [] → Wrote end first others
    one : (t : SectionAt) → BeginsSection end (first ++ others) t others → IfCode t → Wrote end first others

  wrote :
      (end0 end : ℕ) (text0 following0 first others : List ℕ) (s : SectionAt) → BeginsSection end0 text0 s following0 → IsWrittenFor IsRewrittenWith source changes omits s first →
      Wrote end first others
  wrote end0 end text0 following0 first others s begins (omitted h parts) = nothing parts
  wrote end0 end text0 following0 first others s begins (code bodies contents is w items parts) =
      let same = no_more_bodies source changes omits none s bodies contents w items in
      one (written_at end 10 contents others) (subst (λ l. BeginsSection end (l ++ others) (written_at end 10 contents others) others) (sym parts.1) (begins_new end 10 contents others parts.0))
      (λ is. record { s = s; code = bodies; written = w; contents = same; whole = ap (section 10) same })
  wrote end0 end text0 following0 first others s begins (replaced contents other kept r parts) =
      one (written_at end s.id contents others) (subst (λ l. BeginsSection end (l ++ others) (written_at end s.id contents others) others) (sym parts.1) (begins_new end s.id contents others parts.0))
      (λ is. absurd (other is))
  wrote end0 end text0 following0 first others s begins (carried_over other kept carried parts) =
      let t : SectionAt = record s { end = end - length others } in
      one t (subst (λ l. BeginsSection end (l ++ others) t others) (sym parts) (begins_again end0 end text0 s following0 others begins)) (λ is. absurd (other is))

  code_sections :
      (all ss ts : List SectionAt) (end0 end : ℕ) (text0 text : List ℕ) → AreSections end0 text0 ss → AreWrittenAt IsRewrittenWith source changes omits all ss text → AreSections end text ts →
      Each IfCode ts
  code_sections all [] [] end0 end text0 text old h new = tt
  code_sections all [] (t ∷ ts) end0 end text0 text old h new = absurd (let no = sym h ∙ new.1.id_is in cc)
  code_sections all (s ∷ ss) ts end0 end text0 text old h new =
      elim (wrote end0 end text0 old.0 h.0 h.1 s old.1 (alone source changes omits none all s h.0 h.3)) [
        | nothing is ↦ code_sections all ss ts end0 end old.0 h.1 old.2 h.4 (subst (λ l. AreSections end l ts) (h.2 ∙ ap (λ l. l ++ h.1) is) new)
        | one t begins known ↦
            let next = next_section end text h.0 h.1 t ts (h.2, begins) new in
            subst (λ l. Each IfCode l) (sym next.1) (known, code_sections all ss next.0 end0 end old.0 h.1 old.2 h.4 next.2)
      ]

-- ---- what is written of it again

module _
    (source again : ParsedModule) (unchanged_code : HasUnchangedCode source again) (changes : Changes) (omits : OmittedSections) (none : changes.given.items ≡ []) (all_kept : OmitsNothing omits) where
  one_alike : (s : SectionAt) (text : List ℕ) → (s.id ≡ 10 → IsWrittenFrom source s) → IsWrittenFor IsRewrittenWith again changes omits s text → IsWrittenAlikeFor s text
  one_alike s text from (code bodies contents is w items parts) =
      let f = from is in
      let same = no_more_bodies again changes omits none s bodies contents w items ∙ unchanged_code f.s s f.code bodies f.written f.contents w in
      unchanged (parts.1 ∙ (ap (section 10) same ∙ sym f.whole))
  one_alike s text from (replaced contents other kept (followed custom named same) parts) = renewed contents custom named same parts
  one_alike s text from (replaced contents other kept (given_so some given) parts) = absurd (nothing_given again changes omits none s contents given)
  one_alike s text from (carried_over other kept carried parts) = unchanged parts
  one_alike s text from (omitted h parts) = absurd (let kept = all_kept h.name in let chosen = h.is_chosen in cc)

  all_alike : (all ss : List SectionAt) (text : List ℕ) → Each (λ s. s.id ≡ 10 → IsWrittenFrom source s) ss → AreWrittenAt IsRewrittenWith again changes omits all ss text → AreWrittenAlike ss text
  all_alike all [] text from h = h
  all_alike all (s ∷ ss) text from h =
      (h.0, h.1, h.2, one_alike s h.0 from.0 (alone again changes omits none all s h.0 h.3), all_alike all ss h.1 from.1 h.4)

pub written_again :
    (source again : ParsedModule) (unchanged_code : HasUnchangedCode source again) (changes changes' : Changes) (omits omits' : OmittedSections) (new new' : List ℕ) →
    changes.given.items ≡ [] → IsWrittenModule IsRewrittenWith source changes omits new → again.bytes.now ≡ new → changes'.given.items ≡ [] → OmitsNothing omits' →
    IsWrittenModule IsRewrittenWith again changes' omits' new' → IsWrittenAlike new new'
written_again source again unchanged_code changes changes' omits omits' new new' none w is none' kept v =
    let read : IsModule new v.sections = subst (λ l. IsModule l v.sections) is v.is_module in
    let texts : read.0 ≡ w.text = split_two preamble preamble read.0 w.text refl (sym read.1 ∙ text_is source changes omits none new w) in
    let from = code_sections source changes omits none w.sections w.sections v.sections (length source.bytes.now) (length new) w.is_module.0 read.0 w.is_module.2
    (subst (λ l. AreWrittenAt IsRewrittenWith source changes omits w.sections w.sections l) (sym texts) w.are_written) read.2 in
    record {
      sections = v.sections;
      is_module = read;
      text = v.text;
      are_alike = all_alike source again unchanged_code changes' omits' none' kept v.sections v.sections v.text from v.are_written;
      new_is = text_is again changes' omits' none' new' v;
    }

-- ---- where no custom section is changed, it is the same module

same_text :
    (end : ℕ) (ss : List SectionAt) (old text : List ℕ) → AreSections end old ss → AreWrittenAlike ss text → Each (λ s. s.id ≡ 0 → HasFollowedName s.contents → ⊥) ss → text ≡ old
same_text end [] old text h alike none = alike ∙ sym h
same_text end (s ∷ ss) old text h alike none =
    elim alike.3 [
      | unchanged is ↦ alike.2 ∙ ((λ i. is i ++ same_text end ss h.0 alike.1 h.2 alike.4 none.1 i) ∙ sym h.1.whole_is)
      | renewed contents custom named same parts ↦ absurd (none.0 custom named)
    ]

pub same_module : (old new : List ℕ) → IsWrittenAlike old new → HasNoFollowers old → new ≡ old
same_module old new w none =
    let m = w.is_module in
    w.new_is ∙ (ap (λ (l : List ℕ). preamble ++ l) (same_text (length old) w.sections m.0 w.text m.2 w.are_alike (none w.sections m)) ∙ sym m.1)
