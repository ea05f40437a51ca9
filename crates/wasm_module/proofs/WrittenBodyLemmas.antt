-- The bodies of a module that is read from what was written: those of the source, each as it is written, and then those that are added.
use Rattle.std.proofs.Common.{◌≡◌, ◌⊎◌, ◌==◌, ◌+◌, ◌<◌, ◌^◌, ℕ, List, [], ◌∷◌, ◌++◌, length, map, true, Option, Some, None, MatchOption, Ok, refl, sym, ap, ◌∙◌, subst, inl, inr, arith, append_assoc}
use Rattle.std.specs.List.{AllByRecursion}
use Rattle.wasm_numbers.specs.Numbers.{u32}
use Rattle.wasm_numbers.proofs.ResultLemmas.{ok_same}
use Rattle.wasm_operators.specs.Shortest.{short_number}
use Rattle.wasm_sections.specs.declared.changes.Changes.{Changes}
use Rattle.wasm_sections.specs.declared.omissions.OmittedSections.{OmittedSections}
use Rattle.wasm_sections.specs.CodeSections.{BodyAt, AreBodies, IsCode, entry, entries, code_section}
use Rattle.wasm_sections.specs.Components.{Components, module_of}
use Rattle.wasm_sections.specs.GivenContents.{added_bodies}
use Rattle.wasm_sections.specs.Sections.{SectionAt, rank, next_rank}
use Rattle.wasm_sections.proofs.NumberLemmas.{short_read}
use Rattle.wasm_module.specs.declared.parsed.ParsedModule.{ParsedModule}
use Rattle.wasm_module.specs.ModuleCode.{sections_with, IsCodeIn, AreBodiesOf}
use Rattle.wasm_module.specs.ReadModules.{components_of}
use Rattle.wasm_module.specs.WrittenModules.{FitsSize, BodyWriting, HasItemsOf, IsWrittenCode, IsWrittenModule}
use Rattle.wasm_module.specs.WrittenSections.{IdAndContents, id_and_contents, given_between, given_after_section, BecomesSections, BecomeSections, HasWrittenBodies}
use Rattle.wasm_module.specs.WrittenSections.BecomesSections.{code, replaced, carried_over, omitted}
use Rattle.wasm_module.proofs.ModuleCodeLemmas.{either_is, is_number, with_code, without_code, module_read}
use Rattle.wasm_module.proofs.ModuleLawLemmas.{split_one, split_two}
use Rattle.wasm_module.proofs.WrittenSectionLemmas.{written_sections}

-- ---- bodies after their sizes, and others

-- a body after its size is read, whatever follows
entry_read : (raw following : List ℕ) → FitsSize raw → u32 (entry raw ++ following) ≡ Ok (length raw, raw ++ following)
entry_read raw following fits = ap u32 (append_assoc (short_number (length raw)) raw following) ∙ short_read (length raw) (raw ++ following) fits

-- bodies, of which the first are these raw bodies, and the others are so many
record Parted (end : ℕ) (raws : List (List ℕ)) (others : List ℕ) (bodies : List BodyAt) (more : ℕ) : Type 0 where
  own : List BodyAt
  added : List BodyAt
  parts : bodies ≡ own ++ added
  own_are : map (λ b. b.bytes) own ≡ raws
  are : AreBodies end others added
  count : length added ≡ more

parted :
    (end : ℕ) (raws : List (List ℕ)) (others : List ℕ) (bodies : List BodyAt) (more : ℕ) → AllByRecursion FitsSize raws → length bodies ≡ length raws + more →
    AreBodies end (entries raws ++ others) bodies → Parted end raws others bodies more
parted end [] others bodies more fit long are = record { own = []; added = bodies; parts = refl; own_are = refl; are = are; count = omega arith }
parted end (raw ∷ raws) others [] more fit long are = absurd (omega arith)
parted end (raw ∷ raws) others (b ∷ bs) more fit long are =
    let left : List ℕ = entries raws ++ others in
    let text = append_assoc (entry raw) (entries raws) others in
    let both = ok_same (length b.bytes, b.bytes ++ are.0) (length raw, raw ++ left) (sym are.1 ∙ (ap u32 text ∙ entry_read raw left fit.0)) in
    let size : length b.bytes ≡ length raw = ap (λ (x : ℕ × List ℕ). x.0) both in
    let bytes : b.bytes ++ are.0 ≡ raw ++ left = ap (λ (x : ℕ × List ℕ). x.1) both in
    let same : b.bytes ≡ raw = split_one b.bytes raw are.0 left size bytes in
    let after : are.0 ≡ left = split_two b.bytes raw are.0 left size bytes in
    let rest = parted end raws others bs more fit.1 (omega arith) (subst (λ l. AreBodies end l bs) after are.3) in
    record {
      own = b ∷ rest.own;
      added = rest.added;
      parts = ap (λ l. b ∷ l) rest.parts;
      own_are = λ i. same i ∷ rest.own_are i;
      are = rest.are;
      count = rest.count;
    }

-- the bodies of contents that have the items of two
code_parted :
    (end : ℕ) (raws : List (List ℕ)) (first second contents : List ℕ) (bodies : List BodyAt) → length raws < 2 ^ 32 → AllByRecursion FitsSize raws → first ≡ code_section raws →
    (h : HasItemsOf first second contents) → IsCode end contents bodies → Parted end raws h.others bodies h.more
code_parted end raws first second contents bodies few fit is h are =
    let front = ok_same (h.count, h.items) (length raws, entries raws) (sym h.first_is ∙ (ap u32 is ∙ short_read (length raws) (entries raws) few)) in
    let read = short_read (h.count + h.more) (h.items ++ h.others) h.few in
    let both = ok_same (length bodies, are.0) (h.count + h.more, h.items ++ h.others) (sym are.1 ∙ (ap u32 h.contents_are ∙ read)) in
    let as_many : length bodies ≡ length raws + h.more =
    let a = ap (λ (x : ℕ × List ℕ). x.0) both in let b = ap (λ (x : ℕ × List ℕ). x.0) front in omega arith in
    let text : are.0 ≡ entries raws ++ h.others = ap (λ (x : ℕ × List ℕ). x.1) both ∙ ap (λ (x : ℕ × List ℕ). x.1 ++ h.others) front in
    parted end raws h.others bodies h.more fit as_many (subst (λ l. AreBodies end l bodies) text are.2)

-- ---- sections among others

abbrev IsAmong : IdAndContents → List IdAndContents → Type 0
IsAmong x [] = ⊥
IsAmong x (y ∷ ys) = (y ≡ x) ⊎ IsAmong x ys

among_first : (x : IdAndContents) (xs ys : List IdAndContents) → IsAmong x xs → IsAmong x (xs ++ ys)
among_first x [] ys h = absurd h
among_first x (z ∷ zs) ys (inl same) = inl same
among_first x (z ∷ zs) ys (inr h) = inr (among_first x zs ys h)

among_second : (x : IdAndContents) (xs ys : List IdAndContents) → IsAmong x ys → IsAmong x (xs ++ ys)
among_second x [] ys h = h
among_second x (z ∷ zs) ys h = inr (among_second x zs ys h)

is_ten : (k : ℕ) → k ≡ 10 → (k == 10) ≡ true
is_ten k is = ap (λ (n : ℕ). n == 10) is

-- a code section with these contents, among sections
none_among : (ss : List SectionAt) (contents : List ℕ) → sections_with 10 ss ≡ [] → IsAmong (10, contents) (map id_and_contents ss) → ⊥
none_among [] contents none h = h
none_among (s ∷ ss) contents none (inl same) =
    let is = is_ten s.id (ap (λ (x : IdAndContents). x.0) same) in let one = sym (with_code s ss is) ∙ none in cc
none_among (s ∷ ss) contents none (inr h) =
    elim (either_is (s.id == 10)) [
      | inl is ↦ let one = sym (with_code s ss is) ∙ none in absurd cc
      | inr isnt ↦ none_among ss contents (sym (without_code s ss isnt) ∙ none) h
    ]

only_code : (ss : List SectionAt) (contents : List ℕ) (t : SectionAt) → sections_with 10 ss ≡ t ∷ [] → IsAmong (10, contents) (map id_and_contents ss) → t.contents ≡ contents
only_code [] contents t one h = absurd h
only_code (s ∷ ss) contents t one (inl same) =
    let is = is_ten s.id (ap (λ (x : IdAndContents). x.0) same) in
    let both : s ∷ sections_with 10 ss ≡ t ∷ [] = sym (with_code s ss is) ∙ one in
    let first : s ≡ t = cc in
    sym (ap (λ (x : SectionAt). x.contents) first) ∙ ap (λ (x : IdAndContents). x.1) same
only_code (s ∷ ss) contents t one (inr h) =
    elim (either_is (s.id == 10)) [
      | inl is ↦
          let both : s ∷ sections_with 10 ss ≡ t ∷ [] = sym (with_code s ss is) ∙ one in
          let none : sections_with 10 ss ≡ [] = cc in
          absurd (none_among ss contents none h)
      | inr isnt ↦ only_code ss contents t (sym (without_code s ss isnt) ∙ one) h
    ]

-- the code that sections have among which is this code section
code_among :
    (section : Option (ℕ × List ℕ)) (ss : List SectionAt) (contents : List ℕ) (bodies : List BodyAt) → IsCodeIn ss section → IsAmong (10, contents) (map id_and_contents ss) →
    MatchOption section (bodies ≡ []) (λ c. IsCode c.0 c.1 bodies) → (end : ℕ) × IsCode end contents bodies
code_among None ss contents bodies is h are = absurd (none_among ss contents is h)
code_among (Some section) ss contents bodies is h are =
    (section.0, subst (λ (l : List ℕ). IsCode section.0 l bodies) (ap (λ (x : ℕ × List ℕ). x.1) is.2 ∙ only_code ss contents is.0 is.1 h) are)

-- ---- the code section of the source, among what becomes of its sections

module _ (writes : BodyWriting) (source : ParsedModule) (changes : Changes) (omits : OmittedSections) where
  record CodeBecomes (s : SectionAt) (become : List IdAndContents) : Type 0 where
    bodies : List ℕ
    written : IsWrittenCode writes source s bodies
    contents : List ℕ
    items : HasItemsOf bodies (added_bodies changes) contents
    among : IsAmong (10, contents) become

  own_becomes : (s : SectionAt) (own : List IdAndContents) → s.id ≡ 10 → BecomesSections writes source changes omits s own → CodeBecomes s own
  own_becomes s own ten (code bodies contents is w items own_is) = record {
    bodies = bodies;
    written = w;
    contents = contents;
    items = items;
    among = subst (λ l. IsAmong (10, contents) l) (sym own_is) (inl refl);
  }
  own_becomes s own ten (replaced contents other r own_is) = absurd (other ten)
  own_becomes s own ten (carried_over other c own_is) = absurd (other ten)
  own_becomes s own ten (omitted o own_is) = absurd (let custom = o.is_custom in omega arith)

  with_more : (s : SectionAt) (xs ys : List IdAndContents) → ((x : IdAndContents) → IsAmong x xs → IsAmong x ys) → CodeBecomes s xs → CodeBecomes s ys
  with_more s xs ys more c = record { bodies = c.bodies; written = c.written; contents = c.contents; items = c.items; among = more (10, c.contents) c.among }

  code_becomes :
      (all ss : List SectionAt) (s : SectionAt) (rest : List SectionAt) (become : List IdAndContents) → sections_with 10 ss ≡ s ∷ rest → BecomeSections writes source changes omits all ss become →
      CodeBecomes s become
  code_becomes all [] s rest become one h = absurd cc
  code_becomes all (x ∷ xs) s rest become one h =
      let given = given_after_section changes.given.items all (rank x.id) in
      elim (either_is (x.id == 10)) [
        | inl is ↦
            let both : x ∷ sections_with 10 xs ≡ s ∷ rest = sym (with_code x xs is) ∙ one in
            let first : x ≡ s = cc in
            let own = own_becomes x h.0 (is_number x.id 10 is) h.3 in
            subst (λ (t : SectionAt). CodeBecomes t become) first
            (with_more x h.0 become (λ y among. subst (λ l. IsAmong y l) (sym h.2) (among_first y h.0 (given ++ h.1) among)) own)
        | inr isnt ↦
            let others = code_becomes all xs s rest h.1 (sym (without_code x xs isnt) ∙ one) h.4 in
            with_more s h.1 become (λ y among. subst (λ l. IsAmong y l) (sym h.2) (among_second y h.0 (given ++ h.1) (among_second y given h.1 among))) others
      ]

  -- ---- the module

  pub written_bodies :
      (old : ℕ × List ℕ) (new : List ℕ) (m : Components) → module_of source.bytes.now ≡ Ok (components_of source) → (components_of source).code ≡ Some old →
      IsWrittenModule writes source changes omits new → module_of new ≡ Ok m → HasWrittenBodies writes source changes m
  written_bodies old new m spells has_code w reads =
      let h = written_sections writes source changes omits new w in
      let from = (module_read source.bytes.now (components_of source) h.old spells h.is_source).code in
      let one : IsCodeIn h.old (Some old) = subst (λ (o : Option (ℕ × List ℕ)). IsCodeIn h.old o) has_code from.code_is in
      let it = code_becomes h.old h.old one.0 [] h.others one.1 h.become in
      let again = (module_read new m h.sections reads h.is_module).code in
      let among : IsAmong (10, it.contents) (map id_and_contents h.sections) =
      subst (λ l. IsAmong (10, it.contents) l) (sym h.are) (among_second (10, it.contents) (given_between 0 (next_rank 0 h.old) changes.given.items) h.others it.among) in
      let is = code_among m.code h.sections it.contents again.bodies again.code_is among again.are_bodies.are_code in
      let p = code_parted is.0 it.written.raws it.bodies (added_bodies changes) it.contents again.bodies it.written.few it.written.fit it.written.code_is it.items is.1 in
      record {
        s = one.0;
        is_source = has_code ∙ ap (λ (c : ℕ × List ℕ). Some c) one.2;
        code = it.bodies;
        written = it.written;
        bodies = record {
          own = p.own;
          own_are = p.own_are;
          added = p.added;
          end = is.0;
          added_are = (it.items.others, it.items.second_is ∙ ap (λ (n : ℕ). Ok (n, it.items.others)) (sym p.count), p.are);
          are_bodies = subst (λ l. AreBodiesOf m l) p.parts again.are_bodies;
        };
      }
