-- Sections in order, whose contents are read one after the other, are read as a module.
use Rattle.std.proofs.Common.{◌≡◌, ◌≢◌, inl, inr, ◌==◌, ◌-◌, ◌<◌, ◌≤◌, ℕ, zero, suc, List, [], ◌∷◌, ◌++◌, length, true, false, if◌then◌else◌, Result, Ok, Err, refl, sym, ap, ◌∙◌, subst, arith, length-append}
use Rattle.std.specs.Prelude.{nat_lt}
use Rattle.std.proofs.lemmas.Bool.{le-leb, lt-ltb, cases_lt}
use Rattle.std.proofs.lemmas.List.{get_or_past}
use Rattle.wasm_numbers.specs.Numbers.{unsigned}
use Rattle.wasm_numbers.specs.Results.{◌>>=◌, with_fault}
use Rattle.wasm_sections.specs.declared.fault.ModuleFault.{ModuleFault}
use Rattle.wasm_sections.specs.declared.fault.ModuleFault.TheVariants as fault
use Rattle.wasm_sections.specs.Components.{Components, no_components, contents_of, sections_from, is_magic, is_version, preamble_part, counts_agree, module_of}
use Rattle.wasm_sections.specs.Parts.{just, ◌>=>◌, fault_here, item_fault, checked, one_byte, number, piece}
use Rattle.wasm_sections.specs.Sections.{preamble, SectionAt, BeginsSection, AreSections, IsModule, rank, known_section, section_part, rank_with}
use Rattle.wasm_sections.proofs.NumberLemmas.{number_takes, is_shorter}
use Rattle.wasm_sections.proofs.PartLemmas.{checked_ok}
use Rattle.wasm_sections.proofs.SameSectionLemmas.{piece_front}
use Rattle.wasm_sections.proofs.TypeReadingLemmas.{first_gives}
use Rattle.wasm_module.specs.ReadSections.{AreInOrder, AreRead, IsOfSections}
use Rattle.wasm_module.proofs.ModuleCodeLemmas.{either_is, rank_after}

-- ---- one section

-- a section with a rank, or a custom one, has an id that is known
known : (r id : ℕ) → (id ≢ 0 → r < rank id) → known_section id ≡ Ok id
known r id order =
    elim (cases_lt 13 id) [
      | inl past ↦
          let none : rank id ≡ 0 = get_or_past (0 ∷ 1 ∷ 2 ∷ 3 ∷ 4 ∷ 5 ∷ 7 ∷ 8 ∷ 9 ∷ 10 ∷ 12 ∷ 13 ∷ 11 ∷ 6 ∷ []) id 0 (omega arith) in
          let less : r < rank id = order (λ zero. omega arith) in
          absurd (omega arith)
      | inr low ↦ ap (λ b. (let r : Result ℕ ModuleFault = if b then Ok id else Err fault.UnknownSection in r)) (le-leb id 13 low)
    ]

ranked : (r id : ℕ) → (id ≢ 0 → r < rank id) → rank_with r id ≡ Ok (rank_after r id)
ranked r id order =
    elim (either_is (id == 0)) [
      | inl custom ↦
          ap (λ b. (let x : Result ℕ ModuleFault = if b then Ok r else if nat_lt r (rank id) then Ok (rank id) else Err fault.SectionOutOfOrder in x)) custom
          ∙ sym (ap (λ b. (let x : Result ℕ ModuleFault = Ok (if b then r else rank id) in x)) custom)
      | inr other ↦
          let less : r < rank id = order (λ custom. let wrong = ap (λ (k : ℕ). k == 0) custom in let both : true ≡ false = sym wrong ∙ other in cc) in
          ap (λ b. (let x : Result ℕ ModuleFault = if b then Ok r else if nat_lt r (rank id) then Ok (rank id) else Err fault.SectionOutOfOrder in x)) other
          ∙ (ap (λ b. (let x : Result ℕ ModuleFault = if b then Ok (rank id) else Err fault.SectionOutOfOrder in x)) (lt-ltb r (rank id) less)
          ∙ sym (ap (λ b. (let x : Result ℕ ModuleFault = Ok (if b then r else rank id) in x)) other))
    ]

section_is :
    (end : ℕ) (text : List ℕ) (s : SectionAt) (following : List ℕ) → known_section s.id ≡ Ok s.id → BeginsSection end text s following →
    section_part end text ≡ Ok ((s.id, s.contents), following)
section_is end text s following is begins =
    let id = s.id in
    let sized = begins.sized in
    ap (section_part end) begins.id_is
    ∙ (first_gives (checked one_byte known_section end (id ∷ sized)) (λ i. (number >=> λ size. piece size >=> λ c. just (i.0, c)) end i.1) (id, sized)
    (checked_ok one_byte known_section end (id ∷ sized) id id sized refl is)
    ∙ (first_gives (number end sized) (λ k. (piece k.0 >=> λ c. just (id, c)) end k.1) (length s.contents, s.contents ++ following) (ap (with_fault (item_fault end sized)) begins.size_is)
    ∙ first_gives (piece (length s.contents) end (s.contents ++ following)) (λ p. Ok ((id, p.0), p.1)) (s.contents, following) (piece_front s.contents following end)))

-- ---- all sections

none_left : (most r : ℕ) (m : Components) (end : ℕ) → sections_from most r m end [] ≡ Ok m
unfolding sections_from
none_left zero r m end = refl
none_left (suc most) r m end = refl

all_spell :
    (most r : ℕ) (m : Components) (end : ℕ) (text : List ℕ) (ss : List SectionAt) (n : Components) → length text ≤ most → AreSections end text ss → AreInOrder r ss → AreRead m ss n →
    sections_from most r m end text ≡ Ok n
unfolding sections_from
all_spell most r m end text [] n enough are order read = ap (sections_from most r m end) are ∙ (none_left most r m end ∙ ap (λ (c : Components). Ok c) read)
all_spell most r m end [] (s ∷ ss) n enough are order read = absurd (let nothing = are.1.id_is in cc)
all_spell zero r m end (b ∷ bytes) (s ∷ ss) n enough are order read = absurd (omega arith)
all_spell (suc most) r m end (b ∷ bytes) (s ∷ ss) n enough are order read =
    let text : List ℕ = b ∷ bytes in
    let begins = are.1 in
    let is = section_is end text s are.0 (known r s.id order.0) begins in
    let front = number_takes unsigned 32 begins.sized (length s.contents) (s.contents ++ are.0) begins.size_is in
    let less = is_shorter begins.sized (s.contents ++ are.0) front in
    let both = length-append s.contents are.0 in
    let long : length text ≡ suc (length begins.sized) = ap length begins.id_is in
    first_gives (section_part end text) (λ x. with_fault (fault_here end text) (rank_with r x.0.0) >>= λ next. contents_of x.0.0 m (end - length x.1) x.0.1 >>= λ c. sections_from most next c end x.1)
    ((s.id, s.contents), are.0) is
    ∙ (first_gives (with_fault (fault_here end text) (rank_with r s.id)) (λ next. contents_of s.id m (end - length are.0) s.contents >>= λ c. sections_from most next c end are.0) (rank_after r s.id)
    (ap (with_fault (fault_here end text)) (ranked r s.id order.0))
    ∙ (first_gives (contents_of s.id m (end - length are.0) s.contents) (λ c. sections_from most (rank_after r s.id) c end are.0) read.0
    (ap (λ (k : ℕ). contents_of s.id m k s.contents) (sym begins.end_is) ∙ read.1)
    ∙ all_spell most (rank_after r s.id) read.0 end are.0 ss n (omega arith) are.2 order.1 read.2))

-- ---- the module

begun : (end : ℕ) (text : List ℕ) → preamble_part end (preamble ++ text) ≡ Ok (tt, text)
begun end text =
    let magic : List ℕ = 0x00 ∷ 0x61 ∷ 0x73 ∷ 0x6d ∷ [] in
    let version : List ℕ = 0x01 ∷ 0x00 ∷ 0x00 ∷ 0x00 ∷ [] in
    first_gives (checked (piece 4) is_magic end (preamble ++ text)) (λ u. checked (piece 4) is_version end u.1) (tt, version ++ text)
    (checked_ok (piece 4) is_magic end (magic ++ (version ++ text)) magic tt (version ++ text) (piece_front magic (version ++ text) end) refl)
    ∙ checked_ok (piece 4) is_version end (version ++ text) version tt text (piece_front version text end) refl

pub spelled_module : (file : List ℕ) (m : Components) (sections : List SectionAt) → IsModule file sections → IsOfSections file m sections → module_of file ≡ Ok m
spelled_module file m sections p is =
    let text = p.0 in
    let front : preamble_part (length file) file ≡ Ok (tt, text) = subst (λ l. preamble_part (length file) l ≡ Ok (tt, text)) (sym p.1) (begun (length file) text) in
    first_gives (preamble_part (length file) file) (λ x. sections_from (length x.1) 0 no_components (length file) x.1 >>= λ c. counts_agree c (length file)) (tt, text) front
    ∙ (first_gives (sections_from (length text) 0 no_components (length file) text) (λ c. counts_agree c (length file)) m
    (all_spell (length text) 0 no_components (length file) text sections m (omega arith) p.2 is.in_order is.are_read)
    ∙ is.counts)
