-- A module in which sections are replaced by others that are read as the same consists of the same.
use Rattle.std.proofs.Common.{◌≡◌, ◌≢◌, ℕ, zero, suc, ◌+◌, ◌-◌, ◌<◌, ◌≤◌, ◌^◌, nat_le, if◌then◌else◌, Bool, true, List, [], ◌∷◌, ◌++◌, length, take, drop, Option, None, is_some, Result, Ok, Err, refl, sym, ap, ◌∙◌, subst, inl, inr, arith, append_assoc, length-append}
use Rattle.std.proofs.lemmas.Bool.{le-leb}
use Rattle.std.proofs.lemmas.List.{append_cancel_right}
use Rattle.std.proofs.Math.Seq.{take-append_seam, drop-append_seam}
use Rattle.wasm_numbers.proofs.Agreement.{chosen}
use Rattle.wasm_numbers.proofs.ResultLemmas.{bind_ok, ok_same, with_fault_ok}
use Rattle.wasm_numbers.specs.Numbers.{u32, unsigned}
use Rattle.wasm_numbers.specs.Results.{◌>>=◌, with_fault}
use Rattle.wasm_operators.specs.Shortest.{short_number}
use Rattle.wasm_sections.specs.declared.fault.ModuleError.{ModuleError}
use Rattle.wasm_sections.specs.declared.fault.ModuleFault.TheVariants as fault
use Rattle.wasm_sections.specs.Components.{Components, no_components, custom_section, contents_of, sections_from, is_magic, is_version, preamble_part, counts_agree, module_of}
use Rattle.wasm_sections.specs.Format.{name_part}
use Rattle.wasm_sections.specs.Parts.{just, ◌>=>◌, fault_here, item_fault, checked, one_byte, number, piece}
use Rattle.wasm_sections.specs.SameComponents.{CodeRelation, HasSameComponents}
use Rattle.wasm_sections.specs.Sections.{preamble, section, SectionAt, BeginsSection, AreSections, IsModule, known_section, section_part, rank_with}
use Rattle.wasm_sections.proofs.NumberLemmas.{number_again, short_read}
use Rattle.wasm_sections.proofs.PartLemmas.{checked_ok}
use Rattle.wasm_sections.proofs.SameContentLemmas.{contents_same, agree_same}
use Rattle.wasm_sections.proofs.TypeReadingLemmas.{first_gives}

-- ---- a section is read

pub piece_front : (front rest : List ℕ) (end : ℕ) → piece (length front) end (front ++ rest) ≡ Ok (front, rest)
piece_front front rest end =
    let size : ℕ = length front in
    let text : List ℕ = front ++ rest in
    let enough : nat_le size (length text) ≡ true = le-leb size (length text) (let all = length-append front rest in omega arith) in
    ap (λ (b : Bool). let r : Result (List ℕ × List ℕ) ModuleError = if b then Ok (take size text, drop size text) else Err (fault_here end text fault.Truncated) in r) enough
    ∙ ap (λ (l : List ℕ). Ok (l, drop size text)) (take-append_seam front rest) ∙ ap (λ (l : List ℕ). Ok (front, l)) (drop-append_seam front rest)

section_is :
    (end id : ℕ) (sized contents rest : List ℕ) → known_section id ≡ Ok id → u32 sized ≡ Ok (length contents, contents ++ rest) →
    section_part end (id ∷ sized) ≡ Ok ((id, contents), rest)
section_is end id sized contents rest known size_is =
    first_gives (checked one_byte known_section end (id ∷ sized)) (λ i. (number >=> λ size. piece size >=> λ c. just (i.0, c)) end i.1) (id, sized)
    (checked_ok one_byte known_section end (id ∷ sized) id id sized refl known)
    ∙ first_gives (number end sized) (λ k. (piece k.0 >=> λ c. just (id, c)) end k.1) (length contents, contents ++ rest) (ap (with_fault (item_fault end sized)) size_is)
    ∙ first_gives (piece (length contents) end (contents ++ rest)) (λ p. Ok ((id, p.0), p.1)) (contents, rest) (piece_front contents rest end)

known_id : (end id : ℕ) (sized : List ℕ) (x : (ℕ × List ℕ) × List ℕ) → section_part end (id ∷ sized) ≡ Ok x → known_section id ≡ Ok id
known_id end id sized x e =
    let a = bind_ok (checked one_byte known_section end (id ∷ sized)) (λ i. (number >=> λ size. piece size >=> λ c. just (i.0, c)) end i.1) x e in
    let k = bind_ok (with_fault (fault_here end (id ∷ sized)) (known_section id)) (λ v. Ok (v, sized)) a.0 a.1 in
    let known = with_fault_ok (fault_here end (id ∷ sized)) (known_section id) k.0 k.1 in
    elim (chosen (nat_le id 13) (Ok id) (Err fault.UnknownSection) (Ok k.0) known) [
      | inl y ↦ known ∙ ap (λ (i : ℕ). Ok i) (sym (ok_same id k.0 y.1))
      | inr y ↦ absurd (let no = y.1 in cc)
    ]

-- the preamble is read
preamble_read : (end : ℕ) (text : List ℕ) → preamble_part end (preamble ++ text) ≡ Ok (tt, text)
preamble_read end text =
    let magic : List ℕ = 0x00 ∷ 0x61 ∷ 0x73 ∷ 0x6d ∷ [] in
    let version : List ℕ = 0x01 ∷ 0x00 ∷ 0x00 ∷ 0x00 ∷ [] in
    first_gives (checked (piece 4) is_magic end (preamble ++ text)) (λ u. checked (piece 4) is_version end u.1) (tt, version ++ text)
    (checked_ok (piece 4) is_magic end (magic ++ (version ++ text)) magic tt (version ++ text) (piece_front magic (version ++ text) end) refl)
    ∙ checked_ok (piece 4) is_version end (version ++ text) version tt text (piece_front version text end) refl

-- ---- one section after the other

no_sections : (most r : ℕ) (m : Components) (end : ℕ) → sections_from most r m end [] ≡ Ok m
unfolding sections_from
no_sections zero r m end = refl
no_sections (suc most) r m end = refl

-- the first section, and those after it
section_then :
    (most r next end : ℕ) (m n : Components) (text : List ℕ) (id : ℕ) (contents rest : List ℕ) → length text ≤ most → length rest < length text →
    section_part end text ≡ Ok ((id, contents), rest) → rank_with r id ≡ Ok next → contents_of id m (end - length rest) contents ≡ Ok n →
    (k : ℕ) × (length rest ≤ k) × (sections_from most r m end text ≡ sections_from k next n end rest)
unfolding sections_from
section_then most r next end m n [] id contents rest enough less is ranked read = absurd (omega arith)
section_then zero r next end m n (b ∷ bytes) id contents rest enough less is ranked read = absurd (omega arith)
section_then (suc k) r next end m n (b ∷ bytes) id contents rest enough less is ranked read =
    let text : List ℕ = b ∷ bytes in (
      k,
      omega arith,
      first_gives (section_part end text) (λ x. with_fault (fault_here end text) (rank_with r x.0.0) >>= λ next. contents_of x.0.0 m (end - length x.1) x.0.1 >>= λ n. sections_from k next n end x.1)
          ((id, contents), rest) is
          ∙ first_gives (with_fault (fault_here end text) (rank_with r id)) (λ next. contents_of id m (end - length rest) contents >>= λ n. sections_from k next n end rest) next
          (ap (with_fault (fault_here end text)) ranked)
          ∙ first_gives (contents_of id m (end - length rest) contents) (λ n. sections_from k next n end rest) n read,
    )

-- what is read of a section of a module, and of those after it
record SectionRead (r : ℕ) (m : Components) (end : ℕ) (s : SectionAt) (following : List ℕ) (all : Components) : Type 0 where
  known : known_section s.id ≡ Ok s.id
  next : ℕ
  rank_is : rank_with r s.id ≡ Ok next
  read : Components
  contents_are : contents_of s.id m s.end s.contents ≡ Ok read
  left : ℕ
  enough : length following ≤ left
  others_are : sections_from left next read end following ≡ Ok all

section_read :
    (most r : ℕ) (m : Components) (end : ℕ) (text : List ℕ) (s : SectionAt) (following : List ℕ) (all : Components) → BeginsSection end text s following →
    length text ≤ most → sections_from most r m end text ≡ Ok all → SectionRead r m end s following all
unfolding sections_from
section_read most r m end [] s following all begins enough e = absurd (let no = begins.id_is in cc)
section_read zero r m end (b ∷ bytes) s following all begins enough e = absurd (omega arith)
section_read (suc k) r m end (b ∷ bytes) s following all begins enough e =
    let text : List ℕ = b ∷ bytes in
    let p = bind_ok (section_part end text) (λ x. with_fault (fault_here end text) (rank_with r x.0.0) >>= λ next. contents_of x.0.0 m (end - length x.1) x.0.1 >>= λ n. sections_from k next n end x.1) all e in
    let known = known_id end s.id begins.sized p.0 (ap (section_part end) (sym begins.id_is) ∙ p.1) in
    let is = ap (section_part end) begins.id_is ∙ section_is end s.id begins.sized s.contents following known begins.size_is in
    let same : p.0 ≡ ((s.id, s.contents), following) = ok_same p.0 ((s.id, s.contents), following) (sym p.1 ∙ is) in
    let after : (x : (ℕ × List ℕ) × List ℕ) → Result Components ModuleError = λ x. with_fault (fault_here end text) (rank_with r x.0.0) >>= λ next. contents_of x.0.0 m (end - length x.1) x.0.1 >>= λ n. sections_from k next n end x.1 in
    let here : after ((s.id, s.contents), following) ≡ Ok all = ap after (sym same) ∙ p.2 in
    let place : ℕ = end - length following in
    let q = bind_ok (with_fault (fault_here end text) (rank_with r s.id)) (λ next. contents_of s.id m place s.contents >>= λ n. sections_from k next n end following) all here in
    let c = bind_ok (contents_of s.id m place s.contents) (λ n. sections_from k q.0 n end following) all q.2 in
    let front = number_again unsigned 32 begins.sized (length s.contents) (s.contents ++ following) begins.size_is in
    let long : length text ≡ suc (length begins.sized) = ap length begins.id_is in
    let parts = ap length front.parts ∙ length-append front.front (s.contents ++ following) in
    let both = length-append s.contents following in
    record {
      known = known;
      next = q.0;
      rank_is = with_fault_ok (fault_here end text) (rank_with r s.id) q.0 q.1;
      read = c.0;
      contents_are = ap (λ (i : ℕ). contents_of s.id m i s.contents) begins.end_is ∙ c.1;
      left = k;
      enough = omega arith;
      others_are = c.2;
    }

-- a section whose contents are read, whatever follows
record IsSection (id : ℕ) (contents text : List ℕ) : Type 0 where
  sized : List ℕ
  text_is : text ≡ id ∷ sized
  size_is : (rest : List ℕ) → u32 (sized ++ rest) ≡ Ok (length contents, contents ++ rest)

whole_section : (end : ℕ) (text : List ℕ) (s : SectionAt) (following : List ℕ) → BeginsSection end text s following → IsSection s.id s.contents s.whole
whole_section end text s following begins =
    let front = number_again unsigned 32 begins.sized (length s.contents) (s.contents ++ following) begins.size_is in
    let parts : s.whole ++ following ≡ (s.id ∷ (front.front ++ s.contents)) ++ following =
    sym begins.whole_is ∙ begins.id_is ∙ ap (λ (l : List ℕ). s.id ∷ l) (front.parts ∙ sym (append_assoc front.front s.contents following)) in
    record {
      sized = front.front ++ s.contents;
      text_is = append_cancel_right s.whole (s.id ∷ (front.front ++ s.contents)) following parts;
      size_is = λ rest. ap u32 (append_assoc front.front s.contents rest) ∙ front.again (s.contents ++ rest);
    }

other_section : (id : ℕ) (contents : List ℕ) → length contents < 2 ^ 32 → IsSection id contents (section id contents)
other_section id contents few = record {
  sized = short_number (length contents) ++ contents;
  text_is = refl;
  size_is = λ rest. ap u32 (append_assoc (short_number (length contents)) contents rest) ∙ short_read (length contents) (contents ++ rest) few;
}

custom_rank : (r next id : ℕ) → id ≡ 0 → rank_with r id ≡ Ok next → r ≡ next
custom_rank r next id custom e = ok_same r next (ap (rank_with r) (sym custom) ∙ e)

custom_read : (id : ℕ) (m n : Components) (end : ℕ) (text : List ℕ) → id ≡ 0 → contents_of id m end text ≡ Ok n → m ≡ n
custom_read id m n end text custom e =
    let here : custom_section m end text ≡ Ok n = ap (λ (k : ℕ). contents_of k m end text) (sym custom) ∙ e in
    let p = bind_ok (name_part end text) (λ x. Ok m) n here in
    ok_same m n p.2

-- ---- sections that are replaced

module _ (Code : CodeRelation) where
  abbrev Same : (m o : Components) → Type 0
  Same m o = HasSameComponents Code m o

  -- Other contents of a section are read as the same.
  abbrev pub ReadAs : SectionAt → (contents : List ℕ) → Type 0
  ReadAs s contents =
      (m o n : Components) (end : ℕ) → Same m o → contents_of s.id m s.end s.contents ≡ Ok n →
      (p : Components) × (contents_of s.id o end contents ≡ Ok p) × Same n p

  -- A section is left out, if it is a custom one; or it is unchanged, if it isn't the code section; or it has other contents, which
  -- are read as the same.
  pub data WrittenAs (s : SectionAt) (text : List ℕ) : Type 0 where
    left_out : s.id ≡ 0 → text ≡ [] → WrittenAs s text
    unchanged : s.id ≢ 10 → text ≡ s.whole → WrittenAs s text
    changed : (contents : List ℕ) → length contents < 2 ^ 32 → ReadAs s contents → text ≡ section s.id contents → WrittenAs s text

  abbrev pub AreWrittenAs : List SectionAt → (text : List ℕ) → Type 0
  AreWrittenAs [] text = text ≡ []
  AreWrittenAs (s ∷ ss) text = (first others : List ℕ) × (text ≡ first ++ others) × WrittenAs s first × AreWrittenAs ss others

  -- what is read of the sections that are left, from what was read so far
  abbrev ReadsOn : (r k end : ℕ) → (o all : Components) → (text : List ℕ) → Type 0
  ReadsOn r k end o all text = (p : Components) × (sections_from k r o end text ≡ Ok p) × Same all p

  -- the section, and those after it
  one_section :
      (r next k end : ℕ) (id : ℕ) (o p all : Components) (contents first others text : List ℕ) → known_section id ≡ Ok id → rank_with r id ≡ Ok next → IsSection id contents first →
      text ≡ first ++ others → length text ≤ k → contents_of id o (end - length others) contents ≡ Ok p →
      ((left : ℕ) → length others ≤ left → ReadsOn next left end p all others) → ReadsOn r k end o all text
  one_section r next k end id o p all contents first others text known ranked is parts enough read on =
      let whole : text ≡ id ∷ (is.sized ++ others) = parts ∙ ap (λ (l : List ℕ). l ++ others) is.text_is in
      let long : length text ≡ suc (length (is.sized ++ others)) = ap length whole in
      let both = length-append is.sized others in
      let here : section_part end text ≡ Ok ((id, contents), others) =
      ap (section_part end) whole ∙ section_is end id (is.sized ++ others) contents others known (is.size_is others) in
      let step = section_then k r next end o p text id contents others enough (omega arith) here ranked read in
      let rest = on step.0 step.1 in
      (rest.0, step.2 ∙ rest.1, rest.2)

  sections_same :
      (ss : List SectionAt) (most k r : ℕ) (m o all : Components) (a b : ℕ) (text new : List ℕ) → AreSections a text ss → AreWrittenAs ss new → length text ≤ most → length new ≤ k →
      Same m o → sections_from most r m a text ≡ Ok all → ReadsOn r k b o all new
  sections_same [] most k r m o all a b text new are written enough fuel h e =
      let same : m ≡ all = ok_same m all (sym (no_sections most r m a) ∙ ap (λ (l : List ℕ). sections_from most r m a l) (sym are) ∙ e) in (
        o,
        ap (λ (l : List ℕ). sections_from k r o b l) written ∙ no_sections k r o b,
        subst (λ (c : Components). Same c o) same h,
      )
  sections_same (s ∷ ss) most k r m o all a b text new are written enough fuel h e =
      let following = are.0 in
      let first = written.0 in
      let others = written.1 in
      let one = section_read most r m a text s following all are.1 enough e in
      let with_contents : (contents : List ℕ) → IsSection s.id contents first → ReadAs s contents → ReadsOn r k b o all new =
      λ contents is read.
      let p = read m o one.read (b - length others) h one.contents_are in
      one_section r one.next k b s.id o p.0 all contents first others new one.known one.rank_is is written.2 fuel p.1
      (λ left few. sections_same ss one.left left one.next one.read p.0 all a b following others are.2 written.4 one.enough few p.2 one.others_are) in
      elim written.3 [
        | left_out custom none ↦
            let same_rank = custom_rank r one.next s.id custom one.rank_is in
            let same_read = custom_read s.id m one.read s.end s.contents custom one.contents_are in
            let rest : new ≡ others = written.2 ∙ ap (λ (l : List ℕ). l ++ others) none in
            let few : length others ≤ k = let long = ap length rest in omega arith in
            let after = subst (λ (c : Components). Same c o) same_read h in
            let on = sections_same ss one.left k one.next one.read o all a b following others are.2 written.4 one.enough few after one.others_are in
            (on.0, ap (λ (l : List ℕ). sections_from k r o b l) rest ∙ ap (λ (i : ℕ). sections_from k i o b others) same_rank ∙ on.1, on.2)
        | unchanged other is ↦
            with_contents s.contents (subst (λ (l : List ℕ). IsSection s.id s.contents l) (sym is) (whole_section a text s following are.1))
            (λ m o n end. contents_same Code s.id other m o n s.end end s.contents)
        | changed contents few read is ↦
            with_contents contents (subst (λ (l : List ℕ). IsSection s.id contents l) (sym is) (other_section s.id contents few)) read
      ]

  -- ---- the whole module

  pub module_same :
      Code None None → ((old new : Option (ℕ × List ℕ)) → Code old new → is_some new ≡ is_some old) → (file new : List ℕ) (m : Components) (ss : List SectionAt) (text : List ℕ) → module_of file ≡ Ok m → IsModule file ss → AreWrittenAs ss text → new ≡ preamble ++ text →
      (n : Components) × (module_of new ≡ Ok n) × Same m n
  module_same none both file new m ss text e is written parts =
      let a = length file in
      let b = length new in
      let begin : Same no_components no_components = record { others = refl; counted = refl; code = none } in
      let begun : (t : List ℕ) (l : List ℕ) → l ≡ preamble ++ t → preamble_part (length l) l ≡ Ok (tt, t) =
      λ t l i. ap (preamble_part (length l)) i ∙ preamble_read (length l) t in
      let rest : (l : List ℕ) → Unit {0} × List ℕ → Result Components ModuleError =
      λ l x. sections_from (length x.1) 0 no_components (length l) x.1 >>= λ c. counts_agree c (length l) in
      let p = bind_ok (sections_from (length is.0) 0 no_components a is.0) (λ c. counts_agree c a) m
      (sym (first_gives (preamble_part a file) (rest file) (tt, is.0) (begun is.0 file is.1)) ∙ e) in
      let q = sections_same ss (length is.0) (length text) 0 no_components no_components p.0 a b is.0 text is.2 written (omega arith) (omega arith) begin p.1 in
      let r = agree_same Code both p.0 q.0 m a b q.2 p.2 in (
        r.0,
        first_gives (preamble_part b new) (rest new) (tt, text) (begun text new parts)
            ∙ first_gives (sections_from (length text) 0 no_components b text) (λ c. counts_agree c b) q.0 q.1 ∙ r.1,
        r.2,
      )
