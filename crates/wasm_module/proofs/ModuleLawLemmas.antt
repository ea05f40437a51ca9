-- The bytes that spell a module are its sections, in one way.
use Rattle.std.proofs.Common.{◌≡◌, ℕ, zero, suc, ◌-◌, ◌<◌, ◌≤◌, nat_le, if◌then◌else◌, List, [], ◌∷◌, ◌++◌, length, take, drop, bytes_eq, Result, Ok, Err, refl, sym, ap, ◌∙◌, subst, inl, inr, arith, append_assoc, length-append, length-take}
use Rattle.std.proofs.lemmas.Bool.Decides.{nat_tests}
use Rattle.std.proofs.lemmas.List.{take-append-drop}
use Rattle.std.proofs.lemmas.Slice.Eq.{bytes_eq-Decides}
use Rattle.std.proofs.Math.Seq.{take-append_seam, drop-append_seam}
use Rattle.wasm_numbers.specs.declared.fault.ReadFault.{ReadFault}
use Rattle.wasm_numbers.specs.Numbers.{unsigned, u32}
use Rattle.wasm_numbers.specs.Results.{◌>>=◌, with_fault}
use Rattle.wasm_numbers.proofs.Agreement.{chosen}
use Rattle.wasm_numbers.proofs.ResultLemmas.{bind_ok, ok_same, with_fault_ok}
use Rattle.wasm_sections.specs.declared.fault.ModuleFault.{ModuleFault}
use Rattle.wasm_sections.specs.declared.fault.ModuleFault.TheVariants as fault
use Rattle.wasm_sections.specs.Components.{Components, no_components, contents_of, sections_from, is_magic, is_version, preamble_part, counts_agree, module_of}
use Rattle.wasm_sections.specs.Parts.{fault_here, item_fault, just, ◌>=>◌, checked, one_byte, number, piece}
use Rattle.wasm_sections.specs.Sections.{SectionAt, BeginsSection, AreSections, IsModule, preamble, known_section, section_part, rank_with}
use Rattle.wasm_sections.proofs.NumberLemmas.{number_takes, is_shorter, before_last}
use Rattle.wasm_module.specs.ReadModules.{HasOneSpelling}

-- ---- a section that is read

byte_is : (end : ℕ) (text : List ℕ) (x : ℕ × List ℕ) → one_byte end text ≡ Ok x → text ≡ x.0 ∷ x.1
byte_is end [] x e = absurd cc
byte_is end (b ∷ bs) x e = let same = ok_same (b, bs) x e in ap (λ (p : ℕ × List ℕ). p.0 ∷ p.1) same

known_same : (id v : ℕ) → known_section id ≡ Ok v → v ≡ id
known_same id v e =
    elim (chosen (nat_le id 13) (Ok id) (Err fault.UnknownSection) (Ok v) e) [ inl x ↦ sym (ok_same id v x.1) | inr x ↦ absurd (let h = x.1 in cc) ]

pub piece_is : (size end : ℕ) (text : List ℕ) (x : List ℕ × List ℕ) → piece size end text ≡ Ok x → (text ≡ x.0 ++ x.1) × (length x.0 ≡ size)
piece_is size end text x e =
    elim (chosen (nat_le size (length text)) (Ok (take size text, drop size text)) (Err (fault_here end text fault.Truncated)) (Ok x) e) [
      | inl y ↦
          let same = ok_same (take size text, drop size text) x y.1 in
          let long : length (take size text) ≡ size = let enough = y.0 in let len = length-take size text in grind (arith, nat_tests) in
          (sym (take-append-drop size text) ∙ ap (λ (p : List ℕ × List ℕ). p.0 ++ p.1) same, sym (ap (λ (p : List ℕ × List ℕ). length p.0) same) ∙ long)
      | inr y ↦ absurd (let h = y.1 in cc)
    ]

pub read_as : (r : Result (ℕ × List ℕ) ReadFault) (n k : ℕ) (x y : List ℕ) → r ≡ Ok (n, x) → n ≡ k → x ≡ y → r ≡ Ok (k, y)
read_as r n k x y e a b = e ∙ ap (λ (i : ℕ). Ok (i, x)) a ∙ ap (λ (l : List ℕ). Ok (k, l)) b

-- the section of what is read
abbrev pub section_of : (end : ℕ) → (text : List ℕ) → (id : ℕ) → (contents rest : List ℕ) → SectionAt
section_of end text id contents rest = record { id = id; contents = contents; end = end - length rest; whole = take (length text - length rest) text }

pub begun_section :
    (end : ℕ) (text : List ℕ) (id : ℕ) (contents rest : List ℕ) → section_part end text ≡ Ok ((id, contents), rest) →
    BeginsSection end text (section_of end text id contents rest) rest × (length rest < length text)
begun_section end text id contents rest e =
    let a = bind_ok (checked one_byte known_section end text) (λ i. (number >=> λ size. piece size >=> λ c. just (i.0, c)) end i.1) ((id, contents), rest) e in
    let b = bind_ok (number end a.0.1) (λ n. (piece n.0 >=> λ c. just (a.0.0, c)) end n.1) ((id, contents), rest) a.2 in
    let c = bind_ok (piece b.0.0 end b.0.1) (λ p. Ok ((a.0.0, p.0), p.1)) ((id, contents), rest) b.2 in
    let all = ok_same ((a.0.0, c.0.0), c.0.1) ((id, contents), rest) c.2 in
    let i = bind_ok (one_byte end text) (λ y. with_fault (fault_here end text) (known_section y.0) >>= λ v. Ok (v, y.1)) a.0 a.1 in
    let k = bind_ok (with_fault (fault_here end text) (known_section i.0.0)) (λ v. Ok (v, i.0.1)) a.0 i.2 in
    let known = known_same i.0.0 k.0 (with_fault_ok (fault_here end text) (known_section i.0.0) k.0 k.1) in
    let taken = ok_same (k.0, i.0.1) a.0 k.2 in
    let sized : List ℕ = a.0.1 in
    let id_is : text ≡ id ∷ sized =
    byte_is end text i.0 i.1 ∙ ap (λ (n : ℕ). n ∷ i.0.1) (sym known) ∙ ap (λ (p : ℕ × List ℕ). p.0 ∷ p.1) taken
    ∙ ap (λ (p : (ℕ × List ℕ) × List ℕ). p.0.0 ∷ sized) all in
    let parts = piece_is b.0.0 end b.0.1 c.0 c.1 in
    let contents_are : c.0.0 ≡ contents = ap (λ (p : (ℕ × List ℕ) × List ℕ). p.0.1) all in
    let rest_is : c.0.1 ≡ rest = ap (λ (p : (ℕ × List ℕ) × List ℕ). p.1) all in
    let after : b.0.1 ≡ contents ++ rest = parts.0 ∙ ap (λ (l : List ℕ). l ++ c.0.1) contents_are ∙ ap (λ (l : List ℕ). contents ++ l) rest_is in
    let count : b.0.0 ≡ length contents = sym parts.1 ∙ ap length contents_are in
    let size_is : u32 sized ≡ Ok (length contents, contents ++ rest) =
    read_as (u32 sized) b.0.0 (length contents) b.0.1 (contents ++ rest) (with_fault_ok (item_fault end sized) (u32 sized) b.0 b.1) count after in
    let front = number_takes unsigned 32 sized (length contents) (contents ++ rest) size_is in
    let less = is_shorter sized (contents ++ rest) front in
    let both = length-append contents rest in
    let whole : text ≡ (id ∷ (front.front ++ contents)) ++ rest =
    id_is ∙ ap (λ (l : List ℕ). id ∷ l) (front.parts ∙ sym (append_assoc front.front contents rest)) in
    let long : length text ≡ suc (length sized) = ap length id_is in (
      record {
        sized = sized;
        id_is = id_is;
        size_is = size_is;
        end_is = refl;
        whole_is = sym (before_last text (id ∷ (front.front ++ contents)) rest whole);
      },
      omega arith,
    )

-- ---- all sections

sections_are :
    (most r : ℕ) (m : Components) (end : ℕ) (text : List ℕ) (n : Components) → length text ≤ most → sections_from most r m end text ≡ Ok n →
    (sections : List SectionAt) × AreSections end text sections
unfolding sections_from
sections_are most r m end [] n enough e = ([], refl)
sections_are zero r m end (b ∷ bytes) n enough e = absurd (omega arith)
sections_are (suc most) r m end (b ∷ bytes) n enough e =
    let text : List ℕ = b ∷ bytes in
    let a = bind_ok (section_part end text) (λ x. with_fault (fault_here end text) (rank_with r x.0.0) >>= λ next. contents_of x.0.0 m (end - length x.1) x.0.1 >>= λ c. sections_from most next c end x.1) n e in
    let k = bind_ok (with_fault (fault_here end text) (rank_with r a.0.0.0)) (λ next. contents_of a.0.0.0 m (end - length a.0.1) a.0.0.1 >>= λ c. sections_from most next c end a.0.1) n a.2 in
    let c = bind_ok (contents_of a.0.0.0 m (end - length a.0.1) a.0.0.1) (λ c. sections_from most k.0 c end a.0.1) n k.2 in
    let begun = begun_section end text a.0.0.0 a.0.0.1 a.0.1 a.1 in
    let others = sections_are most k.0 c.0 end a.0.1 n (let less = begun.1 in omega arith) c.2 in
    (section_of end text a.0.0.0 a.0.0.1 a.0.1 ∷ others.0, (a.0.1, begun.0, others.1))

-- ---- there is no other way

pub split_one : (a b x y : List ℕ) → length a ≡ length b → a ++ x ≡ b ++ y → a ≡ b
split_one a b x y long e =
    sym (take-append_seam a x) ∙ ap (λ (l : List ℕ). take (length a) l) e ∙ ap (λ (k : ℕ). take k (b ++ y)) long ∙ take-append_seam b y

pub split_two : (a b x y : List ℕ) → length a ≡ length b → a ++ x ≡ b ++ y → x ≡ y
split_two a b x y long e =
    sym (drop-append_seam a x) ∙ ap (λ (l : List ℕ). drop (length a) l) e ∙ ap (λ (k : ℕ). drop k (b ++ y)) long ∙ drop-append_seam b y

section_parts : (s t : SectionAt) → s.id ≡ t.id → s.contents ≡ t.contents → s.end ≡ t.end → s.whole ≡ t.whole → s ≡ t
section_parts s t a b c d =
    ap (λ (x : ℕ). let y : SectionAt = record s { id = x } in y) a ∙ ap (λ (x : List ℕ). let y : SectionAt = record s { id = t.id; contents = x } in y) b
    ∙ ap (λ (x : ℕ). let y : SectionAt = record t { end = x; whole = s.whole } in y) c ∙ ap (λ (x : List ℕ). let y : SectionAt = record t { whole = x } in y) d

pub same_section :
    (end : ℕ) (text : List ℕ) (s t : SectionAt) (f g : List ℕ) → BeginsSection end text s f → BeginsSection end text t g → (s ≡ t) × (f ≡ g)
same_section end text s t f g p q =
    let front : s.id ∷ p.sized ≡ t.id ∷ q.sized = sym p.id_is ∙ q.id_is in
    let ids : s.id ≡ t.id = cc in
    let sized : p.sized ≡ q.sized = cc in
    let both = ok_same (length s.contents, s.contents ++ f) (length t.contents, t.contents ++ g) (sym p.size_is ∙ ap u32 sized ∙ q.size_is) in
    let long : length s.contents ≡ length t.contents = ap (λ (x : ℕ × List ℕ). x.0) both in
    let parts : s.contents ++ f ≡ t.contents ++ g = ap (λ (x : ℕ × List ℕ). x.1) both in
    let after : f ≡ g = split_two s.contents t.contents f g long parts in
    let ends : s.end ≡ t.end = p.end_is ∙ ap (λ (l : List ℕ). end - length l) after ∙ sym q.end_is in
    let wholes : s.whole ++ f ≡ t.whole ++ g = sym p.whole_is ∙ q.whole_is in
    let as_long : length s.whole ≡ length t.whole =
    let one = length-append s.whole f in let two = length-append t.whole g in let all = ap length wholes in let rest = ap length after in omega arith in
    (section_parts s t ids (split_one s.contents t.contents f g long parts) ends (split_one s.whole t.whole f g as_long wholes), after)

pub same_sections : (end : ℕ) (text : List ℕ) (a b : List SectionAt) → AreSections end text a → AreSections end text b → a ≡ b
same_sections end text [] [] p q = refl
same_sections end text [] (t ∷ ts) p q = absurd (let e = sym p ∙ q.1.id_is in cc)
same_sections end text (s ∷ ss) [] p q = absurd (let e = sym q ∙ p.1.id_is in cc)
same_sections end text (s ∷ ss) (t ∷ ts) p q =
    let first = same_section end text s t p.0 q.0 p.1 q.1 in
    let others = same_sections end p.0 ss ts p.2 (subst (λ (l : List ℕ). AreSections end l ts) (sym first.1) q.2) in
    ap (λ (x : SectionAt). x ∷ ss) first.0 ∙ ap (λ (l : List SectionAt). t ∷ l) others

-- ---- the file

same_modules : (file : List ℕ) (a b : List SectionAt) → IsModule file a → IsModule file b → a ≡ b
same_modules file a b p q =
    let texts : p.0 ≡ q.0 = split_two preamble preamble p.0 q.0 refl (sym p.1 ∙ q.1) in
    same_sections (length file) p.0 a b p.2 (subst (λ (l : List ℕ). AreSections (length file) l b) (sym texts) q.2)

marked :
    (size : ℕ) (mark : List ℕ) (f : ModuleFault) (end : ℕ) (text : List ℕ) (x : Unit {0} × List ℕ) →
    checked (piece size) (λ bytes. let r : Result (Unit {0}) ModuleFault = if bytes_eq bytes mark then Ok tt else Err f in r) end text ≡ Ok x → text ≡ mark ++ x.1
marked size mark f end text x e =
    let check : List ℕ → Result (Unit {0}) ModuleFault = λ bytes. if bytes_eq bytes mark then Ok tt else Err f in
    let a = bind_ok (piece size end text) (λ y. with_fault (fault_here end text) (check y.0) >>= λ v. Ok (v, y.1)) x e in
    let b = bind_ok (with_fault (fault_here end text) (check a.0.0)) (λ v. Ok (v, a.0.1)) x a.2 in
    let same : a.0.0 ≡ mark =
    elim (chosen (bytes_eq a.0.0 mark) (Ok tt) (Err f) (Ok b.0) (with_fault_ok (fault_here end text) (check a.0.0) b.0 b.1)) [
      | inl y ↦ (bytes_eq-Decides a.0.0 mark).0 y.0
      | inr y ↦ absurd (let h = y.1 in cc)
    ] in
    (piece_is size end text a.0 a.1).0 ∙ ap (λ (l : List ℕ). l ++ a.0.1) same ∙ ap (λ (p : Unit {0} × List ℕ). mark ++ p.1) (ok_same (b.0, a.0.1) x b.2)

pub preamble_is : (end : ℕ) (file : List ℕ) (x : Unit {0} × List ℕ) → preamble_part end file ≡ Ok x → file ≡ preamble ++ x.1
preamble_is end file x e =
    let magic : List ℕ = 0x00 ∷ 0x61 ∷ 0x73 ∷ 0x6d ∷ [] in
    let version : List ℕ = 0x01 ∷ 0x00 ∷ 0x00 ∷ 0x00 ∷ [] in
    let a = bind_ok (checked (piece 4) is_magic end file) (λ u. checked (piece 4) is_version end u.1) x e in
    marked 4 magic fault.BadMagic end file a.0 a.1 ∙ ap (λ (l : List ℕ). magic ++ l) (marked 4 version fault.BadVersion end a.0.1 x a.2)

pub one_spelling : (file : List ℕ) (m : Components) → module_of file ≡ Ok m → HasOneSpelling file
one_spelling file m e =
    let a = bind_ok (preamble_part (length file) file) (λ x. sections_from (length x.1) 0 no_components (length file) x.1 >>= λ c. counts_agree c (length file)) m e in
    let b = bind_ok (sections_from (length a.0.1) 0 no_components (length file) a.0.1) (λ c. counts_agree c (length file)) m a.2 in
    let read = sections_are (length a.0.1) 0 no_components (length file) a.0.1 b.0 (omega arith) b.1 in
    let are : IsModule file read.0 = (a.0.1, preamble_is (length file) file a.0 a.1, read.1) in
    record { sections = read.0; are = are; only = λ others h. same_modules file others read.0 h are }
