-- The code section of a module that was read: there is at most one, and it has a body for each function that isn't imported.
use Rattle.std.proofs.Common.{◌≡◌, ◌≢◌, ◌⊎◌, ◌==◌, ℕ, zero, suc, ◌-◌, ◌<◌, ◌≤◌, ◌^◌, nat_lt, Bool, true, false, not, ◌&&◌, if◌then◌else◌, List, [], ◌∷◌, ◌++◌, length, get_or, Option, Some, None, is_some, MatchOption, Ok, Err, refl, sym, ap, ◌∙◌, subst, inl, inr, arith, length-append}
use Rattle.std.specs.List.{AllByRecursion}
use Rattle.std.proofs.Math.Bool.{and-true}
use Rattle.std.proofs.lemmas.Bool.Decides.{nat_tests}
use Rattle.wasm_numbers.specs.Numbers.{unsigned, u32}
use Rattle.wasm_numbers.specs.Results.{◌>>=◌, with_fault}
use Rattle.wasm_numbers.proofs.Agreement.{chosen}
use Rattle.wasm_numbers.proofs.ResultLemmas.{bind_ok, ok_same, with_fault_ok}
use Rattle.wasm_sections.specs.declared.fault.ModuleFault.TheVariants as fault
use Rattle.wasm_sections.specs.CodeSections.{BodyAt, AreBodies, IsCode}
use Rattle.wasm_sections.specs.Components.{Components, no_components, body_count_of, body_part, as_many_bodies, bodies_part, code_part, item_step, items_part, custom_section, contents_of, sections_from, preamble_part, data_agree, counts_agree, module_of}
use Rattle.wasm_sections.specs.Format.{name_part}
use Rattle.wasm_sections.specs.Parts.{fault_here, item_fault, passed, repeated, no_more, whole_part, number, piece}
use Rattle.wasm_sections.specs.Sections.{SectionAt, AreSections, IsModule, preamble, rank, section_part, rank_with}
use Rattle.wasm_sections.proofs.NumberLemmas.{number_takes, is_shorter}
use Rattle.wasm_module.specs.ReadSections.{AreInOrder, AreRead, IsOfSections}
use Rattle.wasm_module.specs.ModuleCode.{sections_with, IsCodeIn, AreBodiesOf, HasCode}
use Rattle.wasm_module.proofs.ComponentLemmas.{Allows, then_leads, repeated_leads, whole_leads, data_step_leads, types_lead, contents_lead}
use Rattle.wasm_module.proofs.ModuleLawLemmas.{piece_is, read_as, section_of, begun_section, same_section, split_one, split_two, preamble_is}

-- ---- bodies, each after its size

none_left : (end : ℕ) (text : List ℕ) (u : Unit {0}) → no_more text end ≡ Ok u → text ≡ []
none_left end [] u e = refl
none_left end (b ∷ bs) u e = absurd cc

bodies_are :
    (n end : ℕ) (text : List ℕ) (u : Unit {0}) (x : Unit {0} × List ℕ) → repeated (λ u. passed body_part) n u end text ≡ Ok x → x.1 ≡ [] →
    (bodies : List BodyAt) × (length bodies ≡ n) × AreBodies end text bodies
unfolding repeated
bodies_are zero end text u x e none = ([], refl, ap (λ (p : Unit {0} × List ℕ). p.1) (ok_same (u, text) x e) ∙ none)
bodies_are (suc n) end text u x e none =
    let a = bind_ok (passed body_part end text) (λ y. repeated (λ u. passed body_part) n y.0 end y.1) x e in
    let p = bind_ok (body_part end text) (λ y. Ok (tt, y.1)) a.0 a.1 in
    let q = bind_ok (number end text) (λ y. piece y.0 end y.1) p.0 p.1 in
    let parts = piece_is q.0.0 end q.0.1 p.0 q.2 in
    let bytes : List ℕ = p.0.0 in
    let following : List ℕ = p.0.1 in
    let others = bodies_are n end a.0.1 a.0.0 x a.2 none in
    let size_is : u32 text ≡ Ok (length bytes, bytes ++ following) =
    read_as (u32 text) q.0.0 (length bytes) q.0.1 (bytes ++ following) (with_fault_ok (item_fault end text) (u32 text) q.0 q.1) (sym parts.1) parts.0 in
    let rest : following ≡ a.0.1 = ap (λ (z : Unit {0} × List ℕ). z.1) (ok_same (tt, following) a.0 p.2) in
    let b : BodyAt = record { start = end - length (bytes ++ following); bytes = bytes } in
    (b ∷ others.0, ap (λ (k : ℕ). suc k) others.1, (following, size_is, refl, subst (λ (l : List ℕ). AreBodies end l others.0) (sym rest) others.2))

-- ---- there is no other way

-- a body and what follows it
pub same_entry :
    (end : ℕ) (text : List ℕ) (a b : BodyAt) (f g : List ℕ) → u32 text ≡ Ok (length a.bytes, a.bytes ++ f) → u32 text ≡ Ok (length b.bytes, b.bytes ++ g) →
    a.start ≡ end - length (a.bytes ++ f) → b.start ≡ end - length (b.bytes ++ g) → (a ≡ b) × (f ≡ g)
same_entry end text a b f g p q s t =
    let both = ok_same (length a.bytes, a.bytes ++ f) (length b.bytes, b.bytes ++ g) (sym p ∙ q) in
    let long : length a.bytes ≡ length b.bytes = ap (λ (x : ℕ × List ℕ). x.0) both in
    let parts : a.bytes ++ f ≡ b.bytes ++ g = ap (λ (x : ℕ × List ℕ). x.1) both in
    let starts : a.start ≡ b.start = s ∙ ap (λ (l : List ℕ). end - length l) parts ∙ sym t in
    let bytes : a.bytes ≡ b.bytes = split_one a.bytes b.bytes f g long parts in
    (λ i. record { start = starts i; bytes = bytes i }, split_two a.bytes b.bytes f g long parts)

-- there is one where a size is read
pub none_empty : (text bytes following : List ℕ) → text ≡ [] → u32 text ≡ Ok (length bytes, bytes ++ following) → ⊥
none_empty text bytes following none e =
    let less = is_shorter text (bytes ++ following) (number_takes unsigned 32 text (length bytes) (bytes ++ following) e) in
    let empty : length text ≡ 0 = ap length none in
    omega arith

same_lists : (end : ℕ) (text : List ℕ) (a b : List BodyAt) → AreBodies end text a → AreBodies end text b → a ≡ b
same_lists end text [] [] p q = refl
same_lists end text [] (y ∷ ys) p q = absurd (none_empty text y.bytes q.0 p q.1)
same_lists end text (x ∷ xs) [] p q = absurd (none_empty text x.bytes p.0 q p.1)
same_lists end text (x ∷ xs) (y ∷ ys) p q =
    let first = same_entry end text x y p.0 q.0 p.1 q.1 p.2 q.2 in
    let others = same_lists end p.0 xs ys p.3 (subst (λ (l : List ℕ). AreBodies end l ys) (sym first.1) q.3) in
    ap (λ (z : BodyAt). z ∷ xs) first.0 ∙ ap (λ (l : List BodyAt). y ∷ l) others

same_in :
    (code : Option (ℕ × List ℕ)) (a b : List BodyAt) → MatchOption code (a ≡ []) (λ c. IsCode c.0 c.1 a) → MatchOption code (b ≡ []) (λ c. IsCode c.0 c.1 b) → a ≡ b
same_in None a b p q = p ∙ sym q
same_in (Some code) a b p q =
    let both = ok_same (length a, p.0) (length b, q.0) (sym p.1 ∙ q.1) in
    same_lists code.0 p.0 a b p.2 (subst (λ (l : List ℕ). AreBodies code.0 l b) (sym (ap (λ (x : ℕ × List ℕ). x.1) both)) q.2)

-- ---- the contents of a code section

-- the number of bodies
count_is : (m : Components) (count v : ℕ) → as_many_bodies m count ≡ Ok v → (v ≡ count) × (count ≡ body_count_of m)
count_is m count v e =
    elim (chosen (count == body_count_of m) (Ok count) (Err fault.BodyCount) (Ok v) e) [
      | inl x ↦ (sym (ok_same count v x.1), let h = x.0 in grind (arith, nat_tests))
      | inr x ↦ absurd (let h = x.1 in cc)
    ]

-- the contents of a code section, and what is known after it
record CodeRead (m : Components) (end : ℕ) (text : List ℕ) (n : Components) : Type 0 where
  n_is : n ≡ record m { code = Some (end, text) }
  bodies : List BodyAt
  are_bodies : IsCode end text bodies
  are_all : length bodies ≡ body_count_of m

code_read : (m : Components) (end : ℕ) (text : List ℕ) (n : Components) → whole_part (code_part m) end text ≡ Ok n → CodeRead m end text n
code_read m end text n e =
    let with_code : Components = record m { code = Some (end, text) } in
    let a = bind_ok (code_part m end text) (λ x. no_more x.1 end >>= λ u. Ok x.0) n e in
    let z = bind_ok (no_more a.0.1 end) (λ u. Ok a.0.0) n a.2 in
    let c = bind_ok (bodies_part m end text) (λ x. Ok (with_code, x.1)) a.0 a.1 in
    let b = bind_ok (number end text >>= λ y. with_fault (fault_here end text) (as_many_bodies m y.0) >>= λ v. Ok (v, y.1)) (λ y. repeated (λ u. passed body_part) y.0 tt end y.1) c.0 c.1 in
    let i = bind_ok (number end text) (λ y. with_fault (fault_here end text) (as_many_bodies m y.0) >>= λ v. Ok (v, y.1)) b.0 b.1 in
    let k = bind_ok (with_fault (fault_here end text) (as_many_bodies m i.0.0)) (λ v. Ok (v, i.0.1)) b.0 i.2 in
    let counted = count_is m i.0.0 k.0 (with_fault_ok (fault_here end text) (as_many_bodies m i.0.0) k.0 k.1) in
    let taken = ok_same (k.0, i.0.1) b.0 k.2 in
    let made = ok_same (with_code, c.0.1) a.0 c.2 in
    let none : c.0.1 ≡ [] = ap (λ (p : Components × List ℕ). p.1) made ∙ none_left end a.0.1 z.0 z.1 in
    let read = bodies_are b.0.0 end b.0.1 tt c.0 b.2 none in
    let count : b.0.0 ≡ i.0.0 = sym (ap (λ (p : ℕ × List ℕ). p.0) taken) ∙ counted.0 in
    let after : i.0.1 ≡ b.0.1 = ap (λ (p : ℕ × List ℕ). p.1) taken in
    let first : u32 text ≡ Ok (length read.0, b.0.1) =
    read_as (u32 text) i.0.0 (length read.0) i.0.1 b.0.1 (with_fault_ok (item_fault end text) (u32 text) i.0 i.1) (sym (read.1 ∙ count)) after in
    record {
      n_is = sym (ap (λ (p : Components × List ℕ). p.0) made ∙ ok_same a.0.0 n z.2);
      bodies = read.0;
      are_bodies = (b.0.1, first, read.2);
      are_all = read.1 ∙ count ∙ counted.1;
    }

-- ---- steps that leave the code, and add no function where there are too many

record KeepsCode (m n : Components) : Type 0 where
  code : n.code ≡ m.code
  few : length m.functions ≤ 2 ^ 32 → length n.functions ≤ 2 ^ 32

few_more : (functions : List ℕ) (type : ℕ) → nat_lt (length functions) (2 ^ 32) ≡ true → length (functions ++ type ∷ []) ≤ 2 ^ 32
few_more functions type room = let long = length-append functions (type ∷ []) in grind (arith, nat_tests)

allowed : Allows KeepsCode
allowed = record {
  others = record {
    same = λ m. record { code = refl; few = λ f. f };
    both = λ a b c p q. record { code = q.code ∙ p.code; few = λ f. q.few (p.few f) };
    tags = λ m l. record { code = refl; few = λ f. f };
    tables = λ m k. record { code = refl; few = λ f. f };
    memories = λ m k. record { code = refl; few = λ f. f };
    globals = λ m k. record { code = refl; few = λ f. f };
    elements = λ m k. record { code = refl; few = λ f. f };
    datas = λ m k. record { code = refl; few = λ f. f };
    data_count = λ m o. record { code = refl; few = λ f. f };
  };
  functions = λ m index type found room. record { code = refl; few = λ f. few_more m.functions type room };
  imported = λ m k. record { code = refl; few = λ f. f };
}

other_section : (id : ℕ) (m : Components) (end : ℕ) (text : List ℕ) (n : Components) → (id == 10) ≡ false → contents_of id m end text ≡ Ok n → KeepsCode m n
other_section id m end text n other e =
    contents_lead KeepsCode allowed id m (λ is. types_lead KeepsCode m (λ types. record { code = refl; few = λ f. f })) (λ is. absurd (let both : true ≡ false = sym is ∙ other in cc)) end text n e

-- ---- steps after the code section, which add only data segments

abbrev OnlyData : Components → Components → Type 0
OnlyData m n = n ≡ record m { datas = n.datas }

data_both : (a b c : Components) → OnlyData a b → OnlyData b c → OnlyData a c
data_both a b c p q = q ∙ ap (λ (x : Components). let y : Components = record x { datas = c.datas } in y) p

data_section : (m : Components) (end : ℕ) (text : List ℕ) (n : Components) → contents_of 11 m end text ≡ Ok n → OnlyData m n
data_section m end text n e =
    whole_leads OnlyData m (items_part 11 m)
    (then_leads OnlyData m number (λ k. repeated (item_step 11) k m)
    (λ k. repeated_leads OnlyData (λ c. refl) data_both (item_step 11) (λ c. data_step_leads OnlyData c refl refl) k m)) end text n e

pub custom_same : (m n : Components) (end : ℕ) (text : List ℕ) → custom_section m end text ≡ Ok n → m ≡ n
custom_same m n end text e = let a = bind_ok (name_part end text) (λ x. Ok m) n e in ok_same m n a.2

-- the only rank that is greater than that of the code section
none_greater : (ranks : List ℕ) (i : ℕ) → AllByRecursion (λ r. r ≤ 12) ranks → 12 < get_or ranks i 0 → ⊥
none_greater [] i low h = omega arith
none_greater (r ∷ rs) zero low h = let least = low.0 in omega arith
none_greater (r ∷ rs) (suc i) low h = none_greater rs i low.1 h

one_greater : (before after : List ℕ) (r i : ℕ) → AllByRecursion (λ r. r ≤ 12) before → AllByRecursion (λ r. r ≤ 12) after → 12 < get_or (before ++ r ∷ after) i 0 → i ≡ length before
one_greater [] after r zero p q h = refl
one_greater [] after r (suc i) p q h = absurd (none_greater after i q h)
one_greater (b ∷ bs) after r zero p q h = absurd (let least = p.0 in omega arith)
one_greater (b ∷ bs) after r (suc i) p q h = ap (λ (k : ℕ). suc k) (one_greater bs after r i p.1 q h)

late_is_data : (id : ℕ) → 12 < rank id → id ≡ 11
late_is_data id h = one_greater (0 ∷ 1 ∷ 2 ∷ 3 ∷ 4 ∷ 5 ∷ 7 ∷ 8 ∷ 9 ∷ 10 ∷ 12 ∷ []) (11 ∷ 6 ∷ []) 13 id
    (omega arith, (omega arith, (omega arith, (omega arith, (omega arith, (omega arith, (omega arith, (omega arith, (omega arith, (omega arith, (omega arith, tt))))))))))) (omega arith, (omega arith, tt)) h

-- ---- sections in order

pub either_is : (b : Bool) → (b ≡ true) ⊎ (b ≡ false)
either_is true = inl refl
either_is false = inr refl

pub is_number : (a b : ℕ) → (a == b) ≡ true → a ≡ b
is_number a b e = grind (arith, nat_tests)

-- the rank after a section
ranked : (r id next : ℕ) → rank_with r id ≡ Ok next → (id ≢ 0 → r < rank id) × (next ≡ (if id == 0 then r else rank id))
ranked r id next e =
    elim (chosen (id == 0) (Ok r) (if nat_lt r (rank id) then Ok (rank id) else Err fault.SectionOutOfOrder) (Ok next) e) [
      | inl x ↦ (λ some. absurd (some (is_number id 0 x.0)), sym (ok_same r next x.1) ∙ sym (ap (λ (b : Bool). if b then r else rank id) x.0))
      | inr x ↦
          elim (chosen (nat_lt r (rank id)) (Ok (rank id)) (Err fault.SectionOutOfOrder) (Ok next) x.1) [
            | inl y ↦ (λ some. let h = y.0 in grind (arith, nat_tests), sym (ok_same (rank id) next y.1) ∙ sym (ap (λ (b : Bool). if b then r else rank id) x.0))
            | inr y ↦ absurd (let h = y.1 in cc)
          ]
    ]

all_read :
    (most r : ℕ) (m : Components) (end : ℕ) (text : List ℕ) (n : Components) (ss : List SectionAt) → length text ≤ most → sections_from most r m end text ≡ Ok n →
    AreSections end text ss → AreInOrder r ss × AreRead m ss n
unfolding sections_from
all_read most r m end [] n (s ∷ ss) enough e p = absurd (let nothing = p.1.id_is in cc)
all_read zero r m end [] n [] enough e p = (tt, ok_same m n e)
all_read (suc most) r m end [] n [] enough e p = (tt, ok_same m n e)
all_read most r m end (b ∷ bytes) n [] enough e p = absurd cc
all_read zero r m end (b ∷ bytes) n (s ∷ ss) enough e p = absurd (omega arith)
all_read (suc most) r m end (b ∷ bytes) n (s ∷ ss) enough e p =
    let text : List ℕ = b ∷ bytes in
    let a = bind_ok (section_part end text) (λ x. with_fault (fault_here end text) (rank_with r x.0.0) >>= λ next. contents_of x.0.0 m (end - length x.1) x.0.1 >>= λ c. sections_from most next c end x.1) n e in
    let k = bind_ok (with_fault (fault_here end text) (rank_with r a.0.0.0)) (λ next. contents_of a.0.0.0 m (end - length a.0.1) a.0.0.1 >>= λ c. sections_from most next c end a.0.1) n a.2 in
    let c = bind_ok (contents_of a.0.0.0 m (end - length a.0.1) a.0.0.1) (λ c. sections_from most k.0 c end a.0.1) n k.2 in
    let begun = begun_section end text a.0.0.0 a.0.0.1 a.0.1 a.1 in
    let read : SectionAt = section_of end text a.0.0.0 a.0.0.1 a.0.1 in
    let same = same_section end text s read p.0 a.0.1 p.1 begun.0 in
    let order = ranked r s.id k.0 (ap (λ (x : SectionAt). rank_with r x.id) same.0 ∙ with_fault_ok (fault_here end text) (rank_with r a.0.0.0) k.0 k.1) in
    let others = all_read most k.0 c.0 end a.0.1 n ss (let less = begun.1 in omega arith) c.2 (subst (λ (l : List ℕ). AreSections end l ss) same.1 p.2) in (
      (order.0, subst (λ (i : ℕ). AreInOrder i ss) order.1 others.0),
      (c.0, ap (λ (x : SectionAt). contents_of x.id m x.end x.contents) same.0 ∙ c.1, others.1),
    )

-- ---- the code section among them

-- one section more, which is a code section or isn't
pub with_code : (s : SectionAt) (ss : List SectionAt) → (s.id == 10) ≡ true → sections_with 10 (s ∷ ss) ≡ s ∷ sections_with 10 ss
with_code s ss is = ap (λ (b : Bool). if b then s ∷ sections_with 10 ss else sections_with 10 ss) is

pub without_code : (s : SectionAt) (ss : List SectionAt) → (s.id == 10) ≡ false → sections_with 10 (s ∷ ss) ≡ sections_with 10 ss
without_code s ss isnt = ap (λ (b : Bool). if b then s ∷ sections_with 10 ss else sections_with 10 ss) isnt

-- the rank after a section with this id
abbrev pub rank_after : (r id : ℕ) → ℕ
rank_after r id = if id == 0 then r else rank id

-- sections after the code section
record AfterCode (m n : Components) (ss : List SectionAt) : Type 0 where
  only_data : OnlyData m n
  no_code : sections_with 10 ss ≡ []

after_next :
    (r : ℕ) (m c : Components) (s : SectionAt) → 12 ≤ r → (s.id ≢ 0 → r < rank s.id) → contents_of s.id m s.end s.contents ≡ Ok c →
    (12 ≤ rank_after r s.id) × ((s.id == 10) ≡ false) × OnlyData m c
after_next r m c s late order read =
    elim (either_is (s.id == 0)) [
      | inl is ↦
          let custom : s.id ≡ 0 = is_number s.id 0 is in
          let same : m ≡ c = custom_same m c s.end s.contents (ap (λ (k : ℕ). contents_of k m s.end s.contents) (sym custom) ∙ read) in
          (subst (λ (k : ℕ). 12 ≤ rank_after r k) (sym custom) late, ap (λ (k : ℕ). k == 10) custom, subst (λ (y : Components). OnlyData m y) same refl)
      | inr isnt ↦
          let less : r < rank s.id = order (λ custom. let wrong = ap (λ (k : ℕ). k == 0) custom in let both : true ≡ false = sym wrong ∙ isnt in cc) in
          let is_data : s.id ≡ 11 = late_is_data s.id (omega arith) in (
            subst (λ (k : ℕ). 12 ≤ rank_after r k) (sym is_data) (omega arith),
            ap (λ (k : ℕ). k == 10) is_data,
            data_section m s.end s.contents c (ap (λ (k : ℕ). contents_of k m s.end s.contents) (sym is_data) ∙ read),
          )
    ]

after_code : (r : ℕ) (m n : Components) (ss : List SectionAt) → 12 ≤ r → AreInOrder r ss → AreRead m ss n → AfterCode m n ss
after_code r m n [] late order read = record { only_data = subst (λ (y : Components). OnlyData m y) read refl; no_code = refl }
after_code r m n (s ∷ ss) late order read =
    let first = after_next r m read.0 s late order.0 read.1 in
    let others = after_code (rank_after r s.id) read.0 n ss first.0 order.1 read.2 in
    record { only_data = data_both m read.0 n first.2 others.only_data; no_code = without_code s ss first.1 ∙ others.no_code }

-- The sections from one on have no code section; or one, and the code is its contents.
data CodeLeft (m n : Components) (ss : List SectionAt) : Type 0 where
  no_section : sections_with 10 ss ≡ [] → n.code ≡ m.code → CodeLeft m n ss
  one_section :
      (s : SectionAt) → sections_with 10 ss ≡ s ∷ [] → n.code ≡ Some (s.end, s.contents) → (bodies : List BodyAt) → IsCode s.end s.contents bodies →
      length bodies ≡ body_count_of n → CodeLeft m n ss

record SectionsRead (m n : Components) (ss : List SectionAt) : Type 0 where
  code : CodeLeft m n ss
  few : length m.functions ≤ 2 ^ 32 → length n.functions ≤ 2 ^ 32

-- after another section
before_code : (m c n : Components) (s : SectionAt) (ss : List SectionAt) → (s.id == 10) ≡ false → c.code ≡ m.code → CodeLeft c n ss → CodeLeft m n (s ∷ ss)
before_code m c n s ss other same (no_section none code) = no_section (without_code s ss other ∙ none) (code ∙ same)
before_code m c n s ss other same (one_section t one code bodies are all) = one_section t (without_code s ss other ∙ one) code bodies are all

-- after the code section
code_first : (m c n : Components) (s : SectionAt) (ss : List SectionAt) → (s.id == 10) ≡ true → CodeRead m s.end s.contents c → AfterCode c n ss → SectionsRead m n (s ∷ ss)
code_first m c n s ss is read after =
    let code : Option (ℕ × List ℕ) = Some (s.end, s.contents) in
    let n_is : n ≡ record m { code = code; datas = n.datas } =
    after.only_data ∙ ap (λ (x : Components). let y : Components = record x { datas = n.datas } in y) read.n_is in
    record {
      code =
          one_section s (with_code s ss is ∙ ap (λ (l : List SectionAt). s ∷ l) after.no_code) (ap (λ (x : Components). x.code) n_is) read.bodies read.are_bodies
          (read.are_all ∙ sym (ap body_count_of n_is));
      few = λ f. subst (λ (l : List ℕ). length l ≤ 2 ^ 32) (sym (ap (λ (x : Components). x.functions) n_is)) f;
    }

sections_read : (r : ℕ) (m n : Components) (ss : List SectionAt) → AreInOrder r ss → AreRead m ss n → SectionsRead m n ss
sections_read r m n [] order read = subst (λ (y : Components). SectionsRead m y []) read (record { code = no_section refl refl; few = λ f. f })
sections_read r m n (s ∷ ss) order read =
    elim (either_is (s.id == 10)) [
      | inl is ↦
          let id_is : s.id ≡ 10 = is_number s.id 10 is in
          let late : 12 ≤ rank_after r s.id = subst (λ (k : ℕ). 12 ≤ rank_after r k) (sym id_is) (omega arith) in
          code_first m read.0 n s ss is (code_read m s.end s.contents read.0 (ap (λ (k : ℕ). contents_of k m s.end s.contents) (sym id_is) ∙ read.1))
          (after_code (rank_after r s.id) read.0 n ss late order.1 read.2)
      | inr other ↦
          let kept = other_section s.id m s.end s.contents read.0 other read.1 in
          let others = sections_read (rank_after r s.id) read.0 n ss order.1 read.2 in
          record { code = before_code m read.0 n s ss other kept.code others.code; few = λ f. others.few (kept.few f) }
    ]

-- ---- the module

agree_same : (m n : Components) (o : Option (ℕ × ℕ)) → data_agree m o ≡ Ok n → m ≡ n
agree_same m n None e = ok_same m n e
agree_same m n (Some count) e =
    elim (chosen (count.0 == m.datas) (Ok m) (Err (record { fault = fault.DataCount; at = count.1 })) (Ok n) e) [ inl x ↦ ok_same m n x.1 | inr x ↦ absurd (let h = x.1 in cc) ]

counts_same : (m n : Components) (end : ℕ) → counts_agree m end ≡ Ok n → (m ≡ n) × ((nat_lt 0 (body_count_of m) && not (is_some m.code)) ≡ false)
counts_same m n end e =
    elim (chosen (nat_lt 0 (body_count_of m) && not (is_some m.code)) (Err (record { fault = fault.BodyCount; at = end })) (data_agree m m.data_count) (Ok n) e) [
      | inl x ↦ absurd (let h = x.1 in cc)
      | inr x ↦ (agree_same m n m.data_count x.1, x.0)
    ]

no_bodies_left : (count : ℕ) (code : Option (ℕ × List ℕ)) → code ≡ None → (nat_lt 0 count && not (is_some code)) ≡ false → count ≡ 0
no_bodies_left count None none e = let few : nat_lt 0 count ≡ false = sym (and-true (nat_lt 0 count)) ∙ e in grind (arith, nat_tests)
no_bodies_left count (Some x) none e = absurd cc

bodies_of :
    (m : Components) (sections : List SectionAt) → CodeLeft no_components m sections → (nat_lt 0 (body_count_of m) && not (is_some m.code)) ≡ false →
    IsCodeIn sections m.code × (bodies : List BodyAt) × AreBodiesOf m bodies
bodies_of m sections (no_section none code) agree = (
  subst (λ (o : Option (ℕ × List ℕ)). IsCodeIn sections o) (sym code) none,
  [],
  record {
    are_code = subst (λ (o : Option (ℕ × List ℕ)). MatchOption o (let l : List BodyAt = [] in l ≡ []) (λ c. IsCode c.0 c.1 [])) (sym code) refl;
    are_all = sym (no_bodies_left (body_count_of m) m.code code agree);
  },
)
bodies_of m sections (one_section s one code bodies are all) agree = (
  subst (λ (o : Option (ℕ × List ℕ)). IsCodeIn sections o) (sym code) (s, one, refl),
  bodies,
  record {
    are_code = subst (λ (o : Option (ℕ × List ℕ)). MatchOption o (bodies ≡ []) (λ c. IsCode c.0 c.1 bodies)) (sym code) are;
    are_all = all;
  },
)

code_of : (m : Components) (sections : List SectionAt) → CodeLeft no_components m sections → (nat_lt 0 (body_count_of m) && not (is_some m.code)) ≡ false → HasCode m sections
code_of m sections left agree =
    let is = bodies_of m sections left agree in
    record { code_is = is.0; bodies = is.1; are_bodies = is.2; only = λ others h. same_in m.code others is.1 h.are_code is.2.are_code }

pub of_sections : (file : List ℕ) (m : Components) (sections : List SectionAt) → module_of file ≡ Ok m → IsModule file sections → IsOfSections file m sections
of_sections file m sections e p =
    let end : ℕ = length file in
    let a = bind_ok (preamble_part end file) (λ x. sections_from (length x.1) 0 no_components end x.1 >>= λ c. counts_agree c end) m e in
    let b = bind_ok (sections_from (length a.0.1) 0 no_components end a.0.1) (λ c. counts_agree c end) m a.2 in
    let texts : p.0 ≡ a.0.1 = split_two preamble preamble p.0 a.0.1 refl (sym p.1 ∙ preamble_is end file a.0 a.1) in
    let read = all_read (length a.0.1) 0 no_components end a.0.1 b.0 sections (omega arith) b.1 (subst (λ (l : List ℕ). AreSections end l sections) texts p.2) in
    let same : b.0 ≡ m = (counts_same b.0 m end b.2).0 in
    record {
      in_order = read.0;
      are_read = subst (λ (c : Components). AreRead no_components sections c) same read.1;
      counts = ap (λ (c : Components). counts_agree c end) (sym same) ∙ b.2;
    }

-- what is known of a module that was read
pub record ModuleRead (m : Components) (sections : List SectionAt) : Type 0 where
  pub code : HasCode m sections
  pub few : length m.functions ≤ 2 ^ 32

pub module_read : (file : List ℕ) (m : Components) (sections : List SectionAt) → module_of file ≡ Ok m → IsModule file sections → ModuleRead m sections
module_read file m sections e p =
    let of = of_sections file m sections e p in
    let read = sections_read 0 no_components m sections of.in_order of.are_read in
    record { code = code_of m sections read.code (counts_same m m (length file) of.counts).1; few = read.few (omega arith) }
