-- Fields that get new values of the same size, in order.
use Rattle.std.proofs.Common.{◌≡◌, ℕ, zero, suc, ◌-◌, ◌^◌, false, eqb, ltb, List, [], ◌∷◌, ◌++◌, length, Result, Ok, Err, inl, inr, refl, sym, subst, ◌∙◌, arith}
use Rattle.std.specs.Prelude.{slice_get}
use Rattle.std.specs.List.{AllByRecursion}
use Rattle.std.proofs.lemmas.Bool.{ltb-false, eq-eqb}
use Rattle.wasm_numbers.proofs.Agreement.{chosen}
use Rattle.wasm_numbers.proofs.ResultLemmas.{bind_ok, ok_same}
use Rattle.wasm_numbers.specs.Results.{◌>>=◌}
use Rattle.dwarf_bytes.specs.declared.fault.DebugFault.{DebugFault}
use Rattle.dwarf_bytes.specs.declared.fault.DebugFault.TheVariants.{Overlap, BadOffset, DoesNotFit}
use Rattle.dwarf_bytes.specs.declared.size.Size.{Size}
use Rattle.dwarf_bytes.specs.Changes.{SectionChange, AreChangesInOrder, end_from, patched, moved_offset, are_resized}
use Rattle.dwarf_bytes.specs.Numbers.{size_in_bytes, fixed_number}
use Rattle.dwarf_bytes.specs.Patches.{part_of}
use Rattle.dwarf_bytes.specs.Writing.{fixed_bytes}
use Rattle.dwarf_bytes.proofs.ChangeLaws.{kept, order_more, keeps_offset}
use Rattle.dwarf_line.proofs.Spelled.{length-fixed_bytes}
use Rattle.dwarf_info.specs.Following.{offset_followed, distance_followed, sized_part}
use Rattle.dwarf_info.proofs.Search.{all_append}
use Rattle.dwarf.specs.NewFields.{HasNewFields}
use Rattle.dwarf.specs.Replacing.{ReplacingReader, part_replaced, number_replaced, distance_replaced, at_most_replaced, each_replaced, section_with, section_replaced, unit_followed}

abbrev pub HasItsSize : SectionChange → Type 0
HasItsSize c = length c.new ≡ c.old

-- parts in order, each replaced by as many bytes
abbrev pub AreFields : List SectionChange → Type 0
AreFields cs = AreChangesInOrder 0 cs × AllByRecursion HasItsSize cs

pub part_keeps : (c : SectionChange) (cs new : List SectionChange) → HasItsSize c → part_replaced c cs ≡ Ok new → AreFields cs → AreFields new
part_keeps c cs new same e fields =
    elim (chosen (ltb c.at (end_from 0 cs)) (Err Overlap) (Ok (cs ++ c ∷ [])) (Ok new) e) [
      | inl p ↦ absurd (let h = p.1 in cc)
      | inr p ↦
          let after = ltb-false c.at (end_from 0 cs) p.0 in
          let is : cs ++ c ∷ [] ≡ new = ok_same {E = DebugFault} (cs ++ c ∷ []) new p.1 in
          subst AreFields is (order_more 0 cs c fields.0 after, all_append HasItsSize cs (c ∷ []) fields.1 (same, tt))
    ]

sized_keeps : (at : ℕ) (size : Size) (n : ℕ) (c : SectionChange) → sized_part at size n ≡ Ok c → HasItsSize c
sized_keeps at size n c e =
    let k = size_in_bytes size in
    let part = part_of at k (fixed_bytes k n) in
    elim (chosen (ltb n (256 ^ k)) (Ok part) (Err DoesNotFit) (Ok c) e) [
      | inl p ↦
          let is : part ≡ c = ok_same {E = DebugFault} part c p.1 in
          subst HasItsSize is (length-fixed_bytes k n)
      | inr p ↦ absurd (let h = p.1 in cc)
    ]

pub number_keeps : (at : ℕ) (size : Size) (old n : ℕ) (cs new : List SectionChange) → number_replaced at size old n cs ≡ Ok new → AreFields cs → AreFields new
number_keeps at size old n cs new e fields =
    elim (chosen (eqb old n) (Ok cs) (sized_part at size n >>= λ c. part_replaced c cs) (Ok new) e) [
      | inl p ↦ subst AreFields (ok_same {E = DebugFault} cs new p.1) fields
      | inr p ↦
          let c = bind_ok (sized_part at size n) (λ c. part_replaced c cs) new p.1 in
          part_keeps c.0 cs new (sized_keeps at size n c.0 c.1) c.2 fields
    ]

pub distance_keeps : (info : List SectionChange) (start at : ℕ) (size : Size) (distance : ℕ) (cs new : List SectionChange) → distance_replaced info start at size distance cs ≡ Ok new
    → AreFields cs → AreFields new
distance_keeps info start at size distance cs new e fields =
    let n = bind_ok (distance_followed info start distance) (λ n. number_replaced at size distance n cs) new e in
    number_keeps at size distance n.0 cs new n.2 fields

pub unit_keeps : (info : List SectionChange) (size : Size) (end : ℕ) (bytes : List ℕ) (cs : List SectionChange) (r : (ℕ × List SectionChange) × List ℕ) → unit_followed info size end bytes cs ≡ Ok r
    → AreFields cs → AreFields r.0.1
unit_keeps info size end bytes cs r e fields =
    let at = end - length bytes in
    let unit = bind_ok (fixed_number (size_in_bytes size) bytes) (λ unit. number_replaced at size unit.0 (offset_followed info unit.0) cs >>= λ now. Ok ((unit.0, now), unit.1)) r e in
    let u = unit.0.0 in
    let rest = unit.0.1 in
    let now = bind_ok (number_replaced at size u (offset_followed info u) cs) (λ now. Ok ((u, now), rest)) r unit.2 in
    subst (λ (z : (ℕ × List SectionChange) × List ℕ). AreFields z.0.1) {x = ((u, now.0), rest)} (ok_same {E = DebugFault} ((u, now.0), rest) r now.2)
    (number_keeps at size u (offset_followed info u) cs now.0 now.1 fields)

-- ---- one after the other

pub record KeepsFields (one : ReplacingReader) : Type 0 where
  pub at : (bytes : List ℕ) (cs : List SectionChange) (r : List SectionChange × List ℕ) → one bytes cs ≡ Ok r → AreFields cs → AreFields r.0

pub pair_keeps : (now : List SectionChange) (rest : List ℕ) (r : List SectionChange × List ℕ) → (let q : Result (List SectionChange × List ℕ) DebugFault = Ok (now, rest) in q) ≡ Ok r → AreFields now → AreFields r.0
pair_keeps now rest r e fields = subst (λ (z : List SectionChange × List ℕ). AreFields z.0) {x = (now, rest)} (ok_same {E = DebugFault} (now, rest) r e) fields

each_keeps : (most : ℕ) (one : ReplacingReader) → KeepsFields one → (bytes : List ℕ) (cs new : List SectionChange) → at_most_replaced most one bytes cs ≡ Ok new → AreFields cs → AreFields new
unfolding at_most_replaced
each_keeps most one h [] cs new e fields = subst AreFields (ok_same {E = DebugFault} cs new e) fields
each_keeps zero one h (b ∷ bytes) cs new e fields = absurd cc
each_keeps (suc most) one h (b ∷ bytes) cs new e fields =
    let x = bind_ok (one (b ∷ bytes) cs) (λ x. at_most_replaced most one x.1 x.0) new e in
    each_keeps most one h x.0.1 x.0.0 new x.2 (h.at (b ∷ bytes) cs x.0 x.1 fields)

pub all_keep : (one : ReplacingReader) → KeepsFields one → (bytes : List ℕ) (cs new : List SectionChange) → each_replaced one bytes cs ≡ Ok new → AreFields cs → AreFields new
all_keep one h bytes = each_keeps (length bytes) one h bytes

-- ---- a section

none_resized : (cs : List SectionChange) → AllByRecursion HasItsSize cs → are_resized cs ≡ false
none_resized [] same = refl
none_resized (c ∷ cs) same = rw (eq-eqb (length c.new) c.old same.0) (none_resized cs same.1)

pub section_keeps : (one : ReplacingReader) → KeepsFields one → (section new : List ℕ) → section_replaced one section ≡ Ok new → HasNewFields section new
section_keeps one h section new e =
    let cs = bind_ok (each_replaced one section []) (λ cs. section_with cs section) new e in
    let fields = all_keep one h section [] cs.0 cs.1 (tt, tt) in
    elim (chosen (ltb (length section) (end_from 0 cs.0)) (Err BadOffset) (Ok (patched cs.0 section)) (Ok new) cs.2) [
      | inl p ↦ absurd (let k = p.1 in cc)
      | inr p ↦
          let is : patched cs.0 section ≡ new = ok_same {E = DebugFault} (patched cs.0 section) new p.1 in
          record {
            fields = cs.0;
            in_order = fields.0;
            same_sizes = fields.1;
            within = ltb-false (length section) (end_from 0 cs.0) p.0;
            new_is = sym is;
            others_stay = λ o within outside.
                let whole : o - 0 ≡ o = omega arith in
                let stays : moved_offset cs.0 o ≡ o = keeps_offset 0 cs.0 o fields.0 (none_resized cs.0 fields.1) ∙ whole in
                subst (λ (l : List ℕ). slice_get l o ≡ slice_get section o) is (subst (λ (n : ℕ). slice_get (patched cs.0 section) n ≡ slice_get section o) stays (kept cs.0 section o fields.0 within outside));
          }
    ]
