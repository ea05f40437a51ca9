-- What becomes of a section in which parts are replaced.
use Rattle.std.proofs.Common.{◌≡◌, ℕ, zero, suc, ◌+◌, ◌-◌, ◌<◌, ◌≤◌, leb, eqb, eq-eqb, eqb-true, true, false, List, [], ◌∷◌, ◌++◌, length, take, drop, slice_range, refl, sym, ap, ◌∙◌, inl, inr, ◌⊎◌, append_assoc, arith}
use Rattle.std.specs.List.{AllByRecursion, slice_get}
use Rattle.std.proofs.lemmas.Bool.{leb-true, leb-false, cases_Bool}
use Rattle.std.proofs.lemmas.List.{drop-drop, drop-take, drop-append-le, length-take, length-drop, length-take-le, take-take, take-append-drop, drop_all, append-nil}
use Rattle.std.proofs.lemmas.Slice.{between_is}
use Rattle.std.proofs.lemmas.List.Edits.{length-between}
use Rattle.dwarf_bytes.specs.Changes.{SectionChange, AreChangesInOrder, end_from, patched_from, moved_offset_from, changes_after, are_resized}

drop_front : (xs ys : List ℕ) (n k : ℕ) → length xs ≡ n → drop (n + k) (xs ++ ys) ≡ drop k ys
drop_front [] ys n k e = let z : n + k ≡ k = omega (arith, e) in rw z refl
drop_front (x ∷ xs) ys zero k e = absurd (omega (arith, e))
drop_front (x ∷ xs) ys (suc n) k e =
    let s : suc n + k ≡ suc (n + k) = omega arith in
    rw s (drop_front xs ys n k (omega (arith, e)))

reaches : (stop at o : ℕ) → (stop ≤ o) ⊎ (o ≤ at) → o < stop → o ≤ at
reaches stop at o (inl h) past = absurd (omega arith)
reaches stop at o (inr h) past = h

-- a part of the section after an offset in it
range_after : (section : List ℕ) (from to o : ℕ) → from ≤ o → o ≤ to → drop (o - from) (slice_range section from to) ≡ slice_range section o to
range_after section from to o low high =
    let k : to - from ≡ (o - from) + (to - o) = omega arith in
    let n : from + (o - from) ≡ o = omega arith in
    ap (λ (j : ℕ). drop (o - from) (take j (drop from section))) k
    ∙ (drop-take (o - from) (to - o) (drop from section) ∙ ap (take (to - o)) (drop-drop (o - from) from section ∙ ap (λ (j : ℕ). drop j section) n))

pub follows : (from : ℕ) (cs : List SectionChange) (section : List ℕ) (o : ℕ) → AreChangesInOrder from cs → from ≤ o → o ≤ length section → AllByRecursion (λ c. (c.at + c.old ≤ o) ⊎ (o ≤ c.at)) cs
    → drop (moved_offset_from from cs o) (patched_from from cs section) ≡ patched_from o (changes_after cs o) section
follows from [] section o order low high outside =
    let n : from + (o - from) ≡ o = omega arith in
    drop-drop (o - from) from section ∙ ap (λ (j : ℕ). drop j section) n
follows from (c ∷ cs) section o order low high outside =
    elim (cases_Bool (leb (c.at + c.old) o)) [
      | inl before ↦
          let reached = leb-true (c.at + c.old) o before in
          let len = length-between section from c.at (omega arith) in
          let front = drop_front (slice_range section from c.at) (c.new ++ patched_from (c.at + c.old) cs section) (c.at - from) (length c.new + moved_offset_from (c.at + c.old) cs o) len in
          let new = drop_front c.new (patched_from (c.at + c.old) cs section) (length c.new) (moved_offset_from (c.at + c.old) cs o) refl in
          rw before (front ∙ (new ∙ follows (c.at + c.old) cs section o order.1 reached high outside.1))
      | inr not_before ↦
          let past = leb-false (c.at + c.old) o not_before in
          let reached : o ≤ c.at = reaches (c.at + c.old) c.at o outside.0 past in
          let few : o - from ≤ length (slice_range section from c.at) = omega (arith, length-take (c.at - from) (drop from section), length-drop from section) in
          rw not_before (drop-append-le (o - from) (slice_range section from c.at) _ few ∙ ap (λ (l : List ℕ). l ++ (c.new ++ patched_from (c.at + c.old) cs section)) (range_after section from c.at o low reached))
    ]

-- ---- a byte that isn't replaced

get_dropped : (xs : List ℕ) (n : ℕ) → slice_get (drop n xs) 0 ≡ slice_get xs n
get_dropped [] zero = refl
get_dropped [] (suc n) = refl
get_dropped (x ∷ xs) zero = refl
get_dropped (x ∷ xs) (suc n) = get_dropped xs n

get_first : (xs ys : List ℕ) (n : ℕ) → 0 < n → 0 < length xs → slice_get (take n xs ++ ys) 0 ≡ slice_get xs 0
get_first [] ys n some more = absurd (omega arith)
get_first (x ∷ xs) ys zero some more = absurd (omega arith)
get_first (x ∷ xs) ys (suc n) some more = refl

before_or_after : (stop at o : ℕ) → (stop ≤ o) ⊎ (o < at) → (stop ≤ o) ⊎ (o ≤ at)
before_or_after stop at o (inl h) = inl h
before_or_after stop at o (inr h) = inr (omega arith)

outside_all : (cs : List SectionChange) (o : ℕ) → AllByRecursion (λ c. (c.at + c.old ≤ o) ⊎ (o < c.at)) cs → AllByRecursion (λ c. (c.at + c.old ≤ o) ⊎ (o ≤ c.at)) cs
outside_all [] o h = tt
outside_all (c ∷ cs) o h = (before_or_after (c.at + c.old) c.at o h.0, outside_all cs o h.1)

is_after : (stop at o : ℕ) → (stop ≤ o) ⊎ (o < at) → o < stop → o < at
is_after stop at o (inl h) past = absurd (omega arith)
is_after stop at o (inr h) past = h

first_kept : (cs : List SectionChange) (section : List ℕ) (o : ℕ) → o < length section → AllByRecursion (λ c. (c.at + c.old ≤ o) ⊎ (o < c.at)) cs
    → slice_get (patched_from o (changes_after cs o) section) 0 ≡ slice_get section o
first_kept [] section o within outside = get_dropped section o
first_kept (c ∷ cs) section o within outside =
    elim (cases_Bool (leb (c.at + c.old) o)) [
      | inl before ↦ rw before (first_kept cs section o within outside.1)
      | inr not_before ↦
          let later = is_after (c.at + c.old) c.at o outside.0 (leb-false (c.at + c.old) o not_before) in
          rw not_before (get_first (drop o section) _ (c.at - o) (omega arith) (omega (arith, length-drop o section)) ∙ get_dropped section o)
    ]

pub kept : (cs : List SectionChange) (section : List ℕ) (o : ℕ) → AreChangesInOrder 0 cs → o < length section → AllByRecursion (λ c. (c.at + c.old ≤ o) ⊎ (o < c.at)) cs
    → slice_get (patched_from 0 cs section) (moved_offset_from 0 cs o) ≡ slice_get section o
kept cs section o order within outside =
    sym (get_dropped (patched_from 0 cs section) (moved_offset_from 0 cs o))
    ∙ (ap (λ (l : List ℕ). slice_get l 0) (follows 0 cs section o order (omega arith) (omega arith) (outside_all cs o outside)) ∙ first_kept cs section o within outside)

-- ---- a section up to a place after the end of all parts that are replaced

pub end_after : (from : ℕ) (cs : List SectionChange) → AreChangesInOrder from cs → from ≤ end_from from cs
end_after from [] order = omega arith
end_after from (c ∷ cs) order = let later = end_after (c.at + c.old) cs order.1 in omega (arith, order.0, later)

-- the part of a section in front of a place in it
range_taken : (section : List ℕ) (from to n : ℕ) → to ≤ n → slice_range (take n section) from to ≡ slice_range section from to
range_taken section from to n high =
    between_is (take n section) from to ∙ (ap (drop from) (take-take to n section high) ∙ sym (between_is section from to))

take_parts : (section : List ℕ) (m n : ℕ) → m ≤ n → take n section ≡ take m section ++ slice_range section m n
take_parts section m n up =
    let k : n ≡ m + (n - m) = omega arith in
    let e = take-append-drop m (take n section) in
    sym e ∙ (ap (λ (l : List ℕ). l ++ drop m (take n section)) (take-take m n section up) ∙ ap (λ (l : List ℕ). take m section ++ l) (sym (between_is section m n)))

pub patched_kept : (from : ℕ) (cs : List SectionChange) (section : List ℕ) (m n : ℕ) → AreChangesInOrder from cs → end_from from cs ≤ m → m ≤ n → n ≤ length section
    → patched_from from cs (take n section) ≡ patched_from from cs (take m section) ++ slice_range section m n
patched_kept from [] section m n order within up end =
    let len = length-take-le m section (omega arith) in
    ap (drop from) (take_parts section m n up) ∙ drop-append-le from (take m section) (slice_range section m n) (omega (arith, len))
patched_kept from (c ∷ cs) section m n order within up end =
    let later = end_after (c.at + c.old) cs order.1 in
    let one = range_taken section from c.at n (omega arith) ∙ sym (range_taken section from c.at m (omega arith)) in
    let others = patched_kept (c.at + c.old) cs section m n order.1 within up end in
    let front = slice_range (take m section) from c.at in
    let rest = patched_from (c.at + c.old) cs (take m section) in
    let more = slice_range section m n in
    ap (λ (l : List ℕ). l ++ (c.new ++ patched_from (c.at + c.old) cs (take n section))) one
    ∙ (ap (λ (l : List ℕ). front ++ (c.new ++ l)) others
    ∙ (ap (λ (l : List ℕ). front ++ l) (sym (append_assoc c.new rest more)) ∙ sym (append_assoc front (c.new ++ rest) more)))

pub patched_more : (from : ℕ) (cs : List SectionChange) (section new : List ℕ) (m n : ℕ) → AreChangesInOrder from cs → end_from from cs ≤ m → m ≤ n → n ≤ length section
    → patched_from from (cs ++ (record { at = m; old = n - m; new = new }) ∷ []) (take n section) ≡ patched_from from cs (take m section) ++ new
patched_more from [] section new m n order within up end =
    let k : m + (n - m) ≡ n = omega arith in
    let len = length-take-le n section end in
    let none : drop (m + (n - m)) (take n section) ≡ [] = ap (λ (j : ℕ). drop j (take n section)) k ∙ drop_all n (take n section) (omega (arith, len)) in
    let front : slice_range (take n section) from m ≡ drop from (take m section) = between_is (take n section) from m ∙ ap (drop from) (take-take m n section up) in
    ap (λ (l : List ℕ). slice_range (take n section) from m ++ (new ++ l)) none ∙ (ap (λ (l : List ℕ). slice_range (take n section) from m ++ l) (append-nil new) ∙ ap (λ (l : List ℕ). l ++ new) front)
patched_more from (c ∷ cs) section new m n order within up end =
    let later = end_after (c.at + c.old) cs order.1 in
    let one = range_taken section from c.at n (omega arith) ∙ sym (range_taken section from c.at m (omega arith)) in
    let others = patched_more (c.at + c.old) cs section new m n order.1 within up end in
    let front = slice_range (take m section) from c.at in
    let rest = patched_from (c.at + c.old) cs (take m section) in
    let all = patched_from (c.at + c.old) (cs ++ (record { at = m; old = n - m; new = new }) ∷ []) (take n section) in
    ap (λ (l : List ℕ). l ++ (c.new ++ all)) one
    ∙ (ap (λ (l : List ℕ). front ++ (c.new ++ l)) others
    ∙ (ap (λ (l : List ℕ). front ++ l) (sym (append_assoc c.new rest new)) ∙ sym (append_assoc front (c.new ++ rest) new)))

pub order_more : (from : ℕ) (cs : List SectionChange) (c : SectionChange) → AreChangesInOrder from cs → end_from from cs ≤ c.at → AreChangesInOrder from (cs ++ c ∷ [])
order_more from [] c order within = (within, tt)
order_more from (d ∷ cs) c order within = (order.0, order_more (d.at + d.old) cs c order.1 within)

pub end_more : (from : ℕ) (cs : List SectionChange) (c : SectionChange) → end_from from (cs ++ c ∷ []) ≡ c.at + c.old
end_more from [] c = refl
end_more from (d ∷ cs) c = end_more (d.at + d.old) cs c

pub end_append : (from : ℕ) (cs ds : List SectionChange) → end_from from (cs ++ ds) ≡ end_from (end_from from cs) ds
end_append from [] ds = refl
end_append from (c ∷ cs) ds = end_append (c.at + c.old) cs ds

-- ---- no part of another size

same_size : (c : SectionChange) (cs : List SectionChange) → are_resized (c ∷ cs) ≡ false → length c.new ≡ c.old
same_size c cs same = elim (cases_Bool (eqb (length c.new) c.old)) [
  | inl is ↦ eqb-true (length c.new) c.old is
  | inr other ↦ let yes : are_resized (c ∷ cs) ≡ true = rw other refl in absurd (cc (yes, same))
]

same_rest : (c : SectionChange) (cs : List SectionChange) → are_resized (c ∷ cs) ≡ false → are_resized cs ≡ false
same_rest c cs same = let is = eq-eqb (length c.new) c.old (same_size c cs same) in rw is at same

pub keeps_offset : (from : ℕ) (cs : List SectionChange) (o : ℕ) → AreChangesInOrder from cs → are_resized cs ≡ false → moved_offset_from from cs o ≡ o - from
keeps_offset from [] o order same = refl
keeps_offset from (c ∷ cs) o order same = elim (cases_Bool (leb (c.at + c.old) o)) [
  | inl before ↦
      let reached = leb-true (c.at + c.old) o before in
      let size : length c.new ≡ c.old = same_size c cs same in
      let later = keeps_offset (c.at + c.old) cs o order.1 (same_rest c cs same) in
      rw before (omega (arith, order.0, size, later))
  | inr after ↦ rw after refl
]
