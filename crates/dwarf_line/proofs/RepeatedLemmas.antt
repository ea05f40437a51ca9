-- Values that are read one after the other.
use Rattle.std.proofs.Common.{◌≡◌, ℕ, zero, suc, ◌-◌, ◌<◌, ◌≤◌, true, false, eqb, List, [], ◌∷◌, ◌++◌, length, Ok, Err, take, refl, sym, ap, subst, ◌∙◌, append_assoc, length-append, arith}
use Rattle.std.proofs.Math.Seq.{take-append_seam}
use Rattle.std.proofs.lemmas.Bool.Decides.{nat_tests}
use Rattle.std.proofs.lemmas.List.{append-nil}
use Rattle.wasm_numbers.proofs.ResultLemmas.{ok_same}
use Rattle.dwarf_bytes.specs.Faults.{DebugReader}
use Rattle.dwarf_bytes.specs.declared.fault.DebugFault.{DebugFault}
use Rattle.dwarf_line.specs.Repeated.{at_most, all_values, Begin, ReadsAs}
use Rattle.dwarf_bytes.proofs.Local.{IsLocal, shorter}

pub begin-append : {A : Type 0} (one : DebugReader A) (xs ys : List A) (bytes middle following : List ℕ) → Begin one xs bytes middle → Begin one ys middle following → Begin one (xs ++ ys) bytes following
begin-append one [] ys bytes middle following p q = subst (λ (z : List ℕ). Begin one ys z following) (sym p) q
begin-append one (x ∷ xs) ys bytes middle following p q = (p.0, p.1, begin-append one xs ys p.0 middle following p.2 q)

pub begin_one : {A : Type 0} (one : DebugReader A) (x : A) (bytes rest : List ℕ) → one bytes ≡ Ok (x, rest) → Begin one (x ∷ []) bytes rest
begin_one one x bytes rest e = (rest, e, refl)

pub spells-append : {A : Type 0} (one : DebugReader A) (xs ys : List A) (s t : List ℕ) → ReadsAs one xs s → ReadsAs one ys t → ReadsAs one (xs ++ ys) (s ++ t)
spells-append one xs ys s t p q = λ following.
    let first : Begin one xs (s ++ (t ++ following)) (t ++ following) = p (t ++ following) in
    rw (append_assoc s t following) (begin-append one xs ys (s ++ (t ++ following)) (t ++ following) following first (q following))

pub spells_nothing : {A : Type 0} (one : DebugReader A) → ReadsAs one [] []
spells_nothing one = λ following. refl

pub spells_one : {A : Type 0} (one : DebugReader A) (x : A) (text : List ℕ) → ((following : List ℕ) → one (text ++ following) ≡ Ok (x, following)) → ReadsAs one (x ∷ []) text
spells_one one x text h = λ following. begin_one one x (text ++ following) following (h following)

-- all of a text
pub spells_all : {A : Type 0} (one : DebugReader A) (xs : List A) (text : List ℕ) → ReadsAs one xs text → Begin one xs text []
spells_all one xs text h = subst (λ (z : List ℕ). Begin one xs z []) (append-nil text) (h [])

-- The bytes begin with a text that is these values, whatever follows it.
pub record BeginText {A : Type 0} (one : DebugReader A) (xs : List A) (bytes following : List ℕ) : Type 0 where
  pub text : List ℕ
  pub split : bytes ≡ text ++ following
  pub spells : ReadsAs one xs text

pub begin_text : {A : Type 0} (one : DebugReader A) (xs : List A) (bytes following : List ℕ) → IsLocal one → Begin one xs bytes following → BeginText one xs bytes following
begin_text one [] bytes following h p = record { text = []; split = p; spells = spells_nothing one }
begin_text one (x ∷ xs) bytes following h p =
    let t = h.takes bytes x p.0 p.1 in
    let r = begin_text one xs p.0 following h p.2 in
    record {
      text = t.text ++ r.text;
      split = t.split ∙ ap (λ (z : List ℕ). t.text ++ z) r.split ∙ sym (append_assoc t.text r.text following);
      spells = spells-append one (x ∷ []) xs t.text r.text (spells_one one x t.text t.again) r.spells;
    }

-- the bytes in front of those that follow
pub taken_front : (bytes text following : List ℕ) → bytes ≡ text ++ following → take (length bytes - length following) bytes ≡ text
taken_front bytes text following split =
    let size : length bytes - length following ≡ length text = omega (arith, ap length split, length-append text following) in
    rw size (ap (take (length text)) split ∙ take-append_seam text following)

-- two readings of the same bytes
pub one_begin : {A : Type 0} (one : DebugReader A) (d : DebugFault) (xs ys : List A) (bytes : List ℕ) → one [] ≡ Err d → Begin one xs bytes [] → Begin one ys bytes [] → xs ≡ ys
one_begin one d [] [] bytes none p q = refl
one_begin one d [] (y ∷ ys) bytes none p q = absurd (let e = ap one p in let f = q.1 in cc)
one_begin one d (x ∷ xs) [] bytes none p q = absurd (let e = ap one q in let f = p.1 in cc)
one_begin {A} one d (x ∷ xs) (y ∷ ys) bytes none p q =
    let same = ok_same {E = DebugFault} (x, p.0) (y, q.0) (sym p.1 ∙ q.1) in
    let rest : p.0 ≡ q.0 = ap (λ (z : A × List ℕ). z.1) same in
    let others = one_begin one d xs ys p.0 none p.2 (subst (λ (z : List ℕ). Begin one ys z []) (sym rest) q.2) in
    ap (λ (z : A × List ℕ). z.0 ∷ xs) same ∙ ap (λ (z : List A). y ∷ z) others

at_most_is : {A : Type 0} (one : DebugReader A) (d : DebugFault) (most : ℕ) (xs : List A) (bytes : List ℕ) → IsLocal one → one [] ≡ Err d → length bytes ≤ most → Begin one xs bytes []
    → at_most most one bytes ≡ Ok xs
unfolding at_most
at_most_is one d most [] bytes h none fits p = rw p refl
at_most_is one d most (x ∷ xs) [] h none fits p = absurd (let e = p.1 in cc)
at_most_is one d zero (x ∷ xs) (b ∷ bytes) h none fits p = absurd (omega arith)
at_most_is one d (suc most) (x ∷ xs) (b ∷ bytes) h none fits p =
    let less = shorter one d h none (b ∷ bytes) x p.0 p.1 in
    rw (p.1, at_most_is one d most xs p.0 h none (omega arith) p.2) refl

-- the reading of all of the bytes
pub all_is : {A : Type 0} (one : DebugReader A) (d : DebugFault) (xs : List A) (bytes : List ℕ) → IsLocal one → one [] ≡ Err d → Begin one xs bytes [] → all_values one bytes ≡ Ok xs
all_is one d xs bytes h none p = at_most_is one d (length bytes) xs bytes h none (omega arith) p

-- a slice that is empty
pub nothing_left : {A : Type 0} (xs : List A) → true ≡ eqb (length xs) 0 → xs ≡ []
nothing_left [] e = refl
nothing_left (x ∷ xs) e = absurd (grind (arith, nat_tests))

-- ---- what can't be read

-- what begins with some values and is all of others goes on
pub goes_on : {A : Type 0} (one : DebugReader A) (d f : DebugFault) (xs ys : List A) (bytes rest : List ℕ) → one [] ≡ Err d → Begin one xs bytes rest → Begin one ys bytes [] → (rest ≡ [] → ⊥)
    → one rest ≡ Err f → ⊥
goes_on one d f [] [] bytes rest none p q some e = some (sym p ∙ q)
goes_on one d f [] (y ∷ ys) bytes rest none p q some e = absurd (let same = ap one p in let g = q.1 in cc)
goes_on one d f (x ∷ xs) [] bytes rest none p q some e = absurd (let same = ap one q in let g = p.1 in cc)
goes_on {A} one d f (x ∷ xs) (y ∷ ys) bytes rest none p q some e =
    let same = ok_same {E = DebugFault} (x, p.0) (y, q.0) (sym p.1 ∙ q.1) in
    let tail : p.0 ≡ q.0 = ap (λ (z : A × List ℕ). z.1) same in
    goes_on one d f xs ys p.0 rest none p.2 (subst (λ (z : List ℕ). Begin one ys z []) (sym tail) q.2) some e

-- each value takes at least one byte
abbrev pub IsShortening : {A : Type 0} → DebugReader A → Type 0
IsShortening {A} one = (bytes : List ℕ) (x : A) (rest : List ℕ) → one bytes ≡ Ok (x, rest) → length rest < length bytes

at_most_fails : {A : Type 0} (one : DebugReader A) (f : DebugFault) (most : ℕ) (xs : List A) (bytes rest : List ℕ) → IsShortening one → length bytes ≤ most → Begin one xs bytes rest → (rest ≡ [] → ⊥)
    → one rest ≡ Err f → at_most most one bytes ≡ Err f
unfolding at_most
at_most_fails one f most [] [] rest h fits p some e = absurd (some (sym p))
at_most_fails one f zero [] (b ∷ bytes) rest h fits p some e = absurd (omega arith)
at_most_fails one f (suc most) [] (b ∷ bytes) rest h fits p some e = let g = ap one p ∙ e in rw g refl
at_most_fails one f most (x ∷ xs) [] rest h fits p some e = absurd (let less = h [] x p.0 p.1 in omega arith)
at_most_fails one f zero (x ∷ xs) (b ∷ bytes) rest h fits p some e = absurd (omega arith)
at_most_fails one f (suc most) (x ∷ xs) (b ∷ bytes) rest h fits p some e =
    let less = h (b ∷ bytes) x p.0 p.1 in
    rw (p.1, at_most_fails one f most xs p.0 rest h (omega arith) p.2 some e) refl

-- the first fault
pub all_fails : {A : Type 0} (one : DebugReader A) (f : DebugFault) (xs : List A) (bytes rest : List ℕ) → IsShortening one → Begin one xs bytes rest → (rest ≡ [] → ⊥) → one rest ≡ Err f → all_values one bytes ≡ Err f
all_fails one f xs bytes rest h p some e = at_most_fails one f (length bytes) xs bytes rest h (omega arith) p some e

-- a slice that isn't empty
pub something_left : {A : Type 0} (xs : List A) → false ≡ eqb (length xs) 0 → xs ≡ [] → ⊥
something_left [] e f = absurd cc
something_left (x ∷ xs) e f = absurd cc
