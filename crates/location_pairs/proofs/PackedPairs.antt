-- What is packed is read back, and pairs that are packed alike are the same.
use Rattle.std.proofs.Common.{◌≡◌, ℕ, zero, suc, nat_lt, ◌+◌, ◌-◌, ◌^◌, ◌/◌, ◌%◌, ◌<◌, ◌≤◌, Bool, true, false, cond, if◌then◌else◌, min, List, [], ◌∷◌, ◌++◌, length, take, drop, get_or, Result, Ok, Err, OnOk, is_ok, inl, inr, refl, sym, ap, ◌∙◌, append_assoc, arith}
use Rattle.std.proofs.lemmas.Bool.{cases_lt, lt-ltb}
use Rattle.std.proofs.lemmas.List.{take_all, drop_all}
use Rattle.std.proofs.Math.Seq.{take-append_seam, drop-append_seam}
use Rattle.std.specs.List.{AllByRecursion}
use Rattle.wasm_numbers.specs.Numbers.{unsigned, integer, u64}
use Rattle.wasm_numbers.proofs.Agreement.{ok_is}
use Rattle.wasm_numbers.proofs.NumberLaws.{integers_agree}
use Rattle.wasm_operators.specs.Shortest.{short_number, short_unsigned}
use Rattle.wasm_operators.proofs.ShortestNumbers.{unsigned_spelt}
use Rattle.location_pairs.specs.PackedPairs.{step_to, packed_after, packed_pairs, FitPair, ArePackable, last_after}

-- ---- numbers

pub number_read : (n : ℕ) (rest : List ℕ) → n < 2 ^ 64 → u64 (short_number n ++ rest) ≡ Ok (n, rest)
number_read n rest h = (integers_agree unsigned 64).again n (short_number n) rest (unsigned_spelt 9 64 n (omega arith) h)

pub number_once : (n m : ℕ) (r s : List ℕ) → n < 2 ^ 64 → m < 2 ^ 64 → short_number n ++ r ≡ short_number m ++ s → (n ≡ m) × (r ≡ s)
number_once n m r s h k e =
    let both : (n, r) ≡ (m, s) = ok_is (n, r) (m, s) (sym (number_read n r h) ∙ ap u64 e ∙ number_read m s k) in
    (ap (λ (p : ℕ × List ℕ). p.0) both, ap (λ (p : ℕ × List ℕ). p.1) both)

-- a number of seven bits is its own byte
pub one_byte : (n : ℕ) → n < 128 → short_number n ≡ n ∷ []
unfolding short_unsigned
one_byte n fits = ap (λ (b : Bool). cond b (n ∷ []) ((n % 128 + 128) ∷ short_unsigned 8 (n / 128))) (lt-ltb n 128 fits)

-- a number that is spelt with such a byte first is that, and what follows it follows the byte
pub byte_once : (n b : ℕ) (r s : List ℕ) → n < 2 ^ 64 → b < 128 → b ∷ s ≡ short_number n ++ r → (b ≡ n) × (s ≡ r)
byte_once n b r s h k e = number_once b n s r (omega arith) h (ap (λ (l : List ℕ). l ++ s) (one_byte b k) ∙ e)

-- two such numbers, and what follows them
pub two_once : (xs : List ℕ) (n m : ℕ) (rest : List ℕ) → n < 2 ^ 64 → m < 2 ^ 64 → 2 ≤ length xs → get_or xs 0 0 < 128 → get_or xs 1 0 < 128
    → xs ≡ short_number n ++ short_number m ++ rest → (get_or xs 0 0 ≡ n) × (get_or xs 1 0 ≡ m) × (take (length xs - 2) (drop 2 xs) ≡ rest)
two_once [] n m rest fn fm two small also e = absurd (omega arith)
two_once (x ∷ []) n m rest fn fm two small also e = absurd (omega arith)
two_once (x ∷ y ∷ ys) n m rest fn fm two small also e =
    let first = byte_once n x (short_number m ++ rest) (y ∷ ys) fn small (e ∙ append_assoc (short_number n) (short_number m) rest) in
    let second = byte_once m y rest ys fm also first.1 in
    (first.0, second.0, take_all (length (x ∷ y ∷ ys) - 2) ys (omega arith) ∙ second.1)

-- two such numbers are appended
pub two_appended : {A E : Type 0} (r : Result A E) (old new : List ℕ) (n m x y : ℕ) → n < 128 → m < 128 → x ≡ n → y ≡ m → new ≡ (if is_ok r then old ++ x ∷ y ∷ [] else old)
    → OnOk r (new ≡ old ++ short_number n ++ short_number m)
two_appended (Ok a) old new n m x y small also f g e =
    e ∙ (λ i. old ++ f i ∷ g i ∷ []) ∙ sym (append_assoc old (n ∷ []) (m ∷ [])) ∙ (λ i. old ++ sym (one_byte n small) i ++ sym (one_byte m also) i)
two_appended (Err e) old new n m x y small also f g h = tt

-- ---- distances

pub place_step_fits : (from to : ℕ) → step_to 64 from to < 2 ^ 64
place_step_fits from to = omega arith

pub location_step_fits : (from to : ℕ) → step_to 32 from to < 2 ^ 32
location_step_fits from to = omega arith

pub place_back : (from to : ℕ) → from < 2 ^ 64 → to < 2 ^ 64 → (from + step_to 64 from to) % 2 ^ 64 ≡ to
place_back from to f t = omega arith

pub location_back : (from to : ℕ) → from < 2 ^ 32 → to < 2 ^ 32 → (from + step_to 32 from to) % 2 ^ 32 ≡ to
location_back from to f t = omega arith

-- ---- lists of pairs

pub same_pair : (p q : ℕ × ℕ) → p.0 ≡ q.0 → p.1 ≡ q.1 → p ≡ q
same_pair p q a b = λ i. (a i, b i)

packed_after_once : (l p : ℕ) (ps qs : List (ℕ × ℕ)) → l < 2 ^ 32 → p < 2 ^ 64 → AllByRecursion FitPair ps → AllByRecursion FitPair qs → length ps ≡ length qs
    → packed_after l p ps ≡ packed_after l p qs → ps ≡ qs
packed_after_once l p [] [] fl fp h k len e = refl
packed_after_once l p [] (q ∷ qs) fl fp h k len e = absurd (omega (arith, len))
packed_after_once l p (x ∷ ps) [] fl fp h k len e = absurd (omega (arith, len))
packed_after_once l p (x ∷ ps) (y ∷ qs) fl fp h k len e =
    let after_x = short_number (step_to 32 l x.0) ++ packed_after x.0 x.1 ps in
    let after_y = short_number (step_to 32 l y.0) ++ packed_after y.0 y.1 qs in
    let apart = sym (append_assoc (short_number (step_to 64 p x.1)) (short_number (step_to 32 l x.0)) (packed_after x.0 x.1 ps)) ∙ e
    ∙ append_assoc (short_number (step_to 64 p y.1)) (short_number (step_to 32 l y.0)) (packed_after y.0 y.1 qs) in
    let first = number_once (step_to 64 p x.1) (step_to 64 p y.1) after_x after_y (place_step_fits p x.1) (place_step_fits p y.1) apart in
    let lx : step_to 32 l x.0 < 2 ^ 64 = let f = location_step_fits l x.0 in omega arith in
    let ly : step_to 32 l y.0 < 2 ^ 64 = let f = location_step_fits l y.0 in omega arith in
    let second = number_once (step_to 32 l x.0) (step_to 32 l y.0) (packed_after x.0 x.1 ps) (packed_after y.0 y.1 qs) lx ly first.1 in
    let place : x.1 ≡ y.1 = sym (place_back p x.1 fp h.0.1) ∙ ap (λ n. (p + n) % 2 ^ 64) first.0 ∙ place_back p y.1 fp k.0.1 in
    let location : x.0 ≡ y.0 = sym (location_back l x.0 fl h.0.0) ∙ ap (λ n. (l + n) % 2 ^ 32) second.0 ∙ location_back l y.0 fl k.0.0 in
    let same = same_pair x y location place in
    let rest : packed_after y.0 y.1 ps ≡ packed_after y.0 y.1 qs = ap (λ (z : ℕ × ℕ). packed_after z.0 z.1 ps) (sym same) ∙ second.1 in
    let short : length ps ≡ length qs = omega (arith, len) in
    λ i. same i ∷ packed_after_once y.0 y.1 ps qs k.0.0 k.0.1 h.1 k.1 short rest i

-- what one pair more appends
pub packed_more : (before : List ℕ) (l p : ℕ) (x : ℕ × ℕ) (ps : List (ℕ × ℕ))
    → ((before ++ short_number (step_to 64 p x.1)) ++ short_number (step_to 32 l x.0)) ++ packed_after x.0 x.1 ps ≡ before ++ packed_after l p (x ∷ ps)
packed_more before l p x ps =
    let place = short_number (step_to 64 p x.1) in
    let location = short_number (step_to 32 l x.0) in
    ap (λ (b : List ℕ). b ++ packed_after x.0 x.1 ps) (append_assoc before place location) ∙ append_assoc before (place ++ location) (packed_after x.0 x.1 ps)

pub all_more : (ps : List (ℕ × ℕ)) (p : ℕ × ℕ) → AllByRecursion FitPair ps → FitPair p → AllByRecursion FitPair (ps ++ p ∷ [])
all_more [] p h k = (k, tt)
all_more (x ∷ ps) p h k = (h.0, all_more ps p h.1 k)

-- the first of the pairs that are left, where some are
pub first_left : (left : List (ℕ × ℕ)) (m n : ℕ) → m + length left ≡ n → m < n → (x : ℕ × ℕ) × (xs : List (ℕ × ℕ)) × (left ≡ x ∷ xs)
first_left [] m n e h = absurd (omega (arith, e, h))
first_left (x ∷ xs) m n e h = (x, xs, refl)

-- Lists of pairs that are packed alike are the same.
pub packed_once : (ps qs : List (ℕ × ℕ)) → ArePackable ps → ArePackable qs → packed_pairs ps ≡ packed_pairs qs → ps ≡ qs
packed_once ps qs h k e =
    let counts = number_once (length ps) (length qs) (packed_after 0 0 ps) (packed_after 0 0 qs) h.0 k.0 e in
    packed_after_once 0 0 ps qs (omega arith) (omega arith) h.1 k.1 counts.0 counts.1

-- what is kept of a list is never nothing
pub never_empty : (ps : List (ℕ × ℕ)) → ArePackable ps → packed_pairs ps ≡ [] → ⊥
unfolding integer
never_empty ps h e = let no = sym (ap u64 e) ∙ number_read (length ps) (packed_after 0 0 ps) h.0 in cc

-- ---- some pairs, and others after them

pub last_both : (before : ℕ × ℕ) (ps more : List (ℕ × ℕ)) → last_after before (ps ++ more) ≡ last_after (last_after before ps) more
last_both before [] more = refl
last_both before (p ∷ ps) more = last_both p ps more

pub packed_both : (before : ℕ × ℕ) (ps more : List (ℕ × ℕ))
    → packed_after before.0 before.1 (ps ++ more) ≡ packed_after before.0 before.1 ps ++ packed_after (last_after before ps).0 (last_after before ps).1 more
packed_both before [] more = refl
packed_both before (p ∷ ps) more =
    let place = short_number (step_to 64 before.1 p.1) in
    let location = short_number (step_to 32 before.0 p.0) in
    ap (λ (b : List ℕ). place ++ location ++ b) (packed_both p ps more)
    ∙ sym (append_assoc (place ++ location) (packed_after p.0 p.1 ps) (packed_after (last_after p ps).0 (last_after p ps).1 more))

pub all_both : (ps more : List (ℕ × ℕ)) → AllByRecursion FitPair ps → AllByRecursion FitPair more → AllByRecursion FitPair (ps ++ more)
all_both [] more h k = k
all_both (p ∷ ps) more h k = (h.0, all_both ps more h.1 k)

-- ---- so many of some pairs, and the others

pub some_taken : (xs rest ps : List (ℕ × ℕ)) (most : ℕ) → xs ++ rest ≡ ps → length xs ≡ min (length ps) most → (xs ≡ take most ps) × (rest ≡ drop most ps)
some_taken xs rest ps most e len =
    let front : xs ≡ take (length xs) ps = sym (take-append_seam xs rest) ∙ ap (λ (l : List (ℕ × ℕ)). take (length xs) l) e in
    let back : rest ≡ drop (length xs) ps = sym (drop-append_seam xs rest) ∙ ap (λ (l : List (ℕ × ℕ)). drop (length xs) l) e in
    elim (cases_lt (length ps) most) [
      | inl few ↦
          let all : length xs ≡ length ps = omega (arith, len) in
          let whole : take (length xs) ps ≡ ps = take_all (length xs) ps (omega arith) in
          let none : drop (length xs) ps ≡ [] = drop_all (length xs) ps (omega arith) in
          (front ∙ whole ∙ sym (take_all most ps (omega arith)), back ∙ none ∙ sym (drop_all most ps (omega arith)))
      | inr many ↦
          let same : length xs ≡ most = omega (arith, len) in
          (front ∙ ap (λ (n : ℕ). take n ps) same, back ∙ ap (λ (n : ℕ). drop n ps) same)
    ]

-- ---- a number in room that was left for it

number_len : (more n : ℕ) → length (short_unsigned more n) ≤ suc more
unfolding short_unsigned
number_len zero n = omega arith
number_len (suc more) n =
    elim (nat_lt n 128) as (λ b. length (cond b (n ∷ []) ((n % 128 + 128) ∷ short_unsigned more (n / 128))) ≤ suc (suc more)) [
      | true ↦ omega arith
      | false ↦ let shorter = number_len more (n / 128) in omega arith
    ]

-- a number of 64 bits takes ten bytes at most
pub number_room : (n : ℕ) → length (short_number n) ≤ 10
number_room n = number_len 9 n
