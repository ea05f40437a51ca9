-- Of any bytes, the location pairs that they are if they are packed pairs.
use Rattle.std.proofs.Common.{◌≡◌, ℕ, zero, suc, ◌+◌, ◌^◌, ◌%◌, ◌<◌, List, [], ◌∷◌, ◌++◌, length, Result, Ok, Err, refl, ap, ◌∙◌, append_assoc, arith}
use Rattle.std.proofs.Math.Nat.{mod-eq_of_lt}
use Rattle.std.specs.List.{AllByRecursion}
use Rattle.wasm_numbers.specs.Numbers.{u64}
use Rattle.wasm_numbers.specs.declared.fault.ReadFault.{ReadFault}
use Rattle.wasm_operators.specs.Shortest.{short_number}
use Rattle.location_pairs.specs.PackedPairs.{step_to, packed_after, packed_pairs, FitPair, ArePackable}
use Rattle.location_pairs.proofs.PackedPairs.{number_read, place_step_fits, location_step_fits, place_back, location_back}

-- what was read, or 0 and nothing
or_nothing : Result (ℕ × List ℕ) ReadFault → ℕ × List ℕ
or_nothing (Ok x) = x
or_nothing (Err e) = (0, [])

-- the number in front, and the bytes after it
number_in : List ℕ → ℕ × List ℕ
number_in bytes = or_nothing (u64 bytes)

number_found : (n : ℕ) (rest : List ℕ) → n < 2 ^ 64 → number_in (short_number n ++ rest) ≡ (n, rest)
unfolding number_in or_nothing
number_found n rest h = ap or_nothing (number_read n rest h)

-- so many pairs, after one with this location and this place
unpacked_after : (count location place : ℕ) → List ℕ → List (ℕ × ℕ)
unpacked_after zero l p bytes = []
unpacked_after (suc n) l p bytes =
    let distance = number_in bytes in
    let step = number_in distance.1 in
    let location = (l + step.0) % 2 ^ 32 in
    let place = (p + distance.0) % 2 ^ 64 in
    (location, place) ∷ unpacked_after n location place step.1

after_one : (n l p : ℕ) (x : ℕ × ℕ) (rest : List ℕ) → l < 2 ^ 32 → p < 2 ^ 64 → FitPair x
    → unpacked_after (suc n) l p (short_number (step_to 64 p x.1) ++ (short_number (step_to 32 l x.0) ++ rest)) ≡ x ∷ unpacked_after n x.0 x.1 rest
unfolding unpacked_after
after_one n l p x rest fl fp h =
    let distance = step_to 64 p x.1 in
    let step = step_to 32 l x.0 in
    let first = number_found distance (short_number step ++ rest) (place_step_fits p x.1) in
    let small : step < 2 ^ 64 = let f = location_step_fits l x.0 in omega arith in
    let second = number_found step rest small in
    let location = location_back l x.0 fl h.0 in
    let place = place_back p x.1 fp h.1 in
    ap (λ (q : ℕ × List ℕ). let s = number_in q.1 in ((l + s.0) % 2 ^ 32, (p + q.0) % 2 ^ 64) ∷ unpacked_after n ((l + s.0) % 2 ^ 32) ((p + q.0) % 2 ^ 64) s.1) first
    ∙ ap (λ (s : ℕ × List ℕ). ((l + s.0) % 2 ^ 32, (p + distance) % 2 ^ 64) ∷ unpacked_after n ((l + s.0) % 2 ^ 32) ((p + distance) % 2 ^ 64) s.1) second
    ∙ (λ i. (location i, place i) ∷ unpacked_after n (location i) (place i) rest)

again_after : (l p : ℕ) (ps : List (ℕ × ℕ)) → l < 2 ^ 32 → p < 2 ^ 64 → AllByRecursion FitPair ps → unpacked_after (length ps) l p (packed_after l p ps) ≡ ps
unfolding unpacked_after
again_after l p [] fl fp h = refl
again_after l p (x ∷ ps) fl fp h =
    let others = packed_after x.0 x.1 ps in
    ap (λ (bytes : List ℕ). unpacked_after (suc (length ps)) l p bytes) (append_assoc (short_number (step_to 64 p x.1)) (short_number (step_to 32 l x.0)) others)
    ∙ after_one (length ps) l p x others fl fp h.0 ∙ ap (λ (qs : List (ℕ × ℕ)). x ∷ qs) (again_after x.0 x.1 ps h.0.0 h.0.1 h.1)

fit_after : (n l p : ℕ) (bytes : List ℕ) → AllByRecursion FitPair (unpacked_after n l p bytes)
unfolding unpacked_after
fit_after zero l p bytes = tt
fit_after (suc n) l p bytes =
    let distance = number_in bytes in
    let step = number_in distance.1 in
    ((omega arith, omega arith), fit_after n ((l + step.0) % 2 ^ 32) ((p + distance.0) % 2 ^ 64) step.1)

count_after : (n l p : ℕ) (bytes : List ℕ) → length (unpacked_after n l p bytes) ≡ n
unfolding unpacked_after
count_after zero l p bytes = refl
count_after (suc n) l p bytes =
    let distance = number_in bytes in
    let step = number_in distance.1 in
    ap (λ (m : ℕ). suc m) (count_after n ((l + step.0) % 2 ^ 32) ((p + distance.0) % 2 ^ 64) step.1)

pub unpacked : List ℕ → List (ℕ × ℕ)
unpacked bytes = let count = number_in bytes in unpacked_after (count.0 % 2 ^ 64) 0 0 count.1

pub unpacked_again : (ps : List (ℕ × ℕ)) → ArePackable ps → unpacked (packed_pairs ps) ≡ ps
unfolding unpacked
unpacked_again ps h =
    let all = packed_after 0 0 ps in
    let few : length ps % 2 ^ 64 ≡ length ps = mod-eq_of_lt h.0 in
    ap (λ (q : ℕ × List ℕ). unpacked_after (q.0 % 2 ^ 64) 0 0 q.1) (number_found (length ps) all h.0) ∙ ap (λ (n : ℕ). unpacked_after n 0 0 all) few
    ∙ again_after 0 0 ps (omega arith) (omega arith) h.1

pub unpacked_fit : (bytes : List ℕ) → ArePackable (unpacked bytes)
unfolding unpacked
unpacked_fit bytes =
    let count = number_in bytes in
    (let len = count_after (count.0 % 2 ^ 64) 0 0 count.1 in omega arith, fit_after (count.0 % 2 ^ 64) 0 0 count.1)
