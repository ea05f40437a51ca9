-- Numbers at which a list has true.
use Rattle.std.proofs.Common.{◌≡◌, ℕ, zero, suc, ◌+◌, ◌<◌, List, [], ◌∷◌, Bool, true, false, refl, ap, ◌∙◌, arith, eq-eqb}
use Rattle.std.specs.Prelude.{◌||◌, unwrap_or, slice_get}
use Rattle.std.proofs.lemmas.Bool.{ne_eqb}
use Rattle.wasm_typing.specs.Contexts.{contains}
use Rattle.wasm_context.specs.Contexts.{marked_from}

none_before : (k j : ℕ) (bs : List Bool) → j < k → contains j (marked_from k bs) ≡ false
none_before k j [] h = refl
none_before k j (true ∷ bs) h =
    ap (λ b. b || contains j (marked_from (suc k) bs)) (ne_eqb j k (λ e. omega arith)) ∙ none_before (suc k) j bs (omega arith)
none_before k j (false ∷ bs) h = none_before (suc k) j bs (omega arith)

contains_from : (k x : ℕ) (bs : List Bool) → contains (k + x) (marked_from k bs) ≡ unwrap_or (slice_get bs x) false
contains_from k x [] = refl
contains_from k zero (true ∷ bs) = ap (λ b. b || contains (k + zero) (marked_from (suc k) bs)) (eq-eqb (k + zero) k (omega arith))
contains_from k zero (false ∷ bs) = none_before (suc k) (k + zero) bs (omega arith)
contains_from k (suc x) (true ∷ bs) =
    let next : k + suc x ≡ suc k + x = omega arith in
    ap (λ b. b || contains (k + suc x) (marked_from (suc k) bs)) (ne_eqb (k + suc x) k (λ e. omega arith))
    ∙ ap (λ n. contains n (marked_from (suc k) bs)) next ∙ contains_from (suc k) x bs
contains_from k (suc x) (false ∷ bs) =
    let next : k + suc x ≡ suc k + x = omega arith in
    ap (λ n. contains n (marked_from (suc k) bs)) next ∙ contains_from (suc k) x bs

pub contains_marked : (bs : List Bool) (x : ℕ) → contains x (marked_from 0 bs) ≡ unwrap_or (slice_get bs x) false
contains_marked bs x = let same : x ≡ 0 + x = omega arith in ap (λ n. contains n (marked_from 0 bs)) same ∙ contains_from 0 x bs
