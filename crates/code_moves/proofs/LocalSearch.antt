-- The locals of a body up to where a bisection by their old indices ends.
use Rattle.std.proofs.Common.{◌≡◌, ℕ, zero, suc, ◌<◌, ◌≤◌, true, ltb, List, [], ◌∷◌, drop, Some, None, refl, subst, ◌∙◌, arith}
use Rattle.std.specs.List.{AllWithin}
use Rattle.std.specs.List.Sorted.{IsNonDecreasingBy}
use Rattle.std.proofs.lemmas.Bool.{ltb-true, eq-eqb, ne_eqb}
use Rattle.code_moves.specs.declared.body.LocalMove.{LocalMove}
use Rattle.code_moves.specs.Order.{AreLocals}
use Rattle.code_moves.specs.Moves.{new_index}
use Rattle.code_moves.proofs.Bisection.{RiseFrom, rise}

indices_from : (low from : ℕ) (ms : List LocalMove) → AreLocals from ms → low ≤ from → RiseFrom (λ (m : LocalMove). m.old) low ms
indices_from low from [] locals le = tt
indices_from low from (m ∷ ms) locals le =
    let first = locals.0 in
    (omega arith, indices_from m.old (suc m.old) ms locals.1 (omega arith))

pub indices_rise : (from : ℕ) (ms : List LocalMove) → AreLocals from ms → IsNonDecreasingBy (λ (m : LocalMove). m.old) ms
indices_rise from ms locals = rise (λ (m : LocalMove). m.old) from ms (indices_from from from ms locals (omega arith))

-- ---- one local

pub index_of : (m : LocalMove) (ms : List LocalMove) (local : ℕ) → m.old ≡ local → new_index (m ∷ ms) local ≡ Some m.new
index_of m ms local is = rw (eq-eqb m.old local is) refl

index_after : (m : LocalMove) (ms : List LocalMove) (local : ℕ) → (m.old ≡ local → ⊥) → new_index (m ∷ ms) local ≡ new_index ms local
index_after m ms local other = rw (ne_eqb m.old local other) refl

-- ---- the locals that are passed

pub index_passes : (ms : List LocalMove) (local at : ℕ) → AllWithin (λ (m : LocalMove). ltb m.old local ≡ true) ms 0 at → new_index ms local ≡ new_index (drop at ms) local
index_passes ms local zero by = refl
index_passes [] local (suc at) by = refl
index_passes (m ∷ ms) local (suc at) by =
    let before : m.old < local = ltb-true m.old local (by 0 m (omega arith) (omega arith)) in
    index_after m ms local (λ is. omega arith) ∙ index_passes ms local at (λ k d low high. by (suc k) d (omega arith) (omega arith))

-- ---- those that are left: none of them is before it

pub no_index : (from : ℕ) (ms : List LocalMove) → AreLocals from ms → (local : ℕ) → local < from → new_index ms local ≡ None
no_index from [] locals local before = refl
no_index from (m ∷ ms) locals local before =
    let first = locals.0 in
    index_after m ms local (λ is. omega arith) ∙ no_index (suc m.old) ms locals.1 local (omega arith)

locals_lower : (low from : ℕ) (ms : List LocalMove) → AreLocals from ms → low ≤ from → AreLocals low ms
locals_lower low from [] locals le = tt
locals_lower low from (m ∷ ms) locals le =
    let first = locals.0 in
    (omega arith, locals.1)

locals_drop : (from : ℕ) (ms : List LocalMove) → AreLocals from ms → (at : ℕ) → AreLocals from (drop at ms)
locals_drop from ms locals zero = locals
locals_drop from [] locals (suc at) = tt
locals_drop from (m ∷ ms) locals (suc at) =
    let first = locals.0 in
    locals_lower from (suc m.old) (drop at ms) (locals_drop (suc m.old) ms locals.1 at) (omega arith)

pub no_index_from : (from : ℕ) (ms : List LocalMove) → AreLocals from ms → (at : ℕ) (m : LocalMove) (rest : List LocalMove) → drop at ms ≡ m ∷ rest → (local : ℕ) → local < m.old
    → new_index (m ∷ rest) local ≡ None
no_index_from from ms locals at m rest is local before =
    let left = subst (AreLocals from) is (locals_drop from ms locals at) in
    no_index m.old (m ∷ rest) (omega arith, left.1) local before
