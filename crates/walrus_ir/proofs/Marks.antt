-- The marks of the sequences that were reached, and an upper bound on the steps for the others.
use Rattle.std.proofs.Common.{◌≡◌, ◌<◌, ◌+◌, ℕ, zero, suc, List, [], ◌∷◌, Bool, true, false, ◌||◌, Some, length, get_or, set, replicate, eqb, refl, arith, get_or-set_other}
use Rattle.std.proofs.lemmas.Grind.{common_steps, get_or-set_at}
use Rattle.std.proofs.lemmas.Bool.Decides.{nat_tests}
use Rattle.std.specs.Prelude.{slice_get}
use Rattle.walrus_ir.specs.declared.seq.InstrSeq.{InstrSeq}
use Rattle.walrus_ir.specs.Unfolding.{among}
use Rattle.walrus_ir.specs.Planning.{work_of_all}

-- one more mark
pub marked : (marks : List Bool) (p : ℕ) (seen : List ℕ) → p < length marks → ((q : ℕ) → get_or marks q false ≡ among q seen)
    → (q : ℕ) → get_or (set marks p true) q false ≡ eqb q p || among q seen
marked marks p seen lt h q = grind (arith, common_steps, nat_tests, h q, get_or-set_at, get_or-set_other)

unmarked : (n p : ℕ) → get_or (replicate n false) p false ≡ false
unmarked zero p = refl
unmarked (suc n) zero = refl
unmarked (suc n) (suc p) = unmarked n p

pub all_unmarked : (n : ℕ) (marks : List Bool) → marks ≡ replicate n false → (p : ℕ) → get_or marks p false ≡ false
all_unmarked n marks e p = rw e (unmarked n p)

-- an upper bound on the steps for the sequences that were not reached
abbrev pub unreached : List Bool → List InstrSeq → ℕ
unreached [] b = 0
unreached (m ∷ ms) [] = 0
unreached (true ∷ ms) (s ∷ b) = unreached ms b
unreached (false ∷ ms) (s ∷ b) = 1 + (work_of_all s.instrs + unreached ms b)

pub unreached-set : (marks : List Bool) (b : List InstrSeq) (p : ℕ) (s : InstrSeq) → p < length marks → slice_get b p ≡ Some s → get_or marks p false ≡ false
    → unreached (set marks p true) b + (1 + work_of_all s.instrs) ≡ unreached marks b
unreached-set [] b p s lt k n = absurd (omega arith)
unreached-set (m ∷ ms) [] p s lt k n = cc
unreached-set (true ∷ ms) (r ∷ b) zero s lt k n = cc
unreached-set (false ∷ ms) (r ∷ b) zero s lt k n =
    let same : r ≡ s = cc in
    rw same (omega arith)
unreached-set (true ∷ ms) (r ∷ b) (suc p) s lt k n = unreached-set ms b p s (omega arith) k n
unreached-set (false ∷ ms) (r ∷ b) (suc p) s lt k n =
    let h : unreached (set ms p true) b + (1 + work_of_all s.instrs) ≡ unreached ms b = unreached-set ms b p s (omega arith) k n in
    omega (arith, h)
