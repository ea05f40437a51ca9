-- Numbers of 32 bits.
use Rattle.std.proofs.Common.{◌≡◌, ℕ, ◌<◌, ◌^◌, Result, Ok, sym, ap, subst}
use Rattle.std.specs.Prelude.{nat_lt, IsOk, is_ok}
use Rattle.std.proofs.lemmas.Bool.{lt-ltb, ltb-true}
use Rattle.wasm_body.specs.declared.error.EmitError.{EmitError}
use Rattle.wasm_body.specs.declared.error.EmitError.TheVariants.{TooLarge}
use Rattle.wasm_numbers.specs.Results.{◌>>=◌, unless}
use Rattle.wasm_body.specs.Bytes.{in_32_bits}
use Rattle.wasm_numbers.proofs.ResultLemmas.{unless_ok}
use Rattle.wasm_body.proofs.Translation.Steps.{bound}

pub fits : (n : ℕ) → n < 2 ^ 32 → IsOk (in_32_bits n)
fits n l = ap (λ b. is_ok (unless b TooLarge >>= λ _. Ok n)) (lt-ltb n (2 ^ 32) l)

-- a number that fits stays the same
pub record IsFit (n q : ℕ) : Type 0 where
  pub same : q ≡ n
  pub below : q < 2 ^ 32

pub fitting_is : (n q : ℕ) → in_32_bits n ≡ Ok q → IsFit n q
fitting_is n q e =
    let u = bound (unless (nat_lt n (2 ^ 32)) TooLarge) (λ _. Ok n) q e in
    let same : n ≡ q = cc u.2 in
    record { same = sym same; below = subst (λ k. k < 2 ^ 32) same (ltb-true n (2 ^ 32) (unless_ok (nat_lt n (2 ^ 32)) TooLarge u.0 u.1)) }

-- a result that fits
pub record IsFittingResult (r : Result ℕ EmitError) (q : ℕ) : Type 0 where
  pub is_result : r ≡ Ok q
  pub below : q < 2 ^ 32

pub fitting_result : (r : Result ℕ EmitError) (q : ℕ) → (r >>= in_32_bits) ≡ Ok q → IsFittingResult r q
fitting_result r q e =
    let n = bound r in_32_bits q e in
    let fit = fitting_is n.0 q n.2 in
    record { is_result = subst (λ k. r ≡ Ok k) (sym fit.same) n.1; below = fit.below }
