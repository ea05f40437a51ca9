-- The exponent of an alignment, from its logarithm.
use Rattle.std.specs.Prelude.{◌≡◌, ℕ, ◌*◌, ◌^◌, ◌<◌, ◌≤◌, Option, None, Some, IfNone, IfSome, unwrap_or}
use Rattle.std.proofs.Common.{ap, sym, arith}
use Rattle.std.proofs.Math.Nat.{pow-suc}
use Rattle.wasm_body.specs.FlatText.{exponent_of}
use Rattle.wasm_body.proofs.NormalForm.Exponents.{exponent_is}

-- a logarithm is none at 0
pub exponent_from : (o : Option ℕ) (n : ℕ) → IfNone o (n ≡ 0) → IfSome o (λ e. 2 ^ e ≤ n) → IfSome o (λ e. n < 2 * 2 ^ e) → IfSome o (λ e. e < 32)
    → (unwrap_or o 0 ≡ exponent_of n) × (unwrap_or o 0 < 32)
exponent_from None n none low high below = (sym (ap exponent_of none), omega arith)
exponent_from (Some e) n none low high below = (sym (exponent_is n e (low, omega (arith, high, pow-suc 2 e))), below)
