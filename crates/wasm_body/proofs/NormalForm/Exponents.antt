-- The exponent of an alignment, by bounds.
use Rattle.std.specs.Prelude.{◌≡◌, ℕ, zero, suc, ◌*◌, ◌/◌, ◌^◌, ◌<◌, ◌≤◌, if◌then◌else◌}
use Rattle.std.proofs.Common.{ap, ◌∙◌, arith}
use Rattle.std.proofs.Math.Nat.{pow-suc}
use Rattle.std.proofs.lemmas.Bool.{lt-ltb, le-ltb}
use Rattle.std.proofs.lemmas.Nat.{pow_pos}
use Rattle.wasm_body.specs.FlatText.{halvings, exponent_of, IsExponentOf}

halved : (f n e : ℕ) → n ≤ f → 2 ^ e ≤ n → n < 2 * 2 ^ e → halvings f n ≡ e
halved zero n e fuel low high = absurd (omega (arith, pow_pos e))
halved (suc f) n zero fuel low high =
    let small : n < 2 = omega arith in ap (λ b. if b then 0 else suc (halvings f (n / 2))) (lt-ltb n 2 small)
halved (suc f) n (suc e) fuel low high =
    let twice = pow-suc 2 e in
    let some = pow_pos e in
    let large : 2 ≤ n = omega arith in
    let half : halvings f (n / 2) ≡ e = halved f (n / 2) e (omega arith) (omega arith) (omega arith) in
    ap (λ b. if b then 0 else suc (halvings f (n / 2))) (le-ltb n 2 large) ∙ ap suc half

pub exponent_is : (n e : ℕ) → IsExponentOf n e → exponent_of n ≡ e
exponent_is n e h = halved n n e (omega arith) h.0 (omega (arith, h.1, pow-suc 2 e))

pub exponent_of-pow : (e : ℕ) → exponent_of (2 ^ e) ≡ e
exponent_of-pow e = exponent_is (2 ^ e) e (omega arith, omega (arith, pow_pos e, pow-suc 2 e))
