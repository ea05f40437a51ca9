use Rattle.std.proofs.Common.{◌≡◌, ℕ, List, sym, ap, ◌∙◌}
use Rattle.wasm_numbers.specs.Numbers.{u64}
use Rattle.wasm_numbers.proofs.Agreement.{ok_is}
use Rattle.location_pairs.proofs.PackedPairs.{number_read}
use Rattle.location_pairs.proofs.unpacking.number_at.Goals as goal

pub returns-in-Ok : goal.returns-in-Ok
returns-in-Ok c = λ n h rest e.
    let both : (c.in-Ok.read.0, c.in-Ok.read.1.now) ≡ (n, rest) = ok_is _ (n, rest) (sym c.in-Ok.ensures ∙ ap u64 e ∙ number_read n rest h) in
    (ap (λ (p : ℕ × List ℕ). p.0) both, ap (λ (p : ℕ × List ℕ). p.1) both)

pub returns-in-Err : goal.returns-in-Err
returns-in-Err c = λ n h rest e. absurd (let no = sym c.in-Err.ensures ∙ ap u64 e ∙ number_read n rest h in cc)
