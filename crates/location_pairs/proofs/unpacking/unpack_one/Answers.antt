use Rattle.std.proofs.Common.{◌≡◌, ◌+◌, ◌%◌, ◌^◌, ◌<◌, ℕ, ap, ◌∙◌, arith}
use Rattle.location_pairs.specs.PackedPairs.{step_to}
use Rattle.location_pairs.proofs.PackedPairs.{two_once, place_step_fits, location_step_fits, place_back, location_back}
use Rattle.location_pairs.proofs.unpacking.unpack_one.Goals as goal

pub returns-in-len2-up : goal.returns-in-len2-up
returns-in-len2-up c = λ location place fl fp rest e.
    let last = c.args.last in
    let distance = step_to 64 last.place place in
    let step = step_to 32 last.location location in
    let small : step < 2 ^ 32 = location_step_fits last.location location in
    let fits : step < 2 ^ 64 = omega (arith, small) in
    let whole : step % 2 ^ 32 ≡ step = omega (arith, small) in
    let both =
    two_once c.args.packed.now distance step rest (place_step_fits last.place place) fits c.in-len2-up.len_at_least c.if-distance-lt128.true c.if-step-lt128.true e in (
      c.pair_after.ensures.location ∙ ap (λ (n : ℕ). (last.location + n % 2 ^ 32) % 2 ^ 32) both.1
          ∙ ap (λ (n : ℕ). (last.location + n) % 2 ^ 32) whole ∙ location_back last.location location (omega arith) fl,
      c.pair_after.ensures.place ∙ ap (λ (n : ℕ). (last.place + n) % 2 ^ 64) both.0 ∙ place_back last.place place (omega arith) fp,
      both.2,
    )
