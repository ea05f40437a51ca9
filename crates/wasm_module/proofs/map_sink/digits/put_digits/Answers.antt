use Rattle.std.proofs.Common.{◌≡◌, ◌+◌, ◌-◌, ◌%◌, ◌<◌, ◌≤◌, ℕ, length, refl, subst, arith}
use Rattle.wasm_module.specs.MapText.{hex_digit}
use Rattle.wasm_module.proofs.DigitLemmas.{DigitsFrom, one_more_digit, all_digits, kept_before}
use Rattle.wasm_module.proofs.map_sink.digits.put_digits.Goals as goal

pub loop-place-preserved : goal.loop-place-preserved
loop-place-preserved c =
    let at = c.loop-place in
    let end = c.args.at + c.digit_count.result in
    let some : c.args.at < at.place = omega arith in
    let ends : at.place ≤ end = at.invariant.digits.ends in
    let fits : at.place ≤ length at.buffer = omega arith in
    record {
      digits = one_more_digit at.buffer c.args.at at.place end c.args.number at.left (hex_digit (at.left % 16)) some fits at.invariant.digits refl;
      kept = kept_before c.args.buffer.now at.buffer c.args.at (at.place - 1) (hex_digit (at.left % 16)) (omega arith) at.invariant.kept;
    }

pub returns-clause-written : goal.returns-clause-written
returns-clause-written c =
    let at = c.loop-place in
    let end = c.args.at + c.digit_count.result in
    let begins = at.invariant.digits.begins in
    let same : at.place ≡ c.args.at = omega arith in
    let digits = subst (λ (n : ℕ). DigitsFrom at.buffer c.args.at n end c.args.number at.left) same at.invariant.digits in
    all_digits c.args.buffer.now at.buffer c.args.at end c.args.number at.left (let count = c.digit_count.ensures.count in omega arith) at.invariant.kept digits
