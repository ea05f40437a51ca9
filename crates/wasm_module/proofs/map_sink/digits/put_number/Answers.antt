use Rattle.std.proofs.Common.{◌≡◌, ◌/◌, ℕ, List, take, ap, ◌∙◌, sym, arith}
use Rattle.wasm_module.specs.MapText.{hexadecimal}
use Rattle.wasm_module.proofs.DigitLemmas.{front_put}
use Rattle.wasm_module.proofs.map_sink.digits.put_number.Goals as goal

pub returns-clause-written : goal.returns-clause-written
returns-clause-written c =
    let front = c.args.front.now in
    let number = c.args.number in
    let same : number / 256 ≡ front.number = c.if-number-front.false in
    let great = front.some in
    front_put c.args.buffer.now c.copy_from_slice.new.self c.args.at front.len number (omega arith) (omega (arith, c.ranges.number.fits)) (omega arith) (omega arith) front.few
    (ap (λ (l : List ℕ). take front.len l) c.copy_from_slice.ensures.after ∙ front.digits_are ∙ ap (λ (n : ℕ). hexadecimal n) (sym same))
