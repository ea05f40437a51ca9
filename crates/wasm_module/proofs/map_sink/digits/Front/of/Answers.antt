use Rattle.std.proofs.Common.{ℕ, ◌-◌, List, take, ap, ◌∙◌, arith}
use Rattle.wasm_module.proofs.DigitLemmas.{front_len, front_taken}
use Rattle.wasm_module.proofs.map_sink.digits.Front.of.Goals as goal

pub overflow_sub-result : goal.overflow_sub-result
overflow_sub-result c = omega (arith, c.requires.len, front_len c.args.number c.requires.great (omega (arith, c.ranges.number.fits)))

pub invariant_of-result : goal.invariant_of-result
invariant_of-result c =
    let number = c.args.number in
    let len = c.args.len in
    let asked = c.requires in
    record {
      some = omega (arith, asked.great);
      few = omega (arith, asked.few);
      digits_are =
          ap (λ (l : List ℕ). take (len - 2) l) c.copy_from_slice.ensures.after
          ∙ front_taken c.args.digits.now number len asked.great (omega (arith, c.ranges.number.fits)) asked.len asked.digits;
    }
