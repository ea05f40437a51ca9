use Rattle.std.proofs.Common.{◌≡◌, ◌-◌, take}
use Rattle.wasm_module.proofs.DigitLemmas.{DigitsFrom}
use Rattle.wasm_module.proofs.map_sink.digits.put_digits.Given as goal

abbrev pub invariant-loop-place : goal.invariant-loop-place
invariant-loop-place l = record {
  digits : DigitsFrom l.buffer l.at l.place l.end l.fn.number l.left;
  kept : take l.at l.buffer ≡ take l.at l.fn.buffer;
}

abbrev pub decreases-loop-place : goal.decreases-loop-place
decreases-loop-place l = l.place - l.at
