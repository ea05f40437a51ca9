use Rattle.std.proofs.Common.{arith}
use Rattle.wasm_module.proofs.DigitLemmas.{one_is}
use Rattle.wasm_module.proofs.map_sink.digits.Front.one.Goals as goal

pub invariant_of-result : goal.invariant_of-result
invariant_of-result c = record { some = omega arith; few = omega arith; digits_are = one_is }
