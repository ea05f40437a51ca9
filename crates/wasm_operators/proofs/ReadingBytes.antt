-- The value that is read at the front of some bytes is the one that is encoded there.
use Rattle.std.specs.Prelude.{ℕ, zero, suc, List, [], ◌∷◌}
use Rattle.std.proofs.Common.{arith}
use Rattle.wasm_operators.specs.Laws.{AreBytes, ReadingAgrees}
use Rattle.wasm_numbers.proofs.Agreement.{IsBytes}
use Rattle.wasm_operators.proofs.OperationLaws.{operations_agree}

all_bytes : (bytes : List ℕ) → AreBytes bytes → IsBytes bytes
all_bytes [] a i = omega arith
all_bytes (b ∷ bytes) a zero = a.0
all_bytes (b ∷ bytes) a (suc i) = all_bytes bytes a.1 i

pub each_byte : (bytes : List ℕ) → IsBytes bytes → AreBytes bytes
each_byte [] h = tt
each_byte (b ∷ bytes) h = (h 0, each_byte bytes (λ i. h (suc i)))

pub reading_agrees : ReadingAgrees
reading_agrees = record {
  again = operations_agree.again;
  takes = λ bytes o rest fits e.
      let t = operations_agree.takes bytes o rest (all_bytes bytes fits) e in
      (t.text, t.parts, t.spelt, each_byte rest t.rest_fits);
}
