-- A reader that moves past an operator moves past at least one byte.
use Rattle.std.proofs.Common.{◌≡◌, List, ℕ, length, ap, arith}
use Rattle.std.proofs.lemmas.List.{length-append}
use Rattle.wasm_operators.specs.Operations.{RawOperation}
use Rattle.wasm_operators.specs.Spelling.{Spells}
use Rattle.wasm_operators.proofs.ListLaws.{spelt_length}
use Rattle.wasm_ops.specs.Position.{Position, Moves, IsAfter}

pub is_after : (old new : Position) (o : RawOperation) (text : List ℕ) → Moves old text new → Spells o text → IsAfter old new
is_after old new o text moves spells =
    let parts = ap length moves.parts in
    let some = spelt_length o text spells in
    let whole = length-append text new.rest in
    (omega (arith, moves.place, parts, whole), omega (arith, parts, whole, some))
