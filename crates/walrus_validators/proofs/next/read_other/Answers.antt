use Rattle.std.proofs.Common.{List, ℕ, Result, Ok, Err}
use Rattle.std.specs.Prelude.{IfOk}
use Rattle.wasm_operators.specs.Operations.{RawOperation}
use Rattle.wasm_operators.specs.Spelling.{Spells}
use Rattle.wasm_ops.specs.Position.{Position, Moves, IsAfter}
use Rattle.wasm_ops.proofs.Passing.{is_after}
use Rattle.walrus_validators.proofs.next.read_other.Goals as goal

moved : {A E : Type 0} (view : A → RawOperation) (old new : Position) (r : Result A E) → IfOk r (λ x. (text : List ℕ) × Moves old text new × Spells (view x) text)
    → IfOk r (λ x. IsAfter old new)
moved view old new (Ok x) (text, moves, spells) = is_after old new (view x) text moves spells
moved view old new (Err e) h = tt

pub returns-clause-moves : goal.returns-clause-moves
returns-clause-moves c = moved _ c.args.reader.now c.read_other.new.self c.read_other.result c.read_other.ensures.found

pub returns-clause-is_read : goal.returns-clause-is_read
returns-clause-is_read c = c.read_other.ensures.is_read

pub returns-clause-err : goal.returns-clause-err
returns-clause-err c = c.read_other.ensures.fault
