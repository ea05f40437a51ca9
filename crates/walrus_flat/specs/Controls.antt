-- The control operators that most constructs consist of, as operators; and operators that are read.
use Rattle.std.specs.Prelude.{◌≡◌, ℕ, List, Ok}
use Rattle.wasm_operators.specs.declared.operator.Op.TheVariants as operator
use Rattle.wasm_operators.specs.declared.types.BlockType.TheVariants.{Empty}
use Rattle.wasm_operators.specs.Meaning.{Listed}
use Rattle.wasm_operators.specs.Operations.{RawOperation}
use Rattle.wasm_operators.specs.Spelling.{read_operation}
use Rattle.walrus_flat.specs.declared.control.Control.{Control}
use Rattle.walrus_flat.specs.declared.control.Control.TheVariants as control

abbrev pub control_listed : Control → Listed
control_listed control.Block = operator.Block Empty
control_listed control.Loop = operator.Loop Empty
control_listed control.If = operator.If Empty
control_listed control.End = operator.End
control_listed control.Nop = operator.Nop

-- An operator is at the front of the bytes, and these follow it.
abbrev pub HasFront : (bytes rest : List ℕ) → Type 0
HasFront bytes rest = (o : RawOperation) × (read_operation bytes ≡ Ok (o, rest))
