-- Writing an instruction of a tree as an operator.
use Rattle.std.specs.Prelude.{◌≡◌, ◌⊎◌, ℕ, List, Result, Ok, Err}
use Rattle.walrus_ir.specs.declared.val_type.InstrSeqType.{InstrSeqType}
use Rattle.walrus_ir.specs.declared.instr.Instr.{Instr}
use Rattle.wasm_operators.specs.Meaning.{Listed, meaning}
use Rattle.wasm_operators.specs.Operations.{RawOperation}
use Rattle.wasm_encode.specs.Writable.{IsWritable}
use Rattle.wasm_body.specs.declared.error.EmitError.{EmitError}
use Rattle.wasm_body.specs.declared.error.EmitError.TheVariants.{Memory}
use Rattle.wasm_body.specs.Translation.{translate}
use Rattle.wasm_body.specs.Bytes.{Numbers, numbering}
use Rattle.wasm_body.specs.FlatText.{then_by, with_block_type}
use Rattle.wasm_body.specs.InstructionTable.{operation_of}
use Rattle.wasm_body.specs.TreeOfFunction.{with_targets}
use Rattle.walrus_emit_state.specs.declared.closing.Closer.{Closer}
use Rattle.walrus_emit_state.specs.TreeWriting.Closers.{closing}

-- The operator of an instruction, where the sequences at these places are open, innermost first,
-- and its first sequence, if it has one, has this type.
abbrev pub numbered_operator : Numbers → List ℕ → InstrSeqType → Instr
    → Result RawOperation EmitError
numbered_operator to around type i =
    translate (with_block_type (then_by (numbering to)) type) (with_targets around (operation_of i))

-- what closes a sequence
abbrev pub numbered_closer : Numbers → Closer → Result RawOperation EmitError
numbered_closer to c = translate (then_by (numbering to)) (closing c)

-- The operator that is returned is this one, or there is none for this fault; or memory ran out.
abbrev pub IsOperator : Result RawOperation EmitError → Result Listed EmitError → Type 0
IsOperator r (Ok op) = (r ≡ Ok (meaning op)) × IsWritable (meaning op)
IsOperator r (Err e) = (e ≡ Memory) ⊎ (r ≡ Err e)

abbrev pub IsOperatorOf : Numbers → List ℕ → InstrSeqType → Instr → Result Listed EmitError
    → Type 0
IsOperatorOf to around type i r = IsOperator (numbered_operator to around type i) r
