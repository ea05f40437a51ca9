-- What the tools change of a function's first sequence.
use Rattle.std.specs.Prelude.{ℕ, List, [], ◌∷◌, pos}
use Rattle.walrus_ir.specs.declared.seq.InstrSeq.{InstrSeq}
use Rattle.walrus_ir.specs.declared.instr.Instr.TheVariants as instr
use Rattle.wasm_types.specs.declared.binary.BinaryOp.TheVariants.{I64Add}
use Rattle.walrus_ir.specs.declared.value.Value.TheVariants.{I64}
use Rattle.walrus_ir.specs.Function.{Function, with_sequence}
use Rattle.walrus_ir.specs.Locations.{default_location}
use Rattle.walrus_insertion.specs.declared.plain_instr.PlainInstr.{PlainInstr}
use Rattle.walrus_insertion.specs.declared.plain_instr.PlainInstr.TheVariants as plain
use Rattle.walrus_body.specs.LocalFunctions.{first_slot}

-- the instructions that add 1 to a global of type i64
abbrev pub counting_instrs : ℕ → List PlainInstr
counting_instrs global =
    plain.GlobalGet (record { global = global })
    ∷ plain.Const (record { value = I64 (pos 1) })
    ∷ plain.Binop (record { op = I64Add })
    ∷ plain.GlobalSet (record { global = global })
    ∷ []

-- the sequence that only traps
abbrev pub trapping : InstrSeq → InstrSeq
trapping was = record was { instrs = (instr.Unreachable, default_location) ∷ []; end = default_location }

-- the function with this as its first sequence
abbrev pub with_first : Function → InstrSeq → Function
with_first f seq = with_sequence f (first_slot f) seq
