-- What is inserted for a cost.
use Rattle.std.specs.Prelude.{ℕ, List, [], ◌∷◌, ◌==◌, if◌then◌else◌, pos}
use Rattle.wasm_types.specs.declared.binary.BinaryOp.TheVariants.{I64Add}
use Rattle.walrus_ir.specs.declared.value.Value.TheVariants.{I64}
use Rattle.walrus_insertion.specs.declared.plain_instr.PlainInstr.{PlainInstr}
use Rattle.walrus_insertion.specs.declared.plain_instr.PlainInstr.TheVariants as plain
use Rattle.walrus_metering.specs.declared.charge.Charge.{Charge}
use Rattle.walrus_metering.specs.declared.charge.Charge.TheVariants as charge

-- the instructions that charge a cost: a call with it, or an addition to a global
abbrev pub charging : Charge → ℕ → List PlainInstr
charging (charge.Call func) n = plain.Const (record { value = I64 (pos n) }) ∷ plain.Call (record { func = func }) ∷ []
charging (charge.Add global) n =
    plain.GlobalGet (record { global = global })
    ∷ plain.Const (record { value = I64 (pos n) })
    ∷ plain.Binop (record { op = I64Add })
    ∷ plain.GlobalSet (record { global = global })
    ∷ []

-- nothing is inserted where there is nothing to charge
abbrev pub charge_of : Charge → ℕ → List PlainInstr
charge_of c n = if n == 0 then [] else charging c n
