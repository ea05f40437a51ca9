-- Instructions with a charge before each straight piece: before the first, and after each that may not go on to the next.
use Rattle.std.specs.Prelude.{ℕ, ◌+◌, ◌++◌, List, [], ◌∷◌, map, Bool, true, false, min}
use Rattle.walrus_ir.specs.declared.seq.InstrSeq.{InstrSeq}
use Rattle.walrus_ir.specs.Function.{Function}
use Rattle.walrus_ir.specs.Unfolding.{LocatedInstr}
use Rattle.wasm_body.specs.Control.{Role, a_nop, a_plain, role_of}
use Rattle.wasm_body.specs.InstructionTable.{operation_of}
use Rattle.wasm_insertion.specs.Insertion.{rest_of_piece}
use Rattle.walrus_insertion.specs.declared.plain_instr.PlainInstr.{PlainInstr}
use Rattle.walrus_insertion.specs.Edits.{added}
use Rattle.walrus_metering.specs.declared.costs.Costs.{Costs}
use Rattle.walrus_metering.specs.declared.charge.Charge.{Charge}
use Rattle.walrus_metering.specs.OperatorCosts.{operator_cost}
use Rattle.walrus_metering.specs.Charges.{charge_of}

-- whether the next operator is executed after one with this role, unless it traps or throws
abbrev pub role_goes_straight : Role → Bool
role_goes_straight a_nop = true
role_goes_straight a_plain = true
role_goes_straight _ = false

abbrev pub instr_goes_straight : LocatedInstr → Bool
instr_goes_straight x = role_goes_straight (role_of (operation_of x.0).opcode)

-- the cost of the straight piece with which these instructions begin
abbrev pub cost_from : Costs → List LocatedInstr → ℕ
cost_from costs [] = 0
cost_from costs (x ∷ xs) = operator_cost costs (operation_of x.0).opcode + rest_of_piece (instr_goes_straight x) (cost_from costs xs)

-- A charge is an i64, so it is at most 2 ^ 63 - 1.
abbrev pub max_charge : ℕ
max_charge = 9223372036854775807

-- what is charged for a cost
abbrev pub charged_for : ℕ → ℕ
charged_for n = min n max_charge

-- the charge of the cost n at a place, unless the piece before goes on there
abbrev pub charge_at : Charge → Bool → ℕ → List PlainInstr
charge_at charge true n = []
charge_at charge false n = charge_of charge (charged_for n)

-- the same, before instructions
abbrev pub instrs_with_charge : Charge → Bool → ℕ → List LocatedInstr → List LocatedInstr
instrs_with_charge charge goes_on n xs = map added (charge_at charge goes_on n) ++ xs

-- the instructions with a charge before each straight piece but the first
abbrev pub metered_instrs : Costs → Charge → List LocatedInstr → List LocatedInstr
metered_instrs costs charge [] = []
metered_instrs costs charge (x ∷ xs) = x ∷ instrs_with_charge charge (instr_goes_straight x) (cost_from costs xs) (metered_instrs costs charge xs)

-- before each
abbrev pub all_metered : Costs → Charge → List LocatedInstr → List LocatedInstr
all_metered costs charge xs = instrs_with_charge charge false (cost_from costs xs) (metered_instrs costs charge xs)

abbrev pub metered_sequence : Costs → Charge → InstrSeq → InstrSeq
metered_sequence costs charge seq = record seq { instrs = all_metered costs charge seq.instrs }

-- each sequence of a function
abbrev pub metered_function : Costs → Charge → Function → Function
metered_function costs charge f = record f { sequences = map (metered_sequence costs charge) f.sequences }
