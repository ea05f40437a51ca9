-- Kinds of operators.
use Rattle.std.specs.Prelude.{Bool, true, false}
use Rattle.wasm_operators.specs.Meaning.{Listed}
use Rattle.wasm_operators.specs.declared.operator.Op.TheVariants.{Nop, Block, Loop, If, Else, Try, Catch, End, Delegate, CatchAll, TryTable}

-- operators that make an instruction by themselves
abbrev pub is_instruction : Listed → Bool
is_instruction Nop = false
is_instruction (Block type) = false
is_instruction (Loop type) = false
is_instruction (If type) = false
is_instruction Else = false
is_instruction End = false
is_instruction (Try type) = false
is_instruction (Catch tag) = false
is_instruction CatchAll = false
is_instruction (Delegate depth) = false
is_instruction (TryTable type catches) = false
is_instruction _ = true
