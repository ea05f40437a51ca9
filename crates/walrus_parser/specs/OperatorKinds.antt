-- Kinds of operators.
use Rattle.std.specs.Prelude.{Bool, true, false}
use Rattle.wasm_operators.specs.Meaning.{Listed}
use Rattle.wasm_operators.specs.declared.operator.Op.TheVariants.{Unreachable, Throw, Rethrow, ThrowRef, Br, BrTable, Return}

-- operators after which nothing in their sequence is executed
abbrev pub makes_unreachable : Listed → Bool
makes_unreachable Unreachable = true
makes_unreachable (Br depth) = true
makes_unreachable (BrTable table) = true
makes_unreachable Return = true
makes_unreachable (Throw tag) = true
makes_unreachable (Rethrow depth) = true
makes_unreachable ThrowRef = true
makes_unreachable _ = false
