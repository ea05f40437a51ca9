-- Which operators can be written.
use Rattle.std.specs.Prelude.{◌<◌}
use Rattle.std.specs.List.{AllByRecursion}
use Rattle.wasm_operators.specs.Operations.{RawImmediate, access, RawOperation}

-- The exponent of the alignment in a memory argument is below 32.
abbrev pub FitsFlags : RawImmediate → Type 0
FitsFlags (access a) = a.alignment < 32
FitsFlags _ = Unit {0}

abbrev pub IsWritable : RawOperation → Type 0
IsWritable o = AllByRecursion FitsFlags o.immediates
