-- Instructions on references, structs and arrays (WebAssembly core specification 3.0, instructions,
-- reference instructions and aggregate instructions).
use Rattle.std.specs.Prelude.{Bool, true, false}
use Rattle.walrus_ir.specs.declared.instr.Instr.{Instr}
use Rattle.walrus_ir.specs.declared.instr.Instr.TheVariants as instr

abbrev pub is_reference : Instr → Bool
is_reference (instr.RefNull x) = true
is_reference instr.RefIsNull = true
is_reference (instr.RefFunc x) = true
is_reference instr.RefEq = true
is_reference instr.RefAsNonNull = true
is_reference (instr.BrOnNull x) = true
is_reference (instr.BrOnNonNull x) = true
is_reference (instr.StructNew x) = true
is_reference (instr.StructNewDefault x) = true
is_reference (instr.StructGet x) = true
is_reference (instr.StructGetS x) = true
is_reference (instr.StructGetU x) = true
is_reference (instr.StructSet x) = true
is_reference (instr.ArrayNew x) = true
is_reference (instr.ArrayNewDefault x) = true
is_reference (instr.ArrayNewFixed x) = true
is_reference (instr.ArrayNewData x) = true
is_reference (instr.ArrayNewElem x) = true
is_reference (instr.ArrayGet x) = true
is_reference (instr.ArrayGetS x) = true
is_reference (instr.ArrayGetU x) = true
is_reference (instr.ArraySet x) = true
is_reference instr.ArrayLen = true
is_reference (instr.ArrayFill x) = true
is_reference (instr.ArrayCopy x) = true
is_reference (instr.ArrayInitData x) = true
is_reference (instr.ArrayInitElem x) = true
is_reference (instr.RefTest x) = true
is_reference (instr.RefCast x) = true
is_reference instr.AnyConvertExtern = true
is_reference instr.ExternConvertAny = true
is_reference instr.RefI31 = true
is_reference instr.I31GetS = true
is_reference instr.I31GetU = true
is_reference (instr.BrOnCast x) = true
is_reference (instr.BrOnCastFail x) = true
is_reference _ = false
