-- The instructions that can be inserted, as instructions of a tree.
use Rattle.std.specs.Prelude.{None}
use Rattle.walrus_ir.specs.declared.instr.Instr.{Instr}
use Rattle.walrus_ir.specs.declared.instr.Instr.TheVariants as instr
use Rattle.walrus_insertion.specs.declared.plain_instr.PlainInstr.{PlainInstr}
use Rattle.walrus_insertion.specs.declared.plain_instr.PlainInstr.TheVariants as plain

abbrev pub instr_of : PlainInstr → Instr
instr_of (plain.Call x) = instr.Call x
instr_of (plain.CallIndirect x) = instr.CallIndirect x
instr_of (plain.CallRef x) = instr.CallRef x
instr_of plain.Drop = instr.Drop
instr_of plain.Select = instr.Select (record { ty = None })
instr_of (plain.Const x) = instr.Const x
instr_of (plain.Unop x) = instr.Unop x
instr_of (plain.Binop x) = instr.Binop x
instr_of (plain.TernOp x) = instr.TernOp x
instr_of (plain.LocalGet x) = instr.LocalGet x
instr_of (plain.LocalSet x) = instr.LocalSet x
instr_of (plain.LocalTee x) = instr.LocalTee x
instr_of (plain.GlobalGet x) = instr.GlobalGet x
instr_of (plain.GlobalSet x) = instr.GlobalSet x
instr_of plain.AtomicFence = instr.AtomicFence
instr_of (plain.MemorySize x) = instr.MemorySize x
instr_of (plain.MemoryGrow x) = instr.MemoryGrow x
instr_of (plain.MemoryFill x) = instr.MemoryFill x
instr_of (plain.MemoryInit x) = instr.MemoryInit x
instr_of (plain.MemoryCopy x) = instr.MemoryCopy x
instr_of (plain.DataDrop x) = instr.DataDrop x
instr_of (plain.TableGet x) = instr.TableGet x
instr_of (plain.TableSet x) = instr.TableSet x
instr_of (plain.TableGrow x) = instr.TableGrow x
instr_of (plain.TableSize x) = instr.TableSize x
instr_of (plain.TableFill x) = instr.TableFill x
instr_of (plain.TableInit x) = instr.TableInit x
instr_of (plain.TableCopy x) = instr.TableCopy x
instr_of (plain.ElemDrop x) = instr.ElemDrop x
instr_of (plain.RefFunc x) = instr.RefFunc x
instr_of plain.RefIsNull = instr.RefIsNull
instr_of plain.RefAsNonNull = instr.RefAsNonNull
instr_of plain.RefEq = instr.RefEq
instr_of plain.RefI31 = instr.RefI31
instr_of plain.I31GetS = instr.I31GetS
instr_of plain.I31GetU = instr.I31GetU
instr_of plain.AnyConvertExtern = instr.AnyConvertExtern
instr_of plain.ExternConvertAny = instr.ExternConvertAny
instr_of (plain.StructNew x) = instr.StructNew x
instr_of (plain.StructNewDefault x) = instr.StructNewDefault x
instr_of (plain.StructGet x) = instr.StructGet x
instr_of (plain.StructGetS x) = instr.StructGetS x
instr_of (plain.StructGetU x) = instr.StructGetU x
instr_of (plain.StructSet x) = instr.StructSet x
instr_of (plain.ArrayNew x) = instr.ArrayNew x
instr_of (plain.ArrayNewDefault x) = instr.ArrayNewDefault x
instr_of (plain.ArrayNewFixed x) = instr.ArrayNewFixed x
instr_of (plain.ArrayNewData x) = instr.ArrayNewData x
instr_of (plain.ArrayNewElem x) = instr.ArrayNewElem x
instr_of (plain.ArrayGet x) = instr.ArrayGet x
instr_of (plain.ArrayGetS x) = instr.ArrayGetS x
instr_of (plain.ArrayGetU x) = instr.ArrayGetU x
instr_of (plain.ArraySet x) = instr.ArraySet x
instr_of plain.ArrayLen = instr.ArrayLen
instr_of (plain.ArrayFill x) = instr.ArrayFill x
instr_of (plain.ArrayCopy x) = instr.ArrayCopy x
instr_of (plain.ArrayInitData x) = instr.ArrayInitData x
instr_of (plain.ArrayInitElem x) = instr.ArrayInitElem x
instr_of (plain.I8x16Shuffle x) = instr.I8x16Shuffle x
instr_of plain.I8x16Swizzle = instr.I8x16Swizzle
instr_of plain.V128Bitselect = instr.V128Bitselect
instr_of plain.I64Add128 = instr.I64Add128
instr_of plain.I64Sub128 = instr.I64Sub128
instr_of plain.I64MulWideS = instr.I64MulWideS
instr_of plain.I64MulWideU = instr.I64MulWideU
