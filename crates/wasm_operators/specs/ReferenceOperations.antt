-- Operators on references, structs and arrays: the opcode and the immediates of each, one row for each operator (WebAssembly
-- core specification 3.0, binary format, instructions).
use Rattle.std.specs.Prelude.{ℕ, List, [], ◌∷◌, Bool, true, false}
use Rattle.wasm_operators.specs.declared.reference_operator.ReferenceOp.{ReferenceOp}
use Rattle.wasm_operators.specs.declared.reference_operator.ReferenceOp.TheVariants as reference
use Rattle.wasm_operators.specs.declared.types.Opcode.{Opcode}
use Rattle.wasm_operators.specs.declared.types.Opcode.TheVariants.{Byte, Prefixed}
use Rattle.wasm_operators.specs.declared.types.RawCast.{RawCast}
use Rattle.wasm_operators.specs.declared.types.Space.TheVariants.{Types, Funcs, Elements, Data}
use Rattle.wasm_operators.specs.Operations.{Cast, RawImmediate, index, label, number, heap, cast, RawOperation, operation}

-- the immediates of a branch on a cast, from those of the code
abbrev pub cast_of : RawCast → Cast ℕ
cast_of c = record { from_nullable = c.from_nullable; to_nullable = c.to_nullable; label = c.label; source = c.source; target = c.target }

abbrev pub raw_cast_of : Cast ℕ → RawCast
raw_cast_of c = record { from_nullable = c.from_nullable; to_nullable = c.to_nullable; label = c.label; source = c.source; target = c.target }

-- the second number if a reference may be null
abbrev pub by_null : Bool → ℕ → ℕ → Opcode
by_null false m n = Prefixed 0xfb m
by_null true m n = Prefixed 0xfb n

abbrev pub reference_opcode : ReferenceOp → Opcode
reference_opcode (reference.RefNull type) = Byte 0xd0
reference_opcode reference.RefIsNull = Byte 0xd1
reference_opcode (reference.RefFunc func) = Byte 0xd2
reference_opcode reference.RefEq = Byte 0xd3
reference_opcode reference.RefAsNonNull = Byte 0xd4
reference_opcode (reference.BrOnNull depth) = Byte 0xd5
reference_opcode (reference.BrOnNonNull depth) = Byte 0xd6
reference_opcode (reference.StructNew type) = Prefixed 0xfb 0
reference_opcode (reference.StructNewDefault type) = Prefixed 0xfb 1
reference_opcode (reference.StructGet type field) = Prefixed 0xfb 2
reference_opcode (reference.StructGetS type field) = Prefixed 0xfb 3
reference_opcode (reference.StructGetU type field) = Prefixed 0xfb 4
reference_opcode (reference.StructSet type field) = Prefixed 0xfb 5
reference_opcode (reference.ArrayNew type) = Prefixed 0xfb 6
reference_opcode (reference.ArrayNewDefault type) = Prefixed 0xfb 7
reference_opcode (reference.ArrayNewFixed type count) = Prefixed 0xfb 8
reference_opcode (reference.ArrayNewData type data_segment) = Prefixed 0xfb 9
reference_opcode (reference.ArrayNewElem type element) = Prefixed 0xfb 10
reference_opcode (reference.ArrayGet type) = Prefixed 0xfb 11
reference_opcode (reference.ArrayGetS type) = Prefixed 0xfb 12
reference_opcode (reference.ArrayGetU type) = Prefixed 0xfb 13
reference_opcode (reference.ArraySet type) = Prefixed 0xfb 14
reference_opcode reference.ArrayLen = Prefixed 0xfb 15
reference_opcode (reference.ArrayFill type) = Prefixed 0xfb 16
reference_opcode (reference.ArrayCopy target source) = Prefixed 0xfb 17
reference_opcode (reference.ArrayInitData type data_segment) = Prefixed 0xfb 18
reference_opcode (reference.ArrayInitElem type element) = Prefixed 0xfb 19
reference_opcode (reference.RefTest nullable type) = by_null nullable 20 21
reference_opcode (reference.RefCast nullable type) = by_null nullable 22 23
reference_opcode (reference.BrOnCast c) = Prefixed 0xfb 24
reference_opcode (reference.BrOnCastFail c) = Prefixed 0xfb 25
reference_opcode reference.AnyConvertExtern = Prefixed 0xfb 26
reference_opcode reference.ExternConvertAny = Prefixed 0xfb 27
reference_opcode reference.RefI31 = Prefixed 0xfb 28
reference_opcode reference.I31GetS = Prefixed 0xfb 29
reference_opcode reference.I31GetU = Prefixed 0xfb 30

abbrev pub reference_immediates : ReferenceOp → List RawImmediate
reference_immediates (reference.RefNull type) = heap type ∷ []
reference_immediates reference.RefIsNull = []
reference_immediates (reference.RefFunc func) = index Funcs func ∷ []
reference_immediates reference.RefEq = []
reference_immediates reference.RefAsNonNull = []
reference_immediates (reference.BrOnNull depth) = label depth ∷ []
reference_immediates (reference.BrOnNonNull depth) = label depth ∷ []
reference_immediates (reference.StructNew type) = index Types type ∷ []
reference_immediates (reference.StructNewDefault type) = index Types type ∷ []
reference_immediates (reference.StructGet type field) = index Types type ∷ number field ∷ []
reference_immediates (reference.StructGetS type field) = index Types type ∷ number field ∷ []
reference_immediates (reference.StructGetU type field) = index Types type ∷ number field ∷ []
reference_immediates (reference.StructSet type field) = index Types type ∷ number field ∷ []
reference_immediates (reference.ArrayNew type) = index Types type ∷ []
reference_immediates (reference.ArrayNewDefault type) = index Types type ∷ []
reference_immediates (reference.ArrayNewFixed type count) = index Types type ∷ number count ∷ []
reference_immediates (reference.ArrayNewData type data_segment) = index Types type ∷ index Data data_segment ∷ []
reference_immediates (reference.ArrayNewElem type element) = index Types type ∷ index Elements element ∷ []
reference_immediates (reference.ArrayGet type) = index Types type ∷ []
reference_immediates (reference.ArrayGetS type) = index Types type ∷ []
reference_immediates (reference.ArrayGetU type) = index Types type ∷ []
reference_immediates (reference.ArraySet type) = index Types type ∷ []
reference_immediates reference.ArrayLen = []
reference_immediates (reference.ArrayFill type) = index Types type ∷ []
reference_immediates (reference.ArrayCopy target source) = index Types target ∷ index Types source ∷ []
reference_immediates (reference.ArrayInitData type data_segment) = index Types type ∷ index Data data_segment ∷ []
reference_immediates (reference.ArrayInitElem type element) = index Types type ∷ index Elements element ∷ []
reference_immediates (reference.RefTest nullable type) = heap type ∷ []
reference_immediates (reference.RefCast nullable type) = heap type ∷ []
reference_immediates (reference.BrOnCast c) = cast (cast_of c) ∷ []
reference_immediates (reference.BrOnCastFail c) = cast (cast_of c) ∷ []
reference_immediates reference.AnyConvertExtern = []
reference_immediates reference.ExternConvertAny = []
reference_immediates reference.RefI31 = []
reference_immediates reference.I31GetS = []
reference_immediates reference.I31GetU = []

abbrev pub reference_operation : ReferenceOp → RawOperation
reference_operation op = operation (reference_opcode op) (reference_immediates op)
