-- Vector loads that splat, extend or pad with zeros, and loads and stores of one lane: the opcode of each (WebAssembly core
-- specification 3.0, binary format, vector instructions).
use Rattle.std.specs.Prelude.{List, [], ◌∷◌}
use Rattle.wasm_types.specs.declared.memory.LoadSimdKind.{LoadSimdKind}
use Rattle.wasm_types.specs.declared.memory.LoadSimdKind.TheVariants as vector_access
use Rattle.wasm_operators.specs.declared.types.Opcode.{Opcode}
use Rattle.wasm_operators.specs.declared.types.Opcode.TheVariants.{Prefixed}
use Rattle.wasm_operators.specs.Operations.{Access, Immediate, access, lane, Operation, operation}

abbrev pub vector_access_opcode : LoadSimdKind → Opcode
vector_access_opcode vector_access.V128Load8x8S = Prefixed 0xfd 1
vector_access_opcode vector_access.V128Load8x8U = Prefixed 0xfd 2
vector_access_opcode vector_access.V128Load16x4S = Prefixed 0xfd 3
vector_access_opcode vector_access.V128Load16x4U = Prefixed 0xfd 4
vector_access_opcode vector_access.V128Load32x2S = Prefixed 0xfd 5
vector_access_opcode vector_access.V128Load32x2U = Prefixed 0xfd 6
vector_access_opcode vector_access.Splat8 = Prefixed 0xfd 7
vector_access_opcode vector_access.Splat16 = Prefixed 0xfd 8
vector_access_opcode vector_access.Splat32 = Prefixed 0xfd 9
vector_access_opcode vector_access.Splat64 = Prefixed 0xfd 10
vector_access_opcode (vector_access.V128Load8Lane n) = Prefixed 0xfd 84
vector_access_opcode (vector_access.V128Load16Lane n) = Prefixed 0xfd 85
vector_access_opcode (vector_access.V128Load32Lane n) = Prefixed 0xfd 86
vector_access_opcode (vector_access.V128Load64Lane n) = Prefixed 0xfd 87
vector_access_opcode (vector_access.V128Store8Lane n) = Prefixed 0xfd 88
vector_access_opcode (vector_access.V128Store16Lane n) = Prefixed 0xfd 89
vector_access_opcode (vector_access.V128Store32Lane n) = Prefixed 0xfd 90
vector_access_opcode (vector_access.V128Store64Lane n) = Prefixed 0xfd 91
vector_access_opcode vector_access.V128Load32Zero = Prefixed 0xfd 92
vector_access_opcode vector_access.V128Load64Zero = Prefixed 0xfd 93

-- the lane of an access, if it has one
abbrev pub access_lane : {L B : Type 0} → LoadSimdKind → List (Immediate L B)
access_lane (vector_access.V128Load8Lane n) = lane n ∷ []
access_lane (vector_access.V128Load16Lane n) = lane n ∷ []
access_lane (vector_access.V128Load32Lane n) = lane n ∷ []
access_lane (vector_access.V128Load64Lane n) = lane n ∷ []
access_lane (vector_access.V128Store8Lane n) = lane n ∷ []
access_lane (vector_access.V128Store16Lane n) = lane n ∷ []
access_lane (vector_access.V128Store32Lane n) = lane n ∷ []
access_lane (vector_access.V128Store64Lane n) = lane n ∷ []
access_lane _ = []

abbrev pub vector_access_operation : {L B : Type 0} → LoadSimdKind → Access → Operation L B
vector_access_operation kind a = operation (vector_access_opcode kind) (access a ∷ access_lane kind)
