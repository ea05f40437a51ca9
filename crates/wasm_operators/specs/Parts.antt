-- An operator in parts: its opcode, and its immediates.
use Rattle.std.specs.Prelude.{ℕ, List, [], ◌∷◌, Option, Some, None}
use Rattle.wasm_operators.specs.declared.types.Opcode.{Opcode}
use Rattle.wasm_operators.specs.declared.immediates.Immediates.{Immediates}
use Rattle.wasm_operators.specs.declared.immediates.Immediates.TheVariants as immediates
use Rattle.wasm_operators.specs.Operations.{CatchClause, RawImmediate, index, local, label, handler, outer, number, branch_table, clauses, access, block, heap, value, cast, i32, i64, f32, f64, v128, lane, lanes, zero_byte, RawOperation}
use Rattle.wasm_operators.specs.Immediates.{Table}
use Rattle.wasm_operators.specs.declared.immediates.ReferenceImmediates.{ReferenceImmediates}
use Rattle.wasm_operators.specs.declared.immediates.ReferenceImmediates.TheVariants as form
use Rattle.wasm_operators.specs.AccessOperations.{access_of, memarg_of}
use Rattle.wasm_operators.specs.ReferenceOperations.{cast_of, raw_cast_of}

-- The form in contracts of the immediates after an opcode. Lists that are read refer to the input, and lists that are written
-- are slices; in a contract, both are lists.
abbrev pub ListedImmediates : Type 0
ListedImmediates = Immediates Table (List (CatchClause ℕ))

abbrev pub immediates_of : ListedImmediates → List RawImmediate
immediates_of immediates.Nothing = []
immediates_of (immediates.Index space n) = index space n ∷ []
immediates_of (immediates.Pair first m second n) = index first m ∷ index second n ∷ []
immediates_of (immediates.IndexNumber space m n) = index space m ∷ number n ∷ []
immediates_of (immediates.Local n) = local n ∷ []
immediates_of (immediates.Label depth) = label depth ∷ []
immediates_of (immediates.Handler depth) = handler depth ∷ []
immediates_of (immediates.Outer depth) = outer depth ∷ []
immediates_of (immediates.Table t) = branch_table t.0 t.1 ∷ []
immediates_of (immediates.Access memarg) = access (access_of memarg) ∷ []
immediates_of (immediates.LaneAccess memarg n) = access (access_of memarg) ∷ lane n ∷ []
immediates_of (immediates.Block type) = block type ∷ []
immediates_of (immediates.Clauses type cs) = block type ∷ clauses cs ∷ []
immediates_of (immediates.Heap type) = heap type ∷ []
immediates_of (immediates.Value type) = value type ∷ []
immediates_of (immediates.Cast c) = cast (cast_of c) ∷ []
immediates_of (immediates.I32 z) = i32 z ∷ []
immediates_of (immediates.I64 z) = i64 z ∷ []
immediates_of (immediates.F32 bits) = f32 bits ∷ []
immediates_of (immediates.F64 bits) = f64 bits ∷ []
immediates_of (immediates.V128 bits) = v128 bits ∷ []
immediates_of (immediates.Lane n) = lane n ∷ []
immediates_of (immediates.Lanes ns) = lanes ns ∷ []
immediates_of immediates.ZeroByte = zero_byte ∷ []

-- The immediates as one of these shapes; the immediates of each opcode of the code have one.
abbrev pub shape_of : List RawImmediate → ListedImmediates
shape_of (index space n ∷ []) = immediates.Index space n
shape_of (index first m ∷ index second n ∷ is) = immediates.Pair first m second n
shape_of (index space m ∷ number n ∷ is) = immediates.IndexNumber space m n
shape_of (local n ∷ is) = immediates.Local n
shape_of (label depth ∷ is) = immediates.Label depth
shape_of (handler depth ∷ is) = immediates.Handler depth
shape_of (outer depth ∷ is) = immediates.Outer depth
shape_of (branch_table targets default ∷ is) = immediates.Table (targets, default)
shape_of (access a ∷ lane n ∷ is) = immediates.LaneAccess (memarg_of a) n
shape_of (access a ∷ is) = immediates.Access (memarg_of a)
shape_of (block type ∷ clauses cs ∷ is) = immediates.Clauses type cs
shape_of (block type ∷ is) = immediates.Block type
shape_of (heap type ∷ is) = immediates.Heap type
shape_of (value type ∷ is) = immediates.Value type
shape_of (cast c ∷ is) = immediates.Cast (raw_cast_of c)
shape_of (i32 z ∷ is) = immediates.I32 z
shape_of (i64 z ∷ is) = immediates.I64 z
shape_of (f32 bits ∷ is) = immediates.F32 bits
shape_of (f64 bits ∷ is) = immediates.F64 bits
shape_of (v128 bits ∷ is) = immediates.V128 bits
shape_of (lane n ∷ is) = immediates.Lane n
shape_of (lanes ns ∷ is) = immediates.Lanes ns
shape_of (zero_byte ∷ is) = immediates.ZeroByte
shape_of _ = immediates.Nothing

abbrev pub parts_of : RawOperation → Opcode × ListedImmediates
parts_of o = (o.opcode, shape_of o.immediates)

-- the lane of an operator, if it has one
abbrev pub lane_immediates : Option ℕ → List RawImmediate
lane_immediates (Some n) = lane n ∷ []
lane_immediates None = []

-- the immediates of an operator on references, structs and arrays
abbrev pub reference_parts : ReferenceImmediates → List RawImmediate
reference_parts form.Nothing = []
reference_parts (form.Index space n) = index space n ∷ []
reference_parts (form.Pair first m second n) = index first m ∷ index second n ∷ []
reference_parts (form.IndexNumber space m n) = index space m ∷ number n ∷ []
reference_parts (form.Label depth) = label depth ∷ []
reference_parts (form.Heap type) = heap type ∷ []
reference_parts (form.Cast c) = cast (cast_of c) ∷ []
