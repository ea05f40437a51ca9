-- The meaning of a named operator of the code: its opcode and its immediates, with ids, as in the definition of naming.
use Rattle.std.specs.Prelude.{ℕ, List, [], ◌∷◌, map}
use Rattle.walrus_ir.specs.Types.{Signature, signature}
use Rattle.wasm_operators.specs.declared.types.Space.TheVariants.{Tables, Types, Funcs, Globals, Memories, Elements, Data, Tags}
use Rattle.wasm_operators.specs.Operations.{Access, CatchClause, Cast, Immediate, index, local, label, handler, outer, number, access, branch_table, clauses, block, heap, value, cast, i32, i64, f32, f64, v128, lane, lanes, zero_byte, operation}
use Rattle.wasm_body.specs.Naming.{NamedOperation}
use Rattle.walrus_machine.specs.declared.named_op.NamedOp.{NamedOp}
use Rattle.walrus_machine.specs.declared.named_op.NamedIndex.{NamedIndex}
use Rattle.walrus_machine.specs.declared.named_op.NamedIndex.TheVariants as id
use Rattle.walrus_machine.specs.declared.named_op.NamedMemArg.{NamedMemArg}
use Rattle.walrus_machine.specs.declared.named_op.NamedBlockType.{NamedBlockType}
use Rattle.walrus_machine.specs.declared.named_op.NamedCatch.{NamedCatch}
use Rattle.walrus_machine.specs.declared.named_op.NamedCast.{NamedCast}
use Rattle.walrus_machine.specs.declared.named_op.NamedImmediates.{NamedImmediates}
use Rattle.walrus_machine.specs.declared.named_op.NamedImmediates.TheVariants as immediates

abbrev pub NamedImmediate : Type 0
NamedImmediate = Immediate ℕ Signature

abbrev pub named_index : NamedIndex → NamedImmediate
named_index (id.Table n) = index Tables n
named_index (id.Type n) = index Types n
named_index (id.Func n) = index Funcs n
named_index (id.Global n) = index Globals n
named_index (id.Memory n) = index Memories n
named_index (id.Element n) = index Elements n
named_index (id.Data n) = index Data n
named_index (id.Tag n) = index Tags n

abbrev pub named_access : NamedMemArg → Access
named_access a = record { alignment = a.exponent; memory = a.memory; offset = a.offset }

abbrev pub named_block : NamedBlockType → Signature
named_block b = signature b.params.items b.results.items

abbrev pub named_clause : NamedCatch → CatchClause ℕ
named_clause c = record { by_reference = c.by_reference; tag = c.tag; label = c.label }

abbrev pub named_cast : NamedCast → Cast ℕ
named_cast c = record { from_nullable = c.from_nullable; to_nullable = c.to_nullable; label = c.label; source = c.source; target = c.target }

abbrev pub named_immediates : NamedImmediates → List NamedImmediate
named_immediates immediates.Nothing = []
named_immediates (immediates.Index n) = named_index n ∷ []
named_immediates (immediates.Pair m n) = named_index m ∷ named_index n ∷ []
named_immediates (immediates.IndexNumber m n) = named_index m ∷ number n ∷ []
named_immediates (immediates.Local n) = local n ∷ []
named_immediates (immediates.Label depth) = label depth ∷ []
named_immediates (immediates.Handler depth) = handler depth ∷ []
named_immediates (immediates.Outer depth) = outer depth ∷ []
named_immediates (immediates.Table targets default) = branch_table targets.items default ∷ []
named_immediates (immediates.Access a) = access (named_access a) ∷ []
named_immediates (immediates.LaneAccess a n) = access (named_access a) ∷ lane n ∷ []
named_immediates (immediates.Block type) = block (named_block type) ∷ []
named_immediates (immediates.Clauses type cs) = block (named_block type) ∷ clauses (map named_clause cs.items) ∷ []
named_immediates (immediates.Heap type) = heap type ∷ []
named_immediates (immediates.Value type) = value type ∷ []
named_immediates (immediates.Cast c) = cast (named_cast c) ∷ []
named_immediates (immediates.I32 z) = i32 z ∷ []
named_immediates (immediates.I64 z) = i64 z ∷ []
named_immediates (immediates.F32 bits) = f32 bits ∷ []
named_immediates (immediates.F64 bits) = f64 bits ∷ []
named_immediates (immediates.V128 bits) = v128 bits ∷ []
named_immediates (immediates.Lane n) = lane n ∷ []
named_immediates (immediates.Lanes ns) = lanes ns ∷ []
named_immediates immediates.ZeroByte = zero_byte ∷ []

abbrev pub named_operation : NamedOp → NamedOperation
named_operation o = operation o.opcode (named_immediates o.immediates)
