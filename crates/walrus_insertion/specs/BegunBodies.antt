-- The operators that inserted instructions are, and a body that begins with some.
use Rattle.std.specs.Prelude.{◌≡◌, ℕ, List, [], ◌∷◌, ◌++◌, map, Some, slice_get, slice_set}
use Rattle.wasm_types.specs.declared.val_type.ValType.{ValType}
use Rattle.wasm_operators.specs.Operations.{Immediate, index, local, label, handler, outer, number, access, branch_table, clauses, block, heap, value, cast, i32, i64, f32, f64, v128, lane, lanes, zero_byte}
use Rattle.walrus_ir.specs.declared.seq.InstrSeq.{InstrSeq}
use Rattle.walrus_ir.specs.Locations.{default_location}
use Rattle.walrus_ir.specs.Types.{Signature, signature}
use Rattle.wasm_body.specs.Control.{Plain}
use Rattle.wasm_body.specs.Flat.{Named}
use Rattle.wasm_body.specs.FunctionTree.{FunctionTree}
use Rattle.wasm_body.specs.InstructionTable.{PlacedImmediate, PlacedOperation, operation_of}
use Rattle.wasm_body.specs.Naming.{NamedOperation}
use Rattle.wasm_body.specs.NormalForm.{Typing, normal_form}
use Rattle.wasm_body.specs.SourceTree.{Sequence, Single, Body, map_sequence, map_body}
use Rattle.wasm_body.specs.TextLaws.{IsNamedBody}
use Rattle.wasm_body.specs.Translation.{at_location}
use Rattle.wasm_body.specs.TreeOfFunction.{HasTree}
use Rattle.wasm_body.specs.Typed.{AreTyped}
use Rattle.wasm_body.specs.Validity.{OperandRules, IsValid}
use Rattle.wasm_insertion.specs.Insertion.{Origin, Own, Added, without_origin, IsInsertedText}
use Rattle.wasm_insertion.specs.InsertedTexts.{IsInstrumented}
use Rattle.wasm_insertion.specs.InsertedValidity.{IsProbe}
use Rattle.walrus_insertion.specs.declared.plain_instr.PlainInstr.{PlainInstr}
use Rattle.walrus_insertion.specs.PlainInstructions.{instr_of}
use Rattle.walrus_insertion.specs.Edits.{added}

-- ---- operators

-- An immediate of an instruction, with names. A plain one has no block type.
abbrev pub unplaced : PlacedImmediate → Immediate ℕ Signature
unplaced (index s n) = index s n
unplaced (local n) = local n
unplaced (label n) = label n
unplaced (handler n) = handler n
unplaced (outer n) = outer n
unplaced (number n) = number n
unplaced (access a) = access a
unplaced (branch_table ts d) = branch_table ts d
unplaced (clauses cs) = clauses cs
unplaced (block b) = block (signature [] [])
unplaced (heap h) = heap h
unplaced (value v) = value v
unplaced (cast c) = cast c
unplaced (i32 z) = i32 z
unplaced (i64 z) = i64 z
unplaced (f32 bits) = f32 bits
unplaced (f64 bits) = f64 bits
unplaced (v128 bits) = v128 bits
unplaced (lane n) = lane n
unplaced (lanes ns) = lanes ns
unplaced zero_byte = zero_byte

abbrev pub unplaced_operation : PlacedOperation → NamedOperation
unplaced_operation o = record { opcode = o.opcode; immediates = map unplaced o.immediates }

-- the operator that is inserted: it comes from no place of the source
abbrev pub inserted_operator : PlainInstr → Named
inserted_operator p = at_location (unplaced_operation (operation_of (instr_of p))) default_location

abbrev pub inserted_operators : List PlainInstr → List Named
inserted_operators ps = map inserted_operator ps

-- ---- a body that begins with operators more

-- operators that are added before a sequence
abbrev pub with_added : {A P : Type 0} → List P → Sequence (Origin A P) → Sequence (Origin A P)
with_added [] s = s
with_added (p ∷ ps) s = Single (Added p) Plain (with_added ps s)

abbrev pub begun_with : List Named → Body Named → Body (Origin Named Named)
begun_with ps b = record { sequence = with_added ps (map_sequence Own b.sequence); close = Own b.close }

abbrev pub begun_form : Typing → List PlainInstr → Body Named → FunctionTree
begun_form m ps b = normal_form m (map_body without_origin (begun_with (inserted_operators ps) b))

-- Where the first sequence of a body's tree begins with these instructions more, and all else is as it was, the tree is the normal form of
-- the body that begins with their operators.
abbrev pub BegunTrees : Type 0
BegunTrees =
    (sequences : List InstrSeq) (start : ℕ) (seq : InstrSeq) (ps : List PlainInstr) → slice_get sequences start ≡ Some seq → (m : Typing) (b : Body Named) →
    HasTree sequences start (normal_form m b) → HasTree (slice_set sequences start (record seq { instrs = map added ps ++ seq.instrs })) start (begun_form m ps b)

-- What is written for it is the source, instrumented: it executes these operators and then the source's, each at its location, and it is
-- valid where the source is, if together they take no operands and leave none.
pub record IsBegunText (T : Type 0) (m : Typing) (ps : List PlainInstr) (xs : List Named) (b : Body Named) : Type 0 where
  pub is_text : IsInsertedText (inserted_operators ps ++ xs) (begun_with (inserted_operators ps) b)
  pub typed : AreTyped m (inserted_operators ps ++ xs)
  pub written : IsInstrumented T m (begun_form m ps b) xs (inserted_operators ps ++ xs)
  pub valid : (r : OperandRules T) → IsProbe r (inserted_operators ps) → (results : List (ValType ℕ)) (initialised : List ℕ) → IsValid m r results initialised xs
      → IsValid m r results initialised written.text

abbrev pub BegunTexts : Type 0 → Type 0
BegunTexts T = (m : Typing) (ps : List PlainInstr) (xs : List Named) (b : Body Named) → IsNamedBody xs b → AreTyped m xs → IsBegunText T m ps xs b
