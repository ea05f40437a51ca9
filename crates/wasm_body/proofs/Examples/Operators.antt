-- Operators, in short notation: L is the type of a label and B that of a block type.
use Rattle.std.specs.Prelude.{ℕ, List, [], ◌∷◌, Bool, true, false, Option, Some, None, pos}
use Rattle.wasm_types.specs.declared.val_type.HeapType.{HeapType}
use Rattle.wasm_operators.specs.declared.types.Opcode.TheVariants.{Byte, Prefixed}
use Rattle.wasm_operators.specs.declared.types.Space.TheVariants.{Types, Funcs, Tables, Tags}
use Rattle.wasm_operators.specs.Operations.{CatchClause, Immediate, index, local, label, handler, number, branch_table, clauses, cast, block as block_type, i32, Operation, operation}
use Rattle.wasm_body.specs.Control.{end_operation, else_operation, catch_opcode, catch_all_operation, delegate_operation}

-- ---- operators

abbrev by_byte : {L B : Type 0} → ℕ → List (Immediate L B) → Operation L B
by_byte b is = operation (Byte b) is

abbrev pub unreachable : {L B : Type 0} → Operation L B
unreachable = by_byte 0x00 []

abbrev pub nop : {L B : Type 0} → Operation L B
nop = by_byte 0x01 []

abbrev pub block : {L B : Type 0} → B → Operation L B
block type = by_byte 0x02 (block_type type ∷ [])

abbrev pub loop : {L B : Type 0} → B → Operation L B
loop type = by_byte 0x03 (block_type type ∷ [])

abbrev pub if : {L B : Type 0} → B → Operation L B
if type = by_byte 0x04 (block_type type ∷ [])

abbrev pub else : {L B : Type 0} → Operation L B
else = else_operation

abbrev pub try : {L B : Type 0} → B → Operation L B
try type = by_byte 0x06 (block_type type ∷ [])

abbrev pub catch : {L B : Type 0} → ℕ → Operation L B
catch tag = operation catch_opcode (index Tags tag ∷ [])

abbrev pub throw : {L B : Type 0} → ℕ → Operation L B
throw tag = by_byte 0x08 (index Tags tag ∷ [])

abbrev pub rethrow : {L B : Type 0} → ℕ → Operation L B
rethrow depth = by_byte 0x09 (handler depth ∷ [])

abbrev pub throw_ref : {L B : Type 0} → Operation L B
throw_ref = by_byte 0x0a []

abbrev pub end : {L B : Type 0} → Operation L B
end = end_operation

abbrev pub br : {L B : Type 0} → L → Operation L B
br l = by_byte 0x0c (label l ∷ [])

abbrev pub br_if : {L B : Type 0} → L → Operation L B
br_if l = by_byte 0x0d (label l ∷ [])

abbrev pub br_table : {L B : Type 0} → List L → L → Operation L B
br_table targets default = by_byte 0x0e (branch_table targets default ∷ [])

abbrev pub return : {L B : Type 0} → Operation L B
return = by_byte 0x0f []

abbrev pub call : {L B : Type 0} → ℕ → Operation L B
call function = by_byte 0x10 (index Funcs function ∷ [])

abbrev pub call_ref : {L B : Type 0} → ℕ → Operation L B
call_ref type = by_byte 0x14 (index Types type ∷ [])

abbrev pub call_indirect : {L B : Type 0} → (type table : ℕ) → Operation L B
call_indirect type table = by_byte 0x11 (index Types type ∷ index Tables table ∷ [])

abbrev pub return_call : {L B : Type 0} → ℕ → Operation L B
return_call function = by_byte 0x12 (index Funcs function ∷ [])

abbrev pub return_call_indirect : {L B : Type 0} → (type table : ℕ) → Operation L B
return_call_indirect type table = by_byte 0x13 (index Types type ∷ index Tables table ∷ [])

abbrev pub return_call_ref : {L B : Type 0} → ℕ → Operation L B
return_call_ref type = by_byte 0x15 (index Types type ∷ [])

abbrev pub delegate : {L B : Type 0} → ℕ → Operation L B
delegate depth = delegate_operation depth

abbrev pub catch_all : {L B : Type 0} → Operation L B
catch_all = catch_all_operation

abbrev pub drop : {L B : Type 0} → Operation L B
drop = by_byte 0x1a []

abbrev pub try_table : {L B : Type 0} → B → List (CatchClause L) → Operation L B
try_table type cs = by_byte 0x1f (block_type type ∷ clauses cs ∷ [])

abbrev pub local_get : {L B : Type 0} → ℕ → Operation L B
local_get n = by_byte 0x20 (local n ∷ [])

abbrev pub local_set : {L B : Type 0} → ℕ → Operation L B
local_set n = by_byte 0x21 (local n ∷ [])

abbrev pub add : {L B : Type 0} → Operation L B
add = by_byte 0x6a []

abbrev pub const : {L B : Type 0} → ℕ → Operation L B
const n = by_byte 0x41 (i32 (pos n) ∷ [])

abbrev pub br_on_null : {L B : Type 0} → L → Operation L B
br_on_null l = by_byte 0xd5 (label l ∷ [])

abbrev pub br_on_non_null : {L B : Type 0} → L → Operation L B
br_on_non_null l = by_byte 0xd6 (label l ∷ [])

abbrev pub struct_get : {L B : Type 0} → (type field : ℕ) → Operation L B
struct_get type field = operation (Prefixed 0xfb 2) (index Types type ∷ number field ∷ [])

abbrev cast_by : {L B : Type 0} → (from to : Bool) → L → (source target : HeapType ℕ) → List (Immediate L B)
cast_by from to l source target = cast (record { from_nullable = from; to_nullable = to; label = l; source = source; target = target }) ∷ []

-- from a reference that may be null to one that may not
abbrev pub br_on_null_cast : {L B : Type 0} → L → (source target : HeapType ℕ) → Operation L B
br_on_null_cast l source target = operation (Prefixed 0xfb 24) (cast_by true false l source target)

-- from one that may not be null to one that may not
abbrev pub br_on_cast : {L B : Type 0} → L → (source target : HeapType ℕ) → Operation L B
br_on_cast l source target = operation (Prefixed 0xfb 24) (cast_by false false l source target)

abbrev pub br_on_cast_fail : {L B : Type 0} → L → (source target : HeapType ℕ) → Operation L B
br_on_cast_fail l source target = operation (Prefixed 0xfb 25) (cast_by false false l source target)

-- ---- clauses of `try_table`

abbrev clause : {L : Type 0} → Bool → Option ℕ → L → CatchClause L
clause by_reference tag l = record { by_reference = by_reference; tag = tag; label = l }

abbrev pub catches : {L : Type 0} → ℕ → L → CatchClause L
catches tag l = clause false (Some tag) l

abbrev pub catches_ref : {L : Type 0} → ℕ → L → CatchClause L
catches_ref tag l = clause true (Some tag) l

abbrev pub catches_all : {L : Type 0} → L → CatchClause L
catches_all l = clause false None l

abbrev pub catches_all_ref : {L : Type 0} → L → CatchClause L
catches_all_ref l = clause true None l
