-- What the supported operators do to the control.
use Rattle.std.specs.Prelude.{◌≡◌, ◌≢◌, ℕ, List, ◌∷◌, Bool, true, false, Option, Some, None}
use Rattle.std.proofs.Common.{refl, ap, ◌∙◌}
use Rattle.wasm_types.specs.declared.unary.UnaryOp.{UnaryOp}
use Rattle.wasm_types.specs.declared.unary.UnaryOp.TheVariants as unary
use Rattle.wasm_types.specs.declared.binary.BinaryOp.{BinaryOp}
use Rattle.wasm_types.specs.declared.binary.BinaryOp.TheVariants as binary
use Rattle.wasm_types.specs.declared.ternary.TernaryOp.{TernaryOp}
use Rattle.wasm_types.specs.declared.ternary.TernaryOp.TheVariants as ternary
use Rattle.wasm_types.specs.declared.memory.ExtendedLoad.TheVariants.{SignExtend, ZeroExtend, ZeroExtendAtomic}
use Rattle.wasm_types.specs.declared.memory.LoadKind.{LoadKind}
use Rattle.wasm_types.specs.declared.memory.LoadKind.TheVariants as load
use Rattle.wasm_types.specs.declared.memory.StoreKind.{StoreKind}
use Rattle.wasm_types.specs.declared.memory.StoreKind.TheVariants as store
use Rattle.wasm_types.specs.declared.memory.LoadSimdKind.{LoadSimdKind}
use Rattle.wasm_types.specs.declared.memory.LoadSimdKind.TheVariants as vector_access
use Rattle.wasm_operators.specs.declared.types.AtomicKind.{AtomicKind}
use Rattle.wasm_operators.specs.declared.types.AtomicKind.TheVariants as atomic
use Rattle.wasm_operators.specs.declared.operator.Op.TheVariants as operator
use Rattle.wasm_operators.specs.declared.reference_operator.ReferenceOp.{ReferenceOp}
use Rattle.wasm_operators.specs.declared.reference_operator.ReferenceOp.TheVariants as reference
use Rattle.wasm_operators.specs.declared.types.BlockType.{BlockType}
use Rattle.wasm_operators.specs.declared.types.Opcode.{Opcode}
use Rattle.wasm_operators.specs.declared.types.Opcode.TheVariants.{Prefixed}
use Rattle.wasm_operators.specs.Operations.{CatchClause, Immediate, branch_table}
use Rattle.wasm_operators.specs.Meaning.{Listed, meaning}
use Rattle.wasm_operators.specs.UnaryOperations.{unary_opcode}
use Rattle.wasm_operators.specs.BinaryOperations.{binary_opcode}
use Rattle.wasm_operators.specs.TernaryOperations.{ternary_opcode}
use Rattle.wasm_operators.specs.AccessOperations.{load_opcode, store_opcode}
use Rattle.wasm_operators.specs.AtomicOpcodes.{atomic_opcode}
use Rattle.wasm_operators.specs.ReferenceOperations.{by_null, reference_opcode}
use Rattle.wasm_operators.specs.VectorAccessOpcodes.{vector_access_opcode}
use Rattle.wasm_body.specs.Control.{Role, an_unreachable, a_branch, a_conditional_branch, a_table_branch, a_return, a_tail_call, a_throw, a_rethrow, a_throw_ref, a_plain, role_of, Action, Plain, Return, Unreachable, Branch, ConditionalBranch, Throw, Rethrow, ThrowRef, TailCall, Control, Does, control_by, first_index, first_depth, first_label, branches}
use Rattle.wasm_body.specs.NormalForm.{Fate, Stays, MakesUnreachable, fate}
use Rattle.walrus_from_operators.specs.OperatorKinds.{is_instruction}
use Rattle.walrus_parser.specs.OperatorKinds.{makes_unreachable}

-- ---- plain operators, from the tables of their opcodes

plain_unary : (op : UnaryOp) → role_of (unary_opcode op) ≡ a_plain
plain_unary unary.I32Eqz = refl
plain_unary _ = refl

plain_binary : (op : BinaryOp) → role_of (binary_opcode op) ≡ a_plain
plain_binary binary.I32Add = refl
plain_binary _ = refl

plain_ternary : (op : TernaryOp) → role_of (ternary_opcode op) ≡ a_plain
plain_ternary ternary.F32x4RelaxedMadd = refl
plain_ternary _ = refl

plain_load : (kind : LoadKind) → role_of (load_opcode kind) ≡ a_plain
plain_load (load.I32 true) = refl
plain_load (load.I32 false) = refl
plain_load (load.I64 true) = refl
plain_load (load.I64 false) = refl
plain_load load.F32 = refl
plain_load load.F64 = refl
plain_load load.V128 = refl
plain_load (load.I32_8 SignExtend) = refl
plain_load (load.I32_8 ZeroExtend) = refl
plain_load (load.I32_8 ZeroExtendAtomic) = refl
plain_load (load.I32_16 SignExtend) = refl
plain_load (load.I32_16 ZeroExtend) = refl
plain_load (load.I32_16 ZeroExtendAtomic) = refl
plain_load (load.I64_8 SignExtend) = refl
plain_load (load.I64_8 ZeroExtend) = refl
plain_load (load.I64_8 ZeroExtendAtomic) = refl
plain_load (load.I64_16 SignExtend) = refl
plain_load (load.I64_16 ZeroExtend) = refl
plain_load (load.I64_16 ZeroExtendAtomic) = refl
plain_load (load.I64_32 SignExtend) = refl
plain_load (load.I64_32 ZeroExtend) = refl
plain_load (load.I64_32 ZeroExtendAtomic) = refl

plain_store : (kind : StoreKind) → role_of (store_opcode kind) ≡ a_plain
plain_store (store.I32 true) = refl
plain_store (store.I32 false) = refl
plain_store (store.I64 true) = refl
plain_store (store.I64 false) = refl
plain_store store.F32 = refl
plain_store store.F64 = refl
plain_store store.V128 = refl
plain_store (store.I32_8 true) = refl
plain_store (store.I32_8 false) = refl
plain_store (store.I32_16 true) = refl
plain_store (store.I32_16 false) = refl
plain_store (store.I64_8 true) = refl
plain_store (store.I64_8 false) = refl
plain_store (store.I64_16 true) = refl
plain_store (store.I64_16 false) = refl
plain_store (store.I64_32 true) = refl
plain_store (store.I64_32 false) = refl

plain_vector_access : (kind : LoadSimdKind) → role_of (vector_access_opcode kind) ≡ a_plain
plain_vector_access vector_access.Splat8 = refl
plain_vector_access _ = refl

plain_atomic : (kind : AtomicKind) → role_of (atomic_opcode kind) ≡ a_plain
plain_atomic atomic.Notify = refl
plain_atomic _ = refl

-- ---- operators by themselves

-- the effect of an operator of this role, if it makes an instruction by itself
abbrev pub fate_of_role : Role → Option Fate
fate_of_role an_unreachable = Some MakesUnreachable
fate_of_role a_branch = Some MakesUnreachable
fate_of_role a_conditional_branch = Some Stays
fate_of_role a_table_branch = Some MakesUnreachable
fate_of_role a_return = Some MakesUnreachable
fate_of_role a_tail_call = Some Stays
fate_of_role a_throw = Some MakesUnreachable
fate_of_role a_rethrow = Some MakesUnreachable
fate_of_role a_throw_ref = Some MakesUnreachable
fate_of_role a_plain = Some Stays
fate_of_role _ = None

abbrev pub fate_by : Bool → Fate
fate_by true = MakesUnreachable
fate_by false = Stays

abbrev StaysAt : Opcode → Type 0
StaysAt o = fate_of_role (role_of o) ≡ Some Stays

-- an opcode with a second number, if null passes
stays_by_null : (nullable : Bool) (m n : ℕ) → StaysAt (Prefixed 0xfb m) → StaysAt (Prefixed 0xfb n) → StaysAt (by_null nullable m n)
stays_by_null false m n without with_null = without
stays_by_null true m n without with_null = with_null

-- an operator on references, structs or arrays
stays_reference : (op : ReferenceOp) → StaysAt (reference_opcode op)
stays_reference reference.RefEq = refl
stays_reference _ = search stays_by_null

pub fate_of_operator : (op : Listed) → is_instruction op ≡ true → fate_of_role (role_of (meaning op).opcode) ≡ Some (fate_by (makes_unreachable op))
fate_of_operator operator.Nop i = absurd cc
fate_of_operator (operator.Block type) i = absurd cc
fate_of_operator (operator.Loop type) i = absurd cc
fate_of_operator (operator.If type) i = absurd cc
fate_of_operator operator.Else i = absurd cc
fate_of_operator operator.End i = absurd cc
fate_of_operator (operator.Try type) i = absurd cc
fate_of_operator (operator.Catch tag) i = absurd cc
fate_of_operator operator.CatchAll i = absurd cc
fate_of_operator (operator.Delegate depth) i = absurd cc
fate_of_operator (operator.TryTable type catches) i = absurd cc
fate_of_operator (operator.Unop op) i = ap fate_of_role (plain_unary op)
fate_of_operator (operator.Binop op) i = ap fate_of_role (plain_binary op)
fate_of_operator (operator.TernOp op) i = ap fate_of_role (plain_ternary op)
fate_of_operator (operator.Load kind memarg) i = ap fate_of_role (plain_load kind)
fate_of_operator (operator.Store kind memarg) i = ap fate_of_role (plain_store kind)
fate_of_operator (operator.LoadSimd kind memarg) i = ap fate_of_role (plain_vector_access kind)
fate_of_operator (operator.Atomic kind memarg) i = ap fate_of_role (plain_atomic kind)
fate_of_operator (operator.Reference op) i = stays_reference op
fate_of_operator _ i = refl

-- whatever its immediates are
pub record DoesAs (c : Control) (t : Fate) : Type 0 where
  pub action : Action
  pub does : c ≡ Does action
  pub has_fate : fate action ≡ t

-- a branch with a table
branches_make_unreachable : {B : Type 0} → (is : List (Immediate ℕ B)) → fate (branches is) ≡ MakesUnreachable
branches_make_unreachable (branch_table targets default ∷ is) = refl
branches_make_unreachable _ = refl

pub does_as : {B : Type 0} → (r : Role) (t : Fate) (is : List (Immediate ℕ B)) → fate_of_role r ≡ Some t → DoesAs (control_by r is) t
does_as an_unreachable t is e = record { action = Unreachable; does = refl; has_fate = cc e }
does_as a_branch t is e = record { action = Branch (first_label is); does = refl; has_fate = cc e }
does_as a_conditional_branch t is e = record { action = ConditionalBranch (first_label is); does = refl; has_fate = cc e }
does_as a_table_branch t is e = record { action = branches is; does = refl; has_fate = branches_make_unreachable is ∙ (let same : MakesUnreachable ≡ t = cc e in same) }
does_as a_return t is e = record { action = Return; does = refl; has_fate = cc e }
does_as a_tail_call t is e = record { action = TailCall; does = refl; has_fate = cc e }
does_as a_throw t is e = record { action = Throw (first_index is); does = refl; has_fate = cc e }
does_as a_rethrow t is e = record { action = Rethrow (first_depth is); does = refl; has_fate = cc e }
does_as a_throw_ref t is e = record { action = ThrowRef; does = refl; has_fate = cc e }
does_as a_plain t is e = record { action = Plain; does = refl; has_fate = cc e }
does_as _ t is e = absurd cc

-- All operators but these make an instruction.
pub makes_instruction : (op : Listed) → op ≢ operator.Nop → ((type : BlockType) → op ≢ operator.Block type) → ((type : BlockType) → op ≢ operator.Loop type) → ((type : BlockType) → op ≢ operator.If type) →
    op ≢ operator.Else → ((type : BlockType) → op ≢ operator.Try type) → ((tag : ℕ) → op ≢ operator.Catch tag) → op ≢ operator.CatchAll → ((depth : ℕ) → op ≢ operator.Delegate depth) →
    ((type : BlockType) (catches : List (CatchClause ℕ)) → op ≢ operator.TryTable type catches) → op ≢ operator.End → is_instruction op ≡ true
makes_instruction operator.Nop n b l i e t c a d table z = absurd (n refl)
makes_instruction (operator.Block type) n b l i e t c a d table z = absurd (b type refl)
makes_instruction (operator.Loop type) n b l i e t c a d table z = absurd (l type refl)
makes_instruction (operator.If type) n b l i e t c a d table z = absurd (i type refl)
makes_instruction operator.Else n b l i e t c a d table z = absurd (e refl)
makes_instruction (operator.Try type) n b l i e t c a d table z = absurd (t type refl)
makes_instruction (operator.Catch tag) n b l i e t c a d table z = absurd (c tag refl)
makes_instruction operator.CatchAll n b l i e t c a d table z = absurd (a refl)
makes_instruction (operator.Delegate depth) n b l i e t c a d table z = absurd (d depth refl)
makes_instruction (operator.TryTable type catches) n b l i e t c a d table z = absurd (table type catches refl)
makes_instruction operator.End n b l i e t c a d table z = absurd (z refl)
makes_instruction _ n b l i e t c a d table z = refl
