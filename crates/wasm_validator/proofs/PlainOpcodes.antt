-- Operators whose opcode depends on the kind of operator: each is plain, and its rule gives a type.
use Rattle.std.proofs.Common.{◌≡◌, true, false, Option, Some, None, refl, sym, ◌∙◌}
use Rattle.std.specs.Prelude.{is_some}
use Rattle.std.proofs.lemmas.Bool.{false≢true}
use Rattle.wasm_types.specs.declared.unary.UnaryOp.{UnaryOp}
use Rattle.wasm_types.specs.declared.unary.UnaryOp.TheVariants as unary
use Rattle.wasm_types.specs.declared.binary.BinaryOp.{BinaryOp}
use Rattle.wasm_types.specs.declared.binary.BinaryOp.TheVariants as binary
use Rattle.wasm_types.specs.declared.ternary.TernaryOp.{TernaryOp}
use Rattle.wasm_types.specs.declared.ternary.TernaryOp.TheVariants as ternary
use Rattle.wasm_types.specs.declared.memory.LoadKind.{LoadKind}
use Rattle.wasm_types.specs.declared.memory.LoadKind.TheVariants as load
use Rattle.wasm_types.specs.declared.memory.ExtendedLoad.TheVariants.{SignExtend, ZeroExtend, ZeroExtendAtomic}
use Rattle.wasm_types.specs.declared.memory.StoreKind.{StoreKind}
use Rattle.wasm_types.specs.declared.memory.StoreKind.TheVariants as store
use Rattle.wasm_types.specs.declared.memory.LoadSimdKind.{LoadSimdKind}
use Rattle.wasm_types.specs.declared.memory.LoadSimdKind.TheVariants as vector_access
use Rattle.wasm_types.specs.declared.memory.AtomicOp.{AtomicOp}
use Rattle.wasm_types.specs.declared.memory.AtomicOp.TheVariants as op
use Rattle.wasm_types.specs.declared.memory.AtomicWidth.{AtomicWidth}
use Rattle.wasm_types.specs.declared.memory.AtomicWidth.TheVariants as width
use Rattle.wasm_operators.specs.declared.types.AtomicKind.{AtomicKind}
use Rattle.wasm_operators.specs.declared.types.AtomicKind.TheVariants.{Notify, Wait32, Wait64, Rmw, Cmpxchg}
use Rattle.wasm_operators.specs.declared.types.Opcode.{Opcode}
use Rattle.wasm_operators.specs.AccessOperations.{load_opcode, store_opcode}
use Rattle.wasm_operators.specs.AtomicOpcodes.{atomic_opcode, rmw_opcode, cmpxchg_opcode}
use Rattle.wasm_operators.specs.BinaryOperations.{binary_opcode}
use Rattle.wasm_operators.specs.Opcodes.{kinds_of}
use Rattle.wasm_operators.specs.TernaryOperations.{ternary_opcode}
use Rattle.wasm_operators.specs.UnaryOperations.{unary_opcode}
use Rattle.wasm_operators.specs.VectorAccessOpcodes.{vector_access_opcode}
use Rattle.wasm_operators.proofs.SameLists.{both}
use Rattle.wasm_body.specs.Control.{role_of}
use Rattle.wasm_typing.specs.Rules.{Rule, by_type, by_point}
use Rattle.wasm_typing.specs.RuleTable.{rule_of}
use Rattle.wasm_typing.specs.RuleLaws.{is_plain}
use Rattle.wasm_typing.proofs.Coverage.{plain_have_rules}
use Rattle.wasm_validator.proofs.PlainOperators.{gives_type}

-- ---- an operator whose rule gives a type is plain

gives_one : (row : Option Rule) → gives_type row ≡ true → is_some row ≡ true
gives_one (Some (by_type rule)) h = refl
gives_one (Some (by_point rule)) h = refl
gives_one None h = absurd (false≢true h)

pub typed_is_plain : (o : Opcode) → gives_type (rule_of o) ≡ true → is_plain (role_of o) ≡ true
typed_is_plain o h = (both (is_some (kinds_of o)) (is_plain (role_of o)) (sym (plain_have_rules o) ∙ gives_one (rule_of o) h)).1

-- ---- operators for numbers and vectors

pub unary_gives : (op : UnaryOp) → gives_type (rule_of (unary_opcode op)) ≡ true
unary_gives (unary.I8x16ExtractLaneS idx) = refl
unary_gives _ = refl

pub binary_gives : (op : BinaryOp) → gives_type (rule_of (binary_opcode op)) ≡ true
binary_gives (binary.I8x16ReplaceLane idx) = refl
binary_gives _ = refl

pub ternary_gives : (op : TernaryOp) → gives_type (rule_of (ternary_opcode op)) ≡ true
ternary_gives ternary.F32x4RelaxedMadd = refl
ternary_gives _ = refl

pub unary_plain : (op : UnaryOp) → is_plain (role_of (unary_opcode op)) ≡ true
unary_plain op = typed_is_plain (unary_opcode op) (unary_gives op)

pub binary_plain : (op : BinaryOp) → is_plain (role_of (binary_opcode op)) ≡ true
binary_plain op = typed_is_plain (binary_opcode op) (binary_gives op)

pub ternary_plain : (op : TernaryOp) → is_plain (role_of (ternary_opcode op)) ≡ true
ternary_plain op = typed_is_plain (ternary_opcode op) (ternary_gives op)

-- ---- accesses to memory

pub load_gives : (kind : LoadKind) → gives_type (rule_of (load_opcode kind)) ≡ true
load_gives (load.I32 false) = refl
load_gives (load.I32 true) = refl
load_gives (load.I64 false) = refl
load_gives (load.I64 true) = refl
load_gives load.F32 = refl
load_gives load.F64 = refl
load_gives load.V128 = refl
load_gives (load.I32_8 SignExtend) = refl
load_gives (load.I32_8 ZeroExtend) = refl
load_gives (load.I32_8 ZeroExtendAtomic) = refl
load_gives (load.I32_16 SignExtend) = refl
load_gives (load.I32_16 ZeroExtend) = refl
load_gives (load.I32_16 ZeroExtendAtomic) = refl
load_gives (load.I64_8 SignExtend) = refl
load_gives (load.I64_8 ZeroExtend) = refl
load_gives (load.I64_8 ZeroExtendAtomic) = refl
load_gives (load.I64_16 SignExtend) = refl
load_gives (load.I64_16 ZeroExtend) = refl
load_gives (load.I64_16 ZeroExtendAtomic) = refl
load_gives (load.I64_32 SignExtend) = refl
load_gives (load.I64_32 ZeroExtend) = refl
load_gives (load.I64_32 ZeroExtendAtomic) = refl

pub load_plain : (kind : LoadKind) → is_plain (role_of (load_opcode kind)) ≡ true
load_plain kind = typed_is_plain (load_opcode kind) (load_gives kind)

pub store_gives : (kind : StoreKind) → gives_type (rule_of (store_opcode kind)) ≡ true
store_gives store.F32 = refl
store_gives store.F64 = refl
store_gives store.V128 = refl
store_gives (store.I32 false) = refl
store_gives (store.I32 true) = refl
store_gives (store.I64 false) = refl
store_gives (store.I64 true) = refl
store_gives (store.I32_8 false) = refl
store_gives (store.I32_8 true) = refl
store_gives (store.I32_16 false) = refl
store_gives (store.I32_16 true) = refl
store_gives (store.I64_8 false) = refl
store_gives (store.I64_8 true) = refl
store_gives (store.I64_16 false) = refl
store_gives (store.I64_16 true) = refl
store_gives (store.I64_32 false) = refl
store_gives (store.I64_32 true) = refl

pub store_plain : (kind : StoreKind) → is_plain (role_of (store_opcode kind)) ≡ true
store_plain kind = typed_is_plain (store_opcode kind) (store_gives kind)

pub vector_access_gives : (kind : LoadSimdKind) → gives_type (rule_of (vector_access_opcode kind)) ≡ true
vector_access_gives vector_access.V128Load8x8S = refl
vector_access_gives _ = refl

pub vector_access_plain : (kind : LoadSimdKind) → is_plain (role_of (vector_access_opcode kind)) ≡ true
vector_access_plain kind = typed_is_plain (vector_access_opcode kind) (vector_access_gives kind)

rmw_gives : (o : AtomicOp) (w : AtomicWidth) → gives_type (rule_of (rmw_opcode o w)) ≡ true
rmw_gives op.Add width.I32 = refl
rmw_gives op.Add width.I32_8 = refl
rmw_gives op.Add width.I32_16 = refl
rmw_gives op.Add width.I64 = refl
rmw_gives op.Add width.I64_8 = refl
rmw_gives op.Add width.I64_16 = refl
rmw_gives op.Add width.I64_32 = refl
rmw_gives op.Sub width.I32 = refl
rmw_gives op.Sub width.I32_8 = refl
rmw_gives op.Sub width.I32_16 = refl
rmw_gives op.Sub width.I64 = refl
rmw_gives op.Sub width.I64_8 = refl
rmw_gives op.Sub width.I64_16 = refl
rmw_gives op.Sub width.I64_32 = refl
rmw_gives op.And width.I32 = refl
rmw_gives op.And width.I32_8 = refl
rmw_gives op.And width.I32_16 = refl
rmw_gives op.And width.I64 = refl
rmw_gives op.And width.I64_8 = refl
rmw_gives op.And width.I64_16 = refl
rmw_gives op.And width.I64_32 = refl
rmw_gives op.Or width.I32 = refl
rmw_gives op.Or width.I32_8 = refl
rmw_gives op.Or width.I32_16 = refl
rmw_gives op.Or width.I64 = refl
rmw_gives op.Or width.I64_8 = refl
rmw_gives op.Or width.I64_16 = refl
rmw_gives op.Or width.I64_32 = refl
rmw_gives op.Xor width.I32 = refl
rmw_gives op.Xor width.I32_8 = refl
rmw_gives op.Xor width.I32_16 = refl
rmw_gives op.Xor width.I64 = refl
rmw_gives op.Xor width.I64_8 = refl
rmw_gives op.Xor width.I64_16 = refl
rmw_gives op.Xor width.I64_32 = refl
rmw_gives op.Xchg width.I32 = refl
rmw_gives op.Xchg width.I32_8 = refl
rmw_gives op.Xchg width.I32_16 = refl
rmw_gives op.Xchg width.I64 = refl
rmw_gives op.Xchg width.I64_8 = refl
rmw_gives op.Xchg width.I64_16 = refl
rmw_gives op.Xchg width.I64_32 = refl

cmpxchg_gives : (w : AtomicWidth) → gives_type (rule_of (cmpxchg_opcode w)) ≡ true
cmpxchg_gives width.I32 = refl
cmpxchg_gives width.I32_8 = refl
cmpxchg_gives width.I32_16 = refl
cmpxchg_gives width.I64 = refl
cmpxchg_gives width.I64_8 = refl
cmpxchg_gives width.I64_16 = refl
cmpxchg_gives width.I64_32 = refl

pub atomic_gives : (kind : AtomicKind) → gives_type (rule_of (atomic_opcode kind)) ≡ true
atomic_gives Notify = refl
atomic_gives Wait32 = refl
atomic_gives Wait64 = refl
atomic_gives (Rmw o w) = rmw_gives o w
atomic_gives (Cmpxchg w) = cmpxchg_gives w

pub atomic_plain : (kind : AtomicKind) → is_plain (role_of (atomic_opcode kind)) ≡ true
atomic_plain kind = typed_is_plain (atomic_opcode kind) (atomic_gives kind)
