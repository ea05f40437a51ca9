-- The rules of plain operators: the type of each, from its immediates (WebAssembly core specification 3.0, section 3.4, instructions; the
-- proposals for threads and for wide arithmetic). That an operator has immediates of its kinds is not looked at here: a rule refuses a
-- number of immediates, or a form of them, that the operator can't have.
use Rattle.std.specs.Prelude.{ℕ, List, [], ◌∷◌, ◌++◌, ◌^◌, map, replicate, Bool, true, false, ◌==◌, nat_le, nat_lt, Ok, Err, slice_get}
use Rattle.std.specs.List.{list_all}
use Rattle.wasm_types.specs.declared.val_type.AbstractHeapType.{AbstractHeapType}
use Rattle.wasm_types.specs.declared.val_type.AbstractHeapType.TheVariants as abstract
use Rattle.wasm_types.specs.declared.val_type.HeapType.{HeapType}
use Rattle.wasm_types.specs.declared.val_type.HeapType.TheVariants.{Abstract, Concrete}
use Rattle.wasm_types.specs.declared.val_type.ValType.{ValType}
use Rattle.wasm_types.specs.declared.val_type.ValType.TheVariants.{I32, Ref}
use Rattle.wasm_numbers.specs.Results.{◌>>=◌}
use Rattle.walrus_ir.specs.Types.{Signature, same_bool}
use Rattle.wasm_operators.specs.Operations.{Access, Immediate, index, local, number, access, heap, value, lane, lanes}
use Rattle.wasm_body.specs.Validity.{Known, Point, Change, Checked, refused, demand, required}
use Rattle.wasm_body.specs.ValidityLaws.{KnownOperand, of_type}
use Rattle.wasm_typing.specs.Contexts.{Unpacked, FieldType, OperandContext, contains, function_type_in, struct_type, array_type, address, narrower, address_bits, unpacked, is_packed, is_number, has_default}
use Rattle.wasm_typing.specs.Matching.{matches_reference, matches_storage, matches_known, is_valid_heap, is_valid_value, top_heap}
use Rattle.wasm_typing.specs.Operands.{InstructionType, ◌⟶◌, leaving, typed, pop_any, pop_reference, may_be_null, not_null, may_be_number, one_of}

abbrev pub Immediates : Type 0
Immediates = List (Immediate ℕ Signature)

-- A rule gives the operator's type; or, where the type depends on the operands ("polymorphic") or on initialised locals, what the
-- operator makes of them.
pub data Rule : Type 0 where
  by_type : (OperandContext → Immediates → Checked InstructionType) → Rule
  by_point : (OperandContext → Immediates → Point KnownOperand → Checked (Change KnownOperand)) → Rule

-- ---- rules by the immediates

-- the same for all immediates
abbrev pub fixed : (takes gives : List (ValType ℕ)) → Rule
fixed ts us = by_type (λ c is. Ok (ts ⟶ us))

abbrev pub of_index : (OperandContext → ℕ → Checked InstructionType) → OperandContext → Immediates → Checked InstructionType
of_index rule c (index space n ∷ []) = rule c n
of_index rule c _ = Err refused

abbrev pub of_indices : (OperandContext → ℕ → ℕ → Checked InstructionType) → OperandContext → Immediates → Checked InstructionType
of_indices rule c (index space m ∷ index other n ∷ []) = rule c m n
of_indices rule c _ = Err refused

abbrev pub of_index_and_number : (OperandContext → ℕ → ℕ → Checked InstructionType) → OperandContext → Immediates → Checked InstructionType
of_index_and_number rule c (index space m ∷ number n ∷ []) = rule c m n
of_index_and_number rule c _ = Err refused

abbrev pub of_local : (OperandContext → ℕ → Checked InstructionType) → OperandContext → Immediates → Checked InstructionType
of_local rule c (local n ∷ []) = rule c n
of_local rule c _ = Err refused

abbrev pub of_heap : (OperandContext → HeapType ℕ → Checked InstructionType) → OperandContext → Immediates → Checked InstructionType
of_heap rule c (heap h ∷ []) = rule c h
of_heap rule c _ = Err refused

-- ---- types of references

abbrev pub reference_to : Bool → HeapType ℕ → ValType ℕ
reference_to nullable h = Ref (record { nullable = nullable; heap_type = h })

-- "(ref ht)" and "(ref null ht)"
abbrev pub ref : HeapType ℕ → ValType ℕ
ref h = reference_to false h

abbrev pub ref_null : HeapType ℕ → ValType ℕ
ref_null h = reference_to true h

-- ---- parametric instructions

-- drop : t -> eps
abbrev pub dropped : OperandContext → Immediates → Point KnownOperand → Checked (Change KnownOperand)
dropped c is p = pop_any p.unreachable p.operands >>= λ q. Ok (leaving q.below)

-- select : t t i32 -> t, of a number type or vector type t
abbrev pub selected_type : OperandContext → Immediates → Point KnownOperand → Checked (Change KnownOperand)
selected_type c is p =
    typed c (I32 ∷ [] ⟶ []) p >>= λ k. pop_any p.unreachable k.operands >>= λ x. pop_any p.unreachable x.below >>= λ y.
    demand (may_be_number x.operand) >>= λ u. demand (may_be_number y.operand) >>= λ v.
    one_of x.operand y.operand >>= λ z. Ok (leaving (z ∷ y.below))

-- select t : t t i32 -> t
abbrev pub selected_of : OperandContext → Immediates → Checked InstructionType
selected_of c (value t ∷ []) = demand (is_valid_value c t) >>= λ u. Ok (t ∷ t ∷ I32 ∷ [] ⟶ t ∷ [])
selected_of c _ = Err refused

-- ---- control instructions: calls

-- call x : t1* -> t2*
abbrev pub call : OperandContext → ℕ → Checked InstructionType
call c x = required (slice_get c.functions x) >>= λ type. function_type_in c type >>= λ s. Ok (s.parameters ⟶ s.results)

-- call_ref x : t1* (ref null x) -> t2*
abbrev pub call_ref : OperandContext → ℕ → Checked InstructionType
call_ref c x = function_type_in c x >>= λ s. Ok (s.parameters ++ ref_null (Concrete x) ∷ [] ⟶ s.results)

-- call_indirect x y, of the type x and the table y, whose references are to functions : t1* at -> t2*
abbrev pub call_indirect : OperandContext → (x y : ℕ) → Checked InstructionType
call_indirect c x y =
    required (slice_get c.tables y) >>= λ t. demand (matches_reference c t.element (record { nullable = true; heap_type = Abstract abstract.Func })) >>= λ u.
    function_type_in c x >>= λ s. Ok (s.parameters ++ address t.address ∷ [] ⟶ s.results)

-- ---- variable instructions

-- local.get x : eps -> t, of a local that is initialised
abbrev pub local_get : OperandContext → Immediates → Point KnownOperand → Checked (Change KnownOperand)
local_get c (local x ∷ []) p = required (slice_get c.locals x) >>= λ t. demand (contains x p.initialised) >>= λ u. typed c ([] ⟶ t ∷ []) p
local_get c _ p = Err refused

-- local.set x : t ->x eps
abbrev pub local_set : OperandContext → ℕ → Checked InstructionType
local_set c x = required (slice_get c.locals x) >>= λ t. Ok (record { takes = t ∷ []; gives = []; initialises = x ∷ [] })

-- local.tee x : t ->x t
abbrev pub local_tee : OperandContext → ℕ → Checked InstructionType
local_tee c x = required (slice_get c.locals x) >>= λ t. Ok (record { takes = t ∷ []; gives = t ∷ []; initialises = x ∷ [] })

-- global.get x : eps -> t
abbrev pub global_get : OperandContext → ℕ → Checked InstructionType
global_get c x = required (slice_get c.globals x) >>= λ g. Ok ([] ⟶ g.type ∷ [])

-- global.set x : t -> eps
abbrev pub global_set : OperandContext → ℕ → Checked InstructionType
global_set c x = required (slice_get c.globals x) >>= λ g. demand g.mutable >>= λ u. Ok (g.type ∷ [] ⟶ [])

-- ---- table instructions, where the table x has addresses at and elements rt

-- table.get x : at -> rt
abbrev pub table_get : OperandContext → ℕ → Checked InstructionType
table_get c x = required (slice_get c.tables x) >>= λ t. Ok (address t.address ∷ [] ⟶ Ref t.element ∷ [])

-- table.set x : at rt -> eps
abbrev pub table_set : OperandContext → ℕ → Checked InstructionType
table_set c x = required (slice_get c.tables x) >>= λ t. Ok (address t.address ∷ Ref t.element ∷ [] ⟶ [])

-- table.size x : eps -> at
abbrev pub table_size : OperandContext → ℕ → Checked InstructionType
table_size c x = required (slice_get c.tables x) >>= λ t. Ok ([] ⟶ address t.address ∷ [])

-- table.grow x : rt at -> at
abbrev pub table_grow : OperandContext → ℕ → Checked InstructionType
table_grow c x = required (slice_get c.tables x) >>= λ t. Ok (Ref t.element ∷ address t.address ∷ [] ⟶ address t.address ∷ [])

-- table.fill x : at rt at -> eps
abbrev pub table_fill : OperandContext → ℕ → Checked InstructionType
table_fill c x = required (slice_get c.tables x) >>= λ t. Ok (address t.address ∷ Ref t.element ∷ address t.address ∷ [] ⟶ [])

-- table.copy x y : at1 at2 min(at1, at2) -> eps
abbrev pub table_copy : OperandContext → (x y : ℕ) → Checked InstructionType
table_copy c x y =
    required (slice_get c.tables x) >>= λ t. required (slice_get c.tables y) >>= λ s. demand (matches_reference c s.element t.element) >>= λ u.
    Ok (address t.address ∷ address s.address ∷ address (narrower t.address s.address) ∷ [] ⟶ [])

-- table.init x y, from the segment y : at i32 i32 -> eps. The segment is the first immediate.
abbrev pub table_init : OperandContext → (y x : ℕ) → Checked InstructionType
table_init c y x =
    required (slice_get c.tables x) >>= λ t. required (slice_get c.elements y) >>= λ rt. demand (matches_reference c rt t.element) >>= λ u.
    Ok (address t.address ∷ I32 ∷ I32 ∷ [] ⟶ [])

-- elem.drop x : eps -> eps
abbrev pub elem_drop : OperandContext → ℕ → Checked InstructionType
elem_drop c x = required (slice_get c.elements x) >>= λ rt. Ok ([] ⟶ [])

-- ---- memory instructions

-- "memarg": an alignment of at most 2 ^ exponent bytes, or of exactly so many for atomic operators, and an offset that an address can be
abbrev pub is_aligned : (exact : Bool) → (exponent : ℕ) → ℕ → Bool
is_aligned false exponent n = nat_le n exponent
is_aligned true exponent n = n == exponent

abbrev pub accessed : (exact : Bool) → (exponent : ℕ) → OperandContext → Access → Checked (ValType ℕ)
accessed exact exponent c a =
    required (slice_get c.memories a.memory) >>= λ at. demand (is_aligned exact exponent a.alignment) >>= λ u.
    demand (nat_lt a.offset (2 ^ address_bits at)) >>= λ v. Ok (address at)

-- at t1* -> t2*, of an access to 2 ^ exponent bytes
abbrev pub accesses : (exact : Bool) → (exponent : ℕ) → (takes gives : List (ValType ℕ)) → OperandContext → Immediates → Checked InstructionType
accesses exact exponent ts us c (access a ∷ []) = accessed exact exponent c a >>= λ at. Ok (at ∷ ts ⟶ us)
accesses exact exponent ts us c _ = Err refused

-- the same of one lane, which is less than this number
abbrev pub accesses_lane : (exponent bound : ℕ) → (takes gives : List (ValType ℕ)) → OperandContext → Immediates → Checked InstructionType
accesses_lane exponent bound ts us c (access a ∷ lane n ∷ []) = accessed false exponent c a >>= λ at. demand (nat_lt n bound) >>= λ u. Ok (at ∷ ts ⟶ us)
accesses_lane exponent bound ts us c _ = Err refused

-- t.load : at -> t
abbrev pub load : (exponent : ℕ) → ValType ℕ → Rule
load exponent t = by_type (accesses false exponent [] (t ∷ []))

-- t.store : at t -> eps
abbrev pub store : (exponent : ℕ) → ValType ℕ → Rule
store exponent t = by_type (accesses false exponent (t ∷ []) [])

-- atomic operators: at t1* -> t2*
abbrev pub atomic : (exponent : ℕ) → (takes gives : List (ValType ℕ)) → Rule
atomic exponent ts us = by_type (accesses true exponent ts us)

-- memory.size x : eps -> at
abbrev pub memory_size : OperandContext → ℕ → Checked InstructionType
memory_size c x = required (slice_get c.memories x) >>= λ at. Ok ([] ⟶ address at ∷ [])

-- memory.grow x : at -> at
abbrev pub memory_grow : OperandContext → ℕ → Checked InstructionType
memory_grow c x = required (slice_get c.memories x) >>= λ at. Ok (address at ∷ [] ⟶ address at ∷ [])

-- memory.fill x : at i32 at -> eps
abbrev pub memory_fill : OperandContext → ℕ → Checked InstructionType
memory_fill c x = required (slice_get c.memories x) >>= λ at. Ok (address at ∷ I32 ∷ address at ∷ [] ⟶ [])

-- memory.copy x y : at1 at2 min(at1, at2) -> eps
abbrev pub memory_copy : OperandContext → (x y : ℕ) → Checked InstructionType
memory_copy c x y =
    required (slice_get c.memories x) >>= λ at. required (slice_get c.memories y) >>= λ bt. Ok (address at ∷ address bt ∷ address (narrower at bt) ∷ [] ⟶ [])

abbrev pub data_segment : OperandContext → ℕ → Checked (Unit {0})
data_segment c y = demand (nat_lt y c.data_segments)

-- memory.init x y, from the segment y : at i32 i32 -> eps. The segment is the first immediate.
abbrev pub memory_init : OperandContext → (y x : ℕ) → Checked InstructionType
memory_init c y x = required (slice_get c.memories x) >>= λ at. data_segment c y >>= λ u. Ok (address at ∷ I32 ∷ I32 ∷ [] ⟶ [])

-- data.drop x : eps -> eps
abbrev pub data_drop : OperandContext → ℕ → Checked InstructionType
data_drop c x = data_segment c x >>= λ u. Ok ([] ⟶ [])

-- ---- reference instructions

-- ref.null ht : eps -> (ref null ht)
abbrev pub null_reference : OperandContext → HeapType ℕ → Checked InstructionType
null_reference c h = demand (is_valid_heap c h) >>= λ u. Ok ([] ⟶ ref_null h ∷ [])

-- ref.func x : eps -> (ref dt), of a function that is declared ("C.refs"), by the id of its type
abbrev pub function_reference : OperandContext → ℕ → Checked InstructionType
function_reference c x = required (slice_get c.functions x) >>= λ type. demand (contains x c.referenced) >>= λ u. Ok ([] ⟶ ref (Concrete type) ∷ [])

-- ref.is_null : (ref null ht) -> i32
abbrev pub is_null : OperandContext → Immediates → Point KnownOperand → Checked (Change KnownOperand)
is_null c is p = pop_reference p >>= λ q. Ok (leaving (Known (of_type I32) ∷ q.below))

-- ref.as_non_null : (ref null ht) -> (ref ht)
abbrev pub as_non_null : OperandContext → Immediates → Point KnownOperand → Checked (Change KnownOperand)
as_non_null c is p = pop_reference p >>= λ q. Ok (leaving (Known (not_null q.reference) ∷ q.below))

-- a reference to the top of the hierarchy of a heap type
abbrev pub top_reference : OperandContext → HeapType ℕ → Checked (ValType ℕ)
top_reference c h = required (top_heap c h) >>= λ a. Ok (ref_null (Abstract a))

-- ref.test (ref null? ht) : rt -> i32, of a reference of the same hierarchy
abbrev pub reference_test : OperandContext → HeapType ℕ → Checked InstructionType
reference_test c h = top_reference c h >>= λ t. Ok (t ∷ [] ⟶ I32 ∷ [])

-- ref.cast (ref null? ht) : rt -> (ref null? ht)
abbrev pub reference_cast : Bool → OperandContext → HeapType ℕ → Checked InstructionType
reference_cast nullable c h = top_reference c h >>= λ t. Ok (t ∷ [] ⟶ reference_to nullable h ∷ [])

-- any.convert_extern, extern.convert_any: from one hierarchy to the other : (ref null? ht1) -> (ref null? ht2)
abbrev pub converted : (from to : AbstractHeapType) → OperandContext → Immediates → Point KnownOperand → Checked (Change KnownOperand)
converted from to c is p =
    pop_reference p >>= λ q. demand (matches_known c q.reference (ref_null (Abstract from))) >>= λ u.
    Ok (leaving (Known (of_type (reference_to (may_be_null q.reference) (Abstract to))) ∷ q.below))

-- ---- aggregate instructions: structs

-- struct.new x : unpack(zt)* -> (ref x)
abbrev pub struct_new : OperandContext → ℕ → Checked InstructionType
struct_new c x = struct_type c x >>= λ fs. Ok (map (λ f. unpacked f.storage) fs ⟶ ref (Concrete x) ∷ [])

-- struct.new_default x : eps -> (ref x)
abbrev pub struct_new_default : OperandContext → ℕ → Checked InstructionType
struct_new_default c x = struct_type c x >>= λ fs. demand (list_all (λ f. has_default (unpacked f.storage)) fs) >>= λ u. Ok ([] ⟶ ref (Concrete x) ∷ [])

-- struct.get_sx? x i : (ref null x) -> unpack(zt), where zt is packed if there is a sign
abbrev pub struct_get : (signed : Bool) → OperandContext → (x i : ℕ) → Checked InstructionType
struct_get signed c x i =
    struct_type c x >>= λ fs. required (slice_get fs i) >>= λ f. demand (same_bool (is_packed f.storage) signed) >>= λ u.
    Ok (ref_null (Concrete x) ∷ [] ⟶ unpacked f.storage ∷ [])

-- struct.set x i : (ref null x) unpack(zt) -> eps
abbrev pub struct_set : OperandContext → (x i : ℕ) → Checked InstructionType
struct_set c x i =
    struct_type c x >>= λ fs. required (slice_get fs i) >>= λ f. demand f.mutable >>= λ u. Ok (ref_null (Concrete x) ∷ unpacked f.storage ∷ [] ⟶ [])

-- ---- aggregate instructions: arrays

-- array.new x : unpack(zt) i32 -> (ref x)
abbrev pub array_new : OperandContext → ℕ → Checked InstructionType
array_new c x = array_type c x >>= λ f. Ok (unpacked f.storage ∷ I32 ∷ [] ⟶ ref (Concrete x) ∷ [])

-- array.new_default x : i32 -> (ref x)
abbrev pub array_new_default : OperandContext → ℕ → Checked InstructionType
array_new_default c x = array_type c x >>= λ f. demand (has_default (unpacked f.storage)) >>= λ u. Ok (I32 ∷ [] ⟶ ref (Concrete x) ∷ [])

-- array.new_fixed x n : unpack(zt)^n -> (ref x)
abbrev pub array_new_fixed : OperandContext → (x n : ℕ) → Checked InstructionType
array_new_fixed c x n = array_type c x >>= λ f. Ok (replicate n (unpacked f.storage) ⟶ ref (Concrete x) ∷ [])

-- the data segment y can fill elements of a number type or vector type, packed or not
abbrev pub from_data : OperandContext → FieldType → (y : ℕ) → Checked (Unit {0})
from_data c f y = demand (is_number (unpacked f.storage)) >>= λ u. data_segment c y

-- the references of the element segment y match the elements
abbrev pub from_elements : OperandContext → FieldType → (y : ℕ) → Checked (Unit {0})
from_elements c f y = required (slice_get c.elements y) >>= λ rt. demand (matches_storage c (Unpacked (Ref rt)) f.storage)

-- array.new_data x y, array.new_elem x y : i32 i32 -> (ref x)
abbrev pub array_new_from : (OperandContext → FieldType → ℕ → Checked (Unit {0})) → OperandContext → (x y : ℕ) → Checked InstructionType
array_new_from source c x y = array_type c x >>= λ f. source c f y >>= λ u. Ok (I32 ∷ I32 ∷ [] ⟶ ref (Concrete x) ∷ [])

-- array.get_sx? x : (ref null x) i32 -> unpack(zt), where zt is packed if there is a sign
abbrev pub array_get : (signed : Bool) → OperandContext → ℕ → Checked InstructionType
array_get signed c x =
    array_type c x >>= λ f. demand (same_bool (is_packed f.storage) signed) >>= λ u. Ok (ref_null (Concrete x) ∷ I32 ∷ [] ⟶ unpacked f.storage ∷ [])

-- array.set x : (ref null x) i32 unpack(zt) -> eps
abbrev pub array_set : OperandContext → ℕ → Checked InstructionType
array_set c x = array_type c x >>= λ f. demand f.mutable >>= λ u. Ok (ref_null (Concrete x) ∷ I32 ∷ unpacked f.storage ∷ [] ⟶ [])

-- array.fill x : (ref null x) i32 unpack(zt) i32 -> eps
abbrev pub array_fill : OperandContext → ℕ → Checked InstructionType
array_fill c x = array_type c x >>= λ f. demand f.mutable >>= λ u. Ok (ref_null (Concrete x) ∷ I32 ∷ unpacked f.storage ∷ I32 ∷ [] ⟶ [])

-- array.copy x y : (ref null x) i32 (ref null y) i32 i32 -> eps
abbrev pub array_copy : OperandContext → (x y : ℕ) → Checked InstructionType
array_copy c x y =
    array_type c x >>= λ f. array_type c y >>= λ g. demand f.mutable >>= λ u. demand (matches_storage c g.storage f.storage) >>= λ v.
    Ok (ref_null (Concrete x) ∷ I32 ∷ ref_null (Concrete y) ∷ I32 ∷ I32 ∷ [] ⟶ [])

-- array.init_data x y, array.init_elem x y : (ref null x) i32 i32 i32 -> eps
abbrev pub array_init_from : (OperandContext → FieldType → ℕ → Checked (Unit {0})) → OperandContext → (x y : ℕ) → Checked InstructionType
array_init_from source c x y =
    array_type c x >>= λ f. demand f.mutable >>= λ u. source c f y >>= λ v. Ok (ref_null (Concrete x) ∷ I32 ∷ I32 ∷ I32 ∷ [] ⟶ [])

-- ---- vector instructions with lanes

-- a lane that is less than this number
abbrev pub at_lane : (bound : ℕ) → (takes gives : List (ValType ℕ)) → OperandContext → Immediates → Checked InstructionType
at_lane bound ts us c (lane n ∷ []) = demand (nat_lt n bound) >>= λ u. Ok (ts ⟶ us)
at_lane bound ts us c _ = Err refused

-- lanes of i8x16.shuffle, each one of the thirty-two of both operands
abbrev pub at_lanes : (takes gives : List (ValType ℕ)) → OperandContext → Immediates → Checked InstructionType
at_lanes ts us c (lanes ns ∷ []) = demand (list_all (λ n. nat_lt n 32) ns) >>= λ u. Ok (ts ⟶ us)
at_lanes ts us c _ = Err refused
