-- The encodings of each immediate, and how an immediate of a kind is read (WebAssembly core specification 3.0, binary format,
-- instructions).
use Rattle.std.specs.Prelude.{◌≡◌, ℕ, ◌-◌, Bool, true, false, List, [], ◌∷◌, ◌++◌, Option, Some, None, Result, Ok, Err, nat_lt, ◌==◌, if◌then◌else◌}
use Rattle.wasm_types.specs.declared.val_type.HeapType.{HeapType}
use Rattle.wasm_types.specs.declared.val_type.ValType.{ValType}
use Rattle.wasm_numbers.specs.declared.fault.ReadFault.{ReadFault}
use Rattle.wasm_numbers.specs.declared.fault.ReadFault.TheVariants.{BadMemArg, BadCatchKind, BadCastFlags, BadFence, BadSelect}
use Rattle.wasm_operators.specs.declared.types.Space.{Space}
use Rattle.wasm_numbers.specs.Reading.{Spelling, Reader, Then, then_read, Made, made, Many, many}
use Rattle.wasm_numbers.specs.Numbers.{IsU32, IsU64, IsS32, IsS64, u32, u64, s32, s64, IsByte, byte, AreBits, bits}
use Rattle.wasm_operators.specs.Types.{IsHeapType, heap_type, IsValueType, value_type, IsBlockType, block_type}
use Rattle.wasm_operators.specs.Operations.{Access, CatchClause, Cast, RawImmediate, index, local, label, handler, outer, number, access, branch_table, clauses, block, heap, value, cast, i32, i64, f32, f64, v128, lane, lanes, zero_byte}
use Rattle.wasm_numbers.specs.Results.{◌>>=◌}

-- ---- memory accesses: flags, the index of the memory if the flags say so, and the offset

-- Flags below 64 are the exponent, and the memory is memory 0. Flags from 64 on are 64 more than the exponent, and the index of
-- the memory follows. An exponent is below 32.
abbrev pub memory_flags : ℕ → Result (ℕ × Bool) ReadFault
memory_flags n =
    if nat_lt n 32 then Ok (n, false)
    else if nat_lt n 64 then Err BadMemArg
    else if nat_lt n 96 then Ok (n - 64, true)
    else Err BadMemArg

abbrev pub IsMemory : ℕ × Bool → Spelling ℕ
IsMemory (exponent, false) memory text = (memory ≡ 0) × (text ≡ [])
IsMemory (exponent, true) memory text = IsU32 memory text

abbrev pub memory : ℕ × Bool → Reader ℕ
memory (exponent, false) bytes = Ok (0, bytes)
memory (exponent, true) bytes = u32 bytes

abbrev pub made_access : (ℕ × Bool) × (ℕ × ℕ) → Result Access ReadFault
made_access parts = Ok (record { alignment = parts.0.0; memory = parts.1.0; offset = parts.1.1 })

abbrev pub IsAccess : Spelling Access
IsAccess = Made (Then (Made IsU32 memory_flags) (λ flags. Then (IsMemory flags) (λ memory. IsU64))) made_access

unfoldable pub memory_access : Reader Access
memory_access = made (then_read (made u32 memory_flags) (λ flags. then_read (memory flags) (λ memory. u64))) made_access

-- ---- the labels of `br_table`: a count, that many labels, and the default

abbrev pub Table : Type 0
Table = List ℕ × ℕ

abbrev pub made_table : ℕ × Table → Result Table ReadFault
made_table parts = Ok parts.1

abbrev pub IsTable : Spelling Table
IsTable = Made (Then IsU32 (λ count. Then (Many IsU32 count) (λ targets. IsU32))) made_table

unfoldable pub label_table : Reader Table
label_table = made (then_read u32 (λ count. then_read (many u32 count) (λ targets. u32))) made_table

-- ---- the clauses of `try_table`: a count, and that many clauses: a kind, a tag if the kind has one, and a label

-- for each kind: whether it has a tag, and whether it passes a reference to the exception
abbrev pub catch_kind : ℕ → Result (Bool × Bool) ReadFault
catch_kind b =
    if b == 0 then Ok (true, false)
    else if b == 1 then Ok (true, true)
    else if b == 2 then Ok (false, false)
    else if b == 3 then Ok (false, true)
    else Err BadCatchKind

abbrev pub some_tag : ℕ → Result (Option ℕ) ReadFault
some_tag n = Ok (Some n)

abbrev pub IsTag : Bool → Spelling (Option ℕ)
IsTag true = Made IsU32 some_tag
IsTag false = λ tag text. (tag ≡ None) × (text ≡ [])

abbrev pub tag : Bool → Reader (Option ℕ)
tag true = made u32 some_tag
tag false = λ bytes. Ok (None, bytes)

abbrev pub made_clause : (Bool × Bool) × (Option ℕ × ℕ) → Result (CatchClause ℕ) ReadFault
made_clause parts = Ok (record { by_reference = parts.0.1; tag = parts.1.0; label = parts.1.1 })

abbrev pub IsClause : Spelling (CatchClause ℕ)
IsClause = Made (Then (Made IsByte catch_kind) (λ kind. Then (IsTag kind.0) (λ tag. IsU32))) made_clause

abbrev pub clause : Reader (CatchClause ℕ)
clause = made (then_read (made byte catch_kind) (λ kind. then_read (tag kind.0) (λ tag. u32))) made_clause

abbrev pub made_clauses : ℕ × List (CatchClause ℕ) → Result (List (CatchClause ℕ)) ReadFault
made_clauses parts = Ok parts.1

abbrev pub AreClauses : Spelling (List (CatchClause ℕ))
AreClauses = Made (Then IsU32 (λ count. Many IsClause count)) made_clauses

unfoldable pub catch_clauses : Reader (List (CatchClause ℕ))
catch_clauses = made (then_read u32 (λ count. many clause count)) made_clauses

-- ---- casts: flags, a label, the source and the target

abbrev pub cast_flags : ℕ → Result (Bool × Bool) ReadFault
cast_flags b =
    if b == 0 then Ok (false, false)
    else if b == 1 then Ok (true, false)
    else if b == 2 then Ok (false, true)
    else if b == 3 then Ok (true, true)
    else Err BadCastFlags

abbrev pub made_cast : (Bool × Bool) × (ℕ × (HeapType ℕ × HeapType ℕ)) → Result (Cast ℕ) ReadFault
made_cast parts = Ok (record { from_nullable = parts.0.0; to_nullable = parts.0.1; label = parts.1.0; source = parts.1.1.0; target = parts.1.1.1 })

abbrev pub IsCast : Spelling (Cast ℕ)
IsCast = Made (Then (Made IsByte cast_flags) (λ flags. Then IsU32 (λ label. Then IsHeapType (λ source. IsHeapType)))) made_cast

unfoldable pub cast_parts : Reader (Cast ℕ)
cast_parts = made (then_read (made byte cast_flags) (λ flags. then_read u32 (λ label. then_read heap_type (λ source. heap_type)))) made_cast

-- ---- the type of a `select`: a count, which is 1, and a value type

abbrev pub one_type : ℕ → Result ℕ ReadFault
one_type count = if count == 1 then Ok count else Err BadSelect

abbrev pub made_selected : ℕ × ValType ℕ → Result (ValType ℕ) ReadFault
made_selected parts = Ok parts.1

abbrev pub IsSelected : Spelling (ValType ℕ)
IsSelected = Made (Then (Made IsU32 one_type) (λ count. IsValueType)) made_selected

unfoldable pub selected : Reader (ValType ℕ)
selected = made (then_read (made u32 one_type) (λ count. value_type)) made_selected

-- ---- the byte after `atomic.fence`

abbrev pub fence_byte : ℕ → Result ℕ ReadFault
fence_byte b = if b == 0 then Ok b else Err BadFence

-- ---- one immediate

pub data Kind : Type 0 where
  an_index : (space : Space) → Kind
  a_local : Kind
  a_label : Kind
  a_handler : Kind
  an_outer : Kind
  a_number : Kind
  an_access : Kind
  a_branch_table : Kind
  some_clauses : Kind
  a_block : Kind
  a_heap : Kind
  a_value : Kind
  a_cast : Kind
  an_i32 : Kind
  an_i64 : Kind
  an_f32 : Kind
  an_f64 : Kind
  a_v128 : Kind
  a_lane : Kind
  sixteen_lanes : Kind
  a_zero_byte : Kind

abbrev pub kind_of : RawImmediate → Kind
kind_of (index space n) = an_index space
kind_of (local n) = a_local
kind_of (label l) = a_label
kind_of (handler depth) = a_handler
kind_of (outer depth) = an_outer
kind_of (number n) = a_number
kind_of (access a) = an_access
kind_of (branch_table targets default) = a_branch_table
kind_of (clauses cs) = some_clauses
kind_of (block type) = a_block
kind_of (heap type) = a_heap
kind_of (value type) = a_value
kind_of (cast c) = a_cast
kind_of (i32 z) = an_i32
kind_of (i64 z) = an_i64
kind_of (f32 bits) = an_f32
kind_of (f64 bits) = an_f64
kind_of (v128 bits) = a_v128
kind_of (lane n) = a_lane
kind_of (lanes ns) = sixteen_lanes
kind_of zero_byte = a_zero_byte

-- The bytes are an encoding of the immediate.
abbrev pub SpellsImmediate : Spelling RawImmediate
SpellsImmediate (index space n) text = IsU32 n text
SpellsImmediate (local n) text = IsU32 n text
SpellsImmediate (label l) text = IsU32 l text
SpellsImmediate (handler depth) text = IsU32 depth text
SpellsImmediate (outer depth) text = IsU32 depth text
SpellsImmediate (number n) text = IsU32 n text
SpellsImmediate (access a) text = IsAccess a text
SpellsImmediate (branch_table targets default) text = IsTable (targets, default) text
SpellsImmediate (clauses cs) text = AreClauses cs text
SpellsImmediate (block type) text = IsBlockType type text
SpellsImmediate (heap type) text = IsHeapType type text
SpellsImmediate (value type) text = IsSelected type text
SpellsImmediate (cast c) text = IsCast c text
SpellsImmediate (i32 z) text = IsS32 z text
SpellsImmediate (i64 z) text = IsS64 z text
SpellsImmediate (f32 bits) text = AreBits 4 bits text
SpellsImmediate (f64 bits) text = AreBits 8 bits text
SpellsImmediate (v128 bits) text = AreBits 16 bits text
SpellsImmediate (lane n) text = IsByte n text
SpellsImmediate (lanes ns) text = Many IsByte 16 ns text
SpellsImmediate zero_byte text = text ≡ 0 ∷ []

abbrev pub SpellsImmediates : List RawImmediate → List ℕ → Type 0
SpellsImmediates [] text = text ≡ []
SpellsImmediates (i ∷ is) text = (first others : List ℕ) × (text ≡ first ++ others) × SpellsImmediate i first × SpellsImmediates is others

-- Reading an immediate of a kind.
abbrev pub as_immediate : {V : Type 0} → (V → RawImmediate) → Result (V × List ℕ) ReadFault → Result (RawImmediate × List ℕ) ReadFault
as_immediate make read = read >>= λ x. Ok (make x.0, x.1)

abbrev pub immediate : Kind → Reader RawImmediate
immediate (an_index space) bytes = as_immediate (index space) (u32 bytes)
immediate a_local bytes = as_immediate local (u32 bytes)
immediate a_label bytes = as_immediate label (u32 bytes)
immediate a_handler bytes = as_immediate handler (u32 bytes)
immediate an_outer bytes = as_immediate outer (u32 bytes)
immediate a_number bytes = as_immediate number (u32 bytes)
immediate an_access bytes = as_immediate access (memory_access bytes)
immediate a_branch_table bytes = as_immediate (λ t. branch_table t.0 t.1) (label_table bytes)
immediate some_clauses bytes = as_immediate clauses (catch_clauses bytes)
immediate a_block bytes = as_immediate block (block_type bytes)
immediate a_heap bytes = as_immediate heap (heap_type bytes)
immediate a_value bytes = as_immediate value (selected bytes)
immediate a_cast bytes = as_immediate cast (cast_parts bytes)
immediate an_i32 bytes = as_immediate i32 (s32 bytes)
immediate an_i64 bytes = as_immediate i64 (s64 bytes)
immediate an_f32 bytes = as_immediate f32 (bits 4 bytes)
immediate an_f64 bytes = as_immediate f64 (bits 8 bytes)
immediate a_v128 bytes = as_immediate v128 (bits 16 bytes)
immediate a_lane bytes = as_immediate lane (byte bytes)
immediate sixteen_lanes bytes = as_immediate lanes (many byte 16 bytes)
immediate a_zero_byte bytes = as_immediate (λ b. zero_byte) (made byte fence_byte bytes)

abbrev pub immediates : List Kind → Reader (List RawImmediate)
immediates [] bytes = Ok ([], bytes)
immediates (kind ∷ kinds) bytes = immediate kind bytes >>= λ first. immediates kinds first.1 >>= λ others. Ok (first.0 ∷ others.0, others.1)
