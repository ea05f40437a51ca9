-- The shortest encodings.
use Rattle.std.specs.Prelude.{◌≡◌, ℕ, zero, suc, ◌+◌, ◌-◌, ◌/◌, ◌%◌, ◌<◌, ◌⊎◌, List, [], ◌∷◌, ◌++◌, length, Bool, true, false, Option, Some, None, nat_lt, ◌==◌, if◌then◌else◌, ℤ, pos, negsuc}
use Rattle.std.specs.List.{flat_map}
use Rattle.wasm_types.specs.declared.val_type.AbstractHeapType.{AbstractHeapType}
use Rattle.wasm_types.specs.declared.val_type.AbstractHeapType.TheVariants as abstract
use Rattle.wasm_types.specs.declared.val_type.HeapType.{HeapType}
use Rattle.wasm_types.specs.declared.val_type.HeapType.TheVariants.{Abstract, Concrete}
use Rattle.wasm_types.specs.declared.val_type.ValType.{ValType}
use Rattle.wasm_types.specs.declared.val_type.ValType.TheVariants.{I32, I64, F32, F64, V128, Ref}
use Rattle.wasm_operators.specs.declared.types.BlockType.{BlockType}
use Rattle.wasm_operators.specs.declared.types.BlockType.TheVariants.{Empty, Value, FuncType}
use Rattle.wasm_operators.specs.declared.types.Opcode.{Opcode}
use Rattle.wasm_operators.specs.declared.types.Opcode.TheVariants.{Byte, Prefixed}
use Rattle.wasm_operators.specs.Operations.{Access, CatchClause, Cast, RawImmediate, index, local, label, handler, outer, number, access, branch_table, clauses, block, heap, value, cast, i32, i64, f32, f64, v128, lane, lanes, zero_byte, RawOperation}

-- The shortest text is this text, or this text is longer.
abbrev pub IsLeast : (shortest text : List ℕ) → Type 0
IsLeast shortest text = (shortest ≡ text) ⊎ (length shortest < length text)

-- ---- integers: at most this many bytes before the last

unfoldable pub short_unsigned : ℕ → ℕ → List ℕ
short_unsigned zero n = n % 128 ∷ []
short_unsigned (suc more) n = if nat_lt n 128 then n ∷ [] else (n % 128 + 128) ∷ short_unsigned more (n / 128)

-- the low seven bits, and the number above them
abbrev pub low_bits : ℤ → ℕ
low_bits (pos n) = n % 128
low_bits (negsuc n) = 127 - n % 128

abbrev pub high_bits : ℤ → ℤ
high_bits (pos n) = pos (n / 128)
high_bits (negsuc n) = negsuc (n / 128)

-- seven bits can contain the number with its sign
abbrev pub fits_seven : ℤ → Bool
fits_seven (pos n) = nat_lt n 64
fits_seven (negsuc n) = nat_lt n 64

unfoldable pub short_signed : ℕ → ℤ → List ℕ
short_signed zero z = low_bits z ∷ []
short_signed (suc more) z = if fits_seven z then low_bits z ∷ [] else (low_bits z + 128) ∷ short_signed more (high_bits z)

-- ten bytes are enough for 64 bits
abbrev pub short_number : ℕ → List ℕ
short_number = short_unsigned 9

abbrev pub short_integer : ℤ → List ℕ
short_integer = short_signed 9

-- a number as `count` bytes, the least significant first
abbrev pub short_bits : (count bits : ℕ) → List ℕ
short_bits zero bits = []
short_bits (suc count) bits = bits % 256 ∷ short_bits count (bits / 256)

-- sixteen bytes
unfoldable pub short_vector : ℕ → List ℕ
short_vector bits = short_bits 16 bits

-- ---- types

abbrev pub heap_byte : AbstractHeapType → ℕ
heap_byte abstract.NoExn = 0x74
heap_byte abstract.NoFunc = 0x73
heap_byte abstract.NoExtern = 0x72
heap_byte abstract.None = 0x71
heap_byte abstract.Func = 0x70
heap_byte abstract.Extern = 0x6f
heap_byte abstract.Any = 0x6e
heap_byte abstract.Eq = 0x6d
heap_byte abstract.I31 = 0x6c
heap_byte abstract.Struct = 0x6b
heap_byte abstract.Array = 0x6a
heap_byte abstract.Exn = 0x69

abbrev pub short_heap : HeapType ℕ → List ℕ
short_heap (Abstract a) = heap_byte a ∷ []
short_heap (Concrete n) = short_integer (pos n)

-- a nullable reference to an abstract heap type is one byte
abbrev pub short_reference : Bool → HeapType ℕ → List ℕ
short_reference true (Abstract a) = heap_byte a ∷ []
short_reference true (Concrete n) = 0x63 ∷ short_integer (pos n)
short_reference false h = 0x64 ∷ short_heap h

abbrev pub short_value : ValType ℕ → List ℕ
short_value I32 = 0x7f ∷ []
short_value I64 = 0x7e ∷ []
short_value F32 = 0x7d ∷ []
short_value F64 = 0x7c ∷ []
short_value V128 = 0x7b ∷ []
short_value (Ref r) = short_reference r.nullable r.heap_type

abbrev pub short_block : BlockType → List ℕ
short_block Empty = 0x40 ∷ []
short_block (Value t) = short_value t
short_block (FuncType n) = short_integer (pos n)

-- ---- immediates

-- memory 0 has the short form
unfoldable pub short_access : Access → List ℕ
short_access a =
    (if a.memory == 0 then short_number a.alignment else short_number (a.alignment + 64) ++ short_number a.memory) ++ short_number a.offset

unfoldable pub short_table : List ℕ → ℕ → List ℕ
short_table targets default = short_number (length targets) ++ flat_map short_number targets ++ short_number default

abbrev pub short_tag : Bool → Option ℕ → List ℕ
short_tag false (Some n) = 0 ∷ short_number n
short_tag true (Some n) = 1 ∷ short_number n
short_tag false None = 2 ∷ []
short_tag true None = 3 ∷ []

abbrev pub short_clause : CatchClause ℕ → List ℕ
short_clause c = short_tag c.by_reference c.tag ++ short_number c.label

unfoldable pub short_clauses : List (CatchClause ℕ) → List ℕ
short_clauses cs = short_number (length cs) ++ flat_map short_clause cs

abbrev pub short_flags : Bool → Bool → ℕ
short_flags false false = 0
short_flags true false = 1
short_flags false true = 2
short_flags true true = 3

unfoldable pub short_cast : Cast ℕ → List ℕ
short_cast c = short_flags c.from_nullable c.to_nullable ∷ (short_number c.label ++ short_heap c.source ++ short_heap c.target)

abbrev pub short_immediate : RawImmediate → List ℕ
short_immediate (index space n) = short_number n
short_immediate (local n) = short_number n
short_immediate (label l) = short_number l
short_immediate (handler depth) = short_number depth
short_immediate (outer depth) = short_number depth
short_immediate (number n) = short_number n
short_immediate (access a) = short_access a
short_immediate (branch_table targets default) = short_table targets default
short_immediate (clauses cs) = short_clauses cs
short_immediate (block type) = short_block type
short_immediate (heap type) = short_heap type
short_immediate (value type) = 1 ∷ short_value type
short_immediate (cast c) = short_cast c
short_immediate (i32 z) = short_integer z
short_immediate (i64 z) = short_integer z
short_immediate (f32 bits) = short_bits 4 bits
short_immediate (f64 bits) = short_bits 8 bits
short_immediate (v128 bits) = short_vector bits
short_immediate (lane n) = n ∷ []
short_immediate (lanes ns) = ns
short_immediate zero_byte = 0 ∷ []

abbrev pub short_immediates : List RawImmediate → List ℕ
short_immediates is = flat_map short_immediate is

-- ---- operators

abbrev pub short_opcode : Opcode → List ℕ
short_opcode (Byte b) = b ∷ []
short_opcode (Prefixed prefix n) = prefix ∷ short_number n

-- The shortest encoding of an operator.
abbrev pub short : RawOperation → List ℕ
short o = short_opcode o.opcode ++ short_immediates o.immediates
