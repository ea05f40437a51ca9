-- Which operators have an encoding, in terms of their immediates.
use Rattle.std.specs.Prelude.{◌≡◌, ℕ, ◌^◌, ◌<◌, List, [], ◌∷◌, length, Option, Some, None, ℤ, pos, negsuc}
use Rattle.std.specs.List.{AllByRecursion}
use Rattle.wasm_types.specs.declared.val_type.HeapType.{HeapType}
use Rattle.wasm_types.specs.declared.val_type.HeapType.TheVariants.{Abstract, Concrete}
use Rattle.wasm_types.specs.declared.val_type.ValType.{ValType}
use Rattle.wasm_types.specs.declared.val_type.ValType.TheVariants.{Ref}
use Rattle.wasm_operators.specs.declared.types.BlockType.{BlockType}
use Rattle.wasm_operators.specs.declared.types.BlockType.TheVariants.{Empty, Value, FuncType}
use Rattle.wasm_operators.specs.Operations.{CatchClause, RawImmediate, index, local, label, handler, outer, number, branch_table, clauses, access, block, heap, value, cast, i32, i64, f32, f64, v128, lane, lanes, zero_byte}

-- What an immediate requires besides numbers that fit their types.
abbrev pub IsEncodable : RawImmediate → Type 0
IsEncodable (access a) = a.alignment < 32
IsEncodable (branch_table targets default) = length targets < 2 ^ 32
IsEncodable (clauses cs) = length cs < 2 ^ 32
IsEncodable _ = Unit {0}

abbrev pub AreEncodable : List RawImmediate → Type 0
AreEncodable [] = Unit {0}
AreEncodable (i ∷ is) = IsEncodable i × AreEncodable is

-- ---- numbers that fit

abbrev pub IsWithin : ℕ → ℤ → Type 0
IsWithin half (pos n) = n < half
IsWithin half (negsuc n) = n < half

abbrev pub FitsHeap : HeapType ℕ → Type 0
FitsHeap (Abstract a) = Unit {0}
FitsHeap (Concrete n) = n < 2 ^ 32

abbrev pub FitsValue : ValType ℕ → Type 0
FitsValue (Ref r) = FitsHeap r.heap_type
FitsValue _ = Unit {0}

abbrev pub FitsBlock : BlockType → Type 0
FitsBlock Empty = Unit {0}
FitsBlock (Value type) = FitsValue type
FitsBlock (FuncType n) = n < 2 ^ 32

abbrev pub FitsTag : Option ℕ → Type 0
FitsTag None = Unit {0}
FitsTag (Some n) = n < 2 ^ 32

abbrev pub FitsClause : CatchClause ℕ → Type 0
FitsClause c = FitsTag c.tag × (c.label < 2 ^ 32)

abbrev pub FitsLabel : ℕ → Type 0
FitsLabel l = l < 2 ^ 32

abbrev pub FitsLane : ℕ → Type 0
FitsLane n = n < 256

abbrev pub Fits : RawImmediate → Type 0
Fits (index space n) = n < 2 ^ 32
Fits (local n) = n < 2 ^ 32
Fits (label l) = l < 2 ^ 32
Fits (handler depth) = depth < 2 ^ 32
Fits (outer depth) = depth < 2 ^ 32
Fits (number n) = n < 2 ^ 32
Fits (branch_table targets default) =
    (length targets < 2 ^ 32) × AllByRecursion FitsLabel targets × FitsLabel default
Fits (clauses cs) = (length cs < 2 ^ 32) × AllByRecursion FitsClause cs
Fits (access a) = (a.alignment < 32) × (a.memory < 2 ^ 32) × (a.offset < 2 ^ 64)
Fits (block type) = FitsBlock type
Fits (heap type) = FitsHeap type
Fits (value type) = FitsValue type
Fits (cast c) = FitsLabel c.label × FitsHeap c.source × FitsHeap c.target
Fits (i32 z) = IsWithin (2 ^ 31) z
Fits (i64 z) = IsWithin (2 ^ 63) z
Fits (f32 bits) = bits < 2 ^ 32
Fits (f64 bits) = bits < 2 ^ 64
Fits (v128 bits) = bits < 2 ^ 128
Fits (lane n) = FitsLane n
Fits (lanes ns) = (length ns ≡ 16) × AllByRecursion FitsLane ns
Fits zero_byte = Unit {0}

abbrev pub AllFit : List RawImmediate → Type 0
AllFit [] = Unit {0}
AllFit (i ∷ is) = Fits i × AllFit is
