-- From one level of operators to another: each immediate in the order of writing, and the first fault is the result.
-- Naming, numbering, the operators of a tree and the ways of writing its text are translations.
use Rattle.std.specs.Prelude.{ℕ, List, length, Option, Some, None, Result, Ok}
use Rattle.wasm_types.specs.declared.val_type.HeapType.{HeapType}
use Rattle.wasm_types.specs.declared.val_type.HeapType.TheVariants.{Abstract, Concrete}
use Rattle.wasm_types.specs.declared.val_type.ValType.{ValType}
use Rattle.wasm_types.specs.declared.val_type.ValType.TheVariants.{I32, I64, F32, F64, V128, Ref}
use Rattle.wasm_operators.specs.declared.types.Space.{Space}
use Rattle.wasm_operators.specs.declared.types.Space.TheVariants.{Types, Memories, Tags}
use Rattle.wasm_operators.specs.Operations.{Access, CatchClause, Cast, Immediate, index, local, label, handler, outer, number, access, branch_table, clauses, block, heap, value, cast, i32, i64, f32, f64, v128, lane, lanes, zero_byte, Operation}
use Rattle.wasm_numbers.specs.Results.{◌>>=◌, each}

-- What each part becomes: labels go from L to M, and block types from B to C.
pub record Translation (L B M C E : Type 0) : Type 0 where
  pub index : Space → ℕ → Result ℕ E
  pub local : ℕ → Result ℕ E
  pub label : L → Result M E
  pub handler : ℕ → Result ℕ E
  pub outer : ℕ → Result ℕ E
  pub number : ℕ → Result ℕ E
  pub block : B → Result C E
  pub alignment : ℕ → ℕ
  pub count : ℕ → Result (Unit {0}) E  -- whether a list of this length may be written

-- Labels, block types and alignments become these; each number stays, and lists may have any length.
abbrev pub keeping_numbers : {L B M C E : Type 0} → (L → Result M E) → (B → Result C E) → (ℕ → ℕ) → Translation L B M C E
keeping_numbers to_label to_block to_alignment = record {
  index = λ space n. Ok n;
  local = λ n. Ok n;
  label = to_label;
  handler = λ n. Ok n;
  outer = λ n. Ok n;
  number = λ n. Ok n;
  block = to_block;
  alignment = to_alignment;
  count = λ n. Ok tt;
}

-- Labels, block types and alignments become these; numbers and lists become what they become by another translation.
abbrev pub relabelled : {L B M C K A N D E : Type 0} → Translation L B M C E → (K → Result N E) → (A → Result D E) → (ℕ → ℕ) → Translation K A N D E
relabelled t to_label to_block to_alignment = record {
  index = t.index;
  local = t.local;
  label = to_label;
  handler = t.handler;
  outer = t.outer;
  number = t.number;
  block = to_block;
  alignment = to_alignment;
  count = t.count;
}

abbrev pub translate_heap : {E : Type 0} → (Space → ℕ → Result ℕ E) → HeapType ℕ → Result (HeapType ℕ) E
translate_heap f (Abstract a) = Ok (Abstract a)
translate_heap f (Concrete n) = f Types n >>= λ m. Ok (Concrete m)

abbrev pub translate_value : {E : Type 0} → (Space → ℕ → Result ℕ E) → ValType ℕ → Result (ValType ℕ) E
translate_value f I32 = Ok I32
translate_value f I64 = Ok I64
translate_value f F32 = Ok F32
translate_value f F64 = Ok F64
translate_value f V128 = Ok V128
translate_value f (Ref r) = translate_heap f r.heap_type >>= λ h. Ok (Ref (record { nullable = r.nullable; heap_type = h }))

abbrev pub translate_tag : {E : Type 0} → (Space → ℕ → Result ℕ E) → Option ℕ → Result (Option ℕ) E
translate_tag f None = Ok None
translate_tag f (Some n) = f Tags n >>= λ m. Ok (Some m)

abbrev pub translate_clause : {L B M C E : Type 0} → Translation L B M C E → CatchClause L → Result (CatchClause M) E
translate_clause t c = translate_tag t.index c.tag >>= λ tag. t.label c.label >>= λ l. Ok (record { by_reference = c.by_reference; tag = tag; label = l })

abbrev pub translate_cast : {L B M C E : Type 0} → Translation L B M C E → Cast L → Result (Cast M) E
translate_cast t c =
    t.label c.label >>= λ l. translate_heap t.index c.source >>= λ s. translate_heap t.index c.target >>= λ g.
    Ok (record { from_nullable = c.from_nullable; to_nullable = c.to_nullable; label = l; source = s; target = g })

abbrev pub translate_access : {L B M C E : Type 0} → Translation L B M C E → Access → Result Access E
translate_access t a = t.index Memories a.memory >>= λ m. Ok (record { alignment = t.alignment a.alignment; memory = m; offset = a.offset })

abbrev pub translate_immediate : {L B M C E : Type 0} → Translation L B M C E → Immediate L B → Result (Immediate M C) E
translate_immediate t (index space n) = t.index space n >>= λ m. Ok (index space m)
translate_immediate t (local n) = t.local n >>= λ m. Ok (local m)
translate_immediate t (label l) = t.label l >>= λ m. Ok (label m)
translate_immediate t (handler depth) = t.handler depth >>= λ n. Ok (handler n)
translate_immediate t (outer depth) = t.outer depth >>= λ n. Ok (outer n)
translate_immediate t (number n) = t.number n >>= λ m. Ok (number m)
translate_immediate t (access a) = translate_access t a >>= λ b. Ok (access b)
translate_immediate t (branch_table ts d) = t.count (length ts) >>= λ u. each t.label ts >>= λ us. t.label d >>= λ e. Ok (branch_table us e)
translate_immediate t (clauses cs) = t.count (length cs) >>= λ u. each (translate_clause t) cs >>= λ ds. Ok (clauses ds)
translate_immediate t (block b) = t.block b >>= λ c. Ok (block c)
translate_immediate t (heap h) = translate_heap t.index h >>= λ g. Ok (heap g)
translate_immediate t (value v) = translate_value t.index v >>= λ w. Ok (value w)
translate_immediate t (cast c) = translate_cast t c >>= λ d. Ok (cast d)
translate_immediate t (i32 z) = Ok (i32 z)
translate_immediate t (i64 z) = Ok (i64 z)
translate_immediate t (f32 bits) = Ok (f32 bits)
translate_immediate t (f64 bits) = Ok (f64 bits)
translate_immediate t (v128 bits) = Ok (v128 bits)
translate_immediate t (lane n) = Ok (lane n)
translate_immediate t (lanes ns) = Ok (lanes ns)
translate_immediate t zero_byte = Ok zero_byte

abbrev pub translate_immediates : {L B M C E : Type 0} → Translation L B M C E → List (Immediate L B) → Result (List (Immediate M C)) E
translate_immediates t is = each (translate_immediate t) is

abbrev pub translate : {L B M C E : Type 0} → Translation L B M C E → Operation L B → Result (Operation M C) E
translate t o = translate_immediates t o.immediates >>= λ is. Ok (record { opcode = o.opcode; immediates = is })

-- a value at a location
pub record Located (X : Type 0) : Type 0 where
  pub op : X
  pub location : ℕ

abbrev pub at_location : {X : Type 0} → X → ℕ → Located X
at_location x l = record { op = x; location = l }
