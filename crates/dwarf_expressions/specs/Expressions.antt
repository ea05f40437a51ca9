-- Expressions: one operation after the other (DWARF 5, section 2.5).
use Rattle.std.specs.Prelude.{◌≡◌, ◌≢◌, ◌⊎◌, MatchBool, ℕ, List, [], ◌∷◌, length, drop, take, ◌-◌, Bool, true, false, ◌&&◌, ◌||◌, nat_le, ◌==◌, if◌then◌else◌, Option, Some, None, Ok, Err}
use Rattle.std.specs.List.{list_any}
use Rattle.wasm_numbers.specs.Results.{◌>>=◌, some_or}
use Rattle.dwarf_bytes.specs.declared.fault.DebugFault.{DebugFault}
use Rattle.dwarf_bytes.specs.declared.fault.DebugFault.TheVariants as faults
use Rattle.dwarf_bytes.specs.Faults.{DebugReader}
use Rattle.dwarf_bytes.specs.Numbers.{size_in_bytes, fixed_number, unsigned_leb, signed_leb, part_and_rest}
use Rattle.dwarf_expressions.specs.declared.encoding.Encoding.{Encoding}
use Rattle.dwarf_expressions.specs.declared.operand.Operand.{Operand}
use Rattle.dwarf_expressions.specs.declared.operand.Operand.TheVariants.{Nothing, Address, Fixed, Unsigned, Signed, Branch, Block, ShortBlock, Expression, Place, EntryAt, Entry, EntryOfAnyUnit}
use Rattle.dwarf_expressions.specs.Operands.{reference_size, expression_operands as operands}

-- An operation that contains no expression: one that names a local, or another one by its code and the bytes of its operands.
pub data Simple : Type 0 where
  local : (index : ℕ) → Simple
  other : (code : ℕ) (operands : List ℕ) → Simple

-- An operation: a simple one, or DW_OP_entry_value, of the value that an expression of simple operations had on entry to the function.
pub data ExpressionOperation : Type 0 where
  simple : Simple → ExpressionOperation
  entry_value : (code : ℕ) → List Simple → ExpressionOperation

-- ---- reading an operand: its value isn't needed, but where it ends

abbrev pub skipped : {A : Type 0} → DebugReader A → DebugReader (Unit {0})
skipped read bytes = read bytes >>= λ x. Ok (tt, x.1)

abbrev pub sized : (size : DebugReader ℕ) → DebugReader (List ℕ)
sized size bytes = size bytes >>= λ n. part_and_rest n.0 n.1

-- A place of WebAssembly (DWARF for WebAssembly, "DW_OP_WASM_location"): kind 0 is a local, 1 a global, 2 a value of the operand stack,
-- all with an index in LEB128; 3 is a global with an index in four bytes.
abbrev pub expression_place : DebugReader (Unit {0})
expression_place bytes = fixed_number 1 bytes >>= λ kind.
    if nat_le kind.0 2 then skipped unsigned_leb kind.1
    else if kind.0 == 3 then skipped (fixed_number 4) kind.1
    else Err faults.UnknownOperation

unfoldable pub expression_operand : Encoding → Operand → DebugReader (Unit {0})
expression_operand e Nothing = λ bytes. Ok (tt, bytes)
expression_operand e Address = skipped (fixed_number (size_in_bytes e.address_size))
expression_operand e (Fixed size) = skipped (fixed_number (size_in_bytes size))
expression_operand e Unsigned = skipped unsigned_leb
expression_operand e Signed = skipped signed_leb
expression_operand e Branch = skipped (fixed_number 2)
expression_operand e Block = skipped (sized unsigned_leb)
expression_operand e ShortBlock = skipped (sized (fixed_number 1))
expression_operand e Expression = λ bytes. Err faults.Unsupported
expression_operand e Place = expression_place
expression_operand e (EntryAt size) = skipped (fixed_number (size_in_bytes size))
expression_operand e Entry = skipped unsigned_leb
expression_operand e EntryOfAnyUnit = skipped (fixed_number (size_in_bytes (reference_size e)))

-- ---- reading an operation

-- whether the bytes begin with DW_OP_WASM_location of a local
abbrev pub names_local : List ℕ → Bool
names_local [] = false
names_local (code ∷ []) = false
names_local (code ∷ kind ∷ bytes) = (code == 0xed) && (kind == 0)

-- the bytes in front of those at their end
abbrev pub before : (bytes rest : List ℕ) → List ℕ
before bytes rest = take (length bytes - length rest) bytes

abbrev pub both_operands : Encoding → Operand × Operand → DebugReader (Unit {0})
both_operands e (one, two) bytes = expression_operand e one bytes >>= λ x. expression_operand e two x.1

abbrev pub other_operation : Encoding → DebugReader Simple
other_operation e [] = Err faults.Truncated
other_operation e (code ∷ bytes) =
    some_or (operands code) faults.UnknownOperation >>= λ kinds.
    both_operands e kinds bytes >>= λ x.
    Ok (other code (before bytes x.1), x.1)

unfoldable pub simple_operation : Encoding → DebugReader Simple
simple_operation e bytes =
    if names_local bytes then (unsigned_leb (drop 2 bytes) >>= λ index. Ok (local index.0, index.1)) else other_operation e bytes

-- whether the bytes begin with DW_OP_entry_value
abbrev pub is_entry_value : List ℕ → Bool
is_entry_value [] = false
is_entry_value (code ∷ bytes) = (code == 0xa3) || (code == 0xf3)

-- the code of DW_OP_entry_value and the bytes of its expression
unfoldable pub entry_value_parts : DebugReader (ℕ × List ℕ)
entry_value_parts [] = Err faults.Truncated
entry_value_parts (code ∷ bytes) = sized unsigned_leb bytes >>= λ x. Ok ((code, x.0), x.1)

-- ---- one operation after the other

-- The bytes begin with these, one after the other, and these bytes follow. `Begins bytes x rest`: bytes begin with x, and the rest follows.
abbrev pub BeginWith : {A : Type 0} → (Begins : List ℕ → A → List ℕ → Type 0) → List ℕ → List A → List ℕ → Type 0
BeginWith Begins bytes [] rest = bytes ≡ rest
BeginWith Begins bytes (x ∷ xs) rest = (next : List ℕ) × Begins bytes x next × BeginWith Begins next xs rest

abbrev pub BeginsSimple : Encoding → List ℕ → Simple → List ℕ → Type 0
BeginsSimple e bytes s rest = simple_operation e bytes ≡ Ok (s, rest)

abbrev pub Begins : Encoding → List ℕ → ExpressionOperation → List ℕ → Type 0
Begins e bytes (simple s) rest = BeginsSimple e bytes s rest
Begins e bytes (entry_value code ss) rest =
    (inside : List ℕ) × (is_entry_value bytes ≡ true) × (entry_value_parts bytes ≡ Ok ((code, inside), rest)) × BeginWith (BeginsSimple e) inside ss []

-- the bytes are an expression of these operations
abbrev pub IsExpression : Encoding → List ℕ → List ExpressionOperation → Type 0
IsExpression e bytes os = BeginWith (Begins e) bytes os []

-- ---- the fault of an expression: that of its first operation that can't be read

abbrev pub FailsSimple : Encoding → List ℕ → DebugFault → Type 0
FailsSimple e bytes fault = (bytes ≢ []) × (simple_operation e bytes ≡ Err fault)

-- The bytes begin with some of these, and what follows fails.
abbrev pub FailAfter : {A : Type 0} → (Begins : List ℕ → A → List ℕ → Type 0) → (FailsOfExpression : List ℕ → DebugFault → Type 0) → List ℕ → DebugFault → Type 0
FailAfter {A} Begins FailsOfExpression bytes fault = (xs : List A) × (rest : List ℕ) × BeginWith Begins bytes xs rest × FailsOfExpression rest fault

abbrev pub FailsEntryValue : Encoding → List ℕ → DebugFault → Type 0
FailsEntryValue e bytes fault =
    (entry_value_parts bytes ≡ Err fault)
    ⊎ ((code : ℕ) × (inside rest : List ℕ) × (entry_value_parts bytes ≡ Ok ((code, inside), rest)) × FailAfter (BeginsSimple e) (FailsSimple e) inside fault)

abbrev pub FailsOfExpression : Encoding → List ℕ → DebugFault → Type 0
FailsOfExpression e bytes fault = MatchBool (is_entry_value bytes) (FailsEntryValue e bytes fault) (FailsSimple e bytes fault)

abbrev pub IsFaultOfOfExpression : Encoding → List ℕ → DebugFault → Type 0
IsFaultOfOfExpression e bytes fault = FailAfter (Begins e) (FailsOfExpression e) bytes fault

-- ---- what an expression has

abbrev pub or_none : Option (Operand × Operand) → Operand × Operand
or_none None = (Nothing, Nothing)
or_none (Some kinds) = kinds

abbrev pub expression_operands_of : Simple → Operand × Operand
expression_operands_of (local index) = (Place, Nothing)
expression_operands_of (other code bytes) = or_none (operands code)

-- an operation, or one in it, has an operand that passes the test
abbrev pub simple_has : (Operand → Bool) → Simple → Bool
simple_has test s = let (one, two) = expression_operands_of s in test one || test two

abbrev pub expression_has : (Operand → Bool) → ExpressionOperation → Bool
expression_has test (simple s) = simple_has test s
expression_has test (entry_value code ss) = list_any (simple_has test) ss

abbrev pub is_branch : Operand → Bool
is_branch Branch = true
is_branch _ = false

-- whether an operand is the offset of an entry
abbrev pub expression_is_entry : Operand → Bool
expression_is_entry (EntryAt size) = true
expression_is_entry Entry = true
expression_is_entry EntryOfAnyUnit = true
expression_is_entry _ = false

-- ---- a law

-- Bytes are an expression in one way at most.
abbrev pub OneReading : Type 0
OneReading = (e : Encoding) (bytes : List ℕ) (os ns : List ExpressionOperation) → IsExpression e bytes os → IsExpression e bytes ns → os ≡ ns
