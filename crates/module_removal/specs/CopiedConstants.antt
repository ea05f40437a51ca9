-- What is copied of a constant expression (WebAssembly core specification 3.0, binary format, expressions; validation, constant
-- expressions): its operators, up to the `end`.
use Rattle.std.specs.Prelude.{ℕ, zero, suc, ◌-◌, Bool, if◌then◌else◌, List, length, take, Result, Ok, Err}
use Rattle.wasm_types.specs.declared.val_type.HeapType.{HeapType}
use Rattle.wasm_numbers.specs.declared.fault.ReadFault.TheVariants as unread
use Rattle.wasm_numbers.specs.Results.{◌>>=◌}
use Rattle.wasm_operators.specs.declared.immediates.Immediates.TheVariants as immediates
use Rattle.wasm_operators.specs.declared.types.Opcode.{Opcode}
use Rattle.wasm_operators.specs.Operations.{RawOperation}
use Rattle.wasm_operators.specs.Parts.{ListedImmediates, shape_of}
use Rattle.wasm_operators.specs.Shortest.{short_number, short_heap, short_opcode}
use Rattle.wasm_sections.specs.declared.fault.ModuleFault.{ModuleFault}
use Rattle.wasm_sections.specs.declared.fault.ModuleFault.TheVariants as fault
use Rattle.wasm_sections.specs.Format.{operator_part, is_end_opcode}
use Rattle.wasm_sections.specs.Parts.{Part, fault_here, checked}
use Rattle.module_removal.specs.CopiedParts.{Copied, writes, CopiedPart, nothing, ◌>+>◌, copied_both, NewIndices, item_at, copied_item, new_heap}

-- a value, and the bytes that it takes
abbrev pub with_extent : {A : Type 0} → Part A → Part (A × List ℕ)
with_extent part end text = part end text >>= λ x. Ok ((x.0, take (length text - length x.1) text), x.1)

-- these bytes, and then what is copied; what is copied, and then these bytes
abbrev pub after_bytes : List ℕ → Result (Unit {0} × Copied) ModuleFault → Result (Unit {0} × Copied) ModuleFault
after_bytes bytes r = r >>= λ x. Ok (tt, copied_both (writes bytes) x.1)

abbrev pub before_bytes : List ℕ → Result (Unit {0} × Copied) ModuleFault → Result (Unit {0} × Copied) ModuleFault
before_bytes bytes r = r >>= λ x. Ok (tt, copied_both x.1 (writes bytes))

-- a heap type with the new index of the type that it names, in its shortest encoding
abbrev pub copied_heap : NewIndices → HeapType ℕ → Result (Unit {0} × Copied) ModuleFault
copied_heap w h = new_heap w h >>= λ x. Ok (tt, record { written = short_heap x.0; named = x.1.named })

-- An operator that takes these bytes. If it names an item, which it does by an index, by an index and a number, or by a heap type, it is
-- written with the new index, in its shortest encoding. None that may name an item in another way is constant; all others stay.
abbrev pub copied_operation : NewIndices → (bytes : List ℕ) → Opcode → ListedImmediates → Result (Unit {0} × Copied) ModuleFault
copied_operation w bytes o (immediates.Index space i) = after_bytes (short_opcode o) (copied_item w (item_at space i))
copied_operation w bytes o (immediates.IndexNumber space i n) =
    after_bytes (short_opcode o) (before_bytes (short_number n) (copied_item w (item_at space i)))
copied_operation w bytes o (immediates.Heap h) = after_bytes (short_opcode o) (copied_heap w h)
copied_operation w bytes o (immediates.Pair first m second n) = Err fault.BadConstant
copied_operation w bytes o (immediates.Access a) = Err fault.BadConstant
copied_operation w bytes o (immediates.LaneAccess a n) = Err fault.BadConstant
copied_operation w bytes o (immediates.Block type) = Err fault.BadConstant
copied_operation w bytes o (immediates.Clauses type cs) = Err fault.BadConstant
copied_operation w bytes o (immediates.Value type) = Err fault.BadConstant
copied_operation w bytes o (immediates.Cast c) = Err fault.BadConstant
copied_operation w bytes o _ = Ok (tt, writes bytes)

-- whether it is the `end`
abbrev pub copied_if_constant : NewIndices → RawOperation × List ℕ → Result (Bool × Copied) ModuleFault
copied_if_constant w x =
    copied_operation w x.1 x.0.opcode (shape_of x.0.immediates) >>= λ y. Ok (is_end_opcode x.0.opcode, y.1)

abbrev pub copied_operator : NewIndices → CopiedPart Bool
copied_operator w = checked (with_extent operator_part) (copied_if_constant w)

-- operators up to the `end`, at most so many
unfoldable pub copied_operators : NewIndices → (most : ℕ) → CopiedPart (Unit {0})
copied_operators w zero = λ end text. Err (fault_here end text (fault.Read unread.Truncated))
copied_operators w (suc n) = copied_operator w >+> λ is_end. if is_end then nothing else copied_operators w n

-- a constant expression; each operator has at least one byte
abbrev pub copied_constant : NewIndices → CopiedPart (Unit {0})
copied_constant w end text = copied_operators w (length text) end text
