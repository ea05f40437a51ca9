-- Bodies from bytes to bytes: parsed, and the bytes of their normal forms; and read back.
use Rattle.std.specs.Prelude.{◌≡◌, ℕ, zero, suc, List, [], ◌∷◌, Option, Some, None, Result, Ok, Err, slice_get, refl}
use Rattle.std.proofs.Common.{subst}
use Rattle.walrus_ir.specs.Types.{Func, Entry}
use Rattle.wasm_operators.specs.declared.types.Space.{Space}
use Rattle.wasm_operators.specs.declared.types.Space.TheVariants.{Globals}
use Rattle.wasm_numbers.specs.Numbers.{integer}
use Rattle.wasm_operators.specs.Opcodes.{kinds_of_byte, opcode}
use Rattle.wasm_operators.specs.Immediates.{label_table}
use Rattle.wasm_numbers.specs.Reading.{many}
use Rattle.wasm_operators.specs.Shortest.{short_unsigned, short_signed, short_table}
use Rattle.wasm_operators.specs.Spelling.{read_operation}
use Rattle.wasm_operators.specs.Types.{value_at, nullable_at, heap_at}
use Rattle.wasm_body.specs.declared.error.EmitError.{EmitError}
use Rattle.wasm_body.specs.declared.error.EmitError.TheVariants.{Index, UnnumberedLocal}
use Rattle.wasm_body.specs.declared.error.IndexError.TheVariants.{Unnumbered}
use Rattle.wasm_body.specs.declared.error.ParseFailure.{ParseFailure}
use Rattle.wasm_numbers.specs.Results.{some_or}
use Rattle.wasm_body.specs.SourceTree.{Body}
use Rattle.wasm_body.specs.Naming.{Environment, Occurrence}
use Rattle.wasm_body.specs.Parsing.Accepted.{Setting}
use Rattle.wasm_body.specs.Parsing.Lists.{parsed}
use Rattle.wasm_body.specs.NormalForm.{typing_of, balances, normal_form, named_body}
use Rattle.wasm_body.specs.Bytes.{Numbers, tree_bytes}
use Rattle.wasm_body.specs.ReadBack.{IsUndone, IsInverse}
use Rattle.wasm_body.proofs.Examples.Modules.{environment, demo, demo_numbers}

abbrev anything : Environment → Setting (Unit {0})
anything env = record { environment = env; start = 0; locations = None; check = λ v x. Ok tt; first = tt }

abbrev bytes_of_body : Environment → Numbers → Result (Body Occurrence) ParseFailure → Option (Result (List ℕ) EmitError)
bytes_of_body env to (Ok b) = Some (tree_bytes to (normal_form (typing_of env) (named_body b)))
bytes_of_body env to (Err f) = None

-- the bytes that are written for bytes, if these are accepted
abbrev rewriting : Environment → Numbers → List ℕ → Option (Result (List ℕ) EmitError)
rewriting env to bytes = bytes_of_body env to (parsed (anything env) bytes)

-- over the module of the worked rows
abbrev IsRewrittenAs : List ℕ → List ℕ → Type 0
IsRewrittenAs source target = rewriting demo demo_numbers source ≡ Some (Ok target)

-- 01 0b
dropped_nop : IsRewrittenAs (0x01 ∷ 0x0b ∷ []) (0x0b ∷ [])
unfolding read_operation opcode kinds_of_byte
dropped_nop = refl

-- 0f 41 07 1a 0b
dropped_unreachable : IsRewrittenAs (0x0f ∷ 0x41 ∷ 0x07 ∷ 0x1a ∷ 0x0b ∷ []) (0x0f ∷ 0x0b ∷ [])
unfolding read_operation opcode kinds_of_byte integer
dropped_unreachable = refl

-- 41 81 00 1a 0b: the shortest encoding
shortest : IsRewrittenAs (0x41 ∷ 0x81 ∷ 0x00 ∷ 0x1a ∷ 0x0b ∷ []) (0x41 ∷ 0x01 ∷ 0x1a ∷ 0x0b ∷ [])
unfolding read_operation opcode kinds_of_byte integer short_signed
shortest = refl

-- 41 01 02 03 1a 0b 0b: the pick
picked : IsRewrittenAs (0x41 ∷ 0x01 ∷ 0x02 ∷ 0x03 ∷ 0x1a ∷ 0x0b ∷ 0x0b ∷ []) (0x41 ∷ 0x01 ∷ 0x02 ∷ 0x01 ∷ 0x1a ∷ 0x0b ∷ 0x0b ∷ [])
unfolding read_operation opcode kinds_of_byte integer value_at nullable_at heap_at short_signed
picked = refl

-- 02 40 0c 00 41 07 1a 0b 41 05 1a 0b
after_unreachable_block : IsRewrittenAs (0x02 ∷ 0x40 ∷ 0x0c ∷ 0x00 ∷ 0x41 ∷ 0x07 ∷ 0x1a ∷ 0x0b ∷ 0x41 ∷ 0x05 ∷ 0x1a ∷ 0x0b ∷ [])
    (0x02 ∷ 0x40 ∷ 0x0c ∷ 0x00 ∷ 0x0b ∷ 0x41 ∷ 0x05 ∷ 0x1a ∷ 0x0b ∷ [])
unfolding read_operation opcode kinds_of_byte integer short_unsigned short_signed
after_unreachable_block = refl

-- 41 01 04 40 0b 0b, and the same with an `else` that says nothing
no_alternative : IsRewrittenAs (0x41 ∷ 0x01 ∷ 0x04 ∷ 0x40 ∷ 0x0b ∷ 0x0b ∷ []) (0x41 ∷ 0x01 ∷ 0x04 ∷ 0x40 ∷ 0x0b ∷ 0x0b ∷ [])
unfolding read_operation opcode kinds_of_byte integer short_signed
no_alternative = refl

empty_alternative : IsRewrittenAs (0x41 ∷ 0x01 ∷ 0x04 ∷ 0x40 ∷ 0x05 ∷ 0x01 ∷ 0x0b ∷ 0x0b ∷ []) (0x41 ∷ 0x01 ∷ 0x04 ∷ 0x40 ∷ 0x0b ∷ 0x0b ∷ [])
unfolding read_operation opcode kinds_of_byte integer short_signed
empty_alternative = refl

-- 41 01 04 7f 41 02 0b 1a 0b: an alternative is added, since the `if` has a result
added_alternative : IsRewrittenAs (0x41 ∷ 0x01 ∷ 0x04 ∷ 0x7f ∷ 0x41 ∷ 0x02 ∷ 0x0b ∷ 0x1a ∷ 0x0b ∷ [])
    (0x41 ∷ 0x01 ∷ 0x04 ∷ 0x7f ∷ 0x41 ∷ 0x02 ∷ 0x05 ∷ 0x0b ∷ 0x1a ∷ 0x0b ∷ [])
unfolding read_operation opcode kinds_of_byte integer value_at nullable_at heap_at short_signed
added_alternative = refl

-- 03 40 41 01 0d 80 00 0b 0b
loop_with_branch : IsRewrittenAs (0x03 ∷ 0x40 ∷ 0x41 ∷ 0x01 ∷ 0x0d ∷ 0x80 ∷ 0x00 ∷ 0x0b ∷ 0x0b ∷ []) (0x03 ∷ 0x40 ∷ 0x41 ∷ 0x01 ∷ 0x0d ∷ 0x00 ∷ 0x0b ∷ 0x0b ∷ [])
unfolding read_operation opcode kinds_of_byte integer short_unsigned short_signed
loop_with_branch = refl

-- 41 00 0e 02 00 80 00 00 01 0b: the operators after the table are dropped
table_of_labels : IsRewrittenAs (0x41 ∷ 0x00 ∷ 0x0e ∷ 0x02 ∷ 0x00 ∷ 0x80 ∷ 0x00 ∷ 0x00 ∷ 0x01 ∷ 0x0b ∷ []) (0x41 ∷ 0x00 ∷ 0x0e ∷ 0x02 ∷ 0x00 ∷ 0x00 ∷ 0x00 ∷ 0x0b ∷ [])
unfolding read_operation opcode kinds_of_byte integer label_table many short_table short_unsigned short_signed
table_of_labels = refl

-- 10 01 11 03 00 0b: the type, then the table
calls : IsRewrittenAs (0x10 ∷ 0x01 ∷ 0x11 ∷ 0x03 ∷ 0x00 ∷ 0x0b ∷ []) (0x10 ∷ 0x01 ∷ 0x11 ∷ 0x03 ∷ 0x00 ∷ 0x0b ∷ [])
unfolding read_operation opcode kinds_of_byte integer short_unsigned
calls = refl

-- 02 63 70 00 0b 1a 0b, 02 63 03 00 0b 1a 0b and 02 64 6f 00 0b 1a 0b: a nullable reference to an abstract heap type is one
-- byte
short_reference : IsRewrittenAs (0x02 ∷ 0x63 ∷ 0x70 ∷ 0x00 ∷ 0x0b ∷ 0x1a ∷ 0x0b ∷ []) (0x02 ∷ 0x70 ∷ 0x00 ∷ 0x0b ∷ 0x1a ∷ 0x0b ∷ [])
unfolding read_operation opcode kinds_of_byte integer value_at nullable_at heap_at
short_reference = refl

reference_to_type : IsRewrittenAs (0x02 ∷ 0x63 ∷ 0x03 ∷ 0x00 ∷ 0x0b ∷ 0x1a ∷ 0x0b ∷ []) (0x02 ∷ 0x63 ∷ 0x03 ∷ 0x00 ∷ 0x0b ∷ 0x1a ∷ 0x0b ∷ [])
unfolding read_operation opcode kinds_of_byte integer value_at nullable_at heap_at short_signed
reference_to_type = refl

reference_not_null : IsRewrittenAs (0x02 ∷ 0x64 ∷ 0x6f ∷ 0x00 ∷ 0x0b ∷ 0x1a ∷ 0x0b ∷ []) (0x02 ∷ 0x64 ∷ 0x6f ∷ 0x00 ∷ 0x0b ∷ 0x1a ∷ 0x0b ∷ [])
unfolding read_operation opcode kinds_of_byte integer value_at nullable_at heap_at
reference_not_null = refl

-- ---- reading back: two globals that change places

abbrev two_globals : Space → List ℕ
two_globals Globals = 0 ∷ 1 ∷ []
two_globals _ = []

abbrev with_globals : Environment
with_globals = environment (Func [] [] ∷ Entry [] ∷ []) [] two_globals [] 0

abbrev places : Space → List ℕ
places Globals = 1 ∷ 0 ∷ []
places _ = []

-- the numbers, and the module that is read by them
abbrev swapped : Numbers
swapped = record { number_of = λ space id. some_or (slice_get (places space) id) (Index (Unnumbered space)); local_number = λ id. Err UnnumberedLocal; balanced = balances (typing_of with_globals) }

abbrev back : Environment
back = environment (Func [] [] ∷ Entry [] ∷ []) [] places [] 0

-- they undo the numbers
is_undone : (space : Space) (id : ℕ) → IsUndone swapped back space id
is_undone Globals zero n e = let at : 1 ≡ n = cc e in subst (λ k. back.id_of Globals k ≡ Ok 0) at refl
is_undone Globals (suc zero) n e = let at : 0 ≡ n = cc e in subst (λ k. back.id_of Globals k ≡ Ok 1) at refl
is_undone Globals (suc (suc id)) n e = absurd (cc e)
is_undone _ id n e = absurd (cc e)

inverse : IsInverse swapped back
inverse = record { indices = is_undone; locals = λ id n e. absurd (cc e) }

-- 23 00 24 01 0b is written as 23 01 24 00 0b, and that, read with these maps, as itself
exchanged : rewriting with_globals swapped (0x23 ∷ 0x00 ∷ 0x24 ∷ 0x01 ∷ 0x0b ∷ []) ≡ Some (Ok (0x23 ∷ 0x01 ∷ 0x24 ∷ 0x00 ∷ 0x0b ∷ []))
unfolding read_operation opcode kinds_of_byte integer short_unsigned
exchanged = refl

unchanged : rewriting back swapped (0x23 ∷ 0x01 ∷ 0x24 ∷ 0x00 ∷ 0x0b ∷ []) ≡ Some (Ok (0x23 ∷ 0x01 ∷ 0x24 ∷ 0x00 ∷ 0x0b ∷ []))
unfolding read_operation opcode kinds_of_byte integer short_unsigned
unchanged = refl
