-- The functions to which sections and constant expressions that are given by hand refer.
use Rattle.std.specs.Prelude.{◌≡◌, ℕ, List, [], ◌∷◌, ◌++◌, length, Ok, Err, refl}
use Rattle.std.specs.Str.{is_utf8, chars}
use lib.Utf8.{encode}
use Rattle.wasm_numbers.specs.Numbers.{integer}
use Rattle.wasm_operators.specs.Opcodes.{kinds_of_byte, opcode}
use Rattle.wasm_operators.specs.Spelling.{read_operation}
use Rattle.wasm_operators.specs.Types.{value_at, nullable_at, heap_at}
use Rattle.wasm_sections.specs.declared.fault.ModuleFault.TheVariants as fault
use Rattle.wasm_sections.specs.Parts.{repeated}
use Rattle.wasm_sections.specs.References.{constant_references, expression_part, references_of}
use Rattle.wasm_sections.specs.Sections.{SectionAt}

-- a section with this id and these contents
abbrev with_contents : (id : ℕ) → (contents : List ℕ) → SectionAt
with_contents id contents = record { id = id; contents = contents; end = length contents; whole = [] }

-- `ref.func 3` and `end`; what follows the `end` isn't of the expression
of_one : constant_references 9 (0xd2 ∷ 0x03 ∷ 0x0b ∷ 0xd2 ∷ 0x04 ∷ 0x0b ∷ []) ≡ Ok (3 ∷ [], 0xd2 ∷ 0x04 ∷ 0x0b ∷ [])
unfolding integer expression_part read_operation opcode kinds_of_byte
of_one = refl

-- `ref.func 2`, `i32.const 5`, `ref.func 2`: a function as often as an operator refers to it
of_three : constant_references 8 (0xd2 ∷ 0x02 ∷ 0x41 ∷ 0x05 ∷ 0xd2 ∷ 0x02 ∷ 0x0b ∷ []) ≡ Ok (2 ∷ 2 ∷ [], [])
unfolding integer expression_part read_operation opcode kinds_of_byte
of_three = refl

-- `global.get 3`: its index isn't that of a function
of_another : constant_references 3 (0x23 ∷ 0x03 ∷ 0x0b ∷ []) ≡ Ok ([], [])
unfolding integer expression_part read_operation opcode kinds_of_byte
of_another = refl

-- no `block` may be in it
of_block : constant_references 5 (0x02 ∷ 0x40 ∷ 0x0b ∷ 0x0b ∷ []) ≡ Err (record { fault = fault.BadConstant; at = 1 })
unfolding integer expression_part read_operation opcode kinds_of_byte value_at nullable_at heap_at
of_block = refl

-- A table with `ref.func 3`, and one without an initial value; globals with `i32.const 42` and `ref.func 5`; exports of function 7
-- and of memory 0; the start function 9; an active segment, whose offset is `i32.const 0`, of the functions 11 and 12; a
-- passive one of the expressions `ref.func 13` and `ref.null func`; and an active one, whose offset has `ref.func 14`, of the
-- expression `ref.func 15`. A custom section and data segments refer to none.
of_sections :
    references_of
    (with_contents 0 (0x01 ∷ 0x61 ∷ 0xd2 ∷ 0x01 ∷ []) ∷
    with_contents 4 (0x02 ∷ 0x40 ∷ 0x00 ∷ 0x70 ∷ 0x00 ∷ 0x01 ∷ 0xd2 ∷ 0x03 ∷ 0x0b ∷ 0x70 ∷ 0x00 ∷ 0x01 ∷ []) ∷
    with_contents 6 (0x02 ∷ 0x7f ∷ 0x00 ∷ 0x41 ∷ 0x2a ∷ 0x0b ∷ 0x70 ∷ 0x00 ∷ 0xd2 ∷ 0x05 ∷ 0x0b ∷ []) ∷
    with_contents 7 (0x02 ∷ 0x01 ∷ 0x61 ∷ 0x00 ∷ 0x07 ∷ 0x01 ∷ 0x62 ∷ 0x02 ∷ 0x00 ∷ []) ∷
    with_contents 8 (0x09 ∷ []) ∷
    with_contents 9
    ((0x03 ∷ 0x00 ∷ 0x41 ∷ 0x00 ∷ 0x0b ∷ 0x02 ∷ 0x0b ∷ 0x0c ∷ [])
    ++ (0x05 ∷ 0x70 ∷ 0x02 ∷ 0xd2 ∷ 0x0d ∷ 0x0b ∷ 0xd0 ∷ 0x70 ∷ 0x0b ∷ [])
    ++ (0x04 ∷ 0xd2 ∷ 0x0e ∷ 0x0b ∷ 0x01 ∷ 0xd2 ∷ 0x0f ∷ 0x0b ∷ [])) ∷
    with_contents 11 (0x01 ∷ 0x00 ∷ 0xd2 ∷ 0x10 ∷ 0x0b ∷ 0x00 ∷ []) ∷
    [])
    ≡ Ok (3 ∷ 5 ∷ 7 ∷ 9 ∷ 11 ∷ 12 ∷ 13 ∷ 14 ∷ 15 ∷ [])
unfolding integer repeated expression_part read_operation opcode kinds_of_byte value_at nullable_at heap_at is_utf8 chars encode
of_sections = refl
