-- Location pairs.
use Rattle.std.specs.Prelude.{◌≡◌, ℕ, ◌+◌, ◌==◌, cond, List, [], ◌∷◌, Option, Some, None, Result, Ok, Err, refl}
use Rattle.wasm_operators.specs.declared.types.BlockType.TheVariants.{Empty, Value}
use Rattle.wasm_types.specs.declared.val_type.ValType.TheVariants.{I32}
use Rattle.walrus_ir.specs.Locations.{default_location}
use Rattle.wasm_numbers.specs.Numbers.{integer}
use Rattle.wasm_operators.specs.Opcodes.{kinds_of_byte, opcode}
use Rattle.wasm_operators.specs.Operations.{RawOperation}
use Rattle.wasm_operators.specs.Shortest.{short_unsigned, short_signed}
use Rattle.wasm_operators.specs.Spelling.{read_operation}
use Rattle.wasm_body.specs.declared.error.EmitError.{EmitError}
use Rattle.wasm_body.specs.declared.error.ParseFailure.{ParseFailure}
use Rattle.wasm_body.specs.SourceTree.{Body}
use Rattle.wasm_body.specs.Naming.{Occurrence}
use Rattle.wasm_body.specs.Parsing.Lists.{parsed}
use Rattle.wasm_body.specs.NormalForm.{typing_of, normal_form, named_body}
use Rattle.wasm_body.specs.Pairs.{Pair, tree_pairs, location_in}
use Rattle.wasm_body.proofs.Examples.Operators.{nop, if, else, try, call, end, delegate, drop, const}
use Rattle.wasm_body.proofs.Examples.Modules.{demo, demo_numbers}
use Rattle.wasm_body.proofs.Examples.Rows.{tree, tree_or_empty}
use Rattle.wasm_body.proofs.Examples.Parses.{setting_from}

-- ---- of operators that are given by hand; a location is the number in the list, after a byte of declarations

abbrev pairs : List RawOperation → Result (List Pair) EmitError
pairs os = tree_pairs demo_numbers (tree_or_empty (tree demo os)) 1

-- 41 01 04 40 0b 0b, and the same with an empty `else`, which has no pair
of_if : pairs (const 1 ∷ if Empty ∷ end ∷ end ∷ []) ≡ Ok ((0, 1) ∷ (1, 3) ∷ (2, 5) ∷ (3, 6) ∷ [])
unfolding short_signed
of_if = refl

of_omitted_else : pairs (const 1 ∷ if Empty ∷ else ∷ end ∷ end ∷ []) ≡ Ok ((0, 1) ∷ (1, 3) ∷ (3, 5) ∷ (4, 6) ∷ [])
unfolding short_signed
of_omitted_else = refl

-- 41 01 04 7f 41 02 0b 1a 0b: the added `else` has the location of the old `end`, and the new `end` the default
of_added_else : pairs (const 1 ∷ if (Value I32) ∷ const 2 ∷ end ∷ drop ∷ end ∷ [])
    ≡ Ok ((0, 1) ∷ (1, 3) ∷ (2, 5) ∷ (3, 7) ∷ (default_location, 8) ∷ (4, 9) ∷ (5, 10) ∷ [])
unfolding short_signed
of_added_else = refl

-- 06 40 18 00 0b: a `delegate` has the default
of_delegate : pairs (try Empty ∷ delegate 0 ∷ end ∷ []) ≡ Ok ((0, 1) ∷ (default_location, 3) ∷ (2, 5) ∷ [])
unfolding short_unsigned
of_delegate = refl

-- 01 10 00 0b: an operator that is dropped has no pair
of_nop : pairs (nop ∷ call 0 ∷ end ∷ []) ≡ Ok ((1, 1) ∷ (2, 3) ∷ [])
unfolding short_unsigned
of_nop = refl

-- ---- of bytes, from place 101 on

abbrev pairs_of_body : Result (Body Occurrence) ParseFailure → Option (Result (List Pair) EmitError)
pairs_of_body (Ok b) = Some (tree_pairs demo_numbers (normal_form (typing_of demo) (named_body b)) 1)
pairs_of_body (Err f) = None

-- 01 0b
by_place : pairs_of_body (parsed (setting_from 101 None) (0x01 ∷ 0x0b ∷ [])) ≡ Some (Ok ((102, 1) ∷ []))
unfolding read_operation opcode kinds_of_byte
by_place = refl

-- 01 41 81 00 1a 0b is written as 41 01 1a 0b
abbrev of_row : List Pair
of_row = (102, 1) ∷ (105, 3) ∷ (106, 4) ∷ []

shortened : pairs_of_body (parsed (setting_from 101 None) (0x01 ∷ 0x41 ∷ 0x81 ∷ 0x00 ∷ 0x1a ∷ 0x0b ∷ [])) ≡ Some (Ok of_row)
unfolding read_operation opcode kinds_of_byte integer short_signed
shortened = refl

-- with a location function
by_function : pairs_of_body (parsed (setting_from 101 (Some (λ p. p + 7))) (0x01 ∷ 0x0b ∷ [])) ≡ Some (Ok ((109, 1) ∷ []))
unfolding read_operation opcode kinds_of_byte
by_function = refl

-- 41 01 04 40 0b 0b and 41 01 04 40 05 0b 0b, from place 1 on
without_else : pairs_of_body (parsed (setting_from 1 None) (0x41 ∷ 0x01 ∷ 0x04 ∷ 0x40 ∷ 0x0b ∷ 0x0b ∷ [])) ≡ Some (Ok ((1, 1) ∷ (3, 3) ∷ (5, 5) ∷ (6, 6) ∷ []))
unfolding read_operation opcode kinds_of_byte integer short_signed
without_else = refl

abbrev with_empty_else : List ℕ
with_empty_else = 0x41 ∷ 0x01 ∷ 0x04 ∷ 0x40 ∷ 0x05 ∷ 0x0b ∷ 0x0b ∷ []

omitted_else : pairs_of_body (parsed (setting_from 1 None) with_empty_else) ≡ Some (Ok ((1, 1) ∷ (3, 3) ∷ (6, 5) ∷ (7, 6) ∷ []))
unfolding read_operation opcode kinds_of_byte integer short_signed
omitted_else = refl

-- with a location function whose result for the source's `end` is the default location: the location of the `else`
abbrev none_for_end : ℕ → ℕ
none_for_end p = cond (p == 6) default_location p

location_of_else : pairs_of_body (parsed (setting_from 1 (Some none_for_end)) with_empty_else) ≡ Some (Ok ((1, 1) ∷ (3, 3) ∷ (5, 5) ∷ (7, 6) ∷ []))
unfolding read_operation opcode kinds_of_byte integer short_signed
location_of_else = refl

-- the pair with a place is found, if there is one
at_first : location_in of_row 1 ≡ Some 102
at_first = refl

at_second : location_in of_row 3 ≡ Some 105
at_second = refl

inside_an_operator : location_in of_row 2 ≡ None
inside_an_operator = refl
