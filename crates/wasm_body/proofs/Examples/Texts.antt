-- Texts of trees that are given by hand: lawful clauses, exponents, and trees that can't be written.
use Rattle.std.specs.Prelude.{◌≡◌, ℕ, ◌^◌, List, [], ◌∷◌, true, false, Some, None, Result, Ok, Err, refl}
use Rattle.wasm_types.specs.declared.val_type.ValType.TheVariants.{I32}
use Rattle.walrus_ir.specs.declared.val_type.InstrSeqType.{InstrSeqType}
use Rattle.walrus_ir.specs.declared.val_type.InstrSeqType.TheVariants.{Simple, MultiValue}
use Rattle.walrus_ir.specs.Tree.{no_items, item, Sequences, no_sequences, sequence}
use Rattle.walrus_ir.specs.Locations.{default_location}
use Rattle.wasm_operators.specs.declared.types.BlockType.TheVariants.{Empty, Value, FuncType}
use Rattle.wasm_operators.specs.declared.types.Space.TheVariants.{Types, Funcs, Tags}
use Rattle.wasm_operators.specs.Operations.{RawOperation}
use Rattle.wasm_body.specs.declared.error.EmitError.{EmitError}
use Rattle.wasm_body.specs.declared.error.EmitError.TheVariants.{Index, UnnumberedLocal, BranchOutside, BadClauses, TooLarge}
use Rattle.wasm_body.specs.declared.error.IndexError.TheVariants.{Unnumbered}
use Rattle.wasm_body.specs.Translation.{Located, at_location}
use Rattle.wasm_body.specs.FunctionTree.{Depth, Outside, TreeOperation, Head, LegacyClause, handles, handles_all, delegates, Instruction, FunctionTree}
use Rattle.wasm_body.specs.NormalForm.{head}
use Rattle.wasm_body.specs.FlatText.{are_lawful, exponent_of}
use Rattle.wasm_body.specs.Bytes.{Numbers, numbered_text}
use Rattle.wasm_body.proofs.Examples.Operators.{block, if, else, try, catch, rethrow, end, br, br_table, call, local_get, struct_get, try_table, catches}
use Rattle.wasm_body.proofs.Examples.Modules.{demo_numbers}

-- ---- the clauses of a `try`

abbrev first : LegacyClause
first = handles 0

lawful_none : are_lawful [] ≡ true
lawful_none = refl

lawful_handlers : are_lawful (first ∷ first ∷ []) ≡ true
lawful_handlers = refl

lawful_with_all : are_lawful (first ∷ first ∷ handles_all ∷ []) ≡ true
lawful_with_all = refl

lawful_all : are_lawful (handles_all ∷ []) ≡ true
lawful_all = refl

lawful_delegate : are_lawful (delegates 0 ∷ []) ≡ true
lawful_delegate = refl

handler_after_all : are_lawful (handles_all ∷ first ∷ []) ≡ false
handler_after_all = refl

two_of_all : are_lawful (handles_all ∷ handles_all ∷ []) ≡ false
two_of_all = refl

two_of_all_after : are_lawful (first ∷ handles_all ∷ handles_all ∷ []) ≡ false
two_of_all_after = refl

delegate_after_handler : are_lawful (first ∷ delegates 0 ∷ []) ≡ false
delegate_after_handler = refl

delegate_after_all : are_lawful (handles_all ∷ delegates 0 ∷ []) ≡ false
delegate_after_all = refl

handler_after_delegate : are_lawful (delegates 0 ∷ first ∷ []) ≡ false
handler_after_delegate = refl

all_after_delegate : are_lawful (delegates 0 ∷ handles_all ∷ []) ≡ false
all_after_delegate = refl

two_delegates : are_lawful (delegates 0 ∷ delegates 0 ∷ []) ≡ false
two_delegates = refl

-- ---- exponents: of the greatest power of two that is at most the alignment

exponent_of_six : exponent_of 6 ≡ 2
exponent_of_six = refl

exponent_of_eight : exponent_of 8 ≡ 3
exponent_of_eight = refl

exponent_of_one : exponent_of 1 ≡ 0
exponent_of_one = refl

exponent_of_none : exponent_of 0 ≡ 0
exponent_of_none = refl

-- ---- trees that are written, and trees that can't be written

-- a tree of one instruction, with these sequences in it
abbrev of_one : TreeOperation → List LegacyClause → Sequences Head Instruction → FunctionTree
of_one o cs ss = record { head = head (MultiValue 4) 0; items = item (record { op = o; clauses = cs; location = 0 }) ss no_items }

-- one more empty sequence of this type before others
abbrev empty_sequence : InstrSeqType → Sequences Head Instruction → Sequences Head Instruction
empty_sequence type others = sequence (head type 0) no_items others

abbrev two_sequences : Sequences Head Instruction
two_sequences = empty_sequence (Simple None) (empty_sequence (Simple None) no_sequences)

-- no id has a number
abbrev no_numbers : Numbers
no_numbers = record { number_of = λ space id. Err (Index (Unnumbered space)); local_number = λ id. Err UnnumberedLocal; balanced = λ t. false }

abbrev writes : Numbers → FunctionTree → Result (List (Located RawOperation)) EmitError
writes to t = numbered_text to t

-- an empty block of type 3 keeps it, although type 1 is its like; the type of the entry isn't written
own_type : writes demo_numbers (of_one (block tt) [] (empty_sequence (MultiValue 3) no_sequences))
    ≡ Ok (at_location (block (FuncType 3)) 0 ∷ at_location end 0 ∷ at_location end 0 ∷ [])
own_type = refl

-- an empty `if` of a type that has no parameters and no results, or of a function type or an entry type without both, is short;
-- the type of its consequent decides
short_if : writes demo_numbers (of_one (if tt) [] two_sequences) ≡ Ok (at_location (if Empty) 0 ∷ at_location end 0 ∷ at_location end 0 ∷ [])
short_if = refl

short_if_of_function_type : writes demo_numbers (of_one (if tt) [] (empty_sequence (MultiValue 0) (empty_sequence (Simple (Some I32)) no_sequences)))
    ≡ Ok (at_location (if (FuncType 0)) 0 ∷ at_location end 0 ∷ at_location end 0 ∷ [])
short_if_of_function_type = refl

short_if_of_entry_type : writes demo_numbers (of_one (if tt) [] (empty_sequence (MultiValue 4) (empty_sequence (MultiValue 4) no_sequences)))
    ≡ Ok (at_location (if (FuncType 4)) 0 ∷ at_location end 0 ∷ at_location end 0 ∷ [])
short_if_of_entry_type = refl

-- but not one with a result, with a parameter, or of a type that the module doesn't have
long_if_with_result : writes demo_numbers (of_one (if tt) [] (empty_sequence (Simple (Some I32)) (empty_sequence (Simple None) no_sequences)))
    ≡ Ok (at_location (if (Value I32)) 0 ∷ at_location else 0 ∷ at_location end 0 ∷ at_location end 0 ∷ [])
long_if_with_result = refl

long_if_with_parameter : writes demo_numbers (of_one (if tt) [] (empty_sequence (MultiValue 1) (empty_sequence (MultiValue 1) no_sequences)))
    ≡ Ok (at_location (if (FuncType 1)) 0 ∷ at_location else 0 ∷ at_location end 0 ∷ at_location end 0 ∷ [])
long_if_with_parameter = refl

long_if_of_no_type : writes demo_numbers (of_one (if tt) [] (empty_sequence (MultiValue 9) (empty_sequence (MultiValue 9) no_sequences)))
    ≡ Ok (at_location (if (FuncType 9)) 0 ∷ at_location else 0 ∷ at_location end 0 ∷ at_location end 0 ∷ [])
long_if_of_no_type = refl

-- the `end` of a short one has the location of the alternative's end, and that of the consequent's only if that is the default
abbrev ends_at : ℕ → ℕ → Sequences Head Instruction
ends_at l m = sequence (head (Simple None) l) no_items (sequence (head (Simple None) m) no_items no_sequences)

end_of_alternative : writes demo_numbers (of_one (if tt) [] (ends_at 5 6)) ≡ Ok (at_location (if Empty) 0 ∷ at_location end 6 ∷ at_location end 0 ∷ [])
end_of_alternative = refl

end_of_consequent : writes demo_numbers (of_one (if tt) [] (ends_at 5 default_location)) ≡ Ok (at_location (if Empty) 0 ∷ at_location end 5 ∷ at_location end 0 ∷ [])
end_of_consequent = refl

two_handlers : writes demo_numbers (of_one (try tt) (first ∷ []) two_sequences)
    ≡ Ok (at_location (try Empty) 0 ∷ at_location (catch 0) 0 ∷ at_location end 0 ∷ at_location end 0 ∷ [])
two_handlers = refl

bad_clauses : writes demo_numbers (of_one (try tt) (handles_all ∷ first ∷ []) two_sequences) ≡ Err BadClauses
bad_clauses = refl

bad_delegate : writes demo_numbers (of_one (try tt) (first ∷ delegates 0 ∷ []) two_sequences) ≡ Err BadClauses
bad_delegate = refl

delegate_first : writes demo_numbers (of_one (try tt) (delegates 0 ∷ handles_all ∷ []) two_sequences) ≡ Err BadClauses
delegate_first = refl

-- also if the type of the `try` has no number
bad_clauses_first : writes no_numbers (of_one (try tt) (handles_all ∷ handles_all ∷ []) (empty_sequence (MultiValue 3) two_sequences)) ≡ Err BadClauses
bad_clauses_first = refl

branch_outside : writes demo_numbers (of_one (br Outside) [] no_sequences) ≡ Err BranchOutside
branch_outside = refl

second_target_outside : writes demo_numbers (of_one (br_table (Depth 0 ∷ Outside ∷ []) (Depth 0)) [] no_sequences) ≡ Err BranchOutside
second_target_outside = refl

default_outside : writes demo_numbers (of_one (br_table (Depth 0 ∷ []) Outside) [] no_sequences) ≡ Err BranchOutside
default_outside = refl

depth_too_large : writes demo_numbers (of_one (br (Depth (2 ^ 32))) [] no_sequences) ≡ Err TooLarge
depth_too_large = refl

greatest_depth : writes demo_numbers (of_one (br (Depth 4294967295)) [] no_sequences) ≡ Ok (at_location (br 4294967295) 0 ∷ at_location end 0 ∷ [])
greatest_depth = refl

-- so does every other depth, and every number, field and length
abbrev too_large : ℕ
too_large = 2 ^ 32

rethrow_too_large : writes demo_numbers (of_one (rethrow too_large) [] no_sequences) ≡ Err TooLarge
rethrow_too_large = refl

delegate_too_large : writes demo_numbers (of_one (try tt) (delegates too_large ∷ []) (empty_sequence (Simple None) no_sequences)) ≡ Err TooLarge
delegate_too_large = refl

number_too_large : writes demo_numbers (of_one (call too_large) [] no_sequences) ≡ Err TooLarge
number_too_large = refl

local_too_large : writes demo_numbers (of_one (local_get too_large) [] no_sequences) ≡ Err TooLarge
local_too_large = refl

type_too_large : writes demo_numbers (of_one (block tt) [] (empty_sequence (MultiValue too_large) no_sequences)) ≡ Err TooLarge
type_too_large = refl

tag_too_large : writes demo_numbers (of_one (try tt) (handles too_large ∷ []) two_sequences) ≡ Err TooLarge
tag_too_large = refl

field_too_large : writes demo_numbers (of_one (struct_get 0 too_large) [] no_sequences) ≡ Err TooLarge
field_too_large = refl

greatest_number : writes demo_numbers (of_one (call 4294967295) [] no_sequences) ≡ Ok (at_location (call 4294967295) 0 ∷ at_location end 0 ∷ [])
greatest_number = refl

unnumbered : writes no_numbers (of_one (call 0) [] no_sequences) ≡ Err (Index (Unnumbered Funcs))
unnumbered = refl

unnumbered_local : writes no_numbers (of_one (local_get 0) [] no_sequences) ≡ Err UnnumberedLocal
unnumbered_local = refl

-- in one operator the type, then the tag and the target of a clause; then the sequences in it, and their closers
type_before_tag : writes no_numbers (of_one (try_table tt (catches 0 Outside ∷ [])) [] (empty_sequence (MultiValue 3) no_sequences)) ≡ Err (Index (Unnumbered Types))
type_before_tag = refl

tag_before_target : writes no_numbers (of_one (try_table tt (catches 0 Outside ∷ [])) [] (empty_sequence (Simple None) no_sequences)) ≡ Err (Index (Unnumbered Tags))
tag_before_target = refl

inside_before_closer :
    writes no_numbers
    (of_one (try tt) (first ∷ []) (sequence (head (Simple None) 0) (item (record { op = call 0; clauses = []; location = 0 }) no_sequences no_items) (empty_sequence (Simple None) no_sequences)))
    ≡ Err (Index (Unnumbered Funcs))
inside_before_closer = refl

closer_of_tag : writes no_numbers (of_one (try tt) (first ∷ []) two_sequences) ≡ Err (Index (Unnumbered Tags))
closer_of_tag = refl
