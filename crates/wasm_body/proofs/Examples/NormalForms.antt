-- Normal forms: their trees, and the operators that are written for them.
use Rattle.std.specs.Prelude.{◌≡◌, ℕ, List, [], ◌∷◌, Some, None, refl}
use Rattle.walrus_ir.specs.declared.val_type.InstrSeqType.TheVariants.{Simple, MultiValue}
use Rattle.wasm_types.specs.declared.val_type.ValType.TheVariants.{I32}
use Rattle.walrus_ir.specs.Tree.{Items, no_items, item, Sequences, no_sequences, sequence, alone as all_of}
use Rattle.walrus_ir.specs.Locations.{default_location}
use Rattle.wasm_operators.specs.declared.types.BlockType.TheVariants.{Empty, Value, FuncType}
use Rattle.wasm_operators.specs.declared.types.Opcode.TheVariants.{Byte}
use Rattle.wasm_operators.specs.Operations.{access, Operation, operation, RawOperation}
use Rattle.wasm_body.specs.Translation.{at_location}
use Rattle.wasm_body.specs.FunctionTree.{Depth, TreeOperation, Head, LegacyClause, handles, handles_all, delegates, Instruction, FunctionTree, bare_sequences, IsSameTree}
use Rattle.wasm_body.specs.NormalForm.{head}
use Rattle.wasm_body.proofs.Examples.Operators.{unreachable, nop, block, loop, if, else, try, catch, throw, rethrow, throw_ref, end, br, br_if, br_table, return, call, call_indirect, call_ref, return_call, return_call_indirect, return_call_ref, delegate, catch_all, drop, try_table, local_get, const, catches, catches_ref, catches_all, catches_all_ref}
use Rattle.wasm_body.proofs.Examples.Modules.{nothing, number, demo, demo_numbers, numbers_of_locals, odd, odd_numbers}
use Rattle.wasm_body.proofs.Examples.Rows.{Computed, Is, tree, tree_or_empty, text, written_operators}

-- ---- trees

abbrev an_item : TreeOperation → List LegacyClause → (location : ℕ) → Sequences Head Instruction → Items Head Instruction → Items Head Instruction
an_item o cs l ss rest = item (record { op = o; clauses = cs; location = l }) ss rest

-- an operator by itself
abbrev alone : TreeOperation → (location : ℕ) → Items Head Instruction → Items Head Instruction
alone o l rest = an_item o [] l no_sequences rest

-- over the module of the worked rows, where the entry has type 4
abbrev of_demo : (end : ℕ) → Items Head Instruction → Computed FunctionTree
of_demo l is = Is (record { head = head (MultiValue 4) l; items = is })

-- 41 01 04 40 00 05 01 0b 0b: the consequent ends at the `else`, the alternative at the `end`
ends_of_if : tree demo (const 1 ∷ if Empty ∷ unreachable ∷ else ∷ nop ∷ end ∷ end ∷ [])
    ≡ of_demo 6
    (alone (const 1) 0
    (an_item (if tt) [] 1
    (sequence (head (Simple None) 3) (alone unreachable 2 no_items) (sequence (head (Simple None) 5) no_items no_sequences))
    no_items))
ends_of_if = refl

-- 41 01 04 40 00 0b 0b: an `if` without `else` gets an alternative, whose end has the default location
ends_of_if_alone : tree demo (const 1 ∷ if Empty ∷ unreachable ∷ end ∷ end ∷ [])
    ≡ of_demo 4
    (alone (const 1) 0
    (an_item (if tt) [] 1
    (sequence (head (Simple None) 3) (alone unreachable 2 no_items) (sequence (head (Simple None) default_location) no_items no_sequences))
    no_items))
ends_of_if_alone = refl

-- 02 01 41 05 0f 0b 00 0b: a block whose inside is unreachable, and the operators after it
ends_of_block : tree demo (const 1 ∷ block (FuncType 1) ∷ drop ∷ return ∷ drop ∷ end ∷ unreachable ∷ end ∷ [])
    ≡ of_demo 7
    (alone (const 1) 0
    (an_item (block tt) [] 1 (sequence (head (MultiValue 1) 5) (alone drop 2 (alone return 3 no_items)) no_sequences)
    (alone unreachable 6 no_items)))
ends_of_block = refl

-- 06 40 41 05 08 01 07 01 1a 19 0b 0b: the handler of a tag takes its parameters; each sequence ends where the next clause
-- begins
ends_of_try : tree demo (try Empty ∷ const 5 ∷ throw 1 ∷ catch 1 ∷ drop ∷ catch_all ∷ end ∷ end ∷ [])
    ≡ of_demo 7
    (an_item (try tt) (handles 1 ∷ handles_all ∷ []) 0
    (sequence (head (Simple None) 3) (alone (const 5) 1 (alone (throw 1) 2 no_items))
    (sequence (head (MultiValue 1) 5) (alone drop 4 no_items) (sequence (head (Simple None) 6) no_items no_sequences)))
    no_items)
ends_of_try = refl

-- a handler has the results of its `try`: the first takes and gives a number, the second only gives one
results_of_handlers : tree odd (try (Value I32) ∷ const 5 ∷ catch 1 ∷ catch_all ∷ const 7 ∷ end ∷ drop ∷ end ∷ [])
    ≡ Is (record {
      head = head (MultiValue 4) 7;
      items =
          an_item (try tt) (handles 0 ∷ handles_all ∷ []) 0
          (sequence (head (Simple (Some I32)) 2) (alone (const 5) 1 no_items)
          (sequence (head (MultiValue 2) 3) no_items (sequence (head (Simple (Some I32)) 5) (alone (const 7) 4 no_items) no_sequences)))
          (alone drop 6 no_items);
    })
results_of_handlers = refl

-- 06 40 10 00 18 00 0b: the end of a body that `delegate` closes has the default location
ends_of_delegate : tree demo (try Empty ∷ call 0 ∷ delegate 0 ∷ end ∷ [])
    ≡ of_demo 3
    (an_item (try tt) (delegates 0 ∷ []) 0 (sequence (head (Simple None) default_location) (alone (call 0) 1 no_items) no_sequences) no_items)
ends_of_delegate = refl

-- 06 40 0b 0b: a `try` without clauses
ends_of_try_alone : tree demo (try Empty ∷ end ∷ end ∷ [])
    ≡ of_demo 2 (an_item (try tt) [] 0 (sequence (head (Simple None) 1) no_items no_sequences) no_items)
ends_of_try_alone = refl

-- 02 40 0c 01 0b 0b: a depth is a target; clauses keep theirs, from outside
targets : tree demo (block Empty ∷ try_table Empty (catches 1 0 ∷ catches_ref 0 1 ∷ catches_all 0 ∷ catches_all_ref 1 ∷ []) ∷ br_if 2 ∷ end ∷ end ∷ end ∷ [])
    ≡ of_demo 5
    (an_item (block tt) [] 0
    (sequence (head (Simple None) 4)
    (an_item (try_table tt (catches 1 (Depth 0) ∷ catches_ref 0 (Depth 1) ∷ catches_all (Depth 0) ∷ catches_all_ref (Depth 1) ∷ [])) [] 1
    (sequence (head (Simple None) 3) (alone (br_if (Depth 2)) 2 no_items) no_sequences)
    no_items)
    no_sequences)
    no_items)
targets = refl

-- a load, whose alignment is an exponent or a number of bytes
abbrev load : {L B : Type 0} → (alignment : ℕ) → Operation L B
load alignment = operation (Byte 0x28) (access (record { alignment = alignment; memory = 0; offset = 4 }) ∷ [])

-- 41 00 28 02 04 1a 0b
alignments : tree demo (const 0 ∷ load 2 ∷ drop ∷ end ∷ []) ≡ of_demo 3 (alone (const 0) 0 (alone (load 4) 1 (alone drop 2 no_items)))
alignments = refl

-- ---- the same tree: equal apart from locations

-- an `if` alone, and the same with an empty `else`
same_but_for_ends : IsSameTree (tree_or_empty (tree demo (if Empty ∷ unreachable ∷ end ∷ end ∷ []))) (tree_or_empty (tree demo (if Empty ∷ unreachable ∷ else ∷ end ∷ end ∷ [])))
same_but_for_ends = refl

-- 41 07 06 40 07 00 0b 0b: operators, clauses and types are compared
without_locations : bare_sequences (all_of (tree_or_empty (tree demo (const 7 ∷ try Empty ∷ catch 0 ∷ end ∷ end ∷ []))))
    ≡ sequence (MultiValue 4)
    (item (const 7, []) no_sequences
    (item (try tt, handles 0 ∷ []) (sequence (Simple None) no_items (sequence (Simple None) no_items no_sequences)) no_items))
    no_sequences
without_locations = refl

-- ---- texts, with the locations

-- 41 07 04 40 0b 0b, 41 07 04 40 05 0b 0b and 41 07 04 40 05 01 0b 0b: the `end` has the location of the source's `end`
no_else : text demo (const 7 ∷ if Empty ∷ end ∷ end ∷ [])
    ≡ Is (at_location (const 7) 0 ∷ at_location (if nothing) 1 ∷ at_location end 2 ∷ at_location end 3 ∷ [])
no_else = refl

empty_else : text demo (const 7 ∷ if Empty ∷ else ∷ end ∷ end ∷ [])
    ≡ Is (at_location (const 7) 0 ∷ at_location (if nothing) 1 ∷ at_location end 3 ∷ at_location end 4 ∷ [])
empty_else = refl

else_of_nop : text demo (const 7 ∷ if Empty ∷ else ∷ nop ∷ end ∷ end ∷ [])
    ≡ Is (at_location (const 7) 0 ∷ at_location (if nothing) 1 ∷ at_location end 4 ∷ at_location end 5 ∷ [])
else_of_nop = refl

-- 41 07 04 40 05 00 0b 0b
full_else : text demo (const 7 ∷ if Empty ∷ else ∷ unreachable ∷ end ∷ end ∷ [])
    ≡ Is (at_location (const 7) 0 ∷ at_location (if nothing) 1 ∷ at_location else 2 ∷ at_location unreachable 3 ∷ at_location end 4 ∷ at_location end 5 ∷ [])
full_else = refl

-- 41 07 04 7f 41 02 0b 1a 0b: the added `else` has the location of the source's `end`, and its `end` the default location
added_else : text demo (const 7 ∷ if (Value I32) ∷ const 2 ∷ end ∷ drop ∷ end ∷ [])
    ≡ Is (at_location (const 7) 0 ∷ at_location (if number) 1 ∷ at_location (const 2) 2 ∷ at_location else 3 ∷ at_location end default_location
    ∷ at_location drop 4 ∷ at_location end 5 ∷ [])
added_else = refl

-- 06 40 18 00 0b: the `delegate` has the default location
moved_delegate : text demo (try Empty ∷ delegate 0 ∷ end ∷ [])
    ≡ Is (at_location (try nothing) 0 ∷ at_location (delegate 0) default_location ∷ at_location end 2 ∷ [])
moved_delegate = refl

-- 06 40 08 00 01 41 07 07 00 19 0b 0b
kept_locations : text demo (try Empty ∷ throw 0 ∷ nop ∷ const 7 ∷ catch 0 ∷ catch_all ∷ end ∷ end ∷ [])
    ≡ Is (at_location (try nothing) 0 ∷ at_location (throw 0) 1 ∷ at_location (catch 0) 4 ∷ at_location catch_all 5 ∷ at_location end 6 ∷ at_location end 7 ∷ [])
kept_locations = refl

-- ---- the operators that are written

abbrev IsWrittenAs : List RawOperation → List RawOperation → Type 0
IsWrittenAs source target = written_operators demo demo_numbers source ≡ Is target

-- The operators are written as they are.
abbrev IsKept : List RawOperation → Type 0
IsKept os = IsWrittenAs os os

-- the rest of the sequence after this operator is dropped
abbrev DropsAfter : RawOperation → Type 0
DropsAfter o = IsWrittenAs (block Empty ∷ o ∷ const 7 ∷ drop ∷ end ∷ const 5 ∷ drop ∷ end ∷ []) (block Empty ∷ o ∷ end ∷ const 5 ∷ drop ∷ end ∷ [])

-- 01 0b
dropped_nop : IsWrittenAs (nop ∷ end ∷ []) (end ∷ [])
dropped_nop = refl

-- the operators that cut: 0f, 00, 0c, 0e, 08, 0a, and 09 in a handler
after_return : DropsAfter return
after_return = refl

after_unreachable : DropsAfter unreachable
after_unreachable = refl

after_br : DropsAfter (br 0)
after_br = refl

after_br_table : DropsAfter (br_table (0 ∷ []) 1)
after_br_table = refl

after_throw : DropsAfter (throw 0)
after_throw = refl

after_throw_ref : DropsAfter throw_ref
after_throw_ref = refl

after_rethrow : IsWrittenAs (try Empty ∷ catch_all ∷ rethrow 0 ∷ const 7 ∷ end ∷ const 5 ∷ end ∷ []) (try Empty ∷ catch_all ∷ rethrow 0 ∷ end ∷ const 5 ∷ end ∷ [])
after_rethrow = refl

-- 12 00 41 07 1a 0b, and the other tail calls and branches that go on
after_return_call : IsKept (return_call 0 ∷ const 7 ∷ drop ∷ end ∷ [])
after_return_call = refl

after_return_call_indirect : IsKept (return_call_indirect 0 0 ∷ const 7 ∷ drop ∷ end ∷ [])
after_return_call_indirect = refl

after_return_call_ref : IsKept (return_call_ref 0 ∷ const 7 ∷ drop ∷ end ∷ [])
after_return_call_ref = refl

after_calls : IsKept (call 0 ∷ call_indirect 0 0 ∷ call_ref 0 ∷ const 7 ∷ drop ∷ end ∷ [])
after_calls = refl

after_br_if : IsKept (br_if 0 ∷ const 7 ∷ drop ∷ end ∷ [])
after_br_if = refl

-- 0c 00 02 40 01 0b 0b: a block that is dropped
dropped_block : IsWrittenAs (br 0 ∷ block Empty ∷ nop ∷ end ∷ end ∷ []) (br 0 ∷ end ∷ [])
dropped_block = refl

-- 0f 04 40 05 0b 0b and 0f 06 40 18 00 0b
dropped_if : IsWrittenAs (return ∷ if Empty ∷ else ∷ end ∷ end ∷ []) (return ∷ end ∷ [])
dropped_if = refl

dropped_try : IsWrittenAs (return ∷ try Empty ∷ delegate 0 ∷ end ∷ []) (return ∷ end ∷ [])
dropped_try = refl

-- 02 40 02 40 0c 01 0b 41 05 1a 0b 0b: the operators after a block whose inside is unreachable
after_unreachable_block : IsKept (block Empty ∷ block Empty ∷ br 1 ∷ end ∷ const 5 ∷ drop ∷ end ∷ end ∷ [])
after_unreachable_block = refl

-- each sequence by itself: an unreachable consequent, alternative, body and handler
after_unreachable_sequences :
    IsKept
    (if Empty ∷ return ∷ else ∷ return ∷ end ∷ try Empty ∷ return ∷ catch 0 ∷ return ∷ catch_all ∷ return ∷ end ∷ loop Empty ∷ return ∷ end
    ∷ const 5 ∷ drop ∷ end ∷ [])
after_unreachable_sequences = refl

-- 41 01 04 40 0b 0b, 41 01 04 40 05 0b 0b, 41 01 04 40 05 01 0b 0b and 41 01 04 40 05 00 0b 0b
kept_if : IsKept (const 1 ∷ if Empty ∷ end ∷ end ∷ [])
kept_if = refl

omitted_else : IsWrittenAs (const 1 ∷ if Empty ∷ else ∷ end ∷ end ∷ []) (const 1 ∷ if Empty ∷ end ∷ end ∷ [])
omitted_else = refl

omitted_nop : IsWrittenAs (const 1 ∷ if Empty ∷ else ∷ nop ∷ end ∷ end ∷ []) (const 1 ∷ if Empty ∷ end ∷ end ∷ [])
omitted_nop = refl

kept_else : IsKept (const 1 ∷ if Empty ∷ else ∷ unreachable ∷ end ∷ end ∷ [])
kept_else = refl

-- 41 01 04 7f 41 02 0b 1a 0b
written_else : IsWrittenAs (const 1 ∷ if (Value I32) ∷ const 2 ∷ end ∷ drop ∷ end ∷ []) (const 1 ∷ if (Value I32) ∷ const 2 ∷ else ∷ end ∷ drop ∷ end ∷ [])
written_else = refl

-- an `if` inside, whose `else` is left out in turn
omitted_inside : IsWrittenAs (if Empty ∷ else ∷ if Empty ∷ else ∷ end ∷ end ∷ end ∷ []) (if Empty ∷ else ∷ if Empty ∷ end ∷ end ∷ end ∷ [])
omitted_inside = refl

-- 04 00 0b and 04 00 05 0b, with a type that has a number as parameter and as result; and 04 01 1a 0b, with only a parameter
kept_if_with_number : written_operators odd odd_numbers (if (FuncType 0) ∷ end ∷ end ∷ []) ≡ Is (if (FuncType 2) ∷ end ∷ end ∷ [])
kept_if_with_number = refl

omitted_with_number : written_operators odd odd_numbers (if (FuncType 0) ∷ drop ∷ const 3 ∷ else ∷ end ∷ end ∷ []) ≡ Is (if (FuncType 2) ∷ drop ∷ const 3 ∷ end ∷ end ∷ [])
omitted_with_number = refl

written_else_for_parameter : written_operators odd odd_numbers (if (FuncType 1) ∷ drop ∷ end ∷ end ∷ []) ≡ Is (if (FuncType 1) ∷ drop ∷ else ∷ end ∷ end ∷ [])
written_else_for_parameter = refl

-- 41 01 02 03 1a 0b 0b: the first function type with these lists; it was the fourth
picked_type : IsWrittenAs (const 1 ∷ block (FuncType 3) ∷ drop ∷ end ∷ end ∷ []) (const 1 ∷ block (FuncType 1) ∷ drop ∷ end ∷ end ∷ [])
picked_type = refl

-- 02 00 0b 0b: a type that takes and gives nothing is written as none
no_type : IsWrittenAs (block (FuncType 0) ∷ end ∷ end ∷ []) (block Empty ∷ end ∷ end ∷ [])
no_type = refl

-- an entry type isn't picked
not_an_entry_type : written_operators odd odd_numbers (block (FuncType 3) ∷ end ∷ end ∷ []) ≡ Is (block (FuncType 3) ∷ end ∷ end ∷ [])
not_an_entry_type = refl

-- 06 40 41 05 08 01 07 01 1a 19 0b 0b, 06 40 07 00 19 0b 0b and 06 40 18 00 0b
kept_try : IsKept (try Empty ∷ const 5 ∷ throw 1 ∷ catch 1 ∷ drop ∷ catch_all ∷ end ∷ end ∷ [])
kept_try = refl

kept_empty_try : IsKept (try Empty ∷ catch 0 ∷ catch_all ∷ end ∷ end ∷ [])
kept_empty_try = refl

kept_delegate : IsKept (try Empty ∷ delegate 0 ∷ end ∷ [])
kept_delegate = refl

-- 06 40 08 00 01 41 07 07 00 19 0b 0b
unreachable_after_try : IsWrittenAs (try Empty ∷ throw 0 ∷ nop ∷ const 7 ∷ catch 0 ∷ catch_all ∷ end ∷ end ∷ []) (try Empty ∷ throw 0 ∷ catch 0 ∷ catch_all ∷ end ∷ end ∷ [])
unreachable_after_try = refl

-- 02 40 1f 40 01 02 00 0b 0b 0b and 1f 40 01 02 00 0b 0b
kept_table : IsKept (block Empty ∷ try_table Empty (catches_all 0 ∷ []) ∷ end ∷ end ∷ end ∷ [])
kept_table = refl

kept_table_alone : IsKept (try_table Empty (catches_all 0 ∷ []) ∷ end ∷ end ∷ [])
kept_table_alone = refl

-- 41 00 28 02 04 1a 0b
kept_load : IsKept (const 0 ∷ load 2 ∷ drop ∷ end ∷ [])
kept_load = refl

-- 10 01 20 01 0b, with old indices that differ from ids: the numbers are those of the ids
by_numbers : written_operators odd odd_numbers (call 1 ∷ local_get 1 ∷ drop ∷ end ∷ []) ≡ Is (call 3 ∷ local_get 5 ∷ drop ∷ end ∷ [])
by_numbers = refl

-- 20 01 1a 20 03 1a 0b, where the third local has number 2
by_local_numbers : written_operators demo numbers_of_locals (local_get 1 ∷ drop ∷ local_get 3 ∷ drop ∷ end ∷ [])
    ≡ Is (local_get 1 ∷ drop ∷ local_get 2 ∷ drop ∷ end ∷ [])
by_local_numbers = refl
