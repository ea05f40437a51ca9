-- Worked runs: an event names its operator by the number in the list.
use Rattle.std.specs.Prelude.{◌≡◌, ℕ, List, [], ◌∷◌, true, false, Some, None, refl}
use Rattle.wasm_types.specs.declared.val_type.AbstractHeapType.TheVariants.{Any, Eq}
use Rattle.wasm_types.specs.declared.val_type.HeapType.TheVariants.{Abstract}
use Rattle.wasm_operators.specs.declared.types.BlockType.TheVariants.{Empty}
use Rattle.wasm_operators.specs.Operations.{RawOperation}
use Rattle.wasm_body.specs.Machine.{Outcome, Go, Trap, Raise, Way, Entry, Event, Executed, Taken, Returned, TailCalled, Trapped, Escaped, OutcomesOut, TurnsOut, Mismatch, Run}
use Rattle.wasm_body.proofs.Examples.Operators.{unreachable, nop, block, loop, if, else, try, catch, throw, rethrow, throw_ref, end, br, br_if, br_table, return, call, call_indirect, call_ref, return_call, return_call_indirect, return_call_ref, delegate, catch_all, drop, try_table, const, br_on_null, br_on_non_null, br_on_cast, br_on_cast_fail, catches, catches_ref, catches_all}
use Rattle.wasm_body.proofs.Examples.Modules.{demo}
use Rattle.wasm_body.proofs.Examples.Rows.{Computed, trace, a_run}

-- over the module of the worked rows
abbrev runs : List RawOperation → List Outcome → (turns : ℕ) → Computed (Run ℕ)
runs os outcomes turns = trace demo os outcomes turns

-- these operators are executed, and no exception is caught
abbrev executions : List ℕ → List (Event ℕ)
executions [] = []
executions (i ∷ is) = Executed i ∷ executions is

-- an exception with tag 0
abbrev raise_0 : Outcome
raise_0 = Raise (0 ∷ [])

-- ---- blocks and branches

-- 02 40 0c 00 41 07 1a 0b 41 05 1a 0b: a branch out of a block skips the operators after it in the block
out_of_block : runs (block Empty ∷ br 0 ∷ const 7 ∷ drop ∷ end ∷ const 5 ∷ drop ∷ end ∷ []) (Go ∷ Go ∷ []) 0
    ≡ a_run (executions (0 ∷ 1 ∷ 5 ∷ 6 ∷ [])) Returned
out_of_block = refl

-- 02 40 02 40 0c 01 0b 41 05 1a 0b 0b: one out of the block around it
out_of_outer_block : runs (block Empty ∷ block Empty ∷ br 1 ∷ end ∷ const 5 ∷ drop ∷ end ∷ end ∷ []) [] 0
    ≡ a_run (executions (0 ∷ 1 ∷ 2 ∷ [])) Returned
out_of_outer_block = refl

-- 02 40 0c 01 0b 41 05 1a 0b: to the function's label
to_function : runs (block Empty ∷ br 1 ∷ end ∷ const 5 ∷ drop ∷ end ∷ []) [] 0 ≡ a_run (executions (0 ∷ 1 ∷ [])) Returned
to_function = refl

-- 02 40 0f 0b 41 05 1a 0b: a return
returned : runs (block Empty ∷ return ∷ end ∷ const 5 ∷ drop ∷ end ∷ []) [] 0 ≡ a_run (executions (0 ∷ 1 ∷ [])) Returned
returned = refl

-- 41 00 04 40 0c 00 05 41 07 1a 0b 41 05 1a 0b: a branch out of a consequent passes over the alternative
out_of_consequent : runs (const 0 ∷ if Empty ∷ br 0 ∷ else ∷ const 7 ∷ drop ∷ end ∷ const 5 ∷ drop ∷ end ∷ []) (Go ∷ Way true ∷ Go ∷ Go ∷ []) 0
    ≡ a_run (executions (0 ∷ 1 ∷ 2 ∷ 7 ∷ 8 ∷ [])) Returned
out_of_consequent = refl

-- a branch by a condition, which is true, in two blocks
abbrev conditional_run : RawOperation → Computed (Run ℕ)
conditional_run o = runs (block Empty ∷ block Empty ∷ o ∷ end ∷ const 7 ∷ end ∷ end ∷ []) (Way true ∷ []) 0

-- it goes to the place after the outer block
abbrev branched_run : Computed (Run ℕ)
branched_run = a_run (executions (0 ∷ 1 ∷ 2 ∷ [])) Returned

-- 0d, d5, d6, fb 18 and fb 19
by_condition : conditional_run (br_if 1) ≡ branched_run
by_condition = refl

on_null : conditional_run (br_on_null 1) ≡ branched_run
on_null = refl

on_non_null : conditional_run (br_on_non_null 1) ≡ branched_run
on_non_null = refl

on_cast : conditional_run (br_on_cast 1 (Abstract Any) (Abstract Eq)) ≡ branched_run
on_cast = refl

on_cast_fail : conditional_run (br_on_cast_fail 1 (Abstract Any) (Abstract Eq)) ≡ branched_run
on_cast_fail = refl

-- the condition is false
not_taken : runs (block Empty ∷ br_if 0 ∷ const 7 ∷ end ∷ end ∷ []) (Way false ∷ Go ∷ []) 0 ≡ a_run (executions (0 ∷ 1 ∷ 2 ∷ [])) Returned
not_taken = refl

-- 02 40 02 40 41 00 0e 01 00 01 0b 41 07 1a 0b 0b
abbrev with_table : List RawOperation
with_table = block Empty ∷ block Empty ∷ const 0 ∷ br_table (0 ∷ []) 1 ∷ end ∷ const 7 ∷ drop ∷ end ∷ end ∷ []

-- the first entry of a branch table
first_entry : runs with_table (Go ∷ Entry 0 ∷ Go ∷ Go ∷ []) 0 ≡ a_run (executions (0 ∷ 1 ∷ 2 ∷ 3 ∷ 5 ∷ 6 ∷ [])) Returned
first_entry = refl

-- an entry that the table doesn't have: the default
default_entry : runs with_table (Go ∷ Entry 9 ∷ []) 0 ≡ a_run (executions (0 ∷ 1 ∷ 2 ∷ 3 ∷ [])) Returned
default_entry = refl

-- the entry just after the last
entry_after : runs with_table (Go ∷ Entry 1 ∷ []) 0 ≡ a_run (executions (0 ∷ 1 ∷ 2 ∷ 3 ∷ [])) Returned
entry_after = refl

-- 02 40 41 00 0e 00 00 0b 41 07 1a 0b: a table without entries
only_default : runs (block Empty ∷ const 0 ∷ br_table [] 0 ∷ end ∷ const 7 ∷ drop ∷ end ∷ []) (Go ∷ Entry 9 ∷ Go ∷ Go ∷ []) 0
    ≡ a_run (executions (0 ∷ 1 ∷ 2 ∷ 4 ∷ 5 ∷ [])) Returned
only_default = refl

-- 41 00 04 40 41 05 1a 05 41 07 1a 0b 0b, and the same without the `else`
abbrev with_else : List RawOperation
with_else = const 0 ∷ if Empty ∷ const 5 ∷ drop ∷ else ∷ const 7 ∷ drop ∷ end ∷ end ∷ []

consequent : runs with_else (Go ∷ Way true ∷ Go ∷ Go ∷ []) 0 ≡ a_run (executions (0 ∷ 1 ∷ 2 ∷ 3 ∷ [])) Returned
consequent = refl

alternative : runs with_else (Go ∷ Way false ∷ Go ∷ Go ∷ []) 0 ≡ a_run (executions (0 ∷ 1 ∷ 5 ∷ 6 ∷ [])) Returned
alternative = refl

no_alternative : runs (const 0 ∷ if Empty ∷ const 5 ∷ drop ∷ end ∷ nop ∷ return ∷ end ∷ []) (Go ∷ Way false ∷ []) 0
    ≡ a_run (executions (0 ∷ 1 ∷ 6 ∷ [])) Returned
no_alternative = refl

-- an `else` that says nothing executes nothing, as no `else` does
empty_alternative : runs (const 0 ∷ if Empty ∷ const 5 ∷ drop ∷ else ∷ nop ∷ nop ∷ end ∷ const 3 ∷ return ∷ end ∷ []) (Go ∷ Way false ∷ Go ∷ []) 0
    ≡ a_run (executions (0 ∷ 1 ∷ 8 ∷ 9 ∷ [])) Returned
empty_alternative = refl

-- after the `end` of such an `if` its label is gone
after_if_alone : runs (block Empty ∷ if Empty ∷ const 5 ∷ end ∷ br 0 ∷ const 7 ∷ end ∷ end ∷ []) (Way false ∷ []) 0 ≡ a_run (executions (0 ∷ 1 ∷ 4 ∷ [])) Returned
after_if_alone = refl

-- an `else` of an `if` inside is passed over
outer_alternative : runs (if Empty ∷ if Empty ∷ else ∷ end ∷ else ∷ const 7 ∷ end ∷ end ∷ []) (Way false ∷ Go ∷ []) 0
    ≡ a_run (executions (0 ∷ 5 ∷ [])) Returned
outer_alternative = refl

-- ---- loops

-- 03 40 41 01 0d 00 0b 0b
abbrev loop_once : List RawOperation
loop_once = loop Empty ∷ const 1 ∷ br_if 0 ∷ end ∷ end ∷ []

-- a loop that is taken once more
loop_taken : runs loop_once (Go ∷ Way true ∷ Go ∷ Way false ∷ []) 1 ≡ a_run (executions (0 ∷ 1 ∷ 2 ∷ 1 ∷ 2 ∷ [])) Returned
loop_taken = refl

-- the same with no turn
loop_without_turn : runs loop_once (Go ∷ Way true ∷ Go ∷ Way false ∷ []) 0 ≡ a_run (executions (0 ∷ 1 ∷ 2 ∷ [])) TurnsOut
loop_without_turn = refl

-- 03 40 41 01 0d 00 41 02 0d 00 0b 0b: two branches to a loop, taken at one turn each
two_branches : runs (loop Empty ∷ const 1 ∷ br_if 0 ∷ const 2 ∷ br_if 0 ∷ end ∷ end ∷ [])
    (Go ∷ Way true ∷ Go ∷ Way true ∷ Go ∷ Way false ∷ Go ∷ Way false ∷ []) 2
    ≡ a_run (executions (0 ∷ 1 ∷ 2 ∷ 1 ∷ 2 ∷ 1 ∷ 2 ∷ 3 ∷ 4 ∷ [])) Returned
two_branches = refl

-- ---- clauses of `try_table`

-- 02 40 1f 40 02 00 01 00 02 00 10 00 0b 0b 0b: a clause for tag 1, and one for all
abbrev two_clauses : List RawOperation
two_clauses = block Empty ∷ try_table Empty (catches 1 0 ∷ catches_all 0 ∷ []) ∷ call 0 ∷ end ∷ end ∷ end ∷ []

second_clause : runs two_clauses (raise_0 ∷ []) 0 ≡ a_run (Executed 0 ∷ Executed 1 ∷ Executed 2 ∷ Taken 1 1 None ∷ []) Returned
second_clause = refl

first_clause : runs two_clauses (Raise (0 ∷ 1 ∷ []) ∷ []) 0 ≡ a_run (Executed 0 ∷ Executed 1 ∷ Executed 2 ∷ Taken 1 0 (Some 1) ∷ []) Returned
first_clause = refl

-- 02 40 1f 40 01 02 00 10 00 0b 0b 0b: a clause branches out of the block
out_of_block_by_clause : runs (block Empty ∷ try_table Empty (catches_all 0 ∷ []) ∷ call 0 ∷ end ∷ end ∷ end ∷ []) (raise_0 ∷ []) 0
    ≡ a_run (Executed 0 ∷ Executed 1 ∷ Executed 2 ∷ Taken 1 0 None ∷ []) Returned
out_of_block_by_clause = refl

-- no clause catches it
not_caught : runs (try_table Empty (catches_ref 1 0 ∷ []) ∷ call 0 ∷ end ∷ end ∷ []) (raise_0 ∷ []) 0
    ≡ a_run (executions (0 ∷ 1 ∷ [])) (Escaped (0 ∷ []))
not_caught = refl

-- 03 40 1f 40 01 02 00 10 00 0b 0b 0b: a clause branches to a loop
abbrev clause_to_loop : List RawOperation
clause_to_loop = loop Empty ∷ try_table Empty (catches_all 0 ∷ []) ∷ call 0 ∷ end ∷ end ∷ end ∷ []

taken_without_turn : runs clause_to_loop (raise_0 ∷ []) 0 ≡ a_run (Executed 0 ∷ Executed 1 ∷ Executed 2 ∷ Taken 1 0 None ∷ []) TurnsOut
taken_without_turn = refl

taken_again : runs clause_to_loop (raise_0 ∷ Go ∷ []) 1
    ≡ a_run (Executed 0 ∷ Executed 1 ∷ Executed 2 ∷ Taken 1 0 None ∷ Executed 1 ∷ Executed 2 ∷ []) Returned
taken_again = refl

-- 02 40 02 40 1f 40 01 02 01 10 00 0b 41 07 1a 0b 41 05 1a 0b 0b: a clause's label counts from outside its construct
clause_to_outer_block :
    runs
    (block Empty ∷ block Empty ∷ try_table Empty (catches_all 1 ∷ []) ∷ call 0 ∷ end ∷ const 7 ∷ drop ∷ end ∷ const 5 ∷ drop ∷ end ∷ end ∷ [])
    (raise_0 ∷ Go ∷ Go ∷ []) 0
    ≡ a_run (Executed 0 ∷ Executed 1 ∷ Executed 2 ∷ Executed 3 ∷ Taken 2 0 None ∷ []) Returned
clause_to_outer_block = refl

-- ---- legacy handlers

-- 06 40 08 00 07 01 19 0b 0b: a handler for tag 1, and one for all
second_handler : runs (try Empty ∷ throw 0 ∷ catch 1 ∷ catch_all ∷ end ∷ end ∷ []) (raise_0 ∷ []) 0
    ≡ a_run (Executed 0 ∷ Executed 1 ∷ Taken 0 1 None ∷ []) Returned
second_handler = refl

-- a body that ends without an exception passes over the handlers
body_alone : runs (try Empty ∷ call 0 ∷ catch 0 ∷ const 7 ∷ catch_all ∷ const 7 ∷ end ∷ return ∷ end ∷ []) (Go ∷ []) 0
    ≡ a_run (executions (0 ∷ 1 ∷ 7 ∷ [])) Returned
body_alone = refl

-- so does a handler that ends
handler_alone : runs (try Empty ∷ throw 0 ∷ catch 0 ∷ const 5 ∷ catch_all ∷ const 7 ∷ end ∷ return ∷ end ∷ []) (raise_0 ∷ Go ∷ []) 0
    ≡ a_run (Executed 0 ∷ Executed 1 ∷ Taken 0 0 (Some 0) ∷ Executed 3 ∷ Executed 7 ∷ []) Returned
handler_alone = refl

-- the handlers of a `try` inside aren't counted
outer_second_handler : runs (try Empty ∷ try Empty ∷ catch 0 ∷ catch_all ∷ end ∷ throw 0 ∷ catch 1 ∷ catch 0 ∷ end ∷ end ∷ []) (raise_0 ∷ []) 0
    ≡ a_run (Executed 0 ∷ Executed 1 ∷ Executed 5 ∷ Taken 0 1 (Some 0) ∷ []) Returned
outer_second_handler = refl

-- the innermost `try` that can catch it does; an exception in its handler goes on outwards
nested_handlers : runs (try Empty ∷ try Empty ∷ throw 0 ∷ catch 0 ∷ throw 1 ∷ catch_all ∷ end ∷ catch_all ∷ const 7 ∷ end ∷ end ∷ [])
    (raise_0 ∷ Raise (1 ∷ []) ∷ Go ∷ []) 0
    ≡ a_run (Executed 0 ∷ Executed 1 ∷ Executed 2 ∷ Taken 1 0 (Some 0) ∷ Executed 4 ∷ Taken 0 0 None ∷ Executed 8 ∷ []) Returned
nested_handlers = refl

-- 06 40 08 00 07 00 09 00 0b 0b: a handler that rethrows; its own `try` doesn't catch that
rethrown : runs (try Empty ∷ throw 0 ∷ catch 0 ∷ rethrow 0 ∷ end ∷ end ∷ []) (raise_0 ∷ []) 0
    ≡ a_run (Executed 0 ∷ Executed 1 ∷ Taken 0 0 (Some 0) ∷ Executed 3 ∷ []) (Escaped (0 ∷ []))
rethrown = refl

-- 06 40 08 00 07 00 06 40 09 01 19 0b 0b 0b: a `try` inside the handler catches the rethrown exception
rethrown_inside : runs (try Empty ∷ throw 0 ∷ catch 0 ∷ try Empty ∷ rethrow 1 ∷ catch_all ∷ end ∷ end ∷ end ∷ []) (raise_0 ∷ []) 0
    ≡ a_run (Executed 0 ∷ Executed 1 ∷ Taken 0 0 (Some 0) ∷ Executed 3 ∷ Executed 4 ∷ Taken 3 0 None ∷ []) Returned
rethrown_inside = refl

-- the tags are those of the handler that is named
rethrown_of_outer : runs (try Empty ∷ throw 0 ∷ catch 0 ∷ try Empty ∷ throw 1 ∷ catch_all ∷ rethrow 1 ∷ end ∷ end ∷ end ∷ [])
    (raise_0 ∷ Raise (1 ∷ []) ∷ []) 0
    ≡ a_run (Executed 0 ∷ Executed 1 ∷ Taken 0 0 (Some 0) ∷ Executed 3 ∷ Executed 4 ∷ Taken 3 0 None ∷ Executed 6 ∷ []) (Escaped (0 ∷ []))
rethrown_of_outer = refl

-- ---- `delegate`

-- 06 40 08 00 18 00 0b: to the function
delegated_out : runs (try Empty ∷ throw 0 ∷ delegate 0 ∷ end ∷ []) (raise_0 ∷ []) 0 ≡ a_run (executions (0 ∷ 1 ∷ [])) (Escaped (0 ∷ []))
delegated_out = refl

-- 06 40 06 40 08 00 18 01 19 0b 0b: past the outer `try`, and to it
abbrev inner_delegates : ℕ → List RawOperation
inner_delegates n = try Empty ∷ try Empty ∷ throw 0 ∷ delegate n ∷ catch_all ∷ end ∷ end ∷ []

delegated_past : runs (inner_delegates 1) (raise_0 ∷ []) 0 ≡ a_run (executions (0 ∷ 1 ∷ 2 ∷ [])) (Escaped (0 ∷ []))
delegated_past = refl

delegated_to : runs (inner_delegates 0) (raise_0 ∷ []) 0 ≡ a_run (Executed 0 ∷ Executed 1 ∷ Executed 2 ∷ Taken 0 0 None ∷ []) Returned
delegated_to = refl

-- to a `try` outside of a block, which passes it on
delegated_outwards : runs (try Empty ∷ block Empty ∷ try Empty ∷ throw 0 ∷ delegate 0 ∷ end ∷ catch_all ∷ end ∷ end ∷ []) (raise_0 ∷ []) 0
    ≡ a_run (Executed 0 ∷ Executed 1 ∷ Executed 2 ∷ Executed 3 ∷ Taken 0 0 None ∷ []) Returned
delegated_outwards = refl

-- 06 40 08 00 07 00 06 40 08 00 18 00 0b 0b: a `try` that is in its handler passes on an exception that is delegated to it
delegated_in_handler : runs (try Empty ∷ throw 0 ∷ catch 0 ∷ try Empty ∷ throw 0 ∷ delegate 0 ∷ end ∷ end ∷ []) (raise_0 ∷ raise_0 ∷ []) 0
    ≡ a_run (Executed 0 ∷ Executed 1 ∷ Taken 0 0 (Some 0) ∷ Executed 3 ∷ Executed 4 ∷ []) (Escaped (0 ∷ []))
delegated_in_handler = refl

-- a body that ends without an exception goes on after the `delegate`
delegate_reached : runs (try Empty ∷ call 0 ∷ delegate 0 ∷ return ∷ end ∷ []) (Go ∷ []) 0 ≡ a_run (executions (0 ∷ 1 ∷ 3 ∷ [])) Returned
delegate_reached = refl

-- ---- outcomes and ends

-- 12 00 0b, and the other tail calls
tail_called : runs (return_call 0 ∷ end ∷ []) (Go ∷ []) 0 ≡ a_run (executions (0 ∷ [])) TailCalled
tail_called = refl

tail_called_indirectly : runs (return_call_indirect 0 0 ∷ end ∷ []) (Go ∷ []) 0 ≡ a_run (executions (0 ∷ [])) TailCalled
tail_called_indirectly = refl

tail_called_by_reference : runs (return_call_ref 0 ∷ end ∷ []) (Go ∷ []) 0 ≡ a_run (executions (0 ∷ [])) TailCalled
tail_called_by_reference = refl

tail_call_raises : runs (return_call 0 ∷ end ∷ []) (raise_0 ∷ []) 0 ≡ a_run [] Mismatch
tail_call_raises = refl

tail_call_traps : runs (return_call 0 ∷ end ∷ []) (Trap ∷ []) 0 ≡ a_run (executions (0 ∷ [])) Trapped
tail_call_traps = refl

-- a call isn't one
called : runs (call 0 ∷ call_indirect 0 0 ∷ call_ref 0 ∷ const 7 ∷ end ∷ []) (Go ∷ Go ∷ Go ∷ Go ∷ []) 0 ≡ a_run (executions (0 ∷ 1 ∷ 2 ∷ 3 ∷ [])) Returned
called = refl

-- 08 00 0b: a `throw` asks for its own tag, among others
throw_of_others : runs (throw 0 ∷ end ∷ []) (Raise (1 ∷ []) ∷ []) 0 ≡ a_run [] Mismatch
throw_of_others = refl

throw_traps : runs (throw 0 ∷ end ∷ []) (Trap ∷ []) 0 ≡ a_run [] Mismatch
throw_traps = refl

thrown : runs (throw 0 ∷ end ∷ []) (Raise (1 ∷ 0 ∷ []) ∷ []) 0 ≡ a_run (executions (0 ∷ [])) (Escaped (1 ∷ 0 ∷ []))
thrown = refl

-- 0a 0b
throw_ref_traps : runs (throw_ref ∷ end ∷ []) (Trap ∷ []) 0 ≡ a_run (executions (0 ∷ [])) Trapped
throw_ref_traps = refl

throw_ref_raises : runs (throw_ref ∷ end ∷ []) (Raise [] ∷ []) 0 ≡ a_run (executions (0 ∷ [])) (Escaped [])
throw_ref_raises = refl

throw_ref_continues : runs (throw_ref ∷ end ∷ []) (Go ∷ []) 0 ≡ a_run [] Mismatch
throw_ref_continues = refl

-- 00 0b
unreached : runs (unreachable ∷ end ∷ []) [] 0 ≡ a_run (executions (0 ∷ [])) Trapped
unreached = refl

-- 41 00 1a 0b: a trap, an outcome of a kind that the operator doesn't ask for, and none
trapped : runs (const 0 ∷ drop ∷ end ∷ []) (Trap ∷ []) 0 ≡ a_run (executions (0 ∷ [])) Trapped
trapped = refl

other_kind : runs (const 0 ∷ drop ∷ end ∷ []) (Way true ∷ []) 0 ≡ a_run [] Mismatch
other_kind = refl

no_outcome : runs (const 0 ∷ drop ∷ end ∷ []) [] 0 ≡ a_run [] OutcomesOut
no_outcome = refl

-- an operator that gets an outcome of a kind that it doesn't ask for gives no event
abbrev Mismatches : RawOperation → Outcome → Type 0
Mismatches o outcome = runs (block Empty ∷ o ∷ end ∷ end ∷ []) (outcome ∷ []) 0 ≡ a_run (executions (0 ∷ [])) Mismatch

plain_mismatch : Mismatches (call 0) (Way true) × Mismatches (call 0) (Way false) × Mismatches (call 0) (Entry 0)
plain_mismatch = (refl, refl, refl)

conditional_branch_mismatch : Mismatches (br_if 0) Go × Mismatches (br_if 0) Trap × Mismatches (br_if 0) raise_0 × Mismatches (br_if 0) (Entry 0)
conditional_branch_mismatch = (refl, refl, refl, refl)

table_branch_mismatch : Mismatches (br_table [] 0) Go × Mismatches (br_table [] 0) Trap × Mismatches (br_table [] 0) raise_0 × Mismatches (br_table [] 0) (Way true)
table_branch_mismatch = (refl, refl, refl, refl)

throw_mismatch : Mismatches (throw 0) Go × Mismatches (throw 0) (Way true) × Mismatches (throw 0) (Entry 0)
throw_mismatch = (refl, refl, refl)

throw_ref_mismatch : Mismatches throw_ref (Way true) × Mismatches throw_ref (Entry 0)
throw_ref_mismatch = (refl, refl)

tail_call_mismatch : Mismatches (return_call 0) (Way true) × Mismatches (return_call 0) (Entry 0)
tail_call_mismatch = (refl, refl)

if_mismatch : runs (if Empty ∷ end ∷ end ∷ []) (Go ∷ []) 0 ≡ a_run [] Mismatch
if_mismatch = refl

-- nor does one that gets none
branch_without_outcome : runs (block Empty ∷ br_if 0 ∷ end ∷ end ∷ []) [] 0 ≡ a_run (executions (0 ∷ [])) OutcomesOut
branch_without_outcome = refl

table_without_outcome : runs (br_table [] 0 ∷ end ∷ []) [] 0 ≡ a_run [] OutcomesOut
table_without_outcome = refl

if_without_outcome : runs (if Empty ∷ end ∷ end ∷ []) [] 0 ≡ a_run [] OutcomesOut
if_without_outcome = refl

throw_without_outcome : runs (throw 0 ∷ end ∷ []) [] 0 ≡ a_run [] OutcomesOut
throw_without_outcome = refl

-- a trap is not an exception
trap_not_caught : runs (try Empty ∷ call 0 ∷ catch_all ∷ end ∷ end ∷ []) (Trap ∷ []) 0 ≡ a_run (executions (0 ∷ 1 ∷ [])) Trapped
trap_not_caught = refl

-- 01 0b: a `nop` asks for no outcome and gives no event
nop_takes_none : runs (nop ∷ const 7 ∷ end ∷ []) (Go ∷ []) 0 ≡ a_run (executions (1 ∷ [])) Returned
nop_takes_none = refl

only_nop : runs (nop ∷ end ∷ []) [] 0 ≡ a_run [] Returned
only_nop = refl
