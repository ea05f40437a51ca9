-- What is written of small bodies, operator by operator, computed. The location of an operator is its number in the list, from 0.
use Rattle.std.specs.Prelude.{◌≡◌, List, [], ◌∷◌, map, Bool, true, false, Result, Ok, Err, refl}
use Rattle.wasm_types.specs.declared.val_type.ValType.TheVariants.{I32}
use Rattle.wasm_numbers.specs.Results.{gather}
use Rattle.walrus_ir.specs.Locations.{default_location}
use Rattle.wasm_operators.specs.declared.types.BlockType.TheVariants.{Empty, Value, FuncType}
use Rattle.wasm_operators.specs.declared.types.Space.TheVariants.{Funcs}
use Rattle.wasm_operators.specs.Operations.{RawOperation}
use Rattle.wasm_body.specs.declared.error.EmitError.{EmitError}
use Rattle.wasm_body.specs.declared.error.EmitError.TheVariants.{Index, UnnumberedLocal}
use Rattle.wasm_body.specs.declared.error.IndexError.TheVariants.{Unnumbered}
use Rattle.wasm_body.specs.Control.{Marked}
use Rattle.wasm_body.specs.Translation.{Located, at_location}
use Rattle.wasm_body.specs.Naming.{Environment, NamedOperation}
use Rattle.wasm_body.specs.NormalForm.{typing_of, balances, construct_type}
use Rattle.wasm_body.specs.Bytes.{Numbers}
use Rattle.wasm_body.specs.TextLaws.{mark_named}
use Rattle.wasm_body.proofs.Examples.Operators.{unreachable, nop, block, loop, if, else, try, catch, throw, end, br, br_if, return, call, return_call, delegate, catch_all, drop, local_get, local_set, const}
use Rattle.wasm_body.proofs.Examples.Modules.{nothing, number, demo, demo_numbers, numbers_of_locals, odd, odd_numbers}
use Rattle.wasm_body.proofs.Examples.Rows.{located_names}
use Rattle.wasm_body.specs.Flat.{Named, Live, Waits, Unreachable, Dropped, Kept, FlatState, flat_state, first_state, flat, state_behind, numbered_at_location, first_unreachability, unreachability, unreachability_behind, locals_read}

-- ---- names and locations

abbrev operators : Environment → List RawOperation → List (Marked Named)
operators env os = map mark_named (located_names env os)

abbrev is_balanced : Environment → NamedOperation → Bool
is_balanced env o = balances (typing_of env) (construct_type (typing_of env) o)

abbrev written : Environment → List RawOperation → List Named
written env os = map (λ (x : Marked Named). x.shown) (flat (is_balanced env) first_state (operators env os))

-- 01 0b: a `nop` isn't written
dropped_nop : written demo (nop ∷ end ∷ []) ≡ at_location end 1 ∷ []
dropped_nop = refl

-- 0f 41 07 1a 0b: nothing is written after an operator that cuts
after_return : written demo (return ∷ const 7 ∷ drop ∷ end ∷ []) ≡ at_location return 0 ∷ at_location end 3 ∷ []
after_return = refl

-- 02 40 0c 00 41 07 1a 0b 41 05 1a 0b: the operators after the block are written
after_unreachable_block : written demo (block Empty ∷ br 0 ∷ const 7 ∷ drop ∷ end ∷ const 5 ∷ drop ∷ end ∷ [])
    ≡ at_location (block nothing) 0 ∷ at_location (br 0) 1 ∷ at_location end 4 ∷ at_location (const 5) 5 ∷ at_location drop 6 ∷ at_location end 7 ∷ []
after_unreachable_block = refl

-- 0c 00 02 40 01 0b 0b: a construct in unreachable code, and one inside of it
unreachable_block : written demo (br 0 ∷ block Empty ∷ loop Empty ∷ nop ∷ end ∷ end ∷ const 7 ∷ end ∷ []) ≡ at_location (br 0) 0 ∷ at_location end 7 ∷ []
unreachable_block = refl

-- 0f 04 40 05 00 0b 06 40 07 00 19 0b 06 40 18 00 0b: the operators that part and close constructs in unreachable code
unreachable_constructs : written demo
    (return ∷ if Empty ∷ else ∷ unreachable ∷ end ∷ try Empty ∷ catch 0 ∷ catch_all ∷ end ∷ try Empty ∷ delegate 0 ∷ end ∷ [])
    ≡ at_location return 0 ∷ at_location end 11 ∷ []
unreachable_constructs = refl

-- 12 00 41 07 1a 0b and 41 00 0d 00 0b: what comes after a tail call, or a branch that may not be taken, is written
after_tail_call : written demo (return_call 0 ∷ const 7 ∷ drop ∷ end ∷ []) ≡ at_location (return_call 0) 0 ∷ at_location (const 7) 1 ∷ at_location drop 2 ∷ at_location end 3 ∷ []
after_tail_call = refl

after_conditional : written demo (const 0 ∷ br_if 0 ∷ nop ∷ end ∷ []) ≡ at_location (const 0) 0 ∷ at_location (br_if 0) 1 ∷ at_location end 3 ∷ []
after_conditional = refl

-- 41 07 04 40 0b 0b, 41 07 04 40 05 0b 0b and 41 07 04 40 05 01 0b 0b: the `end` has the location of the source's
no_else : written demo (const 7 ∷ if Empty ∷ end ∷ end ∷ [])
    ≡ at_location (const 7) 0 ∷ at_location (if nothing) 1 ∷ at_location end 2 ∷ at_location end 3 ∷ []
no_else = refl

empty_else : written demo (const 7 ∷ if Empty ∷ else ∷ end ∷ end ∷ [])
    ≡ at_location (const 7) 0 ∷ at_location (if nothing) 1 ∷ at_location end 3 ∷ at_location end 4 ∷ []
empty_else = refl

else_of_nop : written demo (const 7 ∷ if Empty ∷ else ∷ nop ∷ end ∷ end ∷ [])
    ≡ at_location (const 7) 0 ∷ at_location (if nothing) 1 ∷ at_location end 4 ∷ at_location end 5 ∷ []
else_of_nop = refl

-- 41 07 04 40 05 01 00 01 0b 0b: the `else` comes before the first operator that is written
full_else : written demo (const 7 ∷ if Empty ∷ else ∷ nop ∷ unreachable ∷ nop ∷ end ∷ end ∷ [])
    ≡ at_location (const 7) 0 ∷ at_location (if nothing) 1 ∷ at_location else 2 ∷ at_location unreachable 4 ∷ at_location end 6 ∷ at_location end 7 ∷ []
full_else = refl

-- 04 40 0f 01 05 02 40 0b 0b 0b: after an unreachable consequent, before a construct
else_before_block : written demo (if Empty ∷ return ∷ nop ∷ else ∷ block Empty ∷ end ∷ end ∷ end ∷ [])
    ≡ at_location (if nothing) 0 ∷ at_location return 1 ∷ at_location else 3 ∷ at_location (block nothing) 4 ∷ at_location end 5 ∷ at_location end 6
    ∷ at_location end 7 ∷ []
else_before_block = refl

-- 04 40 05 04 40 05 0b 0b 0b: an `if` inside of the alternative, whose own `else` isn't written
else_inside : written demo (if Empty ∷ else ∷ if Empty ∷ else ∷ end ∷ end ∷ end ∷ [])
    ≡ at_location (if nothing) 0 ∷ at_location else 1 ∷ at_location (if nothing) 2 ∷ at_location end 4 ∷ at_location end 5 ∷ at_location end 6 ∷ []
else_inside = refl

-- 41 07 04 7f 41 02 0b 1a 0b: the added `else` has the location of the source's `end`, and its `end` the default location
added_else : written demo (const 7 ∷ if (Value I32) ∷ const 2 ∷ end ∷ drop ∷ end ∷ [])
    ≡ at_location (const 7) 0 ∷ at_location (if number) 1 ∷ at_location (const 2) 2 ∷ at_location else 3 ∷ at_location end default_location
    ∷ at_location drop 4 ∷ at_location end 5 ∷ []
added_else = refl

-- the same where the consequent is unreachable: 41 07 04 7f 0f 01 0b 1a 0b
added_else_unreachable : written demo (const 7 ∷ if (Value I32) ∷ return ∷ nop ∷ end ∷ drop ∷ end ∷ [])
    ≡ at_location (const 7) 0 ∷ at_location (if number) 1 ∷ at_location return 2 ∷ at_location else 4 ∷ at_location end default_location ∷ at_location drop 5
    ∷ at_location end 6 ∷ []
added_else_unreachable = refl

-- 41 07 04 7f 41 02 05 01 0b 1a 0b: an `else` that is needed is written, though nothing of its alternative is
needed_else : written demo (const 7 ∷ if (Value I32) ∷ const 2 ∷ else ∷ nop ∷ end ∷ drop ∷ end ∷ [])
    ≡ at_location (const 7) 0 ∷ at_location (if number) 1 ∷ at_location (const 2) 2 ∷ at_location else 3 ∷ at_location end 5 ∷ at_location drop 6 ∷ at_location end 7 ∷ []
needed_else = refl

-- 06 40 18 00 0b: the `delegate` has the default location
moved_delegate : written demo (try Empty ∷ delegate 0 ∷ end ∷ []) ≡ at_location (try nothing) 0 ∷ at_location (delegate 0) default_location ∷ at_location end 2 ∷ []
moved_delegate = refl

-- 06 40 08 00 01 41 07 07 00 19 0b 0b: clauses end unreachable code
clauses : written demo (try Empty ∷ throw 0 ∷ nop ∷ const 7 ∷ catch 0 ∷ catch_all ∷ end ∷ end ∷ [])
    ≡ at_location (try nothing) 0 ∷ at_location (throw 0) 1 ∷ at_location (catch 0) 4 ∷ at_location catch_all 5 ∷ at_location end 6 ∷ at_location end 7 ∷ []
clauses = refl

-- ---- other locations

-- 04 40 05 0b 0b, where only the inner `end` has the default location: the one that is written has the location of the `else`
abbrev with_locations : List Named
with_locations = at_location (if nothing) 11 ∷ at_location else 12 ∷ at_location end default_location ∷ at_location end 14 ∷ []

location_of_else : map (λ (x : Marked Named). x.shown) (flat (is_balanced demo) first_state (map mark_named with_locations))
    ≡ at_location (if nothing) 11 ∷ at_location end 12 ∷ at_location end 14 ∷ []
location_of_else = refl

-- ---- states

abbrev state_after : Environment → List RawOperation → FlatState
state_after env os = state_behind (is_balanced env) first_state (operators env os)

-- inside of an `if` that needs an `else`; after it; and after an `else` that waits
before_needed_else : state_after demo (const 7 ∷ if (Value I32) ∷ return ∷ []) ≡ flat_state Unreachable (Kept true ∷ Kept false ∷ [])
before_needed_else = refl

after_needed_else : state_after demo (const 7 ∷ if (Value I32) ∷ return ∷ else ∷ []) ≡ flat_state Live (Kept false ∷ Kept false ∷ [])
after_needed_else = refl

after_waiting_else : state_after demo (const 7 ∷ if Empty ∷ else ∷ nop ∷ []) ≡ flat_state (Waits 2) (Kept false ∷ Kept false ∷ [])
after_waiting_else = refl

-- inside of constructs in unreachable code, and after the body
in_unreachable_code : state_after demo (return ∷ block Empty ∷ if Empty ∷ else ∷ []) ≡ flat_state Unreachable (Dropped ∷ Dropped ∷ Kept false ∷ [])
in_unreachable_code = refl

after_body : state_after demo (block Empty ∷ return ∷ end ∷ end ∷ []) ≡ flat_state Live []
after_body = refl

-- ---- with numbers

abbrev encoded : Environment → Numbers → List RawOperation → Result (List (Located RawOperation)) EmitError
encoded env to os = gather (map (numbered_at_location to (typing_of env)) (flat (λ o. to.balanced (construct_type (typing_of env) o)) first_state (operators env os)))

-- 41 01 02 03 1a 0b 0b: the first function type with these lists; it was the fourth
picked_type : encoded demo demo_numbers (const 1 ∷ block (FuncType 3) ∷ drop ∷ end ∷ end ∷ [])
    ≡ Ok (at_location (const 1) 0 ∷ at_location (block (FuncType 1)) 1 ∷ at_location drop 2 ∷ at_location end 3 ∷ at_location end 4 ∷ [])
picked_type = refl

-- 04 00 05 0b 0b, where type 0 has a number as parameter and as result, and 04 01 1a 0b 0b, where type 1 has only a parameter
balanced_with_number : encoded odd odd_numbers (if (FuncType 0) ∷ else ∷ end ∷ end ∷ [])
    ≡ Ok (at_location (if (FuncType 2)) 0 ∷ at_location end 2 ∷ at_location end 3 ∷ [])
balanced_with_number = refl

added_for_parameter : encoded odd odd_numbers (if (FuncType 1) ∷ drop ∷ end ∷ end ∷ [])
    ≡ Ok (at_location (if (FuncType 1)) 0 ∷ at_location drop 1 ∷ at_location else 2 ∷ at_location end default_location ∷ at_location end 3 ∷ [])
added_for_parameter = refl

-- 20 01 1a 20 03 1a 0b, where the third local has number 2
local_numbers : encoded demo numbers_of_locals (local_get 1 ∷ drop ∷ local_get 3 ∷ drop ∷ end ∷ [])
    ≡ Ok (at_location (local_get 1) 0 ∷ at_location drop 1 ∷ at_location (local_get 2) 2 ∷ at_location drop 3 ∷ at_location end 4 ∷ [])
local_numbers = refl

-- no id has a number: the first fault in the order of writing, and none for what isn't written
abbrev no_numbers : Numbers
no_numbers = record { number_of = λ space id. Err (Index (Unnumbered space)); local_number = λ id. Err UnnumberedLocal; balanced = λ t. false }

first_fault : encoded demo no_numbers (local_get 0 ∷ drop ∷ call 0 ∷ end ∷ []) ≡ Err UnnumberedLocal
first_fault = refl

other_fault : encoded demo no_numbers (call 0 ∷ local_get 0 ∷ drop ∷ end ∷ []) ≡ Err (Index (Unnumbered Funcs))
other_fault = refl

no_fault : encoded demo no_numbers (return ∷ call 0 ∷ local_get 0 ∷ drop ∷ end ∷ []) ≡ Ok (at_location return 0 ∷ at_location end 4 ∷ [])
no_fault = refl

-- ---- the locals that live operators name

-- 20 02 21 01 02 40 0f 20 03 1a 0b 20 02 1a 0b: in order, with repetitions, and none of unreachable code
live_names : locals_read first_unreachability (operators demo (local_get 2 ∷ local_set 1 ∷ block Empty ∷ return ∷ local_get 3 ∷ drop ∷ end ∷ local_get 2 ∷ drop ∷ end ∷ []))
    ≡ 2 ∷ 1 ∷ 2 ∷ []
live_names = refl

-- 04 40 0f 02 40 20 01 0b 05 20 03 0b 0b: of the consequent none, and that of the alternative
names_of_alternative : locals_read first_unreachability (operators demo (if Empty ∷ return ∷ block Empty ∷ local_get 1 ∷ end ∷ else ∷ local_get 3 ∷ end ∷ end ∷ [])) ≡ 3 ∷ []
names_of_alternative = refl

unreachable_inside : unreachability_behind first_unreachability (operators demo (block Empty ∷ return ∷ loop Empty ∷ [])) ≡ unreachability true (true ∷ false ∷ false ∷ [])
unreachable_inside = refl

live_after : unreachability_behind first_unreachability (operators demo (block Empty ∷ return ∷ loop Empty ∷ end ∷ end ∷ [])) ≡ unreachability false (false ∷ [])
live_after = refl
