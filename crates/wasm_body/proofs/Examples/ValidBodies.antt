-- Bodies that the validation algorithm accepts, with what is written of them, and bodies that it refuses, under a few rules of the standard.
-- What is expected comes from the standard's text (section 3.4 and the appendix) and from its test scripts `unreached-valid.wast`,
-- `unreached-invalid.wast`, `local_init.wast`, `if.wast`, `br_table.wast` and those of the proposal of legacy exception handling.
use Rattle.std.specs.Prelude.{◌≡◌, ℕ, ◌==◌, List, [], ◌∷◌, ◌++◌, map, Bool, true, false, ◌||◌, if◌then◌else◌, Option, Some, None, Ok, Err, refl}
use Rattle.std.specs.Option.{option_map}
use Rattle.std.specs.Result.{result_ok}
use Rattle.wasm_types.specs.declared.val_type.ValType.{ValType}
use Rattle.wasm_types.specs.declared.val_type.ValType.TheVariants.{I32, I64}
use Rattle.walrus_ir.specs.Types.{Signature, signature, same_type}
use Rattle.wasm_operators.specs.declared.types.Opcode.{Opcode}
use Rattle.wasm_operators.specs.declared.types.Opcode.TheVariants.{Byte, Prefixed}
use Rattle.wasm_operators.specs.Operations.{Immediate, local}
use Rattle.wasm_body.specs.Translation.{at_location}
use Rattle.wasm_body.specs.Naming.{NamedOperation}
use Rattle.wasm_body.specs.NormalForm.{Typing, typing_of}
use Rattle.wasm_body.specs.Validity.{Operand, Known, OfFunction, OfBlock, Point, Change, OperandRules, Checked, refused, exnref, caught, ControlFrame, State, state, push_each, pop_each, start, validate}
use Rattle.wasm_body.proofs.Examples.Operators.{unreachable, nop, block, loop, if, else, try, catch, throw, rethrow, throw_ref, end, br, br_if, br_table, return, return_call, delegate, catch_all, drop, try_table, local_get, local_set, add, const, catches_ref}
use Rattle.wasm_body.proofs.Examples.Modules.{nothing, number, number_to_number, demo}

abbrev m : Typing
m = typing_of demo

-- ---- rules: constants, addition, `drop`, locals that are all numbers, `br_if`, and tail calls that fit

abbrev no_rules : OperandRules (ValType ℕ)
no_rules = record { type_of = λ t. t; matches = same_type; plain = λ o p. None; conditional = λ o ts p. None; tail_call = λ o ts p. true }

-- the frame of a point, at height 0
abbrev frame_of : Point (ValType ℕ) → ControlFrame
frame_of p = record { opened = OfBlock; start_types = []; end_types = []; height = 0; locals_height = 0; unreachable = p.unreachable }

-- takes these, the topmost first, gives those, and initialises locals
abbrev from_to : (ts us : List (ValType ℕ)) → List ℕ → Point (ValType ℕ) → Option (Change (ValType ℕ))
from_to ts us ls p =
    option_map (λ xs. record { operands = push_each m no_rules us xs; initialises = ls }) (result_ok (pop_each m no_rules (frame_of p) ts p.operands))

abbrev contains : ℕ → List ℕ → Bool
contains n [] = false
contains n (x ∷ xs) = n == x || contains n xs

abbrev local_in : List (Immediate ℕ Signature) → ℕ
local_in (local n ∷ is) = n
local_in _ = 0

abbrev dropped : Point (ValType ℕ) → List (Operand (ValType ℕ)) → Option (Change (ValType ℕ))
dropped p [] = if p.unreachable then Some (record { operands = []; initialises = [] }) else None
dropped p (x ∷ xs) = Some (record { operands = xs; initialises = [] })

abbrev plain_by : Opcode → ℕ → Point (ValType ℕ) → Option (Change (ValType ℕ))
plain_by (Byte b) n p =
    if b == 0x41 then from_to [] (I32 ∷ []) [] p
    else if b == 0x6a then from_to (I32 ∷ I32 ∷ []) (I32 ∷ []) [] p
    else if b == 0x1a then dropped p p.operands
    else if b == 0x21 then from_to (I32 ∷ []) [] (n ∷ []) p
    else if b == 0x20 then (if contains n p.initialised then from_to [] (I32 ∷ []) [] p else None)
    else None
plain_by (Prefixed prefix k) n p = None

abbrev rules : OperandRules (ValType ℕ)
rules = record {
  type_of = λ t. t;
  matches = same_type;
  plain = λ o p. plain_by o.opcode (local_in o.immediates) p;
  conditional = λ o ts p. from_to (I32 ∷ ts) ts [] p;
  tail_call = λ o ts p. true;
}

-- the operators, in a function with these results and with these locals initialised
abbrev validated : List (ValType ℕ) → List ℕ → List NamedOperation → Checked (State (ValType ℕ))
validated rs ls os = validate m rules (map (λ o. at_location o 0) os) (start m rules rs ls)

abbrev is_empty : List ControlFrame → Bool
is_empty [] = true
is_empty (c ∷ cs) = false

abbrev closes_all : Checked (State (ValType ℕ)) → Bool
closes_all (Ok s) = is_empty s.controls
closes_all (Err e) = false

abbrev Takes : List (ValType ℕ) → List ℕ → List NamedOperation → Type 0
Takes rs ls os = closes_all (validated rs ls os) ≡ true

abbrev Refuses : List (ValType ℕ) → List ℕ → List NamedOperation → Type 0
Refuses rs ls os = validated rs ls os ≡ Err refused

-- A body is accepted, and so is what is written of it.
record Keeps (rs : List (ValType ℕ)) (ls : List ℕ) (source written : List NamedOperation) : Type 0 where
  taken : Takes rs ls source
  kept : Takes rs ls written

abbrev one : List (ValType ℕ)
one = I32 ∷ []

abbrev taking : Signature
taking = signature one []

-- ---- plain operators

straight : Keeps one [] (const 7 ∷ nop ∷ const 7 ∷ add ∷ end ∷ []) (const 7 ∷ const 7 ∷ add ∷ end ∷ [])
straight = record { taken = refl; kept = refl }

too_few : Refuses one [] (end ∷ [])
too_few = refl

too_many : Refuses one [] (const 7 ∷ const 7 ∷ end ∷ [])
too_many = refl

add_takes_two : Refuses one [] (const 7 ∷ add ∷ end ∷ [])
add_takes_two = refl

of_another_type : Refuses (I64 ∷ []) [] (const 7 ∷ end ∷ [])
of_another_type = refl

-- ---- code that can't be reached

-- 41 07 0c 00 1a 0b, where `drop` has nothing to take
unreachable_drop : Keeps one [] (const 7 ∷ br 0 ∷ drop ∷ const 7 ∷ end ∷ []) (const 7 ∷ br 0 ∷ end ∷ [])
unreachable_drop = record { taken = refl; kept = refl }

-- `add` has nothing to take but what is unknown: without unknown operands it would be refused.
unreachable_add : Keeps one [] (block number ∷ const 7 ∷ br 0 ∷ add ∷ end ∷ end ∷ []) (block number ∷ const 7 ∷ br 0 ∷ end ∷ end ∷ [])
unreachable_add = record { taken = refl; kept = refl }

-- 00 41 07 0b: the `end` of what is written takes an operand that isn't there. Without unknown operands the source would be
-- accepted, and the text refused.
unreachable_const : Keeps one [] (unreachable ∷ const 7 ∷ end ∷ []) (unreachable ∷ end ∷ [])
unreachable_const = record { taken = refl; kept = refl }

-- What is there has to match: after `unreachable` too an operand too many is refused. It isn't written, and the text is accepted: so
-- nothing is said the other way.
unreachable_too_many : Refuses one [] (unreachable ∷ const 7 ∷ const 7 ∷ end ∷ [])
unreachable_too_many = refl

unreachable_of_another_type : Refuses (I64 ∷ []) [] (unreachable ∷ const 7 ∷ end ∷ [])
unreachable_of_another_type = refl

-- whole constructs
unreachable_constructs : Keeps [] []
    (return ∷ loop taking ∷ (if) nothing ∷ const 7 ∷ br 1 ∷ (else) ∷ const 7 ∷ drop ∷ end ∷ end ∷ end ∷ []) (return ∷ end ∷ [])
unreachable_constructs = record { taken = refl; kept = refl }

-- what follows a tail call is kept
after_tail_call : Keeps one [] (return_call 0 ∷ add ∷ nop ∷ end ∷ []) (return_call 0 ∷ add ∷ end ∷ [])
after_tail_call = record { taken = refl; kept = refl }

-- ---- each of the seven after which code can't be reached: where the body would go on, its end takes what isn't there

after_branch : Takes one [] (const 7 ∷ br 0 ∷ end ∷ [])
after_branch = refl

after_table : Takes one [] (const 7 ∷ const 0 ∷ br_table [] 0 ∷ end ∷ [])
after_table = refl

after_return : Takes one [] (const 7 ∷ return ∷ end ∷ [])
after_return = refl

after_unreachable : Takes one [] (unreachable ∷ end ∷ [])
after_unreachable = refl

after_throw : Takes one [] (throw 0 ∷ end ∷ [])
after_throw = refl

after_throw_ref : Takes one [] (block (signature [] (exnref ∷ [])) ∷ unreachable ∷ end ∷ throw_ref ∷ end ∷ [])
after_throw_ref = refl

after_rethrow : Takes one [] (try number ∷ const 7 ∷ catch_all ∷ rethrow 0 ∷ end ∷ end ∷ [])
after_rethrow = refl

-- ---- an `if` without `else`

alone : Takes one [] (const 7 ∷ const 7 ∷ (if) number_to_number ∷ drop ∷ const 7 ∷ end ∷ end ∷ [])
alone = refl

-- an empty alternative, which isn't written where the `if` gives what it takes
with_empty_else : Keeps one [] (const 7 ∷ const 7 ∷ (if) number_to_number ∷ drop ∷ const 7 ∷ (else) ∷ nop ∷ end ∷ end ∷ [])
    (const 7 ∷ const 7 ∷ (if) number_to_number ∷ drop ∷ const 7 ∷ end ∷ end ∷ [])
with_empty_else = record { taken = refl; kept = refl }

-- It gives what it takes: without this rule the source would be accepted, and the text, which has an `else`, refused.
alone_refused : Refuses one [] (const 7 ∷ (if) number ∷ const 7 ∷ end ∷ end ∷ [])
alone_refused = refl

alone_refused_written : Refuses one [] (const 7 ∷ (if) number ∷ const 7 ∷ (else) ∷ end ∷ end ∷ [])
alone_refused_written = refl

-- ---- initialised locals

not_initialised : Refuses one [] (local_get 0 ∷ end ∷ [])
not_initialised = refl

-- the end of a construct, and its `else`, forget what was initialised in it
forgotten : Refuses one [] (block nothing ∷ const 7 ∷ local_set 0 ∷ end ∷ local_get 0 ∷ end ∷ [])
forgotten = refl

forgotten_by_else : Refuses one [] (const 7 ∷ (if) number ∷ const 7 ∷ local_set 0 ∷ local_get 0 ∷ (else) ∷ local_get 0 ∷ end ∷ end ∷ [])
forgotten_by_else = refl

-- and also what was so in code that can't be reached, which the text no longer has
forgotten_unreachable : Refuses one [] (block nothing ∷ br 0 ∷ local_set 0 ∷ end ∷ local_get 0 ∷ end ∷ [])
forgotten_unreachable = refl

unreachable_set : Keeps one [] (const 7 ∷ local_set 0 ∷ block nothing ∷ br 0 ∷ local_set 0 ∷ end ∷ local_get 0 ∷ end ∷ [])
    (const 7 ∷ local_set 0 ∷ block nothing ∷ br 0 ∷ end ∷ local_get 0 ∷ end ∷ [])
unreachable_set = record { taken = refl; kept = refl }

-- ---- labels

-- the label of a loop takes what the loop takes, and that of a block what the block gives
looped : Takes [] [] (const 7 ∷ loop taking ∷ const 7 ∷ br_if 0 ∷ drop ∷ end ∷ end ∷ [])
looped = refl

loop_label : Refuses [] [] (const 7 ∷ loop taking ∷ drop ∷ br 0 ∷ end ∷ end ∷ [])
loop_label = refl

in_table : Keeps one [] (block number ∷ const 7 ∷ const 7 ∷ br_table (0 ∷ []) 1 ∷ add ∷ end ∷ end ∷ [])
    (block number ∷ const 7 ∷ const 7 ∷ br_table (0 ∷ []) 1 ∷ end ∷ end ∷ [])
in_table = record { taken = refl; kept = refl }

-- as many types at each label, also where code can't be reached
at_labels : Refuses one [] (block nothing ∷ unreachable ∷ br_table (0 ∷ []) 1 ∷ end ∷ const 7 ∷ end ∷ [])
at_labels = refl

no_label : Refuses [] [] (br 1 ∷ end ∷ [])
no_label = refl

-- ---- legacy exceptions: tag 1 takes a number

-- a handler begins with what its tag takes
handled : Keeps [] []
    (try nothing ∷ const 7 ∷ throw 1 ∷ drop ∷ catch 1 ∷ drop ∷ catch_all ∷ rethrow 0 ∷ drop ∷ end ∷ end ∷ [])
    (try nothing ∷ const 7 ∷ throw 1 ∷ catch 1 ∷ drop ∷ catch_all ∷ rethrow 0 ∷ end ∷ end ∷ [])
handled = record { taken = refl; kept = refl }

outside_handler : Refuses [] [] (try nothing ∷ rethrow 0 ∷ catch_all ∷ end ∷ end ∷ [])
outside_handler = refl

catch_after_all : Refuses [] [] (try nothing ∷ catch_all ∷ catch 0 ∷ end ∷ end ∷ [])
catch_after_all = refl

delegated : Keeps [] [] (try nothing ∷ throw 0 ∷ drop ∷ delegate 0 ∷ end ∷ []) (try nothing ∷ throw 0 ∷ delegate 0 ∷ end ∷ [])
delegated = record { taken = refl; kept = refl }

-- the label is counted from outside the `try`
delegated_too_far : Refuses [] [] (try nothing ∷ delegate 1 ∷ end ∷ [])
delegated_too_far = refl

-- ---- `try_table`

-- its clause hands a number and a reference to the block around it
tables_try : Takes [] []
    (block (signature [] (I32 ∷ caught ∷ [])) ∷ try_table nothing (catches_ref 1 0 ∷ []) ∷ return ∷ end ∷ return ∷ end ∷ drop ∷ drop ∷ end ∷ [])
tables_try = refl

hands_too_much : Refuses [] [] (block number ∷ try_table nothing (catches_ref 1 0 ∷ []) ∷ end ∷ const 7 ∷ end ∷ drop ∷ end ∷ [])
hands_too_much = refl

-- ---- heights

-- After `br 0` the operands are cut to the height of the block, and the frame is unreachable.
heights_unreachable : validated one [] (const 7 ∷ block number ∷ const 7 ∷ br 0 ∷ [])
    ≡ Ok (state (record { operands = Known I32 ∷ []; initialised = [] })
    (record { opened = OfBlock; start_types = []; end_types = one; height = 1; locals_height = 0; unreachable = true }
    ∷ record { opened = OfFunction; start_types = []; end_types = one; height = 0; locals_height = 0; unreachable = false } ∷ []))
heights_unreachable = refl

-- The block's `end` gives its number all the same, and what was initialised in it is forgotten.
heights_ended : validated one [] (const 7 ∷ block number ∷ const 7 ∷ local_set 0 ∷ const 7 ∷ br 0 ∷ end ∷ [])
    ≡ Ok (state (record { operands = Known I32 ∷ Known I32 ∷ []; initialised = [] })
    (record { opened = OfFunction; start_types = []; end_types = one; height = 0; locals_height = 0; unreachable = false } ∷ []))
heights_ended = refl

-- A local that is set twice is initialised once.
set_twice : validated one [] (const 7 ∷ local_set 3 ∷ const 7 ∷ local_set 3 ∷ [])
    ≡ Ok (state (record { operands = []; initialised = 3 ∷ [] })
    (record { opened = OfFunction; start_types = []; end_types = one; height = 0; locals_height = 0; unreachable = false } ∷ []))
set_twice = refl
