-- Names of operators, and the first rule that one of them breaks, with its number.
use Rattle.std.specs.Prelude.{◌≡◌, ℕ, List, [], ◌∷◌, false, Ok, Err, refl}
use Rattle.wasm_types.specs.declared.val_type.HeapType.TheVariants.{Concrete}
use Rattle.wasm_types.specs.declared.val_type.ValType.{ValType}
use Rattle.wasm_types.specs.declared.val_type.ValType.TheVariants.{I32, Ref}
use Rattle.walrus_ir.specs.Types.{signature}
use Rattle.wasm_operators.specs.declared.types.BlockType.TheVariants.{Empty, Value, FuncType}
use Rattle.wasm_operators.specs.declared.types.Space.TheVariants.{Types, Funcs, Tables, Tags}
use Rattle.wasm_operators.specs.Operations.{RawOperation}
use Rattle.wasm_body.specs.declared.error.IndexError.TheVariants.{OutOfRange, LocalOutOfRange}
use Rattle.wasm_body.specs.declared.error.ParseError.TheVariants.{Index, NoSuchLabel, NotAFunctionType, TypeMissing, EntryTypeMissing, ElseOutsideIf, CatchOutsideTry, DelegateOutsideTry, RethrowOutsideHandler, Trailing, UnknownId}
use Rattle.wasm_body.specs.Naming.{NamedOperation, Environment, entry_type_id}
use Rattle.wasm_body.proofs.Examples.Operators.{unreachable, block, if, else, try, catch, throw, rethrow, end, br, br_table, return, call, call_indirect, delegate, catch_all, drop, try_table, local_get, const, br_on_cast, br_on_null_cast, catches, catches_all}
use Rattle.wasm_body.proofs.Examples.Modules.{nothing, number_to_number, demo, odd}
use Rattle.wasm_body.proofs.Examples.Rows.{Computed, Is, Refused, names}

-- over the module of the worked rows
abbrev the_names : List RawOperation → Computed (List NamedOperation)
the_names os = names demo os

-- ---- names

-- 02 02 0b 20 01 1a 10 01 08 00 0b, with old indices that differ from the ids
by_ids : names odd (block (FuncType 0) ∷ end ∷ local_get 1 ∷ drop ∷ call 1 ∷ throw 0 ∷ end ∷ [])
    ≡ Is (block number_to_number ∷ end ∷ local_get 5 ∷ drop ∷ call 3 ∷ throw 2 ∷ end ∷ [])
by_ids = refl

-- an index inside a type
abbrev reference : ℕ → ValType ℕ
reference n = Ref (record { nullable = false; heap_type = Concrete n })

by_ids_in_types : names odd (block (Value (reference 0)) ∷ br_on_cast 0 (Concrete 2) (Concrete 0) ∷ end ∷ end ∷ [])
    ≡ Is (block (signature [] (reference 2 ∷ [])) ∷ br_on_cast 0 (Concrete 0) (Concrete 2) ∷ end ∷ end ∷ [])
by_ids_in_types = refl

-- whether the references of a cast may be null stays as it is
by_ids_in_casts : names odd (br_on_null_cast 0 (Concrete 2) (Concrete 0) ∷ end ∷ []) ≡ Is (br_on_null_cast 0 (Concrete 0) (Concrete 2) ∷ end ∷ [])
by_ids_in_casts = refl

-- 02 04 0b 0b: an entry type is a block type if it has an old index
entry_as_block_type : names odd (block (FuncType 4) ∷ end ∷ end ∷ []) ≡ Is (block nothing ∷ end ∷ end ∷ [])
entry_as_block_type = refl

-- a tag that the module doesn't have, if only its old index is needed
missing_tag : names odd (try_table Empty (catches 3 0 ∷ []) ∷ throw 3 ∷ end ∷ end ∷ [])
    ≡ Is (try_table nothing (catches 8 0 ∷ []) ∷ throw 8 ∷ end ∷ end ∷ [])
missing_tag = refl

-- ---- where an operator is allowed

-- 05 0b
else_alone : the_names (else ∷ end ∷ []) ≡ Refused ElseOutsideIf 0
else_alone = refl

-- 02 40 05 0b 0b
else_in_block : the_names (block Empty ∷ else ∷ end ∷ end ∷ []) ≡ Refused ElseOutsideIf 1
else_in_block = refl

-- 41 01 04 40 05 05 0b 0b
second_else : the_names (const 1 ∷ if Empty ∷ else ∷ else ∷ end ∷ end ∷ []) ≡ Refused ElseOutsideIf 3
second_else = refl

-- 19 0b
catch_all_alone : the_names (catch_all ∷ end ∷ []) ≡ Refused CatchOutsideTry 0
catch_all_alone = refl

-- 06 40 19 07 00 0b 0b
catch_after_all : the_names (try Empty ∷ catch_all ∷ catch 0 ∷ end ∷ end ∷ []) ≡ Refused CatchOutsideTry 2
catch_after_all = refl

-- 06 40 19 19 0b 0b
second_catch_all : the_names (try Empty ∷ catch_all ∷ catch_all ∷ end ∷ end ∷ []) ≡ Refused CatchOutsideTry 2
second_catch_all = refl

-- 06 40 02 40 07 00 0b 0b 0b
catch_in_block : the_names (try Empty ∷ block Empty ∷ catch 0 ∷ end ∷ end ∷ end ∷ []) ≡ Refused CatchOutsideTry 2
catch_in_block = refl

-- 04 40 05 07 00 0b 0b
catch_in_alternative : the_names (if Empty ∷ else ∷ catch 0 ∷ end ∷ end ∷ []) ≡ Refused CatchOutsideTry 2
catch_in_alternative = refl

-- 04 40 19 0b 0b
catch_in_consequent : the_names (if Empty ∷ catch_all ∷ end ∷ end ∷ []) ≡ Refused CatchOutsideTry 1
catch_in_consequent = refl

-- 1f 40 00 19 0b 0b
catch_in_table : the_names (try_table Empty [] ∷ catch_all ∷ end ∷ end ∷ []) ≡ Refused CatchOutsideTry 1
catch_in_table = refl

-- 18 00 0b
delegate_alone : the_names (delegate 0 ∷ end ∷ []) ≡ Refused DelegateOutsideTry 0
delegate_alone = refl

-- 06 40 07 00 18 00 0b
delegate_in_handler : the_names (try Empty ∷ catch 0 ∷ delegate 0 ∷ end ∷ []) ≡ Refused DelegateOutsideTry 2
delegate_in_handler = refl

-- 06 40 19 18 00 0b
delegate_after_all : the_names (try Empty ∷ catch_all ∷ delegate 0 ∷ end ∷ []) ≡ Refused DelegateOutsideTry 2
delegate_after_all = refl

-- 06 40 02 40 18 00 0b 0b
delegate_in_block : the_names (try Empty ∷ block Empty ∷ delegate 0 ∷ end ∷ end ∷ []) ≡ Refused DelegateOutsideTry 2
delegate_in_block = refl

-- 06 40 05 0b 0b
else_in_try : the_names (try Empty ∷ else ∷ end ∷ end ∷ []) ≡ Refused ElseOutsideIf 1
else_in_try = refl

-- 0b 0b
after_the_end : the_names (end ∷ end ∷ []) ≡ Refused Trailing 1
after_the_end = refl

-- ---- labels

-- 0f 0c 05 0b: also in unreachable code
no_such_label : the_names (return ∷ br 5 ∷ end ∷ []) ≡ Refused NoSuchLabel 1
no_such_label = refl

-- 02 40 0c 02 0b 0b
label_past_function : the_names (block Empty ∷ br 2 ∷ end ∷ end ∷ []) ≡ Refused NoSuchLabel 1
label_past_function = refl

-- 02 40 0c 01 0b 0b: the function's own label is open
label_of_function : the_names (block Empty ∷ br 1 ∷ end ∷ end ∷ []) ≡ Is (block nothing ∷ br 1 ∷ end ∷ end ∷ [])
label_of_function = refl

-- 0e 01 00 01 0b
default_past_function : the_names (br_table (0 ∷ []) 1 ∷ end ∷ []) ≡ Refused NoSuchLabel 0
default_past_function = refl

-- 1f 40 01 02 00 0b 0b and 1f 40 01 02 01 0b 0b: the labels of clauses count from outside their construct
clause_to_function : the_names (try_table Empty (catches_all 0 ∷ []) ∷ end ∷ end ∷ []) ≡ Is (try_table nothing (catches_all 0 ∷ []) ∷ end ∷ end ∷ [])
clause_to_function = refl

clause_past_function : the_names (try_table Empty (catches_all 1 ∷ []) ∷ end ∷ end ∷ []) ≡ Refused NoSuchLabel 0
clause_past_function = refl

-- 06 40 18 00 0b and 06 40 18 01 0b: so does that of `delegate`
delegate_to_function : the_names (try Empty ∷ delegate 0 ∷ end ∷ []) ≡ Is (try nothing ∷ delegate 0 ∷ end ∷ [])
delegate_to_function = refl

delegate_past_function : the_names (try Empty ∷ delegate 1 ∷ end ∷ []) ≡ Refused NoSuchLabel 1
delegate_past_function = refl

-- 09 00 0b
rethrow_alone : the_names (rethrow 0 ∷ end ∷ []) ≡ Refused RethrowOutsideHandler 0
rethrow_alone = refl

-- 06 40 09 00 07 00 0b 0b
rethrow_in_body : the_names (try Empty ∷ rethrow 0 ∷ catch 0 ∷ end ∷ end ∷ []) ≡ Refused RethrowOutsideHandler 1
rethrow_in_body = refl

-- 06 40 07 00 09 05 0b 0b
rethrow_past_function : the_names (try Empty ∷ catch 0 ∷ rethrow 5 ∷ end ∷ end ∷ []) ≡ Refused NoSuchLabel 2
rethrow_past_function = refl

-- 06 40 07 00 02 40 09 01 0b 19 09 00 0b 0b: handlers by tag and of all, also from inside of a block
rethrow_in_handlers : the_names (try Empty ∷ catch 0 ∷ block Empty ∷ rethrow 1 ∷ end ∷ catch_all ∷ rethrow 0 ∷ end ∷ end ∷ [])
    ≡ Is (try nothing ∷ catch 0 ∷ block nothing ∷ rethrow 1 ∷ end ∷ catch_all ∷ rethrow 0 ∷ end ∷ end ∷ [])
rethrow_in_handlers = refl

-- ---- indices

-- 10 02 0b
function_out_of_range : the_names (call 2 ∷ end ∷ []) ≡ Refused (Index (OutOfRange Funcs 2)) 0
function_out_of_range = refl

-- 00 10 09 0b
unreachable_function_out_of_range : the_names (unreachable ∷ call 9 ∷ end ∷ []) ≡ Refused (Index (OutOfRange Funcs 9)) 1
unreachable_function_out_of_range = refl

-- 20 04 0b
local_out_of_range : the_names (local_get 4 ∷ end ∷ []) ≡ Refused (Index (LocalOutOfRange 0 4)) 0
local_out_of_range = refl

-- 02 04 0b 0b: the entry type has no old index here
type_out_of_range : the_names (block (FuncType 4) ∷ end ∷ end ∷ []) ≡ Refused (Index (OutOfRange Types 4)) 0
type_out_of_range = refl

-- 02 64 09 0b 0b
type_in_type_out_of_range : the_names (block (Value (reference 9)) ∷ end ∷ end ∷ []) ≡ Refused (Index (OutOfRange Types 9)) 0
type_in_type_out_of_range = refl

-- ---- types

-- a block type that is not a function's, and one that the module doesn't have
other_block_type : names odd (block (FuncType 5) ∷ end ∷ end ∷ []) ≡ Refused NotAFunctionType 0
other_block_type = refl

missing_block_type : names odd (block (FuncType 6) ∷ end ∷ end ∷ []) ≡ Refused NotAFunctionType 0
missing_block_type = refl

-- an entry type with results that no function type has
no_pick : names odd (block (FuncType 7) ∷ end ∷ end ∷ []) ≡ Refused TypeMissing 0
no_pick = refl

-- 06 7f 41 01 07 01 0b 1a 0b: no type takes and gives a number
no_type_of_handler : the_names (try (Value I32) ∷ const 1 ∷ catch 1 ∷ end ∷ drop ∷ end ∷ []) ≡ Refused TypeMissing 2
no_type_of_handler = refl

-- 00 06 7f 41 01 07 01 0b 1a 0b
no_type_of_unreachable_handler : the_names (unreachable ∷ try (Value I32) ∷ const 1 ∷ catch 1 ∷ end ∷ drop ∷ end ∷ []) ≡ Refused TypeMissing 3
no_type_of_unreachable_handler = refl

-- the handler of all has no parameters, and the results of the `try`
no_type_of_handler_of_all : names odd (try (FuncType 8) ∷ catch_all ∷ end ∷ end ∷ []) ≡ Refused TypeMissing 1
no_type_of_handler_of_all = refl

-- a tag that the module doesn't have, and one whose type is not a function's
unknown_tag : names odd (try Empty ∷ catch 3 ∷ end ∷ end ∷ []) ≡ Refused UnknownId 1
unknown_tag = refl

tag_of_other_type : names odd (try Empty ∷ catch 2 ∷ end ∷ end ∷ []) ≡ Refused NotAFunctionType 1
tag_of_other_type = refl

-- ---- the order of faults in one operator

-- 07 09 0b and 18 09 0b: whether the operator is allowed there comes first
position_before_tag : the_names (catch 9 ∷ end ∷ []) ≡ Refused CatchOutsideTry 0
position_before_tag = refl

position_before_label : the_names (delegate 9 ∷ end ∷ []) ≡ Refused DelegateOutsideTry 0
position_before_label = refl

-- 06 40 07 09 0b 0b
tag_before_id : names odd (try Empty ∷ catch 9 ∷ end ∷ end ∷ []) ≡ Refused (Index (OutOfRange Tags 9)) 1
tag_before_id = refl

-- a tag's type before that of its handler
tag_type_before_pick : names odd (try (FuncType 8) ∷ catch 2 ∷ end ∷ end ∷ []) ≡ Refused NotAFunctionType 1
tag_type_before_pick = refl

-- 11 09 09 0b and 11 00 09 0b: in the order in which they are written
type_before_table : the_names (call_indirect 9 9 ∷ end ∷ []) ≡ Refused (Index (OutOfRange Types 9)) 0
type_before_table = refl

table_after_type : the_names (call_indirect 0 9 ∷ end ∷ []) ≡ Refused (Index (OutOfRange Tables 9)) 0
table_after_type = refl

-- fb 18 00 05 09 09 0b: the label of a cast before its types
label_before_types : the_names (br_on_cast 5 (Concrete 9) (Concrete 9) ∷ end ∷ []) ≡ Refused NoSuchLabel 0
label_before_types = refl

source_before_target : the_names (br_on_cast 0 (Concrete 8) (Concrete 9) ∷ end ∷ []) ≡ Refused (Index (OutOfRange Types 8)) 0
source_before_target = refl

target_after_source : the_names (br_on_cast 0 (Concrete 0) (Concrete 9) ∷ end ∷ []) ≡ Refused (Index (OutOfRange Types 9)) 0
target_after_source = refl

-- `try_table`: its block type, then of each clause the tag and the label, and last the pick
type_before_clauses : names odd (try_table (FuncType 5) (catches 9 9 ∷ []) ∷ end ∷ end ∷ []) ≡ Refused NotAFunctionType 0
type_before_clauses = refl

tag_before_label : the_names (try_table Empty (catches 9 9 ∷ []) ∷ end ∷ end ∷ []) ≡ Refused (Index (OutOfRange Tags 9)) 0
tag_before_label = refl

label_before_next_clause : the_names (try_table Empty (catches 0 9 ∷ catches 9 0 ∷ []) ∷ end ∷ end ∷ []) ≡ Refused NoSuchLabel 0
label_before_next_clause = refl

clauses_before_pick : names odd (try_table (FuncType 7) (catches_all 9 ∷ []) ∷ end ∷ end ∷ []) ≡ Refused NoSuchLabel 0
clauses_before_pick = refl

no_pick_of_table : names odd (try_table (FuncType 7) (catches_all 0 ∷ []) ∷ end ∷ end ∷ []) ≡ Refused TypeMissing 0
no_pick_of_table = refl

-- ---- the function's own type

abbrev of_type : ℕ → Environment → Environment
of_type type env = record env { type = type }

entry_type_is : entry_type_id demo ≡ Ok 4
entry_type_is = refl

no_entry_type : entry_type_id (of_type 2 demo) ≡ Err EntryTypeMissing
no_entry_type = refl

type_of_no_function : entry_type_id (of_type 5 odd) ≡ Err NotAFunctionType
type_of_no_function = refl

missing_type : entry_type_id (of_type 9 demo) ≡ Err NotAFunctionType
missing_type = refl

-- an entry type counts as a function type
entry_type_of_entry_type : entry_type_id (of_type 4 demo) ≡ Ok 4
entry_type_of_entry_type = refl
