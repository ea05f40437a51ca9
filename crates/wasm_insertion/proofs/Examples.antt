-- Inserted operators and metered bodies, on small trees whose operators are numbered, and a probe, under rules for two operators. Runs are
-- computed from the definitions.
use Rattle.std.specs.Prelude.{◌≡◌, ℕ, ◌==◌, List, [], ◌∷◌, Bool, true, false, if◌then◌else◌, Option, Some, None, refl}
use Rattle.wasm_types.specs.declared.val_type.ValType.{ValType}
use Rattle.wasm_types.specs.declared.val_type.ValType.TheVariants.{I32}
use Rattle.walrus_ir.specs.Types.{same_type}
use Rattle.wasm_operators.specs.declared.types.Opcode.{Opcode}
use Rattle.wasm_operators.specs.declared.types.Opcode.TheVariants.{Byte, Prefixed}
use Rattle.walrus_ir.specs.Tree.{no_items, item, no_sequences, sequence}
use Rattle.wasm_body.specs.Control.{role_of, Plain, Branch, ConditionalBranch}
use Rattle.wasm_body.specs.SourceTree.{Sequence, Empty, Single, Wrapped, IfThen, IfElse, TryCatch, CatchesAll, OfBlock, OfLoop, Body, body_text}
use Rattle.wasm_body.specs.Machine.{Outcome, Go, Trap, Raise, Way, Event, Executed, Taken, Ending, Returned, Trapped, Run, run}
use Rattle.wasm_body.specs.Translation.{Located, at_location}
use Rattle.wasm_body.specs.Naming.{NamedOperation}
use Rattle.wasm_body.specs.FunctionTree.{Head, Instruction}
use Rattle.wasm_body.specs.NormalForm.{instruction}
use Rattle.wasm_body.specs.Validity.{Operand, Known, Point, Change, OperandRules}
use Rattle.wasm_body.proofs.Examples.Operators.{block, br, call, drop, const}
use Rattle.wasm_body.proofs.Examples.Modules.{nothing}
use Rattle.wasm_insertion.specs.Insertion.{Origin, Own, Added, Inserted, empty, insert, single, wrapped, added_else, erased, NeverStops, FollowsSource, alike_ended, executes, executes_with, catches, goes_on, stops, metered_body}
use Rattle.wasm_insertion.specs.InsertedValidity.{IsProbe}
use Rattle.wasm_insertion.specs.EditedTrees.{never_goes_on, EditedItems, no_item, added_item, going_item, last_item, no_sequence, edited_sequence}

abbrev body : {A : Type 0} → Sequence A → A → Body A
body s e = record { sequence = s; close = e }

abbrev ran : {A : Type 0} → List (Event A) → Ending → Run A
ran es e = record { events = es; ending = e }

-- ---- block (br_if 0) drop end; drop

abbrev source : Sequence ℕ
source = Wrapped 0 OfBlock (Single 1 (ConditionalBranch 0) (Single 2 Plain Empty)) 3 (Single 4 Plain Empty)

-- two calls are inserted: where the block begins, and at the end of the body
abbrev probed : Sequence (Origin ℕ ℕ)
probed =
    Wrapped (Own 0) OfBlock (Single (Added 7) Plain (Single (Own 1) (ConditionalBranch 0) (Single (Own 2) Plain Empty))) (Own 3)
    (Single (Own 4) Plain (Single (Added 8) Plain Empty))

is_inserted : Inserted source probed
is_inserted = wrapped (insert (single (single empty))) (single (insert empty))

source_run : run (body_text (body source 9)) (Way true ∷ Go ∷ []) 0 ≡ ran (Executed 0 ∷ Executed 1 ∷ Executed 4 ∷ []) Returned
source_run = refl

probed_run : run (body_text (body probed (Own 9))) (Go ∷ Way true ∷ Go ∷ Go ∷ []) 0
    ≡ ran (Executed (Own 0) ∷ Executed (Added 7) ∷ Executed (Own 1) ∷ Executed (Own 4) ∷ Executed (Added 8) ∷ []) Returned
probed_run = refl

erased_run : erased (run (body_text (body probed (Own 9))) (Go ∷ Way true ∷ Go ∷ Go ∷ []) 0) ≡ run (body_text (body source 9)) (Way true ∷ Go ∷ []) 0
erased_run = refl

-- the call that is inserted into the block traps: up to there the run is a front of the source's, and no trap of the source's
trapped_run : run (body_text (body probed (Own 9))) (Trap ∷ []) 0 ≡ ran (Executed (Own 0) ∷ Executed (Added 7) ∷ []) Trapped
trapped_run = refl

trap_follows_none : {asks : ℕ → Bool} {os' os : List Outcome} {r' : Run (Origin ℕ ℕ)} {r : Run ℕ} → FollowsSource asks NeverStops os' r' os r
    → os' ≡ Trap ∷ [] → r'.events ≡ Executed (Added 7) ∷ [] → ⊥
trap_follows_none alike_ended h k = absurd (cc k)
trap_follows_none (executes q f) h k = absurd (cc k)
trap_follows_none (executes_with q f) h k = absurd (cc k)
trap_follows_none (catches f) h k = absurd (cc k)
trap_follows_none (goes_on f) h k = absurd (cc h)
trap_follows_none (stops s) h k = absurd s

-- ---- block (br 0) end, and a call after the branch, which no run executes

abbrev branching : Sequence ℕ
branching = Wrapped 0 OfBlock (Single 1 (Branch 0) Empty) 2 Empty

abbrev probed_branching : Sequence (Origin ℕ ℕ)
probed_branching = Wrapped (Own 0) OfBlock (Single (Own 1) (Branch 0) (Single (Added 7) Plain Empty)) (Own 2) Empty

branching_inserted : Inserted branching probed_branching
branching_inserted = wrapped (single (insert empty)) empty

branching_run : run (body_text (body probed_branching (Own 9))) [] 0 ≡ ran (Executed (Own 0) ∷ Executed (Own 1) ∷ []) Returned
branching_run = refl

-- ---- an inserted call that throws may be caught by a handler of the source: try drop catch_all drop end

abbrev caught_source : Sequence ℕ
caught_source = TryCatch 0 (Single 1 Plain Empty) (CatchesAll 2 (Single 3 Plain Empty) 4) Empty

abbrev caught_probed : Sequence (Origin ℕ ℕ)
caught_probed = TryCatch (Own 0) (Single (Added 7) Plain (Single (Own 1) Plain Empty)) (CatchesAll (Own 2) (Single (Own 3) Plain Empty) (Own 4)) Empty

caught_run : run (body_text (body caught_probed (Own 9))) (Raise [] ∷ Go ∷ []) 0
    ≡ ran (Executed (Own 0) ∷ Executed (Added 7) ∷ Taken (Own 0) 0 None ∷ Executed (Own 3) ∷ []) Returned
caught_run = refl

-- the source runs on to its own operator
uncaught_run : run (body_text (body caught_source 9)) (Go ∷ []) 0 ≡ ran (Executed 0 ∷ Executed 1 ∷ []) Returned
uncaught_run = refl

-- ---- an `if` without `else` gets an alternative of an inserted operator alone: if drop end

abbrev one_way : Sequence ℕ
one_way = IfThen 0 (Single 1 Plain Empty) 2 Empty

abbrev both_ways : Sequence (Origin ℕ ℕ)
both_ways = IfElse (Own 0) (Single (Added 7) Plain (Single (Own 1) Plain Empty)) (Added 5) (Single (Added 8) Plain Empty) (Own 2) Empty

else_inserted : Inserted one_way both_ways
else_inserted = added_else (insert (single empty)) (insert empty) empty

first_way_run : run (body_text (body both_ways (Own 9))) (Way true ∷ Go ∷ Go ∷ []) 0
    ≡ ran (Executed (Own 0) ∷ Executed (Added 7) ∷ Executed (Own 1) ∷ []) Returned
first_way_run = refl

other_way_run : run (body_text (body both_ways (Own 9))) (Way false ∷ Go ∷ []) 0 ≡ ran (Executed (Own 0) ∷ Executed (Added 8) ∷ []) Returned
other_way_run = refl

-- ---- loop drop (br_if 0) drop end, metered at 10 for each operator

abbrev looping : Sequence ℕ
looping = Wrapped 0 OfLoop (Single 1 Plain (Single 2 (ConditionalBranch 0) (Single 3 Plain Empty))) 4 Empty

-- the first piece is the `loop`; the second ends with the `br_if`; the third comes after it; and after the `end` nothing is charged
metered_loop : metered_body (λ a. 10) (body looping 9)
    ≡ body (Single (Added 10) Plain (Wrapped (Own 0) OfLoop (Single (Added 20) Plain (Single (Own 1) Plain (Single (Own 2) (ConditionalBranch 0)
    (Single (Added 10) Plain (Single (Own 3) Plain Empty))))) (Own 4) Empty)) (Own 9)
metered_loop = refl

-- at the second turn the piece is charged again
metered_run : run (body_text (metered_body (λ a. 10) (body looping 9))) (Go ∷ Go ∷ Go ∷ Way true ∷ Go ∷ Go ∷ Way false ∷ Go ∷ Trap ∷ []) 1
    ≡ ran (Executed (Added 10) ∷ Executed (Own 0) ∷ Executed (Added 20) ∷ Executed (Own 1) ∷ Executed (Own 2) ∷ Executed (Added 20) ∷ Executed (Own 1)
    ∷ Executed (Own 2) ∷ Executed (Added 10) ∷ Executed (Own 3) ∷ []) Trapped
metered_run = refl

-- ---- a call is inserted into a tree: before a branch, and at the end of the sequence around the branch's

abbrev called : Located NamedOperation
called = at_location (call 7) 0

abbrev branched : Instruction
branched = instruction (at_location (br 0) 5) []

abbrev opened : Instruction
opened = instruction (at_location (block nothing) 4) []

edited_tree : (h : Head) → EditedItems (item opened (sequence h (item branched no_sequences no_items) no_sequences) no_items)
    (item opened (sequence h (item (instruction called []) no_sequences (item branched no_sequences no_items)) no_sequences)
    (item (instruction called []) no_sequences no_items))
edited_tree h = going_item refl (edited_sequence (added_item called refl refl (last_item refl)) no_sequence) (added_item called refl refl no_item)

-- nothing can be inserted after the branch
branch_is_last : never_goes_on (role_of branched.op.opcode) ≡ true
branch_is_last = refl

-- ---- a constant that is dropped is a probe under rules for constants and `drop`, and a `drop` alone isn't

abbrev dropped : Point (ValType ℕ) → List (Operand (ValType ℕ)) → Option (Change (ValType ℕ))
dropped p [] = if p.unreachable then Some (record { operands = []; initialises = [] }) else None
dropped p (x ∷ xs) = Some (record { operands = xs; initialises = [] })

abbrev plain_by : Opcode → Point (ValType ℕ) → Option (Change (ValType ℕ))
plain_by (Byte b) p =
    if b == 0x41 then Some (record { operands = Known I32 ∷ p.operands; initialises = [] }) else if b == 0x1a then dropped p p.operands else None
plain_by (Prefixed prefix k) p = None

abbrev rules : OperandRules (ValType ℕ)
rules = record {
  type_of = λ t. t;
  matches = same_type;
  plain = λ o p. plain_by o.opcode p;
  conditional = λ o ts p. None;
  tail_call = λ o ts p. false;
}

constant_dropped : IsProbe rules (at_location (const 7) 0 ∷ at_location drop 0 ∷ [])
constant_dropped = record { plain = (refl, (refl, tt)); neutral = λ p. refl }

drop_takes : IsProbe rules (at_location drop 0 ∷ []) → ⊥
drop_takes h = let p : Point (ValType ℕ) = record { operands = []; unreachable = false; initialised = [] } in absurd (cc (h.neutral p))
