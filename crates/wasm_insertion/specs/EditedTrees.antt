-- A tree into which a tool inserts instructions is, the ends of sequences apart, the normal form of a body with inserted operators.
use Rattle.std.specs.Prelude.{◌≡◌, ℕ, List, [], Bool, true, false, Some}
use Rattle.walrus_ir.specs.declared.val_type.InstrSeqType.{InstrSeqType}
use Rattle.walrus_ir.specs.Tree.{Items, no_items, item, Sequences, no_sequences, sequence, map_items, map_sequences}
use Rattle.wasm_body.specs.Control.{Role, an_unreachable, a_throw, a_rethrow, a_throw_ref, a_branch, a_table_branch, a_return, role_of, Plain, Does, control_of}
use Rattle.wasm_body.specs.SourceTree.{Body, map_body}
use Rattle.wasm_body.specs.FunctionTree.{Head, Instruction, FunctionTree}
use Rattle.wasm_body.specs.NormalForm.{Typing, instruction, head, normal_form}
use Rattle.wasm_body.specs.Naming.{block_types}
use Rattle.wasm_body.specs.Typed.{AreTyped}
use Rattle.wasm_body.specs.TextLaws.{IsNamedBody, IsTextOf}
use Rattle.wasm_body.specs.Machine.{Outcome, Run}
use Rattle.wasm_body.specs.Places.{show_run}
use Rattle.wasm_body.specs.ExecutionLaws.{executed_operators}
use Rattle.wasm_body.specs.ValidityLaws.{StaysValid}
use Rattle.wasm_body.specs.Flat.{Named}
use Rattle.wasm_insertion.specs.Insertion.{Origin, without_origin, InsertedBody, IsInsertedText, AddedStops, NeverStops, FollowsSource, named_asks, named_run}

-- whether an operator with this role never goes on to the next one, so that the rest of its sequence can't be reached
abbrev pub never_goes_on : Role → Bool
never_goes_on an_unreachable = true
never_goes_on a_throw = true
never_goes_on a_rethrow = true
never_goes_on a_throw_ref = true
never_goes_on a_branch = true
never_goes_on a_table_branch = true
never_goes_on a_return = true
never_goes_on _ = false

-- The second items are the first, with instructions of plain operators without block types inserted: before an instruction, and at the end of a sequence that
-- doesn't end with an instruction that never goes on. All else stays.
mutual
  pub data EditedItems : Items Head Instruction → Items Head Instruction → Type 0 where
    no_item : EditedItems no_items no_items
    added_item : (p : Named) {is js : Items Head Instruction} → control_of p.op ≡ Does Plain → block_types p.op.immediates ≡ [] → EditedItems is js
        → EditedItems is (item (instruction p []) no_sequences js)
    going_item : {i : Instruction} {ss ts : Sequences Head Instruction} {is js : Items Head Instruction} → never_goes_on (role_of i.op.opcode) ≡ false
        → EditedSequences ss ts → EditedItems is js → EditedItems (item i ss is) (item i ts js)
    last_item : {i : Instruction} {ss : Sequences Head Instruction} → never_goes_on (role_of i.op.opcode) ≡ true
        → EditedItems (item i ss no_items) (item i ss no_items)

  pub data EditedSequences : Sequences Head Instruction → Sequences Head Instruction → Type 0 where
    no_sequence : EditedSequences no_sequences no_sequences
    edited_sequence : {h : Head} {is js : Items Head Instruction} {ss ts : Sequences Head Instruction} → EditedItems is js → EditedSequences ss ts
        → EditedSequences (sequence h is ss) (sequence h js ts)

-- the items without the locations of the ends of sequences
abbrev pub without_ends : Items Head Instruction → Items InstrSeqType Instruction
without_ends is = map_items (λ h. h.type) (λ i. i) is

abbrev pub sequences_without_ends : Sequences Head Instruction → Sequences InstrSeqType Instruction
sequences_without_ends ss = map_sequences (λ h. h.type) (λ i. i) ss

-- the normal form of a body, with these items in the place of its own
abbrev pub edited_tree : Typing → Body Named → Items Head Instruction → FunctionTree
edited_tree m b js = record { head = head m.entry b.close.location; items = js }

-- The run of a text, in which it is said of each event whether its operator is added, follows a run of the source.
pub record OperatorsFollow (Stop : List Outcome → Run (Origin Named Named) → Type 0) (text : List Named) (os' : List Outcome) (turns : ℕ) (os : List Outcome)
    (run : Run Named) : Type 0 where
  pub marked : Run (Origin Named Named)
  pub operators : show_run (λ x. Some (without_origin {A = Named} x).op) marked ≡ executed_operators text os' turns
  pub follows : FollowsSource named_asks Stop os' marked os run

-- Operators that form a body with inserted operators, whose normal form has these items, the ends of sequences apart. What is written for
-- the tree with these items is a text of which each run follows one of the source, and for each run of the source there is one of the text
-- that follows it, in which no added operator stops. It is valid where the operators are.
pub record IsEditedBody (T : Type 0) (m : Typing) (xs : List Named) (b : Body Named) (js : Items Head Instruction) : Type 0 where
  pub operators : List Named
  pub body : Body (Origin Named Named)
  pub inserted : InsertedBody b body
  pub is_text : IsInsertedText operators body
  pub typed : AreTyped m operators
  pub same : without_ends (normal_form m (map_body without_origin body)).items ≡ without_ends js
  pub text : List Named
  pub is_written : IsTextOf m (edited_tree m b js) text
  pub runs : (turns : ℕ) (os' : List Outcome) → (os : List Outcome) × OperatorsFollow AddedStops text os' turns os (named_run xs os turns)
  pub source_runs : (turns : ℕ) (os : List Outcome) → (os' : List Outcome) × OperatorsFollow NeverStops text os' turns os (named_run xs os turns)
  pub stays_valid : StaysValid T m operators text

-- For each tree with insertions into the normal form of a typed body there is a body with insertions whose normal form it is.
abbrev pub EditedTrees : Type 0 → Type 0
EditedTrees T =
    (m : Typing) (xs : List Named) (b : Body Named) → IsNamedBody xs b → AreTyped m xs → (js : Items Head Instruction) → EditedItems (normal_form m b).items js →
    IsEditedBody T m xs b js
