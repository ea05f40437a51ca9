-- Items of a tree with a charge before each straight piece.
use Rattle.std.proofs.Common.{◌≡◌, ℕ, zero, suc, ◌+◌, List, [], ◌∷◌, ◌++◌, Bool, true, false, refl, ap, subst}
use Rattle.walrus_ir.specs.Types.{Signature}
use Rattle.walrus_ir.specs.Tree.{Items, no_items, item, Sequences, no_sequences, sequence}
use Rattle.wasm_operators.specs.Operations.{Immediate, index, local, label, handler, outer, number, access, branch_table, clauses, block, heap, value, cast, i32, i64, f32, f64, v128, lane, lanes, zero_byte}
use Rattle.wasm_body.specs.Control.{Role, an_unreachable, a_nop, a_block, a_loop, an_if, an_else, a_try, a_catch, a_throw, a_rethrow, a_throw_ref, an_end, a_branch, a_conditional_branch, a_table_branch, a_return, a_tail_call, a_delegate, a_catch_all, a_try_table, a_plain, role_of, Action, Nop, Plain, Branch, ConditionalBranch, Return, Unreachable, Throw, ThrowRef, Rethrow, TailCall, Construct, Does, Opens, first_label, first_depth, first_index, branches, control_by}
use Rattle.wasm_body.specs.Flat.{Named}
use Rattle.wasm_body.specs.FunctionTree.{Head, Instruction}
use Rattle.wasm_body.specs.NormalForm.{instruction}
use Rattle.wasm_insertion.specs.Insertion.{goes_straight, rest_of_piece}
use Rattle.walrus_insertion.proofs.AddedItems.{before_items}
use Rattle.walrus_metering.specs.declared.costs.Costs.{Costs}
use Rattle.walrus_metering.specs.declared.charge.Charge.{Charge}
use Rattle.walrus_metering.specs.OperatorCosts.{operator_cost}
use Rattle.walrus_metering.specs.MeteredInstructions.{role_goes_straight}
use Rattle.walrus_metering.specs.MeteredTrees.{operators_for}

-- ---- roles

table_stops : (is : List (Immediate ℕ Signature)) → false ≡ goes_straight (branches is)
table_stops [] = refl
table_stops (index space n ∷ is) = refl
table_stops (local n ∷ is) = refl
table_stops (label l ∷ is) = refl
table_stops (handler depth ∷ is) = refl
table_stops (outer depth ∷ is) = refl
table_stops (number n ∷ is) = refl
table_stops (access a ∷ is) = refl
table_stops (branch_table targets default ∷ is) = refl
table_stops (clauses cs ∷ is) = refl
table_stops (block type ∷ is) = refl
table_stops (heap type ∷ is) = refl
table_stops (value type ∷ is) = refl
table_stops (cast c ∷ is) = refl
table_stops (i32 z ∷ is) = refl
table_stops (i64 z ∷ is) = refl
table_stops (f32 bits ∷ is) = refl
table_stops (f64 bits ∷ is) = refl
table_stops (v128 bits ∷ is) = refl
table_stops (lane n ∷ is) = refl
table_stops (lanes ns ∷ is) = refl
table_stops (zero_byte ∷ is) = refl

same_going : (x action : Action) (y : Bool) → Does x ≡ Does action → y ≡ goes_straight x → y ≡ goes_straight action
same_going x action y e q = let z : x ≡ action = cc e in subst (λ w. y ≡ goes_straight w) z q

-- what its role says of an operator that does this
pub action_straight : (r : Role) (is : List (Immediate ℕ Signature)) (action : Action) → control_by r is ≡ Does action
    → role_goes_straight r ≡ goes_straight action
action_straight an_unreachable is action h = same_going Unreachable action false h refl
action_straight a_nop is action h = same_going Nop action true h refl
action_straight a_block is action h = absurd (cc h)
action_straight a_loop is action h = absurd (cc h)
action_straight an_if is action h = absurd (cc h)
action_straight an_else is action h = absurd (cc h)
action_straight a_try is action h = absurd (cc h)
action_straight a_catch is action h = absurd (cc h)
action_straight a_throw is action h = same_going (Throw (first_index is)) action false h refl
action_straight a_rethrow is action h = same_going (Rethrow (first_depth is)) action false h refl
action_straight a_throw_ref is action h = same_going ThrowRef action false h refl
action_straight an_end is action h = absurd (cc h)
action_straight a_branch is action h = same_going (Branch (first_label is)) action false h refl
action_straight a_conditional_branch is action h = same_going (ConditionalBranch (first_label is)) action false h refl
action_straight a_table_branch is action h = same_going (branches is) action false h (table_stops is)
action_straight a_return is action h = same_going Return action false h refl
action_straight a_tail_call is action h = same_going TailCall action false h refl
action_straight a_delegate is action h = absurd (cc h)
action_straight a_catch_all is action h = absurd (cc h)
action_straight a_try_table is action h = absurd (cc h)
action_straight a_plain is action h = same_going Plain action true h refl

pub opens_straight : (r : Role) (is : List (Immediate ℕ Signature)) (k : Construct) → control_by r is ≡ Opens k → role_goes_straight r ≡ false
opens_straight an_unreachable is k h = refl
opens_straight a_nop is k h = absurd (cc h)
opens_straight a_block is k h = refl
opens_straight a_loop is k h = refl
opens_straight an_if is k h = refl
opens_straight an_else is k h = refl
opens_straight a_try is k h = refl
opens_straight a_catch is k h = refl
opens_straight a_throw is k h = refl
opens_straight a_rethrow is k h = refl
opens_straight a_throw_ref is k h = refl
opens_straight an_end is k h = refl
opens_straight a_branch is k h = refl
opens_straight a_conditional_branch is k h = refl
opens_straight a_table_branch is k h = refl
opens_straight a_return is k h = refl
opens_straight a_tail_call is k h = refl
opens_straight a_delegate is k h = refl
opens_straight a_catch_all is k h = refl
opens_straight a_try_table is k h = refl
opens_straight a_plain is k h = absurd (cc h)

-- ---- items

pub before_more : (ps : List Named) (q : Named) (is : Items Head Instruction)
    → before_items ps (item (instruction q []) no_sequences is) ≡ before_items (ps ++ q ∷ []) is
before_more [] q is = refl
before_more (p ∷ ps) q is = ap (λ l. item (instruction p []) no_sequences l) (before_more ps q is)

abbrev pub is_straight_on : Instruction → Bool
is_straight_on i = role_goes_straight (role_of i.op.opcode)

module _ (costs : Costs) (charge : Charge) where
  abbrev pub items_cost : Items Head Instruction → ℕ
  items_cost no_items = 0
  items_cost (item i ss is) = operator_cost costs i.op.opcode + rest_of_piece (is_straight_on i) (items_cost is)

  -- a charge of n before items, unless the piece before goes on there
  abbrev pub paying : Bool → ℕ → Items Head Instruction → Items Head Instruction
  paying true n is = is
  paying false zero is = is
  paying false (suc n) is = before_items (operators_for charge (suc n)) is

  abbrev mutual
    pub paid_items : Items Head Instruction → Items Head Instruction
    paid_items no_items = no_items
    paid_items (item i ss is) = item i (paid_sequences ss) (paying (is_straight_on i) (items_cost is) (paid_items is))

    pub paid_sequences : Sequences Head Instruction → Sequences Head Instruction
    paid_sequences no_sequences = no_sequences
    paid_sequences (sequence h is ss) = sequence h (paying false (items_cost is) (paid_items is)) (paid_sequences ss)
