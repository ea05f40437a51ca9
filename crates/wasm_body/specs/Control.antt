-- What an operator does to the control flow (WebAssembly core specification 3.0, control instructions; legacy exception
-- handling). Trees, rules on labels and the trace machine use nothing else of an operator.
use Rattle.std.specs.Prelude.{ℕ, List, [], ◌∷◌, map, Option, unwrap_or, ◌==◌, if◌then◌else◌}
use Rattle.wasm_operators.specs.declared.types.Opcode.{Opcode}
use Rattle.wasm_operators.specs.declared.types.Opcode.TheVariants.{Byte, Prefixed}
use Rattle.wasm_operators.specs.Types.{row_at}
use Rattle.wasm_operators.specs.Operations.{Immediate, index, label, handler, outer, branch_table, clauses, cast, CatchClause, Operation, operation}

-- ---- the roles of operators, by their opcodes

pub data Role : Type 0 where
  an_unreachable : Role
  a_nop : Role
  a_block : Role
  a_loop : Role
  an_if : Role
  an_else : Role
  a_try : Role
  a_catch : Role
  a_throw : Role
  a_rethrow : Role
  a_throw_ref : Role
  an_end : Role
  a_branch : Role
  a_conditional_branch : Role
  a_table_branch : Role
  a_return : Role
  a_tail_call : Role
  a_delegate : Role
  a_catch_all : Role
  a_try_table : Role
  a_plain : Role  -- any other

abbrev pub byte_roles : List (ℕ × Role)
byte_roles =
    (0x00, an_unreachable) ∷
    (0x01, a_nop) ∷
    (0x02, a_block) ∷
    (0x03, a_loop) ∷
    (0x04, an_if) ∷
    (0x05, an_else) ∷
    (0x06, a_try) ∷
    (0x07, a_catch) ∷
    (0x08, a_throw) ∷
    (0x09, a_rethrow) ∷
    (0x0a, a_throw_ref) ∷
    (0x0b, an_end) ∷
    (0x0c, a_branch) ∷
    (0x0d, a_conditional_branch) ∷
    (0x0e, a_table_branch) ∷
    (0x0f, a_return) ∷
    (0x12, a_tail_call) ∷
    (0x13, a_tail_call) ∷
    (0x15, a_tail_call) ∷
    (0x18, a_delegate) ∷
    (0x19, a_catch_all) ∷
    (0x1f, a_try_table) ∷
    (0xd5, a_conditional_branch) ∷  -- br_on_null
    (0xd6, a_conditional_branch) ∷  -- br_on_non_null
    []

-- after the prefix 0xfb
abbrev pub aggregate_roles : List (ℕ × Role)
aggregate_roles =
    (24, a_conditional_branch) ∷  -- br_on_cast
    (25, a_conditional_branch) ∷  -- br_on_cast_fail
    []

abbrev pub role_of : Opcode → Role
role_of (Byte b) = unwrap_or (row_at byte_roles b) a_plain
role_of (Prefixed prefix n) = if prefix == 0xfb then unwrap_or (row_at aggregate_roles n) a_plain else a_plain

-- ---- control

-- an operator that neither opens, parts nor closes a construct
pub data Action : Type 0 where
  Nop : Action
  Plain : Action
  Branch : (n : ℕ) → Action
  ConditionalBranch : (n : ℕ) → Action
  TableBranch : (targets : List ℕ) (default : ℕ) → Action
  Return : Action
  Unreachable : Action
  Throw : (tag : ℕ) → Action
  ThrowRef : Action
  Rethrow : (n : ℕ) → Action
  TailCall : Action

-- a clause of `try_table`: its tag, or none if it catches all, and its label
pub record Clause : Type 0 where
  pub tag : Option ℕ
  pub label : ℕ

-- the construct that an operator opens
pub data Construct : Type 0 where
  Block : Construct
  Loop : Construct
  If : Construct
  Try : Construct
  TryTable : (clauses : List Clause) → Construct

pub data Control : Type 0 where
  Does : (action : Action) → Control
  Opens : (construct : Construct) → Control
  Else : Control
  Catch : (tag : ℕ) → Control
  CatchAll : Control
  End : Control
  Delegate : (n : ℕ) → Control

-- the immediates that matter to the control

abbrev pub first_label : {B : Type 0} → List (Immediate ℕ B) → ℕ
first_label [] = 0
first_label (label n ∷ is) = n
first_label (cast c ∷ is) = c.label
first_label (i ∷ is) = first_label is

abbrev pub first_depth : {L B : Type 0} → List (Immediate L B) → ℕ
first_depth (handler depth ∷ is) = depth
first_depth (outer depth ∷ is) = depth
first_depth _ = 0

abbrev pub first_index : {L B : Type 0} → List (Immediate L B) → ℕ
first_index (index space n ∷ is) = n
first_index _ = 0

abbrev pub branches : {B : Type 0} → List (Immediate ℕ B) → Action
branches (branch_table targets default ∷ is) = TableBranch targets default
branches _ = TableBranch [] 0

abbrev pub catching : CatchClause ℕ → Clause
catching c = record { tag = c.tag; label = c.label }

abbrev pub catch_list : {B : Type 0} → List (Immediate ℕ B) → List Clause
catch_list [] = []
catch_list (clauses cs ∷ is) = map catching cs
catch_list (i ∷ is) = catch_list is

abbrev pub control_by : {B : Type 0} → Role → List (Immediate ℕ B) → Control
control_by an_unreachable is = Does Unreachable
control_by a_nop is = Does Nop
control_by a_block is = Opens Block
control_by a_loop is = Opens Loop
control_by an_if is = Opens If
control_by an_else is = Else
control_by a_try is = Opens Try
control_by a_catch is = Catch (first_index is)
control_by a_throw is = Does (Throw (first_index is))
control_by a_rethrow is = Does (Rethrow (first_depth is))
control_by a_throw_ref is = Does ThrowRef
control_by an_end is = End
control_by a_branch is = Does (Branch (first_label is))
control_by a_conditional_branch is = Does (ConditionalBranch (first_label is))
control_by a_table_branch is = Does (branches is)
control_by a_return is = Does Return
control_by a_tail_call is = Does TailCall
control_by a_delegate is = Delegate (first_depth is)
control_by a_catch_all is = CatchAll
control_by a_try_table is = Opens (TryTable (catch_list is))
control_by a_plain is = Does Plain

abbrev pub control_of : {B : Type 0} → Operation ℕ B → Control
control_of o = control_by (role_of o.opcode) o.immediates

-- an operator as trees and runs see it: a value that is shown for it, and what it does to the control flow
pub record Marked (A : Type 0) : Type 0 where
  pub shown : A
  pub control : Control

abbrev pub with_control : {A : Type 0} → A → Control → Marked A
with_control shown control = record { shown = shown; control = control }

-- ---- the operators that part and close constructs

abbrev pub end_operation : {L B : Type 0} → Operation L B
end_operation = operation (Byte 0x0b) []

abbrev pub else_operation : {L B : Type 0} → Operation L B
else_operation = operation (Byte 0x05) []

abbrev pub catch_opcode : Opcode
catch_opcode = Byte 0x07

abbrev pub catch_all_operation : {L B : Type 0} → Operation L B
catch_all_operation = operation (Byte 0x19) []

abbrev pub delegate_operation : {L B : Type 0} → ℕ → Operation L B
delegate_operation n = operation (Byte 0x18) (outer n ∷ [])
