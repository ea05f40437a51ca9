-- The validation algorithm of the standard (WebAssembly core specification 3.0, appendix, Validation Algorithm, whose names and words are
-- in quotes; the proposal of legacy exception handling for `try`, `catch`, `catch_all`, `delegate` and `rethrow`), over the named
-- operators of a body. What plain operators take and make, and which types match, are parameters, which may be any functions.
--
-- Two steps are shorter than in the appendix: each target of a `br_table` is tested against the same operands, which the appendix pops and
-- pushes back; and the frame in which a clause of a `try_table` is tested begins with what the clause hands on, which the appendix pushes
-- after it has pushed the frame.
use Rattle.std.specs.Prelude.{◌≡◌, ℕ, zero, suc, ◌-◌, List, [], ◌∷◌, ◌++◌, length, reverse, take, drop, filter, Bool, true, false, not, nat_eq, if◌then◌else◌, Option, Some, None, Result, Ok, Err}
use Rattle.std.specs.List.{list_any}
use Rattle.wasm_types.specs.declared.val_type.AbstractHeapType.TheVariants.{Exn}
use Rattle.wasm_types.specs.declared.val_type.HeapType.TheVariants.{Abstract}
use Rattle.wasm_types.specs.declared.val_type.ValType.{ValType}
use Rattle.wasm_types.specs.declared.val_type.ValType.TheVariants.{I32, Ref}
use Rattle.wasm_numbers.specs.Results.{◌>>=◌}
use Rattle.walrus_ir.specs.Types.{Signature}
use Rattle.wasm_operators.specs.Operations.{CatchClause, Immediate, clauses}
use Rattle.wasm_body.specs.Control.{Action, Nop, Plain, Branch, ConditionalBranch, TableBranch, Return, Unreachable, Throw, ThrowRef, Rethrow, TailCall, Construct, Block, Loop, TryTable, If, Try, Control, Does, Opens, Else, Catch, CatchAll, End, Delegate, control_of}
use Rattle.wasm_body.specs.Translation.{Located}
use Rattle.wasm_body.specs.Naming.{NamedOperation, block_signature}
use Rattle.wasm_body.specs.NormalForm.{Typing}

-- ---- operands

-- An operand is known, or unknown where code can't be reached ("Bot"). `T` is what is known of one: its value type, or less.
pub data Operand (T : Type 0) : Type 0 where
  Unknown : Operand T
  Known : (type : T) → Operand T

-- What an operator may look at: the operands above the height of the innermost frame, the topmost first; whether that frame is
-- unreachable; and which locals are initialised.
pub record Point (T : Type 0) : Type 0 where
  pub operands : List (Operand T)
  pub unreachable : Bool
  pub initialised : List ℕ

-- ---- the parameters

-- What an operator makes: the operands in the place of those above the height, and the locals that it initialises.
pub record Change (T : Type 0) : Type 0 where
  pub operands : List (Operand T)
  pub initialises : List ℕ

-- The rules of operators for operands and locals.
pub record OperandRules (T : Type 0) : Type 0 where
  pub type_of : ValType ℕ → T  -- what is known of an operand of this type
  pub matches : T → ValType ℕ → Bool  -- "matches_val", of an operand that is known
  pub plain : NamedOperation → Point T → Option (Change T)  -- what a plain operator makes, or none where it is refused
  pub conditional : NamedOperation → List (ValType ℕ) → Point T → Option (Change T)  -- the same of `br_if`, `br_on_null` and their kind, by the types of the label
  pub tail_call : NamedOperation → List (ValType ℕ) → Point T → Bool  -- whether a tail call is accepted, by the results of the function

-- ---- refusals

pub data Refusal : Type 0 where
  refused : Refusal

abbrev pub Checked : Type 0 → Type 0
Checked X = Result X Refusal

-- "error_if" of the contrary
abbrev pub demand : Bool → Checked (Unit {0})
demand true = Ok tt
demand false = Err refused

abbrev pub required : {X : Type 0} → Option X → Checked X
required (Some x) = Ok x
required None = Err refused

-- ---- types

abbrev pub i32 : ValType ℕ
i32 = I32

abbrev pub exnref : ValType ℕ
exnref = Ref (record { nullable = true; heap_type = Abstract Exn })

-- "(ref exn)": a caught exception isn't null
abbrev pub caught : ValType ℕ
caught = Ref (record { nullable = false; heap_type = Abstract Exn })

-- ---- which operator opened a sequence ("opcode")

pub data Opened : Type 0 where
  OfFunction : Opened
  OfBlock : Opened
  OfLoop : Opened
  OfIf : Opened
  OfElse : Opened
  OfTryTable : Opened
  OfTry : Opened
  OfCatch : Opened
  OfCatchAll : Opened

abbrev pub opened_by : Construct → Opened
opened_by Block = OfBlock
opened_by Loop = OfLoop
opened_by If = OfIf
opened_by Try = OfTry
opened_by (TryTable cs) = OfTryTable

abbrev pub is_if : Opened → Bool
is_if OfIf = true
is_if _ = false

abbrev pub is_try : Opened → Bool
is_try OfTry = true
is_try _ = false

-- whether handlers may follow
abbrev pub may_catch : Opened → Bool
may_catch OfTry = true
may_catch OfCatch = true
may_catch _ = false

-- whether `rethrow` may name it
abbrev pub is_catch : Opened → Bool
is_catch OfCatch = true
is_catch OfCatchAll = true
is_catch _ = false

-- ---- operators after which code can't be reached: those whose rule is "unreachable()" at its end

abbrev pub transfers : Action → Bool
transfers Nop = false
transfers Plain = false
transfers (Branch n) = true
transfers (ConditionalBranch n) = false
transfers (TableBranch ns d) = true
transfers Return = true
transfers Unreachable = true
transfers (Throw tag) = true
transfers ThrowRef = true
transfers (Rethrow n) = true
transfers TailCall = true

-- ---- clauses

-- those of a `try_table`
abbrev pub try_table_clauses : List (Immediate ℕ Signature) → List (CatchClause ℕ)
try_table_clauses [] = []
try_table_clauses (clauses cs ∷ is) = cs
try_table_clauses (i ∷ is) = try_table_clauses is

abbrev pub tag_types : Typing → Option ℕ → List (ValType ℕ)
tag_types m None = []
tag_types m (Some tag) = m.tag_parameters tag

-- what a clause hands to its label
abbrev pub handed : Typing → CatchClause ℕ → List (ValType ℕ)
handed m c = if c.by_reference then tag_types m c.tag ++ caught ∷ [] else tag_types m c.tag

-- ---- initialised locals

-- those of ns that aren't initialised yet
abbrev pub unset : (ns ls : List ℕ) → List ℕ
unset ns ls = filter (λ n. not (list_any (λ l. nat_eq n l) ls)) ns

-- "set_local(x)" of each: "if (not locals_init[x])", it is pushed
abbrev pub set_locals : (ns ls : List ℕ) → List ℕ
set_locals ns ls = unset ns ls ++ ls

-- ---- stacks

-- "ctrl_frame", with the height of the initialised locals ("init_height")
pub record ControlFrame : Type 0 where
  pub opened : Opened
  pub start_types : List (ValType ℕ)
  pub end_types : List (ValType ℕ)
  pub height : ℕ  -- of the operands
  pub locals_height : ℕ  -- of the initialised locals
  pub unreachable : Bool

-- the stacks of operands and of initialised locals, the last first
pub record Stacks (T : Type 0) : Type 0 where
  pub operands : List (Operand T)
  pub initialised : List ℕ

-- and with them the control stack, innermost frame first
pub record State (T : Type 0) : Type 0 where
  pub stacks : Stacks T
  pub controls : List ControlFrame

abbrev pub state : {T : Type 0} → Stacks T → List ControlFrame → State T
state s cs = record { stacks = s; controls = cs }

-- what is above a height, and what is up to it
abbrev pub above : {X : Type 0} → ℕ → List X → List X
above h xs = take (length xs - h) xs

abbrev pub up_to : {X : Type 0} → ℕ → List X → List X
up_to h xs = drop (length xs - h) xs

-- the frame that a label names: "error_if(ctrls.size() < n)"
abbrev pub labelled_frame : List ControlFrame → ℕ → Checked ControlFrame
labelled_frame [] n = Err refused
labelled_frame (c ∷ cs) zero = Ok c
labelled_frame (c ∷ cs) (suc n) = labelled_frame cs n

abbrev pub types_by : Opened → ControlFrame → List (ValType ℕ)
types_by OfLoop c = c.start_types
types_by _ c = c.end_types

-- "label_types"
abbrev pub label_types : ControlFrame → List (ValType ℕ)
label_types c = types_by c.opened c

-- the results of the function, whose frame is the outermost
abbrev pub results : List ControlFrame → List (ValType ℕ)
results [] = []
results (c ∷ []) = c.end_types
results (c ∷ d ∷ cs) = results (d ∷ cs)

module _ {T : Type 0} (m : Typing) (r : OperandRules T) where
  -- ---- operands

  -- "push_vals"
  abbrev pub push_each : List (ValType ℕ) → List (Operand T) → List (Operand T)
  push_each [] xs = xs
  push_each (t ∷ ts) xs = push_each ts (Known (r.type_of t) ∷ xs)

  abbrev pub with_operands : Stacks T → List (Operand T) → Stacks T
  with_operands s xs = record s { operands = xs }

  -- "pop_val(expect)" in the frame c
  abbrev pub fitting : ValType ℕ → List (Operand T) → Checked (List (Operand T))
  fitting expected [] = Err refused
  fitting expected (Unknown ∷ xs) = Ok xs
  fitting expected (Known t ∷ xs) = demand (r.matches t expected) >>= λ u. Ok xs

  abbrev pub pop : ControlFrame → ValType ℕ → List (Operand T) → Checked (List (Operand T))
  pop c expected xs = if nat_eq (length xs) c.height then (demand c.unreachable >>= λ u. Ok xs) else fitting expected xs

  abbrev pub pop_each : ControlFrame → List (ValType ℕ) → List (Operand T) → Checked (List (Operand T))
  pop_each c [] xs = Ok xs
  pop_each c (t ∷ ts) xs = pop c t xs >>= λ ys. pop_each c ts ys

  -- "pop_vals": the last type is that of the topmost operand
  abbrev pub pop_all : ControlFrame → List (ValType ℕ) → List (Operand T) → Checked (List (Operand T))
  pop_all c ts xs = pop_each c (reverse ts) xs

  -- ---- frames

  -- "push_ctrl"
  abbrev pub control : Stacks T → Opened → List (ValType ℕ) → List (ValType ℕ) → ControlFrame
  control s opened ins outs = record {
    opened = opened;
    start_types = ins;
    end_types = outs;
    height = length s.operands;
    locals_height = length s.initialised;
    unreachable = false;
  }

  abbrev pub push_control : Opened → List (ValType ℕ) → List (ValType ℕ) → Stacks T → List ControlFrame → State T
  push_control opened ins outs s cs = state (with_operands s (push_each ins s.operands)) (control s opened ins outs ∷ cs)

  -- "pop_ctrl": the frame's types are popped, the height is what it was, and locals are reset
  abbrev pub pop_control : ControlFrame → Stacks T → Checked (Stacks T)
  pop_control c s =
      pop_all c c.end_types s.operands >>= λ xs. demand (nat_eq (length xs) c.height) >>= λ u.
      Ok (record { operands = xs; initialised = up_to c.locals_height s.initialised })

  -- What a construct gives, in the frame around it. After the function there is none.
  abbrev pub given : List (ValType ℕ) → Stacks T → List ControlFrame → State T
  given ts s [] = state s []
  given ts s (c ∷ cs) = state (with_operands s (push_each ts s.operands)) (c ∷ cs)

  -- ---- operators that neither open nor close, in the frame c, the innermost of cs

  abbrev pub point : ControlFrame → Stacks T → Point T
  point c s = record { operands = above c.height s.operands; unreachable = c.unreachable; initialised = s.initialised }

  abbrev pub changed : ControlFrame → Change T → Stacks T → Stacks T
  changed c k s = record { operands = k.operands ++ up_to c.height s.operands; initialised = set_locals k.initialises s.initialised }

  -- of `br_table`, by the number of types of the default: "foreach (n in n*) error_if(ctrls.size() < n);
  -- error_if(label_types(ctrls[n]).size() =/= arity); push_vals(pop_vals(label_types(ctrls[n])))"
  abbrev pub targets : ControlFrame → List ControlFrame → List (Operand T) → ℕ → List ℕ → Checked (Unit {0})
  targets c cs xs arity [] = Ok tt
  targets c cs xs arity (n ∷ ns) =
      labelled_frame cs n >>= λ d. demand (nat_eq (length (label_types d)) arity) >>= λ u. pop_all c (label_types d) xs >>= λ q. targets c cs xs arity ns

  abbrev pub popping : ControlFrame → List (ValType ℕ) → Stacks T → Checked (Stacks T)
  popping c ts s = pop_all c ts s.operands >>= λ xs. Ok (with_operands s xs)

  -- The stacks without what the operator takes, and with what it makes:
  --   br n: "pop_vals(label_types(ctrls[n]))"
  --   br_table n* m: "pop_val(I32)", the targets, "pop_vals(label_types(ctrls[m]))"
  --   return: the results of the function, which are the types of its label
  --   throw x: "pop_vals(tags[x].type.params)"
  --   throw_ref: "pop_val(Exnref)"
  --   rethrow n: the label is that of a handler
  abbrev pub taken : Action → NamedOperation → ControlFrame → List ControlFrame → Stacks T → Checked (Stacks T)
  taken Nop o c cs s = Ok s
  taken Plain o c cs s = required (r.plain o (point c s)) >>= λ k. Ok (changed c k s)
  taken (Branch n) o c cs s = labelled_frame cs n >>= λ d. popping c (label_types d) s
  taken (ConditionalBranch n) o c cs s = labelled_frame cs n >>= λ d. required (r.conditional o (label_types d) (point c s)) >>= λ k. Ok (changed c k s)
  taken (TableBranch ns n) o c cs s =
      pop c i32 s.operands >>= λ xs. labelled_frame cs n >>= λ d. targets c cs xs (length (label_types d)) ns >>= λ u. popping c (label_types d) (with_operands s xs)
  taken Return o c cs s = popping c (results cs) s
  taken Unreachable o c cs s = Ok s
  taken (Throw tag) o c cs s = popping c (m.tag_parameters tag) s
  taken ThrowRef o c cs s = pop c exnref s.operands >>= λ xs. Ok (with_operands s xs)
  taken (Rethrow n) o c cs s = labelled_frame cs n >>= λ d. demand (is_catch d.opened) >>= λ u. Ok s
  taken TailCall o c cs s = demand (r.tail_call o (results cs) (point c s)) >>= λ u. Ok s

  -- "unreachable()": the operands are dropped down to the height
  abbrev pub unreachable : ControlFrame → Stacks T → List ControlFrame → State T
  unreachable c s cs = state (with_operands s (up_to c.height s.operands)) (record c { unreachable = true } ∷ cs)

  abbrev pub after_action : Action → ControlFrame → Stacks T → List ControlFrame → State T
  after_action action c s cs = if transfers action then unreachable c s cs else state s (c ∷ cs)

  -- ---- operators that open a construct

  -- of `if`: "pop_val(I32)"
  abbrev pub condition : Construct → ControlFrame → List (Operand T) → Checked (List (Operand T))
  condition If c xs = pop c i32 xs
  condition _ c xs = Ok xs

  -- of `try_table`: "foreach (handler in handler*) error_if(ctrls.size() < handler.label); push_ctrl(catch, [], label_types(ctrls[handler.label]));
  -- push_vals(tags[x].type.params); pop_ctrl()", where a clause with a reference also pushes "(ref exn)"
  abbrev pub hand : List ControlFrame → Stacks T → List (CatchClause ℕ) → Checked (Unit {0})
  hand cs s [] = Ok tt
  hand cs s (k ∷ ks) =
      labelled_frame cs k.label >>= λ d.
      pop_control (control s OfCatch (handed m k) (label_types d)) (with_operands s (push_each (handed m k) s.operands)) >>= λ t. hand cs s ks

  abbrev pub checks_catches : Construct → NamedOperation → List ControlFrame → Stacks T → Checked (Unit {0})
  checks_catches (TryTable ks) o cs s = hand cs s (try_table_clauses o.immediates)
  checks_catches _ o cs s = Ok tt

  -- "pop_vals([t1*])"
  abbrev pub taken_by : Construct → NamedOperation → ControlFrame → Stacks T → Checked (Stacks T)
  taken_by construct o c s = condition construct c s.operands >>= λ xs. popping c (block_signature o).parameters (with_operands s xs)

  -- "push_ctrl(opcode, [t1*], [t2*])"
  abbrev pub opens : Construct → NamedOperation → Stacks T → List ControlFrame → Checked (State T)
  opens construct o s cs = checks_catches construct o cs s >>= λ u. Ok (push_control (opened_by construct) (block_signature o).parameters (block_signature o).results s cs)

  -- ---- operators that part or close a construct

  -- The `end` of an `if` without `else` is read as `else end` (section 5.4, binary format of control instructions).
  abbrev pub checks_end : Opened → ControlFrame → Stacks T → Checked (Stacks T)
  checks_end OfIf c s = pop_control (control s OfElse c.start_types c.end_types) (with_operands s (push_each c.start_types s.operands))
  checks_end _ c s = Ok s

  -- After an operator that closes the frame c in the frames cs, by "pop_ctrl()":
  --   else: "error_if(frame.opcode =/= if); push_ctrl(else, frame.start_types, frame.end_types)"
  --   catch x, catch_all: the frame is that of `try` or of a `catch`; "push_ctrl" with the types of the tag, or with none
  --   end: "push_vals(frame.end_types)"
  --   delegate n: the frame is that of `try`, there is a label n, and it gives what `end` gives
  abbrev pub next_sequence : Control → ControlFrame → Stacks T → List ControlFrame → Checked (State T)
  next_sequence Else c s cs = demand (is_if c.opened) >>= λ u. Ok (push_control OfElse c.start_types c.end_types s cs)
  next_sequence (Catch tag) c s cs = demand (may_catch c.opened) >>= λ u. Ok (push_control OfCatch (m.tag_parameters tag) c.end_types s cs)
  next_sequence CatchAll c s cs = demand (may_catch c.opened) >>= λ u. Ok (push_control OfCatchAll [] c.end_types s cs)
  next_sequence End c s cs = checks_end c.opened c s >>= λ t. Ok (given c.end_types t cs)
  next_sequence (Delegate n) c s cs = demand (is_try c.opened) >>= λ u. labelled_frame cs n >>= λ d. Ok (given c.end_types s cs)
  next_sequence _ c s cs = Err refused

  -- ---- validation

  abbrev pub step_in : Control → NamedOperation → Stacks T → List ControlFrame → Checked (State T)
  step_in k o s [] = Err refused
  step_in (Does action) o s (c ∷ cs) = taken action o c (c ∷ cs) s >>= λ t. Ok (after_action action c t cs)
  step_in (Opens construct) o s (c ∷ cs) = taken_by construct o c s >>= λ t. opens construct o t (c ∷ cs)
  step_in k o s (c ∷ cs) = pop_control c s >>= λ t. next_sequence k c t cs

  abbrev pub validate : List (Located NamedOperation) → State T → Checked (State T)
  validate [] st = Ok st
  validate (x ∷ xs) st = step_in (control_of x.op) x.op st.stacks st.controls >>= λ next. validate xs next

  abbrev pub start : List (ValType ℕ) → List ℕ → State T
  start rs ls =
      state (record { operands = []; initialised = ls })
      (record { opened = OfFunction; start_types = []; end_types = rs; height = 0; locals_height = 0; unreachable = false } ∷ [])

  -- The operators are valid as the body of a function with these results, where these locals are initialised at its begin: none is
  -- refused, and the last closes the function's frame.
  abbrev pub IsValid : List (ValType ℕ) → List ℕ → List (Located NamedOperation) → Type 0
  IsValid rs ls xs = (left : Stacks T) × (validate xs (start rs ls) ≡ Ok (state left []))
