-- The validation algorithm with frames that hold their own operands, in the place of heights. It accepts what the algorithm of the
-- definitions accepts (HeightsAgree), and nothing about it needs arithmetic.
use Rattle.std.specs.Prelude.{◌≡◌, ℕ, zero, suc, List, [], ◌∷◌, ◌++◌, length, reverse, Bool, true, false, nat_eq, if◌then◌else◌, Ok, Err}
use Rattle.wasm_types.specs.declared.val_type.ValType.{ValType}
use Rattle.wasm_numbers.specs.Results.{◌>>=◌}
use Rattle.wasm_operators.specs.Operations.{CatchClause}
use Rattle.wasm_body.specs.Control.{Action, Nop, Plain, Branch, ConditionalBranch, TableBranch, Return, Unreachable, Throw, ThrowRef, Rethrow, TailCall, Construct, TryTable, If, Control, Does, Opens, Else, Catch, CatchAll, End, Delegate, control_of}
use Rattle.wasm_body.specs.Translation.{Located}
use Rattle.wasm_body.specs.Naming.{NamedOperation, block_signature}
use Rattle.wasm_body.specs.NormalForm.{Typing}
use Rattle.wasm_body.specs.Validity.{Operand, Unknown, Known, Point, Opened, OfFunction, OfLoop, OfIf, OfElse, OfCatch, OfCatchAll, Change, OperandRules, refused, Checked, demand, required, i32, exnref, opened_by, is_if, is_try, may_catch, is_catch, transfers, try_table_clauses, handed, set_locals, push_each}

-- A frame of the control stack. In the place of the heights of the two other stacks it holds what is above them: each frame has its
-- own operands. One that isn't the innermost has the locals that were initialised when the next was opened, to which the closing of
-- that one resets them.
pub record NestedFrame (T : Type 0) : Type 0 where
  pub opened : Opened
  pub start_types : List (ValType ℕ)
  pub end_types : List (ValType ℕ)
  pub point : Point T

-- the control stack, innermost frame first
abbrev pub NestedFrames : Type 0 → Type 0
NestedFrames T = List (NestedFrame T)

abbrev pub none : {X : Type 0} → List X → Bool
none [] = true
none (x ∷ xs) = false

-- ---- the control stack

abbrev pub at : {T : Type 0} → NestedFrame T → Point T → NestedFrame T
at f p = record f { point = p }

abbrev pub initialised_in : {T : Type 0} → NestedFrames T → List ℕ
initialised_in [] = []
initialised_in (f ∷ fs) = f.point.initialised

-- the frame that a label names
abbrev pub label : {T : Type 0} → NestedFrames T → ℕ → Checked (NestedFrame T)
label [] n = Err refused
label (f ∷ fs) zero = Ok f
label (f ∷ fs) (suc n) = label fs n

abbrev pub types_by : {T : Type 0} → Opened → NestedFrame T → List (ValType ℕ)
types_by OfLoop f = f.start_types
types_by _ f = f.end_types

-- "label_types"
abbrev pub label_types : {T : Type 0} → NestedFrame T → List (ValType ℕ)
label_types f = types_by f.opened f

-- the results of the function, whose frame is the outermost
abbrev pub results : {T : Type 0} → NestedFrames T → List (ValType ℕ)
results [] = []
results (f ∷ []) = f.end_types
results (f ∷ g ∷ fs) = results (g ∷ fs)

-- ---- points

abbrev pub changed : {T : Type 0} → Change T → Point T → Point T
changed c p = record p { operands = c.operands; initialised = set_locals c.initialises p.initialised }

-- "unreachable()": the operands are dropped down to the height of the frame
abbrev pub unreachable : {T : Type 0} → Point T → Point T
unreachable p = record p { operands = []; unreachable = true }

abbrev pub after_action : {T : Type 0} → Action → Point T → Point T
after_action action p = if transfers action then unreachable p else p

module _ {T : Type 0} (m : Typing) (r : OperandRules T) where
  -- ---- the operand stack

  -- "pop_val(expect)": below the height of an unreachable frame each operand is unknown, and an unknown one matches every type.
  abbrev pub popped : ValType ℕ → Point T → List (Operand T) → Checked (Point T)
  popped expected p [] = demand p.unreachable >>= λ u. Ok p
  popped expected p (Unknown ∷ xs) = Ok (record p { operands = xs })
  popped expected p (Known t ∷ xs) = demand (r.matches t expected) >>= λ u. Ok (record p { operands = xs })

  abbrev pub pop : ValType ℕ → Point T → Checked (Point T)
  pop expected p = popped expected p p.operands

  abbrev pub pop_each : List (ValType ℕ) → Point T → Checked (Point T)
  pop_each [] p = Ok p
  pop_each (t ∷ ts) p = pop t p >>= λ q. pop_each ts q

  -- "pop_vals": the last type is that of the topmost operand
  abbrev pub pop_all : List (ValType ℕ) → Point T → Checked (Point T)
  pop_all ts p = pop_each (reverse ts) p

  -- ---- frames that open and close

  -- "push_ctrl": in these frames a new one, which takes the one list and is to give the other
  abbrev pub opened_in : NestedFrames T → Opened → List (ValType ℕ) → List (ValType ℕ) → NestedFrame T
  opened_in fs opened ins outs = record {
    opened = opened;
    start_types = ins;
    end_types = outs;
    point = record { operands = push_each m r ins []; unreachable = false; initialised = initialised_in fs };
  }

  -- "pop_ctrl": the operands of the frame are what it is to give, and no more
  abbrev pub closes : NestedFrame T → Checked (Unit {0})
  closes f = pop_all f.end_types f.point >>= λ p. demand (none p.operands)

  -- what a construct gives, in the frame around it
  abbrev pub given : List (ValType ℕ) → NestedFrames T → NestedFrames T
  given ts [] = []
  given ts (f ∷ fs) = at f (record f.point { operands = push_each m r ts f.point.operands }) ∷ fs

  -- ---- operators that neither open nor close

  -- the other targets of a `br_table`: each takes as many types as the default, and they match the same operands
  abbrev pub targets : NestedFrames T → Point T → ℕ → List ℕ → Checked (Unit {0})
  targets fs p arity [] = Ok tt
  targets fs p arity (n ∷ ns) =
      label fs n >>= λ g. demand (nat_eq (length (label_types g)) arity) >>= λ u. pop_all (label_types g) p >>= λ q. targets fs p arity ns

  -- in these frames, from the point of the innermost: what is left of it when the operator has what it takes
  abbrev pub taken : Action → NamedOperation → NestedFrames T → Point T → Checked (Point T)
  taken Nop o fs p = Ok p
  taken Plain o fs p = required (r.plain o p) >>= λ c. Ok (changed c p)
  taken (Branch n) o fs p = label fs n >>= λ g. pop_all (label_types g) p
  taken (ConditionalBranch n) o fs p = label fs n >>= λ g. required (r.conditional o (label_types g) p) >>= λ c. Ok (changed c p)
  taken (TableBranch ns d) o fs p =
      pop i32 p >>= λ q. label fs d >>= λ g. targets fs q (length (label_types g)) ns >>= λ u. pop_all (label_types g) q
  taken Return o fs p = pop_all (results fs) p
  taken Unreachable o fs p = Ok p
  taken (Throw tag) o fs p = pop_all (m.tag_parameters tag) p
  taken ThrowRef o fs p = pop exnref p
  taken (Rethrow n) o fs p = label fs n >>= λ g. demand (is_catch g.opened) >>= λ u. Ok p
  taken TailCall o fs p = demand (r.tail_call o (results fs) p) >>= λ u. Ok p

  -- ---- operators that open a construct

  -- what is taken before the parameters
  abbrev pub condition : Construct → Point T → Checked (Point T)
  condition If p = pop i32 p
  condition _ p = Ok p

  -- each clause of a `try_table` hands to its label what the label takes
  abbrev pub hand : NestedFrames T → List (CatchClause ℕ) → Checked (Unit {0})
  hand fs [] = Ok tt
  hand fs (c ∷ cs) = label fs c.label >>= λ g. closes (opened_in fs OfCatch (handed m c) (label_types g)) >>= λ u. hand fs cs

  abbrev pub catching : Construct → NamedOperation → NestedFrames T → Checked (Unit {0})
  catching (TryTable cs) o fs = hand fs (try_table_clauses o.immediates)
  catching _ o fs = Ok tt

  abbrev pub taken_by : Construct → NamedOperation → Point T → Checked (Point T)
  taken_by construct o p = condition construct p >>= λ q. pop_all (block_signature o).parameters q

  abbrev pub frame_by : Construct → NamedOperation → NestedFrames T → NestedFrame T
  frame_by construct o fs = opened_in fs (opened_by construct) (block_signature o).parameters (block_signature o).results

  abbrev pub opens : Construct → NamedOperation → NestedFrames T → Checked (NestedFrames T)
  opens construct o fs = catching construct o fs >>= λ u. Ok (frame_by construct o fs ∷ fs)

  -- ---- operators that part or close a construct

  -- after an `else`
  abbrev pub alternative : NestedFrame T → NestedFrames T → NestedFrame T
  alternative f fs = opened_in fs OfElse f.start_types f.end_types

  -- after a `catch` and a `catch_all`
  abbrev pub handler : ℕ → NestedFrame T → NestedFrames T → NestedFrame T
  handler tag f fs = opened_in fs OfCatch (m.tag_parameters tag) f.end_types

  abbrev pub handler_of_all : NestedFrame T → NestedFrames T → NestedFrame T
  handler_of_all f fs = opened_in fs OfCatchAll [] f.end_types

  -- the `end` of an `if` is read as `else end`
  abbrev pub ends : Opened → NestedFrame T → NestedFrames T → Checked (Unit {0})
  ends OfIf f fs = closes (alternative f fs)
  ends _ f fs = Ok tt

  -- the frames after an operator that closes the frame f in the frames fs, where f is as it is to be
  abbrev pub next_sequence : Control → NestedFrame T → NestedFrames T → Checked (NestedFrames T)
  next_sequence Else f fs = demand (is_if f.opened) >>= λ u. Ok (alternative f fs ∷ fs)
  next_sequence (Catch tag) f fs = demand (may_catch f.opened) >>= λ u. Ok (handler tag f fs ∷ fs)
  next_sequence CatchAll f fs = demand (may_catch f.opened) >>= λ u. Ok (handler_of_all f fs ∷ fs)
  next_sequence End f fs = ends f.opened f fs >>= λ u. Ok (given f.end_types fs)
  next_sequence (Delegate n) f fs = demand (is_try f.opened) >>= λ u. label fs n >>= λ g. Ok (given f.end_types fs)
  next_sequence _ f fs = Err refused

  -- ---- validation

  abbrev pub step : Control → NamedOperation → NestedFrames T → Checked (NestedFrames T)
  step c o [] = Err refused
  step (Does action) o (f ∷ fs) = taken action o (f ∷ fs) f.point >>= λ p. Ok (at f (after_action action p) ∷ fs)
  step (Opens construct) o (f ∷ fs) = taken_by construct o f.point >>= λ p. opens construct o (at f p ∷ fs)
  step c o (f ∷ fs) = closes f >>= λ u. next_sequence c f fs

  -- the frames after these operators
  abbrev pub validate : List (Located NamedOperation) → NestedFrames T → Checked (NestedFrames T)
  validate [] fs = Ok fs
  validate (x ∷ xs) fs = step (control_of x.op) x.op fs >>= λ gs. validate xs gs

  -- in a function with these results, where these locals are initialised at its begin
  abbrev pub function_frame : List (ValType ℕ) → List ℕ → NestedFrame T
  function_frame rs ls = record {
    opened = OfFunction;
    start_types = [];
    end_types = rs;
    point = record { operands = []; unreachable = false; initialised = ls };
  }

  -- The operators are valid as the body of such a function: none is refused, and the last closes the function's frame.
  abbrev pub IsValid : List (ValType ℕ) → List ℕ → List (Located NamedOperation) → Type 0
  IsValid rs ls xs = validate xs (function_frame rs ls ∷ []) ≡ Ok []
