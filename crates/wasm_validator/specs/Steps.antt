-- What the methods of the validator do.
use Rattle.std.specs.Prelude.{◌≡◌, ◌≤◌, ℕ, List, [], ◌∷◌, ◌++◌, length, Bool, true, false, Result, Ok, Err, if◌then◌else◌}
use Rattle.wasm_types.specs.declared.val_type.ValType.{ValType}
use Rattle.wasm_numbers.specs.Results.{◌>>=◌}
use Rattle.wasm_body.specs.Validity as algorithm
use Rattle.wasm_body.specs.Validity.{ControlFrame, Stacks, Checked, refused}
use Rattle.wasm_body.specs.ValidityLaws.{KnownOperand}
use Rattle.wasm_typing.specs.Matching.{matches_known}
use Rattle.wasm_typing.specs.StandardRules.{standard_rules}
use Rattle.wasm_context.specs.Validation.{BodyContext, BodyState, typing_in}
use Rattle.wasm_context.specs.Contexts.{context_of}
use Rattle.wasm_context.specs.TypeLists.{types_in}
use Rattle.wasm_context.specs.declared.blocks.TypeList.{TypeList}
use Rattle.wasm_locals.specs.LocalTypes.{types_of_locals}
use Rattle.wasm_validator.specs.declared.fault.Fault.{Fault}
use Rattle.wasm_validator.specs.declared.fault.Fault.TheVariants as fault
use Rattle.wasm_validator.specs.declared.state.Validator.{Validator}
use Rattle.wasm_validator.specs.declared.frame.Frame.{Frame}
use Rattle.wasm_validator.specs.declared.frame.Opened.{Opened}
use Rattle.wasm_validator.specs.States.{Known, operands_onto, initial_of, control_frame, frames_onto, opened_of}

-- The result of a step is this; or memory ran out. After a refusal nothing is said of the state.
abbrev pub ResultsIn : {X : Type 0} → Checked X → Result (Unit {0}) Fault → X → Type 0
ResultsIn want (Ok u) new = want ≡ Ok new
ResultsIn want (Err fault.Refused) new = want ≡ Err refused
ResultsIn want (Err fault.Memory) new = Unit {0}

-- ---- the state

-- the context of the function
abbrev pub setting_of : Validator → BodyContext
setting_of v = context_of v.context.now (types_of_locals v.locals)

abbrev pub operand_stack : Validator → List Known
operand_stack v = operands_onto v.operands.items []

-- the locals that are initialised where the function begins
abbrev pub arguments_of : Validator → List ℕ
arguments_of v = initial_of (setting_of v) v.locals

abbrev pub stacks_of : Validator → Stacks KnownOperand
stacks_of v = record { operands = operand_stack v; initialised = v.set ++ arguments_of v }

abbrev pub inner_of : Validator → ControlFrame
inner_of v = control_frame v.context.now (length (arguments_of v)) v.inner

abbrev pub outer_of : Validator → List ControlFrame
outer_of v = frames_onto v.context.now (length (arguments_of v)) v.outer.items []

-- the state, where the function's frame is open
abbrev pub open_state : Validator → BodyState
open_state v = record { stacks = stacks_of v; controls = inner_of v ∷ outer_of v }

-- the state after the function
abbrev pub ended_of : Validator → BodyState
ended_of v = record { stacks = record { operands = operand_stack v; initialised = [] }; controls = [] }

-- the state, wherever it is
abbrev pub whole_state_of : Validator → BodyState
whole_state_of v = if v.ended then ended_of v else open_state v

-- The operands reach the height of the innermost frame.
abbrev pub ReachesHeight : Validator → Type 0
ReachesHeight v = v.inner.height ≤ length v.operands.items

-- ---- the algorithm in the context of a function

-- whether an operand is one of this type
abbrev pub fits_in : BodyContext → Known → ValType ℕ → Checked (Unit {0})
fits_in b algorithm.Unknown expected = Ok tt
fits_in b (algorithm.Known t) expected = algorithm.demand (matches_known b.operands t expected)

abbrev pub pop_in : BodyContext → ControlFrame → ValType ℕ → List Known → Checked (List Known)
pop_in b f expected xs = algorithm.pop (typing_in b) (standard_rules b.operands) f expected xs

abbrev pub pop_each_in : BodyContext → ControlFrame → List (ValType ℕ) → List Known → Checked (List Known)
pop_each_in b f ts xs = algorithm.pop_each (typing_in b) (standard_rules b.operands) f ts xs

abbrev pub pop_all_in : BodyContext → ControlFrame → List (ValType ℕ) → List Known → Checked (List Known)
pop_all_in b f ts xs = algorithm.pop_all (typing_in b) (standard_rules b.operands) f ts xs

abbrev pub push_each_in : BodyContext → List (ValType ℕ) → List Known → List Known
push_each_in b ts xs = algorithm.push_each (typing_in b) (standard_rules b.operands) ts xs

abbrev pub pop_control_in : BodyContext → ControlFrame → Stacks KnownOperand → Checked (Stacks KnownOperand)
pop_control_in b f s = algorithm.pop_control (typing_in b) (standard_rules b.operands) f s

-- pops these types, and pushes those
abbrev pub typed_in : BodyContext → ControlFrame → (takes gives : List (ValType ℕ)) → List Known → Checked (List Known)
typed_in b f ts us xs = pop_all_in b f ts xs >>= λ ys. Ok (push_each_in b us ys)

-- A frame was opened, by "push_ctrl", in these frames.
abbrev pub OpensIn : (old new : Validator) → Opened → (starts ends : TypeList) → List ControlFrame → Type 0
OpensIn old new opened starts ends fs =
    open_state new
    ≡ algorithm.push_control (typing_in (setting_of old)) (standard_rules (setting_of old).operands) (opened_of opened) (types_in old.context.now starts)
    (types_in old.context.now ends) (stacks_of old) fs

abbrev pub OpensFrame : (old new : Validator) → Opened → (starts ends : TypeList) → Type 0
OpensFrame old new opened starts ends = OpensIn old new opened starts ends (inner_of old ∷ outer_of old)

-- A frame was opened in the place of the innermost.
abbrev pub EntersFrame : (old new : Validator) → Opened → (starts ends : TypeList) → Type 0
EntersFrame old new opened starts ends = OpensIn old new opened starts ends (outer_of old)

-- Nothing but the frames changed.
abbrev pub SameButFrames : (old new : Validator) → Type 0
SameButFrames old new = new ≡ record old { inner = new.inner; outer = new.outer }

-- The innermost frame was left, or there is none around it.
abbrev pub Leaves : (old new : Validator) → Bool → Type 0
Leaves old new true = (outer_of old ≡ inner_of new ∷ outer_of new) × SameButFrames old new
Leaves old new false = (outer_of old ≡ []) × SameButFrames old new

-- a frame of the code
abbrev pub framed : Validator → Frame → ControlFrame
framed v f = control_frame v.context.now (length (arguments_of v)) f

-- the frame of a label
abbrev pub labelled : Validator → ℕ → Checked ControlFrame
labelled v n = algorithm.labelled_frame (inner_of v ∷ outer_of v) n

-- The label is that of a frame, and has these types.
abbrev pub IsLabel : Validator → ℕ → TypeList → Type 0
IsLabel v n list = (f : ControlFrame) × (labelled v n ≡ Ok f) × (algorithm.label_types f ≡ types_in v.context.now list)
