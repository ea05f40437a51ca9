-- The state of the validation algorithm, as the code has it.
use Rattle.std.specs.Prelude.{◌≡◌, ℕ, ◌+◌, List, [], ◌∷◌, length}
use Rattle.std.specs.List.{range_with_len}
use Rattle.wasm_types.specs.declared.val_type.ValType.{ValType}
use Rattle.wasm_types.specs.declared.val_type.ValType.TheVariants as value
use Rattle.wasm_body.specs.Validity as algorithm
use Rattle.wasm_body.specs.Validity.{ControlFrame}
use Rattle.wasm_body.specs.ValidityLaws.{KnownOperand, of_type, of_reference}
use Rattle.wasm_typing.specs.Contexts.{initial_locals}
use Rattle.wasm_context.specs.Validation.{BodyContext}
use Rattle.wasm_context.specs.TypeLists.{types_in}
use Rattle.wasm_context.specs.declared.blocks.TypeList.{TypeList}
use Rattle.wasm_context.specs.declared.context.Context.{Context}
use Rattle.wasm_locals.specs.declared.types.LocalTypes.{LocalTypes}
use Rattle.wasm_validator.specs.declared.operand.Operand.{Operand}
use Rattle.wasm_validator.specs.declared.operand.Operand.TheVariants as operand
use Rattle.wasm_validator.specs.declared.frame.Frame.{Frame}
use Rattle.wasm_validator.specs.declared.frame.Opened.{Opened}
use Rattle.wasm_validator.specs.declared.frame.Opened.TheVariants as opened

-- ---- operands

abbrev pub Known : Type 0
Known = algorithm.Operand KnownOperand

abbrev pub of_value : ValType ℕ → Known
of_value t = algorithm.Known (of_type t)

abbrev pub known_of : Operand → Known
known_of operand.Unknown = algorithm.Unknown
known_of operand.I32 = of_value value.I32
known_of operand.I64 = of_value value.I64
known_of operand.F32 = of_value value.F32
known_of operand.F64 = of_value value.F64
known_of operand.V128 = of_value value.V128
known_of (operand.Ref r) = of_value (value.Ref r)
known_of (operand.Reference nullable) = algorithm.Known (of_reference nullable)

-- operands, the last first, before others
abbrev pub operands_onto : List Operand → List Known → List Known
operands_onto [] ys = ys
operands_onto (x ∷ xs) ys = operands_onto xs (known_of x ∷ ys)

-- ---- locals

-- the locals that are initialised where the function begins
abbrev pub initial_of : BodyContext → LocalTypes → List ℕ
initial_of b l = initial_locals b.operands (range_with_len 0 (length l.params.now))

-- ---- frames

abbrev pub opened_of : Opened → algorithm.Opened
opened_of opened.Function = algorithm.OfFunction
opened_of opened.Block = algorithm.OfBlock
opened_of opened.Loop = algorithm.OfLoop
opened_of opened.If = algorithm.OfIf
opened_of opened.Else = algorithm.OfElse
opened_of opened.TryTable = algorithm.OfTryTable
opened_of opened.Try = algorithm.OfTry
opened_of opened.Catch = algorithm.OfCatch
opened_of opened.CatchAll = algorithm.OfCatchAll

-- The number of initialised locals below a frame: so many are initialised where the function begins, and so many were set. Below the
-- function's own frame there are none.
abbrev pub locals_height_of : algorithm.Opened → (initial set : ℕ) → ℕ
locals_height_of algorithm.OfFunction initial set = 0
locals_height_of _ initial set = set + initial

abbrev pub control_frame : Context → (initial : ℕ) → Frame → ControlFrame
control_frame c initial f = record {
  opened = opened_of f.opened;
  start_types = types_in c f.starts;
  end_types = types_in c f.ends;
  height = f.height;
  locals_height = locals_height_of (opened_of f.opened) initial f.locals_height;
  unreachable = f.unreachable;
}

-- frames, the last first, before others
abbrev pub frames_onto : Context → (initial : ℕ) → List Frame → List ControlFrame → List ControlFrame
frames_onto c initial [] ys = ys
frames_onto c initial (f ∷ fs) ys = frames_onto c initial fs (control_frame c initial f ∷ ys)

-- "label_types", in any context
abbrev pub IsTypeList : Frame → TypeList → Type 0
IsTypeList f list = (c : Context) (initial : ℕ) → algorithm.label_types (control_frame c initial f) ≡ types_in c list
