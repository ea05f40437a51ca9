use Rattle.std.proofs.Common.{◌≡◌, length}
use Rattle.wasm_validator.specs.WellFormed.{IsWellFormed}
use Rattle.wasm_validator.specs.Steps.{setting_of, whole_state_of}
use Rattle.wasm_validation.proofs.TakenFronts.{SoFarTaken}
use Rattle.wasm_validation.proofs.code.take_all.Given as goal

-- what was taken so far, in the same context, to a well-formed state
abbrev pub invariant-loop-reader : goal.invariant-loop-reader
invariant-loop-reader l =
    SoFarTaken (setting_of l.fn.validator) (whole_state_of l.fn.validator) l.fn.reader l.reader (whole_state_of l.validator)
    × (setting_of l.validator ≡ setting_of l.fn.validator) × IsWellFormed (whole_state_of l.validator)

abbrev pub decreases-loop-reader : goal.decreases-loop-reader
decreases-loop-reader l = length l.reader.rest
