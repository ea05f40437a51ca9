-- A well-formed state with other operands, of which there are no fewer.
use Rattle.std.proofs.Common.{◌≡◌, ◌+◌, ◌≤◌, List, [], ◌∷◌, length, Bool, true, false, sym, subst, arith}
use Rattle.std.specs.Prelude.{if◌then◌else◌}
use Rattle.wasm_body.specs.Validity.{ControlFrame}
use Rattle.wasm_validator.specs.declared.state.Validator.{Validator}
use Rattle.wasm_validator.specs.WellFormed.{AreOver, IsWellFormed}
use Rattle.wasm_validator.specs.Steps.{operand_stack, whole_state_of, ended_of, open_state}
use Rattle.wasm_validator.proofs.Lists.{length_onto}

more_over : {X : Type 0} (xs ys : List X) (fs : List ControlFrame) → length xs ≤ length ys → AreOver xs fs → AreOver ys fs
more_over xs ys [] le h = tt
more_over xs ys (f ∷ fs) le h = (let low = h.0 in omega arith, h.1)

module _ (v w : Validator) (same : w ≡ record v { operands = w.operands }) (le : length v.operands.items ≤ length w.operands.items) where
  deeper : length (operand_stack v) ≤ length (operand_stack w)
  deeper = let a = length_onto v.operands.items [] in let b = length_onto w.operands.items [] in omega arith

  whichever : (ended : Bool) → IsWellFormed (if ended then ended_of v else open_state v)
      → IsWellFormed (if ended then ended_of (record v { operands = w.operands }) else open_state (record v { operands = w.operands }))
  whichever true h = tt
  whichever false h = more_over (operand_stack v) (operand_stack w) (open_state v).controls deeper h

  pub stays_well_formed : IsWellFormed (whole_state_of v) → IsWellFormed (whole_state_of w)
  stays_well_formed h = subst (λ (x : Validator). IsWellFormed (whole_state_of x)) (sym same) (whichever v.ended h)
