use Rattle.wasm_types.specs.declared.val_type.ValType.TheVariants.{I32}
use Rattle.wasm_context.specs.Validation.{named_block_type}
use Rattle.wasm_context.specs.TypeLists.{signature_of_block}
use Rattle.wasm_locals.specs.LocalTypes.{types_of_locals}
use Rattle.wasm_validator.specs.declared.frame.Opened.TheVariants.{If}
use Rattle.wasm_validator.specs.Steps.{setting_of, inner_of, operand_stack, open_state, pop_in}
use Rattle.wasm_validator.specs.Core.{begin_from, begins_if_with, with_stack}
use Rattle.wasm_validator.proofs.StepResults.{goes_on}
use Rattle.wasm_validator.proofs.Constructs.{if_done}
use Rattle.wasm_validator.proofs.state.Validator.begin_if.Goals as goal

pub returns-in-Ok-clause-begins : goal.returns-in-Ok-clause-begins
returns-in-Ok-clause-begins c =
    let v = c.args.self.now in
    let w = c.pop.new.self in
    let s = open_state c.begin_with.new.self in
    let r = c.begin_with.result in
    let types = c.in-Some.types in
    let sig = signature_of_block v.context.now types in
    goes_on (named_block_type (setting_of v) c.args.ty) (begins_if_with v) sig s r (c.in-Some.ensures (types_of_locals v.locals))
    (goes_on (pop_in (setting_of v) (inner_of v) I32 (operand_stack v)) (λ xs. begin_from v (with_stack v xs) If sig) (operand_stack w) s r c.in-Ok.ensures.pops
    (if_done v w s types r c.in-Ok.ensures.same c.begin_with.ensures.begins))
