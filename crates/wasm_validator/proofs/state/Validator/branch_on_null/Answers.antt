use Rattle.std.proofs.Common.{ap, ◌∙◌}
use Rattle.wasm_body.specs.Validity.{Known}
use Rattle.wasm_validator.specs.States.{known_of}
use Rattle.wasm_validator.specs.Steps.{operand_stack, open_state}
use Rattle.wasm_validator.specs.Popped.{known_reference}
use Rattle.wasm_validator.proofs.NullBranches.{null_unapplied, null_pushed}
use Rattle.wasm_validator.proofs.state.Validator.branch_on_null.Goals as goal

pub returns-in-Ok-apply-clause-branches : goal.returns-in-Ok-apply-clause-branches
returns-in-Ok-apply-clause-branches c =
    let v = c.args.self.now in
    let w = c.pop_reference.new.self in
    let l = c.in-Some.ensures in
    null_pushed v w c.args.label (l.0) c.in-Some.list c.types_of-types.result.now (known_reference c.in-Ok.found) (l.1) (l.2) c.types_of-types.ensures c.in-Ok.ensures.pops c.in-Ok.ensures.same
    c.apply.new.self c.push.new.self (known_of c.operand_of_reference.result) c.push.result c.in-Ok-apply.ensures.typed c.in-Ok-apply.ensures.same
    (c.operand_of_reference.ensures ∙ ap (λ k. Known k) c.not_null.ensures) c.push.ensures.ok c.push.ensures.err c.push.ensures.same

pub returns-in-Err-apply-clause-branches : goal.returns-in-Err-apply-clause-branches
returns-in-Err-apply-clause-branches c =
    let v = c.args.self.now in
    let w = c.pop_reference.new.self in
    let l = c.in-Some.ensures in
    null_unapplied v w c.args.label (l.0) c.in-Some.list c.types_of-types.result.now (known_reference c.in-Ok.found) (l.1) (l.2) c.types_of-types.ensures c.in-Ok.ensures.pops c.in-Ok.ensures.same
    c.in-Err-apply.fault (operand_stack c.apply.new.self) (open_state c.apply.new.self) c.in-Err-apply.ensures.typed
