use Rattle.std.proofs.Common.{Err, sym, ap, subst}
use Rattle.wasm_body.specs.Control.{Else, else_operation, end_operation}
use Rattle.wasm_body.specs.Validity.{is_if}
use Rattle.wasm_typing.specs.StandardRules.{standard_rules}
use Rattle.wasm_context.specs.Validation.{typing_in, named_step}
use Rattle.wasm_validator.specs.WellFormed.{is_function_frame}
use Rattle.wasm_validator.specs.declared.state.Validator.{Validator}
use Rattle.wasm_validator.specs.Steps.{ResultsIn, setting_of, stacks_of, open_state}
use Rattle.wasm_validator.specs.Core.{open_frames, elses_in}
use Rattle.wasm_validator.proofs.StepResults.{goes_on, passes_on}
use Rattle.wasm_validator.proofs.WellFormed.{steps}
use Rattle.wasm_validator.proofs.Constructs.{some_around, else_opens, if_ends}
use Rattle.wasm_validator.proofs.state.Validator.end_if.Goals as goal

pub end_construct-requires-clause-around : goal.end_construct-requires-clause-around
end_construct-requires-clause-around c =
    let v = c.args.self.now in
    let w = c.else_sequence.new.self in
    let h = c.in-Ok.ensures.goes_on in
    let well_formed = steps (typing_in (setting_of v)) (standard_rules (setting_of v).operands) Else else_operation (stacks_of v) (open_frames v) (open_state w) h c.requires.well_formed in
    some_around w well_formed.1 (sym (ap is_function_frame (else_opens v w h)))

pub end_construct-requires-clause-inner : goal.end_construct-requires-clause-inner
end_construct-requires-clause-inner c = sym (ap is_function_frame (else_opens c.args.self.now c.else_sequence.new.self c.in-Ok.ensures.goes_on))

pub end_construct-requires-clause-parted : goal.end_construct-requires-clause-parted
end_construct-requires-clause-parted c = sym (ap is_if (else_opens c.args.self.now c.else_sequence.new.self c.in-Ok.ensures.goes_on))

pub returns-in-Ok-clause-goes_on : goal.returns-in-Ok-clause-goes_on
returns-in-Ok-clause-goes_on c =
    let v = c.args.self.now in
    let w = c.else_sequence.new.self in
    let s = open_state c.end_construct.new.self in
    let r = c.end_construct.result in
    let t = open_state w in
    let then = subst (λ (z : Validator). ResultsIn (named_step (setting_of z) end_operation t) r s) c.in-Ok.ensures.same c.end_construct.ensures.goes_on in
    subst (λ a. ResultsIn a r s) (sym (if_ends v c.requires.inner))
    (goes_on (elses_in v) (named_step (setting_of v) end_operation) t s r c.in-Ok.ensures.goes_on then)

pub returns-in-Err-clause-goes_on : goal.returns-in-Err-clause-goes_on
returns-in-Err-clause-goes_on c =
    let v = c.args.self.now in
    let s = open_state c.else_sequence.new.self in
    let e = c.in-Err.fault in
    subst (λ a. ResultsIn a (Err e) s) (sym (if_ends v c.requires.inner))
    (passes_on (elses_in v) (named_step (setting_of v) end_operation) s s e c.in-Err.ensures.goes_on)
