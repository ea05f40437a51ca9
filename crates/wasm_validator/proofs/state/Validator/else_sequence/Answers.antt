use Rattle.std.proofs.Common.{subst}
use Rattle.wasm_context.specs.TypeLists.{types_in}
use Rattle.wasm_validator.specs.declared.frame.Opened.TheVariants.{Else}
use Rattle.wasm_validator.specs.Steps.{ResultsIn, open_state}
use Rattle.wasm_validator.specs.Core.{next_in}
use Rattle.wasm_validator.proofs.state.Validator.else_sequence.Goals as goal

pub returns-clause-goes_on : goal.returns-clause-goes_on
returns-clause-goes_on c =
    let v = c.args.self.now in
    subst (λ b. ResultsIn (next_in v b Else (types_in v.context.now v.inner.starts)) c.reopen.result (open_state c.reopen.new.self)) c.is_if.ensures c.reopen.ensures.goes_on
