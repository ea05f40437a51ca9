use Rattle.std.proofs.Common.{[], subst}
use Rattle.wasm_validator.specs.declared.frame.Opened.TheVariants.{CatchAll}
use Rattle.wasm_validator.specs.Steps.{ResultsIn, open_state}
use Rattle.wasm_validator.specs.Core.{next_in}
use Rattle.wasm_validator.proofs.state.Validator.catch_all.Goals as goal

pub returns-clause-goes_on : goal.returns-clause-goes_on
returns-clause-goes_on c =
    subst (λ b. ResultsIn (next_in c.args.self.now b CatchAll []) c.reopen.result (open_state c.reopen.new.self)) c.may_catch.ensures c.reopen.ensures.goes_on
