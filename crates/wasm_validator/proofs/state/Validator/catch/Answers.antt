use Rattle.std.proofs.Common.{sym, subst}
use Rattle.wasm_context.specs.Contexts.{signature_at, params_at}
use Rattle.wasm_validator.specs.declared.frame.Opened.TheVariants.{Catch}
use Rattle.wasm_validator.specs.Steps.{ResultsIn, open_state}
use Rattle.wasm_validator.specs.Core.{next_in}
use Rattle.wasm_validator.proofs.Constructs.{catch_is}
use Rattle.wasm_validator.proofs.state.Validator.catch.Goals as goal

pub returns-in-Some-clause-goes_on : goal.returns-in-Some-clause-goes_on
returns-in-Some-clause-goes_on c =
    let v = c.args.self.now in
    let s = open_state c.reopen.new.self in
    let r = c.reopen.result in
    let ty = c.in-Some.ty in
    subst (λ a. ResultsIn a r s) (sym (catch_is v c.args.tag (signature_at v.context.now ty) c.in-Some.ensures.signature))
    (subst (λ b. ResultsIn (next_in v b Catch (params_at v.context.now ty)) r s) c.may_catch.ensures c.reopen.ensures.goes_on)
