use Rattle.std.proofs.Common.{◌≡◌, false, rules}
use Rattle.wasm_context.specs.TypeLists.{types_in}
use Rattle.wasm_validator.proofs.Constructs.{next_refused}
use Rattle.wasm_validator.proofs.state.Validator.reopen.Goals as goal

pub returns-then-not-allowed-clause-goes_on : goal.returns-then-not-allowed-clause-goes_on
returns-then-not-allowed-clause-goes_on c =
    let v = c.args.self.now in
    let h : c.args.allowed ≡ false = search rules in
    next_refused v c.args.allowed c.args.opened (types_in v.context.now c.args.starts) h
