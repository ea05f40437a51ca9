use Rattle.std.proofs.Common.{◌≡◌, ◌∷◌, [], ◌++◌, subst, sym}
use Rattle.std.specs.Option.{option_to_list}
use Rattle.std.specs.Prelude.{OnOk}
use Rattle.wasm_validator.specs.Steps.{ResultsIn, setting_of, inner_of, operand_stack, typed_in}
use Rattle.wasm_validator.proofs.Leaving.{exchange_done}
use Rattle.wasm_validator.proofs.state.Validator.exchange.Goals as goal

pub returns-in-Some-clause-typed : goal.returns-in-Some-clause-typed
returns-in-Some-clause-typed c =
    let v = c.args.self.now in
    let w = c.pop.new.self in
    let x = c.apply.new.self in
    let y = c.push.new.self in
    let ts = c.args.types.now in
    let r = c.push.result in
    let pushed = subst (λ k. OnOk r (operand_stack y ≡ k ∷ operand_stack x)) c.operand_of.ensures c.push.ensures.ok in
    subst (λ o. ResultsIn (typed_in (setting_of v) (inner_of v) (ts ++ c.args.last ∷ []) (ts ++ option_to_list o) (operand_stack v)) r (operand_stack y)) (sym c.in-Some.is)
    (exchange_done v w x y ts c.args.last c.in-Some.ty r c.in-Ok.ensures.pops c.in-Ok.ensures.same c.in-Ok-apply.ensures.typed pushed c.push.ensures.err)
