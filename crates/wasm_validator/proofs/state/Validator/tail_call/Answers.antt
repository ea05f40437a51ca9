use Rattle.std.proofs.Common.{◌≡◌, ◌++◌, Ok, true, rules, sym, subst, ap, ◌∙◌}
use Rattle.std.specs.Option.{option_to_list}
use Rattle.wasm_body.specs.Validity.{results}
use Rattle.wasm_typing.specs.Matching.{matches_values}
use Rattle.wasm_typing.specs.Operands.{◌⟶◌}
use Rattle.wasm_locals.specs.LocalTypes.{types_of_locals}
use Rattle.wasm_validator.specs.Steps.{ResultsIn, setting_of, open_state}
use Rattle.wasm_validator.specs.Core.{open_frames, tail_in}
use Rattle.wasm_validator.proofs.Leaving.{tail_done}
use Rattle.wasm_validator.proofs.state.Validator.tail_call.Goals as goal

pub returns-in-Ok-clause-leaves : goal.returns-in-Ok-clause-leaves
returns-in-Ok-clause-leaves c =
    let v = c.args.self.now in
    let w = c.pop.new.self in
    let s = open_state c.leave_with.new.self in
    let r = c.leave_with.result in
    let us = c.args.gives.now in
    let t : c.matches_values.result ≡ true = search rules in
    let fits : matches_values (setting_of v).operands us (results (open_frames v)) ≡ true =
    ap (matches_values (setting_of v).operands us) (c.results-list.ensures ∙ sym c.types_of.ensures) ∙ c.matches_values.ensures (types_of_locals v.locals) ∙ t in
    subst (λ o. ResultsIn (tail_in v (Ok (c.args.params.now ++ option_to_list o ⟶ us))) r s) (sym c.in-Some.is)
    (tail_done v w s c.args.params.now us c.in-Some.ty r fits c.in-Ok.ensures.pops c.in-Ok.ensures.same c.leave_with.ensures.leaves)
