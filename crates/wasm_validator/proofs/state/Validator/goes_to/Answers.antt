use Rattle.std.proofs.Common.{◌≡◌, true, false, rules, sym, ◌∙◌}
use Rattle.wasm_typing.specs.Matching.{matches_values}
use Rattle.wasm_locals.specs.LocalTypes.{types_of_locals}
use Rattle.wasm_validator.specs.Steps.{setting_of}
use Rattle.wasm_validator.proofs.Clauses.{goes_both, goes_not, goes_none}
use Rattle.wasm_validator.proofs.state.Validator.goes_to.Goals as goal

pub returns-then-matches_values : goal.returns-then-matches_values
returns-then-matches_values c =
    let v = c.args.self.now in
    let k = (setting_of v).operands in
    let ts = c.args.handed.now in
    let p = c.in-Some.parts in
    let by : c.args.by_reference ≡ true = search rules in
    let fits : matches_values k ts p.1.now ≡ true = c.matches_values-in-Some.ensures (types_of_locals v.locals) ∙ c.if-matches_values.true in
    goes_both k ts c.args.types.now p.1.now p.0 c.args.by_reference c.matches_value.result by c.in-Some.ensures fits (c.matches_value.ensures (types_of_locals v.locals))

pub returns-else-matches_values : goal.returns-else-matches_values
returns-else-matches_values c =
    let v = c.args.self.now in
    let k = (setting_of v).operands in
    let ts = c.args.handed.now in
    let p = c.in-Some.parts in
    let by : c.args.by_reference ≡ true = search rules in
    let fits : matches_values k ts p.1.now ≡ false = c.matches_values-in-Some.ensures (types_of_locals v.locals) ∙ c.if-matches_values.false in
    goes_not k ts c.args.types.now p.1.now p.0 c.args.by_reference by c.in-Some.ensures fits ∙ sym c.if-matches_values.false

pub returns-in-None : goal.returns-in-None
returns-in-None c =
    let v = c.args.self.now in
    let by : c.args.by_reference ≡ true = search rules in
    goes_none (setting_of v).operands c.args.handed.now c.args.types.now c.args.by_reference by c.in-None.ensures
