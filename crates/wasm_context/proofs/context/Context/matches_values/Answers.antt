use Rattle.std.proofs.Common.{◌≢◌, length, arith}
use Rattle.wasm_context.specs.Contexts.{operands_in}
use Rattle.wasm_context.proofs.MatchingLists.{lengths_differ}
use Rattle.wasm_context.proofs.context.Context.matches_values.Goals as goal

pub returns-then-given-wanted : goal.returns-then-given-wanted
returns-then-given-wanted c = λ locals.
    let differ : length c.args.given.now ≢ length c.args.wanted.now = λ e. grind (arith, e) in
    lengths_differ (operands_in c.args.self.now locals) c.args.given.now c.args.wanted.now differ
