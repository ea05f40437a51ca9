use Rattle.std.proofs.Common.{◌≡◌, Some, rules}
use Rattle.std.specs.Prelude.{slice_get, length}
use Rattle.wasm_validator.specs.Steps.{arguments_of, inner_of}
use Rattle.wasm_validator.proofs.Frames.{results_of_first}
use Rattle.wasm_validator.proofs.state.Validator.results.Goals as goal

pub returns-in-Some : goal.returns-in-Some
returns-in-Some c =
    let v = c.args.self.now in
    let at : slice_get v.outer.items 0 ≡ Some c.in-Some.frame.now = search rules in
    results_of_first v.context.now (length (arguments_of v)) (inner_of v) v.outer.items c.in-Some.frame.now at
