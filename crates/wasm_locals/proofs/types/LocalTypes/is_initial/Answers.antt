use Rattle.std.proofs.Common.{◌≤◌, None, length, sym, ◌∙◌, arith, length-append}
use Rattle.wasm_locals.specs.LocalTypes.{types_of_locals}
use Rattle.wasm_locals.specs.Runs.{types_of_runs}
use Rattle.wasm_locals.proofs.Initial.{declared-is_initial, past-end}
use Rattle.wasm_locals.proofs.types.LocalTypes.is_initial.Goals as goal

pub returns-in-None : goal.returns-in-None
returns-in-None c = λ m h.
    let locals = c.args.self.now in
    let n = c.args.number in
    let at = sym c.get.ensures ∙ c.in-None.is in
    let past = past-end (types_of_locals locals) n at in
    let after : length locals.params.now ≤ n = omega (arith, length-append locals.params.now (types_of_runs 0 locals.declared.now)) in
    sym (declared-is_initial m (types_of_locals locals) (length locals.params.now) n None h after at)
