use Rattle.std.proofs.lemmas.Result.{err_from_is_err_and}
use Rattle.wasm_numbers.specs.Reading.{many}
use Rattle.wasm_operators.specs.Immediates.{clause}
use Rattle.wasm_operators.proofs.BorrowedLists.{starts, continues, ends, is_done}
use Rattle.wasm_operators.proofs.catch_list.skip_clauses.Goals as goal

pub loop-init : goal.loop-init
loop-init c = starts clause c.args.count c.args.bytes.now

pub returns-in_err-after : goal.returns-in_err-after
returns-in_err-after c =
    let p = err_from_is_err_and c.from_residual.result c.from_residual.ensures.1 in
    rw (p.1, p.2) (ends clause c.in_err-after.field-0.0 c.args.count c.loop.counter c.loop.rest.now (many clause c.args.count c.args.bytes.now) c.loop-test.true c.in_err-after.ensures c.loop.invariant)

pub loop-preserved : goal.loop-preserved
loop-preserved c =
    continues clause c.args.count c.loop.counter c.loop.rest.now _ c.in_ok-after.after.now (many clause c.args.count c.args.bytes.now) c.loop-test.true c.in_ok-after.ensures c.loop.invariant

pub returns : goal.returns
returns c = is_done clause c.args.count c.loop.counter c.loop.rest.now (many clause c.args.count c.args.bytes.now) c.loop-test.false c.loop.invariant
