use Rattle.std.proofs.lemmas.Result.{err_from_is_err_and}
use Rattle.wasm_numbers.specs.Reading.{many}
use Rattle.wasm_numbers.specs.Numbers.{u32}
use Rattle.wasm_operators.proofs.BorrowedLists.{starts, continues, ends, is_done}
use Rattle.wasm_operators.proofs.branch_table.skip_labels.Goals as goal

pub loop-init : goal.loop-init
loop-init c = starts u32 c.args.count c.args.bytes.now

pub returns-in_err-after : goal.returns-in_err-after
returns-in_err-after c =
    let p = err_from_is_err_and c.from_residual.result c.from_residual.ensures.1 in
    rw (p.1, p.2) (ends u32 c.in_err-after.field-0.0 c.args.count c.loop.counter c.loop.rest.now (many u32 c.args.count c.args.bytes.now) c.loop-test.true c.in_err-after.ensures c.loop.invariant)

pub loop-preserved : goal.loop-preserved
loop-preserved c =
    continues u32 c.args.count c.loop.counter c.loop.rest.now c.in_ok-after.field-0-0 c.in_ok-after.after.now (many u32 c.args.count c.args.bytes.now) c.loop-test.true c.in_ok-after.ensures c.loop.invariant

pub returns : goal.returns
returns c = is_done u32 c.args.count c.loop.counter c.loop.rest.now (many u32 c.args.count c.args.bytes.now) c.loop-test.false c.loop.invariant
