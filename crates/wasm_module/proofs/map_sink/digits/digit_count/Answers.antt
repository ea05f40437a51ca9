use Rattle.wasm_module.proofs.DigitLemmas.{len_of_small, len_by_log}
use Rattle.wasm_module.proofs.map_sink.digits.digit_count.Goals as goal

pub returns-then-number-lt16-clause-count : goal.returns-then-number-lt16-clause-count
returns-then-number-lt16-clause-count c = len_of_small c.args.number c.if-number-lt16.true

pub returns-clause-count : goal.returns-clause-count
returns-clause-count c =
    let log = c.ilog2.ensures in
    len_by_log c.args.number c.ilog2.result c.if-number-lt16.false log.power_le log.next_power_gt log.bound
