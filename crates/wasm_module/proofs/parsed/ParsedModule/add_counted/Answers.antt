use Rattle.wasm_module.proofs.DataLemmas.{counted}
use Rattle.wasm_module.proofs.parsed.ParsedModule.add_counted.Goals as goal

pub returns-in-Ok-number_data-clause-ok : goal.returns-in-Ok-number_data-clause-ok
returns-in-Ok-number_data-clause-ok c = λ all m.
    counted all c.args.changes.now c.add_item.new.changes c.set_count.new.changes c.in-Ok.count c.args.segment.now (c.in-Ok-add_item.ensures.ok all m)
    (c.in-Ok.ensures all m) c.in-Ok-set_count.ensures
