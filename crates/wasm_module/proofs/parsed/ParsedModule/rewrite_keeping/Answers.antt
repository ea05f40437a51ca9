use Rattle.wasm_module.proofs.parsed.ParsedModule.rewrite_keeping.Goals as goal

pub returns-clause-kept : goal.returns-clause-kept
returns-clause-kept g c = λ source e. (c.in_ok-kept.ensures.kept source e).raws

pub returns-clause-pairs : goal.returns-clause-pairs
returns-clause-pairs g c = λ source e. (c.in_ok-kept.ensures.kept source e).pairs
