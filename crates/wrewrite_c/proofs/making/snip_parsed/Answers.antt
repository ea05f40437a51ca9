use Rattle.wrewrite_c.proofs.CallLemmas.{lacks}
use Rattle.wrewrite_c.proofs.making.snip_parsed.Goals as goal

pub returns-in-Err-clause-stops : goal.returns-in-Err-clause-stops
returns-in-Err-clause-stops c = lacks c.args.parsed.now c.args.indices.now c.in-Err.stop c.in-Err.ensures.stops

pub returns-in-Ok-snip_functions-clause-written : goal.returns-in-Ok-snip_functions-clause-written
returns-in-Ok-snip_functions-clause-written c =
    let w = c.in-Ok-snip_functions.ensures.written in
    (w.0, w.1, record { snipping = record { 0 = c.in-Ok.functions }; has_functions = c.in-Ok.ensures.made; is_made = w.2 })
