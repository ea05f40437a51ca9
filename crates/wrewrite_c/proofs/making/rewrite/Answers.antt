use Rattle.std.proofs.Common.{rules}
use Rattle.wasm_module.specs.ReadFrom.{IsModuleOf}
use Rattle.wrewrite_c.proofs.making.rewrite.Goals as goal

pub returns-in-Ok-rewrite_parsed-clause-written : goal.returns-in-Ok-rewrite_parsed-clause-written
returns-in-Ok-rewrite_parsed-clause-written c =
    let reads : IsModuleOf c.args.source.now c.deref_mut.result.now = search rules in
    let w = c.in-Ok-rewrite_parsed.ensures.written in
    (w.0, w.1, record { parsed = c.deref_mut.result.now; reads = reads; is_made = w.2 })
