use Rattle.std.proofs.Common.{rules}
use Rattle.wasm_module.specs.ReadFrom.{IsModuleOf}
use Rattle.wrewrite_c.proofs.CallLemmas.{if_lacks, snipped_of}
use Rattle.wrewrite_c.proofs.making.snip.Goals as goal

pub returns-clause-written : goal.returns-clause-written
returns-clause-written c =
    let reads : IsModuleOf c.args.source.now c.deref_mut.result.now = search rules in
    snipped_of c.snip_parsed.result c.args.indices.now c.args.source.now c.deref_mut.result.now c.args.wanted c.snip_parsed.new.made.bytes.items c.args.made.now.lines.items c.snip_parsed.new.made.lines.items reads c.snip_parsed.ensures.written

pub returns-clause-stops : goal.returns-clause-stops
returns-clause-stops c =
    let reads : IsModuleOf c.args.source.now c.deref_mut.result.now = search rules in
    if_lacks c.snip_parsed.result c.args.source.now c.deref_mut.result.now c.args.indices.now reads c.snip_parsed.ensures.stops
