use Rattle.module_tools.specs.FunctionChanges.{Snips}
use Rattle.wasm_module.specs.KeptCode.{IsKeptWith}
use Rattle.wasm_module.specs.RewrittenCode.{IsChangedWith, keeps_locals}
use Rattle.wasm_module.proofs.WriterLemmas.{as_kept}
use Rattle.wrewrite_c.proofs.CallLemmas.{made_before}
use Rattle.wrewrite_c.proofs.making.snip_functions.Goals as goal

pub returns-in-Ok-clause-written : goal.returns-in-Ok-clause-written
returns-in-Ok-clause-written c =
    let parsed = c.args.parsed.now in
    let now = c.snip.new.parsed in
    let kept = c.in-Ok.rewritten.bodies in
    let writes = IsChangedWith (keeps_locals (Snips c.args.functions)) in
    made_before c.finish.result (IsKeptWith kept) writes parsed now c.args.wanted c.finish.new.made.bytes.items c.args.made.now.lines.items c.finish.new.made.lines.items c.in-Ok.ensures.extends
    (as_kept writes parsed now kept c.in-Ok.ensures.snips.pairs) c.finish.ensures.written
