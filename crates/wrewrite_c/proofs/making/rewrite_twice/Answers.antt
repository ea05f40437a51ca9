use Rattle.wasm_module.specs.RewrittenCode.{IsRewrittenWith}
use Rattle.wasm_module.proofs.RewritingLemmas.{rewritten_with_then}
use Rattle.wrewrite_c.proofs.CallLemmas.{made_before}
use Rattle.wrewrite_c.proofs.making.rewrite_twice.Goals as goal

pub returns-in-Ok-clause-written : goal.returns-in-Ok-clause-written
returns-in-Ok-clause-written c =
    let parsed = c.args.parsed.now in
    let now = c.rewrite_all.new.self in
    let extends = c.in-Ok.ensures.extends in
    made_before c.finish.result IsRewrittenWith IsRewrittenWith parsed now c.args.wanted c.finish.new.made.bytes.items c.args.made.now.lines.items c.finish.new.made.lines.items extends
    (λ f b raw ps h. rewritten_with_then parsed now f b raw ps extends h) c.finish.ensures.written
