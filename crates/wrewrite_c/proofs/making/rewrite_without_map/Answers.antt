use Rattle.wasm_module.proofs.ModuleLemmas.{extends_same}
use Rattle.wrewrite_c.proofs.CallLemmas.{made_without_map}
use Rattle.wrewrite_c.proofs.making.rewrite_without_map.Goals as goal

pub returns-in-Ok-clause-written : goal.returns-in-Ok-clause-written
returns-in-Ok-clause-written c =
    let parsed = c.args.parsed.now in
    made_without_map c.finish.result parsed c.rewrite_all.new.self c.in-Ok.rewritten.bodies.kept c.args.wanted c.finish.new.made.bytes.items c.args.made.now.lines.items
    c.finish.new.made.lines.items c.requires.has_none c.in-Ok.ensures.extends (c.in-Ok.ensures.kept parsed (extends_same parsed)) c.finish.ensures.written
