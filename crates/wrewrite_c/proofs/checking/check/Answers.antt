use Rattle.std.proofs.Common.{rules, inl}
use Rattle.wasm_module.specs.ReadFrom.{IsModuleOf}
use Rattle.wrewrite_c.proofs.CallLemmas.{if_of_bodies, if_accepted}
use Rattle.wrewrite_c.proofs.checking.check.Goals as goal

pub returns-in-Err-clause-refused : goal.returns-in-Err-clause-refused
returns-in-Err-clause-refused c = inl c.in-Err.ensures.not_read

pub returns-clause-accepted : goal.returns-clause-accepted
returns-clause-accepted c =
    let reads : IsModuleOf c.args.source.now c.deref_mut.result.now = search rules in
    if_accepted c.check_bodies.result c.args.source.now c.deref_mut.result.now c.args.first reads (c.check_bodies.ensures.accepted c.args.source.now reads)

pub returns-clause-refused : goal.returns-clause-refused
returns-clause-refused c =
    let reads : IsModuleOf c.args.source.now c.deref_mut.result.now = search rules in
    if_of_bodies c.check_bodies.result c.args.source.now c.deref_mut.result.now c.args.first reads (c.check_bodies.ensures.refused c.args.source.now reads)
