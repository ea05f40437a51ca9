use Rattle.std.proofs.Common.{sym, subst}
use Rattle.std.specs.Prelude.{codes}
use Rattle.wasm_sections.specs.declared.changes.Changes.{Changes}
use Rattle.wasm_module.proofs.ChangedLemmas.{kept_alike}
use Rattle.wasm_module.proofs.WriterLemmas.{if_both, if_pair}
use Rattle.module_tools.specs.declared.counting.CountCalls.{CountCalls}
use Rattle.module_tools.specs.Counters.{HasCounter}
use Rattle.module_tools.specs.FunctionChanges.{CountsCalls}
use Rattle.module_tools.proofs.counting.count_calls.Goals as goal

pub returns-in-Ok : goal.returns-in-Ok
returns-in-Ok c =
    let source = c.call_counter.new.parsed in
    let counter = c.in-Ok.counter in
    let made = c.change_all.ensures in
    if_both c.change_all.result made.extends (if_pair _ _ c.change_all.result made.changed (if_pair _ _ c.change_all.result made.changes made.omitted)) (λ x extends others. (
      source,
      counter,
      subst (λ (changes : Changes). HasCounter c.args.parsed.now source changes (codes "calls") counter.0) (sym others.1.0) c.in-Ok.ensures,
      extends,
      kept_alike (λ (s : CountCalls). CountsCalls s.0) source counter c.change_all.new.change x.bodies others.0,
      others.1.1,
    ))
