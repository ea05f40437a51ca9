use Rattle.std.proofs.Common.{subst}
use Rattle.wasm_module.specs.KeptCode.{AreKeptBodies}
use Rattle.wasm_module.specs.RewrittenCode.{IsChangedWith, keeps_locals}
use Rattle.wasm_module.proofs.ChangedLemmas.{kept_alike}
use Rattle.wasm_module.proofs.WritingLemmas.{if_so}
use Rattle.module_tools.specs.declared.snipping.Snipping.{Snipping}
use Rattle.module_tools.specs.FunctionChanges.{Snips}
use Rattle.module_tools.proofs.snipping.snip.Goals as goal

pub returns-clause-snips : goal.returns-clause-snips
returns-clause-snips c =
    let source = c.args.parsed.now in
    if_so c.change_all.result c.change_all.ensures.changed (λ made kept.
    subst (λ functions. AreKeptBodies (IsChangedWith (keeps_locals (Snips functions))) source made.bodies) c.new-snipping.ensures
    (kept_alike (λ (s : Snipping). Snips s.0) source c.new-snipping.result c.change_all.new.change made.bodies kept))
