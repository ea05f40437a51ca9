use Rattle.std.proofs.Common.{ℕ, List, Some, sym, ap, ◌∙◌}
use Rattle.walrus_ir.specs.Types.{ModuleType, find}
use Rattle.walrus_ir.specs.Types.ModuleType.{Func}
use Rattle.wasm_module.proofs.ModuleLemmas.{extends_same, extends_types, extends_no_types}
use Rattle.wasm_module.proofs.TypeLemmas.{first_of_added}
use Rattle.wasm_module.proofs.parsed.ParsedModule.type_id.Goals as goal

pub returns-in-Ok-clause-extends : goal.returns-in-Ok-clause-extends
returns-in-Ok-clause-extends c = extends_types c.args.self.now (Func c.args.params.now c.args.results.now) c.add_func.new.self c.in-Ok.ensures.ok

pub returns-in-Some-clause-extends : goal.returns-in-Some-clause-extends
returns-in-Some-clause-extends c = extends_same c.args.self.now

pub returns-in-Err-clause-extends : goal.returns-in-Err-clause-extends
returns-in-Err-clause-extends c = extends_no_types c.args.self.now c.add_func.new.self c.in-Err.ensures.err

pub returns-in-Ok-clause-first : goal.returns-in-Ok-clause-first
returns-in-Ok-clause-first c =
    let ps = c.args.params.now in
    let rs = c.args.results.now in
    ap (λ (ts : List ModuleType). find ts ps rs) c.in-Ok.ensures.ok
    ∙ first_of_added c.args.self.now.module.types ps rs (sym c.find.ensures ∙ c.in-None.is)
    ∙ ap (λ (n : ℕ). Some n) (sym c.in-Ok.ensures.id)
