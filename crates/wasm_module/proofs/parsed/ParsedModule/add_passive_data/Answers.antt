use Rattle.std.proofs.Common.{ℕ, sym, subst}
use Rattle.wasm_module.specs.AddedItems.{HasSegments}
use Rattle.wasm_module.proofs.parsed.ParsedModule.add_passive_data.Goals as goal

pub returns-in-Ok-clause-id : goal.returns-in-Ok-clause-id
returns-in-Ok-clause-id c = λ all m. subst (λ (n : ℕ). HasSegments all c.args.changes.now n) (sym c.new.ensures) (c.in-Ok.ensures.id all m)
