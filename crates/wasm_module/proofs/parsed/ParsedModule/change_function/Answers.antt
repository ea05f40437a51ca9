use Rattle.std.proofs.Common.{refl}
use Rattle.wasm_sections.specs.CodeSections.{body_at}
use Rattle.wasm_module.proofs.ModuleLemmas.{extends_kept}
use Rattle.wasm_module.proofs.RewritingLemmas.{changed}
use Rattle.wasm_module.proofs.parsed.ParsedModule.change_function.Goals as goal

pub returns-clause-changed : goal.returns-clause-changed
returns-clause-changed g c = λ source e.
    let change = g.C.ChangeFunction in
    changed (change.changes (change.state c.args.change.now) (change.state c.change.new.self)) source c.args.self.now c.parse.new.self c.args.body.func (body_at c.args.body)
    c.in_ok-function.function c.change.new.function c.change.new.locals c.write.new.scratch.raw.items c.write.new.scratch.pairs.items e c.in_ok-function.ensures.parsed
    c.in_ok-change.ensures c.in_ok-write.ensures

pub returns-clause-extends : goal.returns-clause-extends
returns-clause-extends g c =
    extends_kept c.args.self.now c.parse.new.self _ c.parse.ensures.extends (record { bytes = refl; tags = refl; func_types = refl; imported = refl }) refl refl refl
