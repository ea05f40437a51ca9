use Rattle.std.proofs.Common.{refl}
use Rattle.wasm_sections.specs.CodeSections.{body_at}
use Rattle.wasm_module.proofs.ModuleLemmas.{extends_kept}
use Rattle.wasm_module.proofs.RefusalLemmas.{not_rewritten_flat}
use Rattle.wasm_module.proofs.RewritingLemmas.{enters_kept, rewritten_flat_to}
use Rattle.wasm_module.proofs.parsed.ParsedModule.rewrite_flat_to.Goals as goal

pub returns-in-Ok-clause-extends : goal.returns-in-Ok-clause-extends
returns-in-Ok-clause-extends g c =
    extends_kept c.args.self.now c.enter.new.self _ c.enter.ensures.extends (record { bytes = refl; tags = refl; func_types = refl; imported = refl }) refl refl refl

pub returns-clause-extends : goal.returns-clause-extends
returns-clause-extends g c =
    extends_kept c.args.self.now c.enter.new.self _ c.enter.ensures.extends (record { bytes = refl; tags = refl; func_types = refl; imported = refl }) refl refl refl

pub returns-in-Ok-clause-rewritten : goal.returns-in-Ok-clause-rewritten
returns-in-Ok-clause-rewritten g c =
    let made = c.in_ok-ty.field-0 in
    let h = c.in-Ok.ensures.rewritten in
    let r =
    rewritten_flat_to c.args.self.now c.enter.new.self c.args.body.func (body_at c.args.body) made.ty c.local_lists-lists.result c.as_slice.result.now made.args.items made.locals made.body c.args.needs_pairs h.0
    c.in_ok-ty.ensures.enters c.local_lists-lists.ensures c.as_slice.ensures.value h.2 in
    (h.0, r.0, r.1, r.2, h.1)

pub returns-clause-refused : goal.returns-clause-refused
returns-clause-refused g c =
    let made = c.in_ok-ty.field-0 in
    not_rewritten_flat _ _ c.args.self.now _ c.args.body.func (body_at c.args.body) made.ty c.local_lists-lists.result c.as_slice.result.now made.args.items made.locals made.body c.start.result c.in-Err.error
    c.body_error.result
    (enters_kept c.args.self.now c.enter.new.self _ c.args.body.func (body_at c.args.body) made.ty made.args.items made.locals made.body
    (record { bytes = refl; tags = refl; func_types = refl; imported = refl }) refl refl refl c.in_ok-ty.ensures.enters) c.local_lists-lists.ensures c.start.ensures.place c.as_slice.ensures.value c.in-Err.ensures.refused c.body_error.ensures.fault c.body_error.ensures.place
