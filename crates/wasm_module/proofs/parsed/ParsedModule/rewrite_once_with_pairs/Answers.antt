use Rattle.std.proofs.Common.{refl}
use Rattle.wasm_sections.specs.CodeSections.{body_at}
use Rattle.wasm_module.proofs.ModuleLemmas.{extends_kept}
use Rattle.wasm_module.proofs.RefusalLemmas.{not_rewritten}
use Rattle.wasm_module.proofs.RewritingLemmas.{enters_kept, rewritten_with, rewritten, parsed}
use Rattle.wasm_module.proofs.parsed.ParsedModule.rewrite_once_with_pairs.Goals as goal

pub returns-in-Ok-clause-extends : goal.returns-in-Ok-clause-extends
returns-in-Ok-clause-extends c =
    extends_kept c.args.self.now c.enter.new.self _ c.enter.ensures.extends (record { bytes = refl; tags = refl; func_types = refl; imported = refl }) refl refl refl

pub returns-in-Err-clause-extends : goal.returns-in-Err-clause-extends
returns-in-Err-clause-extends c =
    extends_kept c.args.self.now c.enter.new.self _ c.enter.ensures.extends (record { bytes = refl; tags = refl; func_types = refl; imported = refl }) refl refl refl

pub returns-in-Ok-clause-rewritten : goal.returns-in-Ok-clause-rewritten
returns-in-Ok-clause-rewritten c =
    let made = c.in_ok-ty.field-0 in
    let r = rewritten c.args.self.now c.enter.new.self c.args.body.func (body_at c.args.body) made.ty c.local_lists-lists.result made.args.items made.locals made.body _
    c.rewrite_body-rewritten.new.dst.items c.in_ok-ty.ensures.enters c.local_lists-lists.ensures c.clear.ensures.items c.in-Ok.ensures.rewritten in
    rewritten_with c.args.self.now c.args.body.func (body_at c.args.body) _ _ _ r.0 c.clear-2.ensures.items r.1

pub returns-in-Ok-clause-parsed : goal.returns-in-Ok-clause-parsed
returns-in-Ok-clause-parsed c =
    let made = c.in_ok-ty.field-0 in
    parsed c.args.self.now _ c.args.body.func (body_at c.args.body) made.ty c.local_lists-lists.result made.args.items made.locals made.body c.in-Ok.function
    (enters_kept c.args.self.now c.enter.new.self _ c.args.body.func (body_at c.args.body) made.ty made.args.items made.locals made.body
    (record { bytes = refl; tags = refl; func_types = refl; imported = refl }) refl refl refl c.in_ok-ty.ensures.enters) c.local_lists-lists.ensures
    c.in-Ok.ensures.rewritten.accepts c.in-Ok.ensures.args

pub returns-in-Err-clause-refused : goal.returns-in-Err-clause-refused
returns-in-Err-clause-refused c =
    let made = c.in_ok-ty.field-0 in
    not_rewritten _ _ c.args.self.now _ c.args.body.func (body_at c.args.body) made.ty c.local_lists-lists.result made.args.items made.locals made.body c.start.result c.in-Err.error
    c.body_error.result
    (enters_kept c.args.self.now c.enter.new.self _ c.args.body.func (body_at c.args.body) made.ty made.args.items made.locals made.body
    (record { bytes = refl; tags = refl; func_types = refl; imported = refl }) refl refl refl c.in_ok-ty.ensures.enters) c.local_lists-lists.ensures c.start.ensures.place c.in-Err.ensures.refused c.body_error.ensures.fault c.body_error.ensures.place
