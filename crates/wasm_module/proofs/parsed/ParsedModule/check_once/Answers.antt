use Rattle.std.proofs.Common.{refl}
use Rattle.wasm_sections.specs.CodeSections.{body_at}
use Rattle.wasm_module.proofs.ModuleLemmas.{extends_kept}
use Rattle.wasm_module.proofs.RefusalLemmas.{refused}
use Rattle.wasm_module.proofs.RewritingLemmas.{enters_kept, accepted}
use Rattle.wasm_module.proofs.parsed.ParsedModule.check_once.Goals as goal

pub returns-in-Ok-clause-extends : goal.returns-in-Ok-clause-extends
returns-in-Ok-clause-extends c =
    extends_kept c.args.self.now c.enter.new.self _ c.enter.ensures.extends (record { bytes = refl; tags = refl; func_types = refl; imported = refl }) refl refl refl

pub returns-in-Err-clause-extends : goal.returns-in-Err-clause-extends
returns-in-Err-clause-extends c =
    extends_kept c.args.self.now c.enter.new.self _ c.enter.ensures.extends (record { bytes = refl; tags = refl; func_types = refl; imported = refl }) refl refl refl

pub returns-in-Ok-clause-accepted : goal.returns-in-Ok-clause-accepted
returns-in-Ok-clause-accepted c =
    let made = c.in_ok-ty.field-0 in
    accepted c.args.self.now _ c.args.body.func (body_at c.args.body) made.ty c.local_lists-lists.result made.args.items made.locals made.body
    (enters_kept c.args.self.now c.enter.new.self _ c.args.body.func (body_at c.args.body) made.ty made.args.items made.locals made.body
    (record { bytes = refl; tags = refl; func_types = refl; imported = refl }) refl refl refl c.in_ok-ty.ensures.enters) c.local_lists-lists.ensures c.in-Ok.ensures.accepted

pub returns-in-Err-clause-refused : goal.returns-in-Err-clause-refused
returns-in-Err-clause-refused c =
    let made = c.in_ok-ty.field-0 in
    refused c.args.self.now _ c.args.body.func (body_at c.args.body) made.ty c.local_lists-lists.result made.args.items made.locals made.body c.in-Err.failure
    c.body_error.result
    (enters_kept c.args.self.now c.enter.new.self _ c.args.body.func (body_at c.args.body) made.ty made.args.items made.locals made.body
    (record { bytes = refl; tags = refl; func_types = refl; imported = refl }) refl refl refl c.in_ok-ty.ensures.enters) c.local_lists-lists.ensures c.in-Err.ensures.refused c.body_error.ensures.fault c.body_error.ensures.place
