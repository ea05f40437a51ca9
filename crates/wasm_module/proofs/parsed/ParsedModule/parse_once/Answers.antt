use Rattle.std.proofs.Common.{refl, None, inl, inr}
use Rattle.wasm_sections.specs.CodeSections.{body_at}
use Rattle.wasm_module.proofs.ModuleLemmas.{extends_kept}
use Rattle.wasm_module.proofs.RefusalLemmas.{refused}
use Rattle.wasm_module.proofs.RewritingLemmas.{enters_kept, parsed}
use Rattle.wasm_module.proofs.parsed.ParsedModule.parse_once.Goals as goal

pub returns-in-Ok-clause-extends : goal.returns-in-Ok-clause-extends
returns-in-Ok-clause-extends c =
    extends_kept c.args.self.now c.enter.new.self _ c.enter.ensures.extends (record { bytes = refl; tags = refl; func_types = refl; imported = refl }) refl refl refl

pub returns-in-Err-clause-extends : goal.returns-in-Err-clause-extends
returns-in-Err-clause-extends c =
    extends_kept c.args.self.now c.enter.new.self _ c.enter.ensures.extends (record { bytes = refl; tags = refl; func_types = refl; imported = refl }) refl refl refl

pub returns-in-Ok-clause-parsed : goal.returns-in-Ok-clause-parsed
returns-in-Ok-clause-parsed c =
    let made = c.in_ok-ty.field-0 in
    parsed c.args.self.now _ c.args.body.func (body_at c.args.body) made.ty c.local_lists-lists.result made.args.items made.locals made.body c.in-Ok.function
    (enters_kept c.args.self.now c.enter.new.self _ c.args.body.func (body_at c.args.body) made.ty made.args.items made.locals made.body
    (record { bytes = refl; tags = refl; func_types = refl; imported = refl }) refl refl refl c.in_ok-ty.ensures.enters) c.local_lists-lists.ensures c.in-Ok.ensures.accepted c.in-Ok.ensures.args

pub returns-in-Err-clause-refused : goal.returns-in-Err-clause-refused
returns-in-Err-clause-refused c =
    let made = c.in_ok-ty.field-0 in
    refused c.args.self.now _ c.args.body.func (body_at c.args.body) made.ty c.local_lists-lists.result made.args.items made.locals made.body c.in-Err.failure
    c.body_error.result
    (enters_kept c.args.self.now c.enter.new.self _ c.args.body.func (body_at c.args.body) made.ty made.args.items made.locals made.body
    (record { bytes = refl; tags = refl; func_types = refl; imported = refl }) refl refl refl c.in_ok-ty.ensures.enters) c.local_lists-lists.ensures (elim c.in-Err.ensures.refused [ inl memory ↦ inl memory | inr fault ↦ inr (fault None tt) ]) c.body_error.ensures.fault c.body_error.ensures.place
