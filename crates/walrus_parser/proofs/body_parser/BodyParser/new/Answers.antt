use Rattle.std.proofs.Common.{◌≡◌, Some, inl, inr, ap, sym, ◌∙◌}
use Rattle.walrus_ir.specs.Function.{Function}
use Rattle.walrus_ir.specs.Types.{signature_of}
use Rattle.wasm_body.specs.Naming.{entry_type_id}
use Rattle.walrus_maps.specs.Environments.{environment_of}
use Rattle.walrus_context.specs.OpenTrees.{OpenTrees, env_of}
use Rattle.walrus_parser.specs.BodySources.{source_environment}
use Rattle.walrus_parser.proofs.Beginnings.{begun_as, entry_is_function}
use Rattle.walrus_parser.proofs.body_parser.BodyParser.new.Goals as goal

pub returns-in-Ok-clause-ok : goal.returns-in-Ok-clause-ok
returns-in-Ok-clause-ok g c =
    let a = c.args in
    let s = a.source.now in
    let t = c.new-context.result in
    let is = c.new-context.ensures in
    let first : t.builder ≡ record c.without_entry-builder.result { entry = Some 0 } =
    ap (λ (z : OpenTrees). z.builder) is ∙ c.make_room.ensures ∙ c.set_entry.ensures ∙ ap (λ n. record c.without_entry-builder.result { entry = Some n }) c.new.ensures in
    let fresh = first ∙ ap (λ (f : Function). record f { entry = Some 0 }) c.without_entry-builder.ensures in
    let env = ap env_of is ∙ ap (λ (f : Function). environment_of s.module.now s.indices.now s.function f.type) (c.make_room.ensures ∙ c.set_entry.ensures ∙ ap (λ (f : Function). record f { entry = Some c.new.result }) c.without_entry-builder.ensures) in
    let made = begun_as t s.ty a.entry c.push_control_with_ty.new.self c.in-Ok._entry c.new-in-Ok.result.items (signature_of t.module.types a.entry) (ap (λ (z : OpenTrees). z.frames) is) fresh (ap entry_type_id env ∙ c.requires) c.new-in-Ok.ensures.items
    c.in-Ok.ensures.ok in
    record { keeps = made.0; entry = made.1 }

pub returns-clause-err : goal.returns-clause-err
returns-clause-err g c =
    let a = c.args in
    elim c.in-Err.ensures.err [
      | inl is ↦ is
      | inr is ↦ absurd (entry_is_function (source_environment a.source.now) a.entry c.requires (ap (λ (z : OpenTrees). signature_of z.module.types a.entry) (sym c.new-context.ensures) ∙ is.1))
    ]
