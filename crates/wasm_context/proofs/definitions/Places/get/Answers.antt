use Rattle.std.proofs.Common.{ap, ◌∙◌}
use Rattle.wasm_context.specs.Declarations.{at_key}
use Rattle.wasm_context.proofs.KeyPlaces.{lookup-at_key}
use Rattle.wasm_context.proofs.definitions.Places.get.Goals as goal

pub returns : goal.returns
returns c =
    c.copied.ensures
    ∙ (c.get.ensures.value
    ∙ (lookup-at_key c.args.key.now c.self.inside.by_key.entries
    ∙ ap (λ m. at_key m c.args.key.now) c.self.view_is))
