use Rattle.std.proofs.Common.{false, ap, ◌∙◌}
use Rattle.std.specs.Prelude.{unwrap_or}
use Rattle.wasm_context.proofs.Marked.{contains_marked}
use Rattle.wasm_context.proofs.context.Context.is_referenced.Goals as goal

pub returns-in-Some : goal.returns-in-Some
returns-in-Some c =
    contains_marked c.args.self.now.referenced.items c.args.func ∙ ap (λ o. unwrap_or o false) (c.mark.ensures ∙ c.in-Some.is)

pub returns-in-None : goal.returns-in-None
returns-in-None c =
    contains_marked c.args.self.now.referenced.items c.args.func ∙ ap (λ o. unwrap_or o false) (c.mark.ensures ∙ c.in-None.is)
