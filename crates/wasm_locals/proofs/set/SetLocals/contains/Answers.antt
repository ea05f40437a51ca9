use Rattle.std.proofs.Common.{ap, ◌∙◌}
use Rattle.wasm_typing.specs.Contexts.{contains}
use Rattle.wasm_locals.specs.Places.{is_placed}
use Rattle.wasm_locals.proofs.Places.{placed-contains}
use Rattle.wasm_locals.proofs.set.SetLocals.contains.Goals as goal

pub returns : goal.returns
returns c =
    let inside = c.self.inside in
    let n = c.args.number in
    c.is_placed.ensures
    ∙ ((λ i. is_placed (c.deref.ensures.value i) (c.deref-2.ensures.value i) n)
    ∙ (placed-contains inside.places.items inside.list.items n c.self.invariant ∙ ap (contains n) c.self.view_is))
