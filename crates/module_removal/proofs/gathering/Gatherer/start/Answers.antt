use Rattle.std.proofs.Common.{false, refl, ◌∙◌}
use Rattle.module_removal.specs.LeftSpaces.{own_index}
use Rattle.module_removal.specs.CopiedParts.{copied_index}
use Rattle.module_removal.specs.Gathered.{GathersOwn}
use Rattle.wasm_operators.specs.declared.types.Space.TheVariants.{Funcs}
use Rattle.module_removal.proofs.GatherLemmas.{gathers_own, declares_none, with_following}
use Rattle.module_removal.proofs.gathering.Gatherer.start.Goals as goal

pub returns : goal.returns
returns c = λ none.
    let old = c.args.self.now in
    let new = c.refer.new.self in
    with_following c.refer.result (λ f. GathersOwn false (copied_index own_index Funcs c.args.input.end c.args.input.rest.now) f old new) c.index.new.input.rest.now
    (gathers_own false (λ w. copied_index w Funcs) c.args.input.end c.args.input.rest.now c.index.new.input.rest.now old new c.clear.new.self c.index.new.self old.references c.refer.result
    (c.clear.ensures.left ∙ none) c.clear.ensures.found c.in-Ok.ensures.is refl refl (declares_none old.references.taken) c.refer.ensures.same c.refer.ensures.ok)
