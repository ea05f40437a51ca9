use Rattle.std.proofs.Common.{refl}
use Rattle.module_removal.proofs.GatherStepLemmas.{gathers_alike}
use Rattle.module_removal.specs.declared.gathering.Gatherer.{Gatherer}
use Rattle.module_removal.proofs.gathering.Gatherer.alike.Goals as goal

pub returns-in-Ok : goal.returns-in-Ok
returns-in-Ok c =
    let old = c.args.self.now in
    let new : Gatherer = record old { references = c.refer_alike.new.self } in
    let section = c.args.section.now in
    gathers_alike section.contents.end section.contents.rest.now c.in-Ok.ensures.0 c.in-Ok.alike.types old new c.refer_alike.result c.in-Ok.ensures.1 refl
    c.refer_alike.ensures.counts c.refer_alike.ensures.taken c.refer_alike.ensures.edges
