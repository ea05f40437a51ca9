use Rattle.walrus_maps.specs.Environments.{environment_of}
use Rattle.tests_body.proofs.ReadBackLemmas.{none_undone}
use Rattle.tests_body.proofs.unchanged.twice_over.Goals as goal

pub rewritten_twice-requires-clause-undone : goal.rewritten_twice-requires-clause-undone
rewritten_twice-requires-clause-undone c =
    none_undone c.args.module.now.types c.new-out.result c.new-locals.result.entries (environment_of c.args.module.now c.new-ids.result c.new-id.result c.new-ty.result)
    c.new-out.ensures.numbers c.new-locals.ensures.empty
