use Rattle.walrus_context.proofs.LastClauses.{in_arena_with_clause}
use Rattle.walrus_context.proofs.context.ValidationContext.add_legacy_catch.Goals as goal

pub invariant_of-self : goal.invariant_of-self
invariant_of-self c = (in_arena_with_clause c.self.inside.func.sequences c.args.catch c.self.inside.stack c.add_clause.new.self c.add_clause.result c.add_clause.ensures.ok c.add_clause.ensures.same c.self.invariant.0, c.self.invariant.1)
