use Rattle.std.proofs.Common.{refl, rules}
use Rattle.wasm_sections.proofs.AdditionLemmas.{replaces, puts_between}
use Rattle.wasm_sections.proofs.changes.Changes.put.Goals as goal

pub returns-in-Ok-clause-sets : goal.returns-in-Ok-clause-sets
returns-in-Ok-clause-sets c =
    replaces c.args.self.now _ c.in-Ok.at c.args.given c.in-Ok.ensures.found c.in-Ok.ensures.within (search rules) refl

pub returns-in-Ok-insert-clause-sets : goal.returns-in-Ok-insert-clause-sets
returns-in-Ok-insert-clause-sets c =
    puts_between c.args.self.now _ c.in-Err.at c.args.given c.in-Err.ensures.before c.in-Ok-insert.ensures.items refl
