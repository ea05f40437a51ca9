use Rattle.std.proofs.Common.{refl}
use Rattle.walrus_facts.proofs.Changes.{called}
use Rattle.walrus_facts.proofs.mapping.map_at.Goals as goal

pub returns-clause-mapped : goal.returns-clause-mapped
returns-clause-mapped g c = record { changed = called (goal.F-step g) _ _ _ _ _ c.change.ensures; location = refl }
