-- The stack of tasks, one more at a time.
use Rattle.std.proofs.Common.{◌≡◌, ◌+◌, List, [], ◌∷◌, ◌++◌, arith}
use Rattle.std.proofs.lemmas.Grind.{common_steps}
use Rattle.walrus_ir.specs.declared.plan.Task.{Task}
use Rattle.walrus_ir.specs.Planning.{goes_to, agenda, work_of_task, work}

pub agenda_push : (ts : List Task) (t : Task) → agenda (ts ++ t ∷ []) ≡ goes_to t ++ agenda ts
agenda_push ts t = grind (arith, common_steps)

pub work_push : (ts : List Task) (t : Task) → work (ts ++ t ∷ []) ≡ work_of_task t + work ts
work_push ts t = grind (arith, common_steps)
