use Rattle.std.proofs.Common.{◌≡◌}
use Rattle.wasm_validator.specs.Core.{targets_in}
use Rattle.wasm_validator.proofs.state.Validator.may_go_to_each.Given as goal

abbrev pub invariant-loop-label : goal.invariant-loop-label
invariant-loop-label l =
    (goal.iterator-loop-label).can_next l.left × (goal.iterator-loop-label).is_finite l.left × (targets_in l.self l.arity l.left ≡ targets_in l.self l.arity l.fn.targets)
