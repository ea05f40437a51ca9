use Rattle.std.proofs.Common.{rules, arith, sym, ◌∙◌}
use Rattle.wasm_operators.specs.Immediates.{clause}
use Rattle.wasm_operators.proofs.BorrowedLists.{next_item, no_item}
use Rattle.wasm_operators.proofs.catch_list.CatchesIterator.next.Goals as goal

pub returns-in_default-clause-steps : goal.returns-in_default-clause-steps
returns-in_default-clause-steps c = absurd (no_item clause c.self.inside.left c.self.inside.clauses.now c.in_default.field-0 (omega arith) c.self.invariant c.in_default.ensures)

pub invariant_of-self : goal.invariant_of-self
invariant_of-self c =
    let step = (next_item clause c.self.inside.left c.self.inside.clauses.now _ c.in-Ok.rest.now (omega arith) c.self.invariant c.in-Ok.ensures).1 in
    step

pub returns-clause-steps : goal.returns-clause-steps
returns-clause-steps c =
    let step = sym c.self.view_is ∙ (next_item clause c.self.inside.left c.self.inside.clauses.now _ c.in-Ok.rest.now (omega arith) c.self.invariant c.in-Ok.ensures).0 in
    step

pub returns-clause-goes : goal.returns-clause-goes
returns-clause-goes c =
    let step = sym c.self.view_is ∙ (next_item clause c.self.inside.left c.self.inside.clauses.now _ c.in-Ok.rest.now (omega arith) c.self.invariant c.in-Ok.ensures).0 in
    rw step (search rules)
