use Rattle.std.proofs.Common.{rules, arith, sym, ◌∙◌}
use Rattle.wasm_numbers.specs.Numbers.{u32}
use Rattle.wasm_operators.proofs.BorrowedLists.{next_item, no_item}
use Rattle.wasm_operators.proofs.branch_table.TargetsIterator.next.Goals as goal

pub returns-in_default-clause-steps : goal.returns-in_default-clause-steps
returns-in_default-clause-steps c = absurd (no_item u32 c.self.inside.left c.self.inside.labels.now c.in_default.field-0 (omega arith) c.self.invariant c.in_default.ensures)

pub invariant_of-self : goal.invariant_of-self
invariant_of-self c = (next_item u32 c.self.inside.left c.self.inside.labels.now c.in-Ok.label c.in-Ok.rest.now (omega arith) c.self.invariant c.in-Ok.ensures).1

pub returns-clause-steps : goal.returns-clause-steps
returns-clause-steps c = sym c.self.view_is ∙ (next_item u32 c.self.inside.left c.self.inside.labels.now c.in-Ok.label c.in-Ok.rest.now (omega arith) c.self.invariant c.in-Ok.ensures).0

pub returns-clause-goes : goal.returns-clause-goes
returns-clause-goes c =
    let step = sym c.self.view_is ∙ (next_item u32 c.self.inside.left c.self.inside.labels.now c.in-Ok.label c.in-Ok.rest.now (omega arith) c.self.invariant c.in-Ok.ensures).0 in
    rw step (search rules)
