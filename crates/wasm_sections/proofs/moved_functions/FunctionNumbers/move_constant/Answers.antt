use Rattle.std.proofs.Common.{Bool, subst}
use Rattle.wasm_sections.specs.MovedFunctions.{MovesOperator}
use Rattle.wasm_sections.proofs.MovedLemmas.{one_operator, last_operator}
use Rattle.wasm_sections.proofs.moved_functions.FunctionNumbers.move_constant.Goals as goal

pub returns-then-branch : goal.returns-then-branch
returns-then-branch c =
    let at = c.operators in
    let f = c.in_ok-move_operator.ensures in
    let after = c.move_operator.new.input.rest.now in
    let end = subst (λ (b : Bool). MovesOperator c.args.self.imported c.args.self.added b at.input.rest.now after f.0) c.if-branch.true f.1 in
    last_operator c.args.self.imported c.args.self.added c.args.input.now.rest.now at.input.rest.now after c.args.out.now.items at.out.items
    c.move_operator.new.out.items f.0 at.invariant end.0 end.1 f.2

pub operators-preserved : goal.operators-preserved
operators-preserved c =
    let at = c.operators in
    let f = c.in_ok-move_operator.ensures in
    let after = c.move_operator.new.input.rest.now in
    let one = subst (λ (b : Bool). MovesOperator c.args.self.imported c.args.self.added b at.input.rest.now after f.0) c.if-branch.false f.1 in
    one_operator c.args.self.imported c.args.self.added c.args.input.now.rest.now at.input.rest.now after c.args.out.now.items at.out.items
    c.move_operator.new.out.items f.0 at.invariant one f.2
