use Rattle.std.proofs.Common.{◌≤◌, length, arith, subst}
use Rattle.std.proofs.lemmas.List.{take_all}
use Rattle.module_context.proofs.MarkLemmas.{MarksNamed, marked_named}
use Rattle.module_context.proofs.references.marks_of.Goals as goal

pub returns : goal.returns
returns c =
    let named = c.args.named.now in
    let done : length named ≤ c.named.function-index = omega arith in
    marked_named c.args.count named c.named.marks.items (subst (λ l. MarksNamed c.args.count l c.named.marks.items) (take_all c.named.function-index named done) c.named.invariant)
