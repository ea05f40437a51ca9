use Rattle.std.proofs.Common.{[], ◌∷◌, ◌++◌, ◌∙◌, sym}
use Rattle.dwarf_expressions.specs.Expressions.{ExpressionOperation, simple, entry_value, expression_has, is_branch, expression_is_entry, Begins}
use Rattle.dwarf_expressions.specs.Reading.{simple_of}
use Rattle.dwarf_expressions.proofs.Again.{shorter, entry_shorter, has_kinds}
use Rattle.dwarf_expressions.proofs.Loops.{begin_more, any_more}
use Rattle.dwarf_expressions.proofs.facts.expression_facts.Goals as goal

pub loop-rest-smaller-then-is_entry_value : goal.loop-rest-smaller-then-is_entry_value
loop-rest-smaller-then-is_entry_value c = (entry_shorter c.loop-rest.rest.now _ _ c.in_ok-value.after.now c.in_ok-value.ensures).2

pub loop-rest-preserved-then-is_entry_value : goal.loop-rest-preserved-then-is_entry_value
loop-rest-preserved-then-is_entry_value c =
    let inside = c.in_ok-simple_facts.ensures.read in
    let o : ExpressionOperation = entry_value c.in_ok-value.value.code inside.0 in
    let facts = c.in_ok-simple_facts.field-0 in
    let so_far = c.loop-rest.invariant in
    let is = sym c.is_entry_value.ensures ∙ c.if-is_entry_value.true in (
      so_far.0 ++ o ∷ [],
      begin_more (Begins c.args.encoding) c.args.expression.now c.loop-rest.rest.now c.in_ok-value.after.now so_far.0 o so_far.1 (c.in_ok-value.value.expression.now, is, c.in_ok-value.ensures, inside.1),
      c.with-facts.ensures.branches ∙ any_more (expression_has is_branch) so_far.0 o c.loop-rest.facts.branches facts.branches so_far.2 inside.2,
      c.with-facts.ensures.entries ∙ any_more (expression_has expression_is_entry) so_far.0 o c.loop-rest.facts.names_entries facts.names_entries so_far.3 inside.3,
    )

pub loop-rest-smaller : goal.loop-rest-smaller
loop-rest-smaller c = shorter c.args.encoding c.loop-rest.rest.now _ c.in_ok-simple.after.now c.in_ok-simple.ensures.gives

pub loop-rest-preserved : goal.loop-rest-preserved
loop-rest-preserved c =
    let s = simple_of c.in_ok-simple.simple in
    let o : ExpressionOperation = simple s in
    let kinds = c.in_ok-simple.simple.operands in
    let so_far = c.loop-rest.invariant in
    let facts = c.with-facts-else-is_entry_value in
    let one = has_kinds is_branch s kinds c.of.result.branches c.of.ensures.branches c.in_ok-simple.ensures.operands in
    let other = has_kinds expression_is_entry s kinds c.of.result.names_entries c.of.ensures.entries c.in_ok-simple.ensures.operands in (
      so_far.0 ++ o ∷ [],
      begin_more (Begins c.args.encoding) c.args.expression.now c.loop-rest.rest.now c.in_ok-simple.after.now so_far.0 o so_far.1 c.in_ok-simple.ensures.gives,
      facts.ensures.branches ∙ any_more (expression_has is_branch) so_far.0 o c.loop-rest.facts.branches c.of.result.branches so_far.2 one,
      facts.ensures.entries ∙ any_more (expression_has expression_is_entry) so_far.0 o c.loop-rest.facts.names_entries c.of.result.names_entries so_far.3 other,
    )
