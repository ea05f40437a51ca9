use Rattle.std.proofs.Common.{[], ◌∷◌, ◌++◌, ◌∙◌}
use Rattle.dwarf_expressions.specs.Expressions.{simple_has, is_branch, expression_is_entry, BeginsSimple}
use Rattle.dwarf_expressions.specs.Reading.{simple_of}
use Rattle.dwarf_expressions.proofs.Again.{shorter, has_kinds}
use Rattle.dwarf_expressions.proofs.Loops.{begin_more, any_more}
use Rattle.dwarf_expressions.proofs.facts.simple_facts.Goals as goal

pub loop-rest-smaller : goal.loop-rest-smaller
loop-rest-smaller c = shorter c.args.encoding c.loop-rest.rest.now _ c.in_ok-simple.after.now c.in_ok-simple.ensures.gives

pub loop-rest-preserved : goal.loop-rest-preserved
loop-rest-preserved c =
    let s = simple_of c.in_ok-simple.simple in
    let kinds = c.in_ok-simple.simple.operands in
    let so_far = c.loop-rest.invariant in
    let one = has_kinds is_branch s kinds c.of.result.branches c.of.ensures.branches c.in_ok-simple.ensures.operands in
    let other = has_kinds expression_is_entry s kinds c.of.result.names_entries c.of.ensures.entries c.in_ok-simple.ensures.operands in (
      so_far.0 ++ s ∷ [],
      begin_more (BeginsSimple c.args.encoding) c.args.expression.now c.loop-rest.rest.now c.in_ok-simple.after.now so_far.0 s so_far.1 c.in_ok-simple.ensures.gives,
      c.with-facts.ensures.branches ∙ any_more (simple_has is_branch) so_far.0 s c.loop-rest.facts.branches c.of.result.branches so_far.2 one,
      c.with-facts.ensures.entries ∙ any_more (simple_has expression_is_entry) so_far.0 s c.loop-rest.facts.names_entries c.of.result.names_entries so_far.3 other,
    )
