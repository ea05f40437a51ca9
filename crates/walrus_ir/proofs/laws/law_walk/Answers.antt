use Rattle.walrus_ir.proofs.WalkLaws.{one_tree, tree_has_no_fault, one_fault, tree_is_walked, walk_makes_tree}
use Rattle.walrus_ir.proofs.TreeOrFault.{tree_or_fault}
use Rattle.walrus_ir.proofs.laws.law_walk.Goals as goal

pub returns : goal.returns
returns c = record {
  one_tree = one_tree;
  no_fault = tree_has_no_fault;
  one_fault = one_fault;
  either = tree_or_fault;
  walked = tree_is_walked;
  makes_tree = walk_makes_tree;
}
