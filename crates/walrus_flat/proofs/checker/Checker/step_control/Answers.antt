use Rattle.walrus_ir.specs.declared.control.BlockKind.TheVariants as kind
use Rattle.walrus_flat.proofs.CheckedControls.{block_at_once, loop_at_once, if_at_once, end_at_once, opens_inside, closes_inside, nop_at_once}
use Rattle.walrus_flat.proofs.checker.Checker.step_control.Goals as goal

pub returns-in-Block-clause-step : goal.returns-in-Block-clause-step
returns-in-Block-clause-step c = let done = c.open_empty in block_at_once c.args.self.now done.new.self c.requires c.args.control done.result c.in-Block.is done.ensures.done done.ensures.unchanged

pub returns-in-Loop-clause-step : goal.returns-in-Loop-clause-step
returns-in-Loop-clause-step c = let done = c.open_empty-in-Loop in loop_at_once c.args.self.now done.new.self c.requires c.args.control done.result c.in-Loop.is done.ensures.done done.ensures.unchanged

pub returns-in-If-clause-step : goal.returns-in-If-clause-step
returns-in-If-clause-step c = let done = c.open_empty-in-If in if_at_once c.args.self.now done.new.self c.requires c.args.control done.result c.in-If.is done.ensures.done done.ensures.unchanged

pub returns-in-End-clause-step : goal.returns-in-End-clause-step
returns-in-End-clause-step c = let done = c.close_inner in end_at_once c.args.self.now done.new.self c.requires c.args.control done.result c.in-End.is done.ensures.done done.ensures.unchanged

pub returns-in-Block-clause-inside : goal.returns-in-Block-clause-inside
returns-in-Block-clause-inside c = let done = c.open_empty in opens_inside c.args.self.now done.new.self c.requires c.args.control done.result kind.Block done.ensures.done

pub returns-in-Loop-clause-inside : goal.returns-in-Loop-clause-inside
returns-in-Loop-clause-inside c = let done = c.open_empty-in-Loop in opens_inside c.args.self.now done.new.self c.requires c.args.control done.result kind.Loop done.ensures.done

pub returns-in-If-clause-inside : goal.returns-in-If-clause-inside
returns-in-If-clause-inside c = let done = c.open_empty-in-If in opens_inside c.args.self.now done.new.self c.requires c.args.control done.result kind.If done.ensures.done

pub returns-in-End-clause-inside : goal.returns-in-End-clause-inside
returns-in-End-clause-inside c = let done = c.close_inner in closes_inside c.args.self.now done.new.self c.requires c.args.control done.result done.ensures.done

pub returns-in-Nop-clause-step : goal.returns-in-Nop-clause-step
returns-in-Nop-clause-step c = nop_at_once c.args.self.now c.requires c.args.control c.in-Nop.is
