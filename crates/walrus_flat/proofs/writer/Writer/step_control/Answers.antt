use Rattle.walrus_flat.proofs.WriterControls.{block_at_once, loop_at_once, if_at_once, end_at_once, nop_at_once}
use Rattle.walrus_flat.proofs.writer.Writer.step_control.Goals as goal

pub returns-in-Block-clause-done : goal.returns-in-Block-clause-done
returns-in-Block-clause-done c = let done = c.open_empty in block_at_once c.args.self.now done.new.self c.args.location c.requires c.args.control done.result c.in-Block.is done.ensures.done

pub returns-in-Loop-clause-done : goal.returns-in-Loop-clause-done
returns-in-Loop-clause-done c = let done = c.open_empty-in-Loop in loop_at_once c.args.self.now done.new.self c.args.location c.requires c.args.control done.result c.in-Loop.is done.ensures.done

pub returns-in-If-clause-done : goal.returns-in-If-clause-done
returns-in-If-clause-done c = let done = c.open_empty-in-If in if_at_once c.args.self.now done.new.self c.args.location c.requires c.args.control done.result c.in-If.is done.ensures.done

pub returns-in-End-clause-done : goal.returns-in-End-clause-done
returns-in-End-clause-done c = let done = c.close_short in end_at_once c.args.self.now done.new.self c.args.location c.requires c.args.control done.result c.in-End.is done.ensures.done

pub returns-in-Nop-clause-done : goal.returns-in-Nop-clause-done
returns-in-Nop-clause-done c = nop_at_once c.args.self.now c.args.control c.args.location c.in-Nop.is
