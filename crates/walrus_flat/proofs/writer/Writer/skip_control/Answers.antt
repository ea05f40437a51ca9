use Rattle.walrus_flat.proofs.WriterControls.{block_skipped, loop_skipped, if_skipped, end_skipped, nop_at_once}
use Rattle.walrus_flat.proofs.writer.Writer.skip_control.Goals as goal

pub returns-in-Block-clause-done : goal.returns-in-Block-clause-done
returns-in-Block-clause-done c = λ location. let done = c.open_dropped in block_skipped c.args.self.now done.new.self location c.requires c.args.control done.result c.in-Block.is done.ensures.done

pub returns-in-Loop-clause-done : goal.returns-in-Loop-clause-done
returns-in-Loop-clause-done c = λ location. let done = c.open_dropped-in-Loop in loop_skipped c.args.self.now done.new.self location c.requires c.args.control done.result c.in-Loop.is done.ensures.done

pub returns-in-If-clause-done : goal.returns-in-If-clause-done
returns-in-If-clause-done c = λ location. let done = c.open_dropped-in-If in if_skipped c.args.self.now done.new.self location c.requires c.args.control done.result c.in-If.is done.ensures.done

pub returns-in-End-clause-done : goal.returns-in-End-clause-done
returns-in-End-clause-done c = λ location. let done = c.close_dropped in end_skipped c.args.self.now done.new.self location c.requires c.args.control done.result c.in-End.is (done.ensures.done location)

pub returns-in-Nop-clause-done : goal.returns-in-Nop-clause-done
returns-in-Nop-clause-done c = λ location. nop_at_once c.args.self.now c.args.control location c.in-Nop.is
