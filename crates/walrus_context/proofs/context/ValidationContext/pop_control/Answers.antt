use Rattle.std.proofs.Common.{refl}
use Rattle.walrus_ir.specs.declared.seq.InstrSeq.{InstrSeq}
use Rattle.walrus_ir.specs.Function.{with_sequence}
use Rattle.walrus_context.specs.OpenFrames.{OpenFrame, frame_with}
use Rattle.walrus_context.specs.OpenTrees.{OpenTrees}
use Rattle.walrus_context.proofs.context.ValidationContext.pop_control.Goals as goal

pub returns-in-Ok-clause-ok : goal.returns-in-Ok-clause-ok
returns-in-Ok-clause-ok c =
    let inside = c.self.inside in
    let frame : OpenFrame = frame_with c.in-Ok.frame c.in-Ok.instrs.items in
    let is = c.self.view_is in
    let rest = c.pop.new.self in
    let closed = λ (o : OpenTrees) (s : InstrSeq). record o {
      builder = with_sequence o.builder frame.sequence (record s { instrs = frame.instrs });
      frames = rest;
    } in record {
      frame = frame;
      shown = record { is = refl };
      is_block = refl;
      closes = record {
        was = c.seq_mut-seq.result.now;
        before = rw (← is) c.seq_mut-seq.ensures.value;
        frames = rw (← is) c.in-Ok.ensures.ok;
        is = λ i. closed (is i) (c.seq.view_is i);
      };
    }
