use Rattle.walrus_ir.specs.declared.seq.InstrSeq.{InstrSeq}
use Rattle.walrus_ir.specs.Function.{with_sequence}
use Rattle.walrus_context.specs.OpenTrees.{OpenTrees}
use Rattle.walrus_context.proofs.context.ValidationContext.end_sequence.Goals as goal

pub returns : goal.returns
returns c =
    let is = c.self.view_is in
    let ended = λ (o : OpenTrees) (s : InstrSeq). record o { builder = with_sequence o.builder c.args.sequence (record s { end = c.args.location }) } in
    record {
      was = c.seq_mut-seq.result.now;
      before = rw (← is) c.seq_mut-seq.ensures.value;
      is = λ i. ended (is i) (c.seq.view_is i);
    }
