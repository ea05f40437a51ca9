use Rattle.std.proofs.Common.{ap, arith}
use Rattle.walrus_ir.specs.InstructionSequence.{InstructionSequence}
use Rattle.walrus_ir.proofs.Tasks.{agenda_push, work_push}
use Rattle.walrus_ir.proofs.plan.Plan.enter.Goals as goal

pub returns : goal.returns
returns c = record {
  seq = c.in_ok-seq.seq.now;
  reached = c.in_ok-seq.ensures;
  ordered = rw c.new.ensures at c.in_ok-push.ensures.items;
  adds = record {
    goes = rw (c.in_ok-push-2.ensures.items, agenda_push, c.as_slice.ensures.value, ap (λ (s : InstructionSequence). s.instrs) c.seq.view_is);
    falls = rw (c.in_ok-push-2.ensures.items, work_push, c.as_slice.ensures.value, ap (λ (s : InstructionSequence). s.instrs) c.seq.view_is) (omega arith);
  };
}
