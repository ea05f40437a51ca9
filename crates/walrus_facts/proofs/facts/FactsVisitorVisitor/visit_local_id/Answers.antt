use Rattle.std.proofs.Common.{refl, sym, append-nil, arith}
use Rattle.walrus_facts.proofs.Collecting.{put_one}
use Rattle.walrus_facts.proofs.facts.FactsVisitorVisitor.visit_local_id.Goals as goal

pub returns : goal.returns
returns c = record {
  size = omega arith;
  uses_data_segments = refl;
  ref_funcs = sym (append-nil c.args.self.now.facts.ref_funcs.items);
  used_locals = λ l. put_one c.args.self.now.facts.used_locals c.insert.new.self c.args.local.now l (c.in_ok-insert.ensures.updates.0 l);
}
