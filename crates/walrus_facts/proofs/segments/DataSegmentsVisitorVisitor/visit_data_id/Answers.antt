use Rattle.walrus_facts.proofs.Collecting.{put_one}
use Rattle.walrus_facts.proofs.segments.DataSegmentsVisitorVisitor.visit_data_id.Goals as goal

pub returns : goal.returns
returns c d = put_one c.args.self.now.segments c.insert.new.self c.args.data_id.now d (c.in_ok-insert.ensures.updates.0 d)
