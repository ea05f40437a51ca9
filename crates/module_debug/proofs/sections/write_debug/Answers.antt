use Rattle.std.proofs.Common.{◌+◌, ◌≤◌, length, arith}
use Rattle.module_debug.proofs.SectionLemmas.{begun, one_more, all_written}
use Rattle.module_debug.proofs.sections.write_debug.Goals as goal

pub all-init : goal.all-init
all-init g c = begun c.args.sections.now (g.W.Write.contents c.args.out.now)

pub all-preserved : goal.all-preserved
all-preserved g c =
    let contents = g.W.Write.contents in
    one_more c.args.sections.now c.all.section-index _ _ (contents c.args.out.now) (contents c.all.out) (contents c.write_custom.new.out) (omega arith) c.all.invariant
    c.in_ok-write_custom.ensures

pub returns : goal.returns
returns g c =
    let contents = g.W.Write.contents in
    all_written c.args.sections.now c.all.section-index (contents c.args.out.now) (contents c.all.out) (omega arith) c.all.invariant
