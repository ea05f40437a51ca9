use Rattle.std.proofs.Common.{arith}
use Rattle.dwarf_line.specs.Views.{parameters}
use Rattle.dwarf_line.proofs.Following.{adds_lead_further}
use Rattle.dwarf_line.proofs.program.lead.Goals as goal

pub returns-clause-leads : goal.returns-clause-leads
returns-clause-leads c =
    let p = parameters c.args.header.now in
    adds_lead_further p _ _ _ c.args.place.new c.in_ok-from.from c.args.target c.in_ok-from.ensures.below (omega arith) (c.in_ok-from.ensures.leads p) c.in_ok-write_advance.ensures
