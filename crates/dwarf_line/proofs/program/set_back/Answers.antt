use Rattle.dwarf_line.proofs.Following.{adds_lead_by_set}
use Rattle.dwarf_line.proofs.program.set_back.Goals as goal

pub returns-clause-leads : goal.returns-clause-leads
returns-clause-leads c = λ p. adds_lead_by_set p c.args.place.size _ _ _ _ (c.in_ok-write_set_address.ensures.adds p)
