use Rattle.std.proofs.Common.{arith}
use Rattle.dwarf.proofs.Taken.{place_after}
use Rattle.dwarf.proofs.replacing.read_placed.Goals as goal

pub returns-clause-fits : goal.returns-clause-fits
returns-clause-fits c =
    place_after c.args.input.now.end c.args.size c.args.input.now.rest.now c.in_ok-number.number c.sized.new.self.rest.now c.at-at.result (omega (arith, c.end-end.ensures, c.end-end.type_inv)) c.at-at.ensures
    c.in_ok-number.ensures.gives
