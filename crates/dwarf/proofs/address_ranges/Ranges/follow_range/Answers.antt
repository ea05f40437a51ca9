use Rattle.std.proofs.Common.{arith}
use Rattle.dwarf.proofs.Taken.{place_after_two}
use Rattle.dwarf.proofs.address_ranges.Ranges.follow_range.Goals as goal

pub follow_unit_range-requires-clause-fits : goal.follow_unit_range-requires-clause-fits
follow_unit_range-requires-clause-fits c =
    place_after_two c.args.input.now.end c.args.size c.args.input.now.rest.now c.in_ok-begin.begin c.sized.new.self.rest.now c.in_ok-length.length c.sized-2.new.self.rest.now c.at-at.result
    (omega (arith, c.end-end.ensures, c.end-end.type_inv)) c.at-at.ensures c.in_ok-begin.ensures.gives c.in_ok-length.ensures.gives
