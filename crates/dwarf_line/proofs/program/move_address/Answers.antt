use Rattle.std.proofs.Common.{refl}
use Rattle.dwarf_line.specs.declared.operation.Operation.TheVariants.{SetAddress}
use Rattle.dwarf_line.proofs.Following.{follows_set, adds_copied}
use Rattle.dwarf_line.proofs.program.move_address.Goals as goal

pub returns-in_ok-write_set_address-in-Some-clause-follows : goal.returns-in_ok-write_set_address-in-Some-clause-follows
returns-in_ok-write_set_address-in-Some-clause-follows c = λ p from spells.
    follows_set _ p c.args.size c.args.address from _ _ _ refl (c.in_ok-write_set_address-in-Some.ensures.adds p)

pub returns-in_ok-extend_from_slice-in-None-clause-follows : goal.returns-in_ok-extend_from_slice-in-None-clause-follows
returns-in_ok-extend_from_slice-in-None-clause-follows c = λ p from spells.
    follows_set _ p c.args.size c.args.address from _ _ _ refl (adds_copied p (SetAddress c.args.size c.args.address) c.args.bytes.now _ _ spells c.in_ok-extend_from_slice-in-None.ensures.items)
