use Rattle.std.proofs.Common.{ℕ, ◌+◌, ◌%◌, ◌^◌, ap, arith}
use Rattle.dwarf_line.specs.Views.{parameters}
use Rattle.dwarf_line.proofs.Following.{follows_special}
use Rattle.dwarf_line.proofs.program.move_special.Goals as goal

pub returns-clause-follows : goal.returns-clause-follows
returns-clause-follows c =
    let p = parameters c.args.header.now in
    let old_is = ap (λ (n : ℕ). (c.args.place.old + n) % 2 ^ 64) c.address_advance.ensures in
    follows_special _ p c.args.opcode _ c.args.place _ c.in_ok-from.from _ _ _ (c.in_ok-from.ensures.leads p) c.in_ok-write_special.ensures c.in_ok-from.ensures.below (omega arith)
    c.line_step.ensures old_is c.moved-new.ensures
