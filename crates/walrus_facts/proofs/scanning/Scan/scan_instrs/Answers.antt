use Rattle.std.proofs.Common.{◌≡◌, true, rules}
use Rattle.std.proofs.lemmas.List.{nil_from_length}
use Rattle.walrus_facts.proofs.Scans.{really, all_remain, fewer_remain, none_remain}
use Rattle.walrus_facts.proofs.scanning.Scan.scan_instrs.Goals as goal

pub left-init : goal.left-init
left-init c = all_remain c.args.instrs.now c.args.self.now

pub left-preserved : goal.left-preserved
left-preserved c =
    let did : c.scan_instr.result ≡ true = search rules in
    fewer_remain c.args.instrs.now c.left.left.now c.in-Some.before.now c.in-Some.located.now c.args.self.now c.left.self c.scan_instr.new.self
    c.in-Some.ensures.cases.0 c.left.invariant (really c.scan_instr.result did c.scan_instr.ensures)

pub returns : goal.returns
returns c = none_remain c.args.instrs.now c.left.left.now c.args.self.now c.left.self (nil_from_length c.left.left.now c.in_default.ensures.cases) c.left.invariant
