use Rattle.std.proofs.Common.{rules}
use Rattle.walrus_facts.proofs.Scans.{goes_on, marks_one, on_true}
use Rattle.walrus_facts.proofs.scanning.Scan.scan_instr.Goals as goal

pub returns-in-LocalGet : goal.returns-in-LocalGet
returns-in-LocalGet c =
    on_true c.scan_local.result (marks_one c.args.instr.now _ c.args.self.now c.scan_local.new.self (search rules) (search rules) (search rules) (search rules)) c.scan_local.ensures

pub returns-in-Block : goal.returns-in-Block
returns-in-Block c =
    on_true c.go_on.result (goes_on c.args.instr.now _ c.args.self.now c.go_on.new.self (search rules) (search rules) (search rules) (search rules)) c.go_on.ensures

pub returns-in-Loop : goal.returns-in-Loop
returns-in-Loop c =
    on_true c.go_on-in-Loop.result (goes_on c.args.instr.now _ c.args.self.now c.go_on-in-Loop.new.self (search rules) (search rules) (search rules) (search rules)) c.go_on-in-Loop.ensures

pub returns-in-TryTable : goal.returns-in-TryTable
returns-in-TryTable c =
    on_true c.go_on-in-TryTable.result (goes_on c.args.instr.now _ c.args.self.now c.go_on-in-TryTable.new.self (search rules) (search rules) (search rules) (search rules)) c.go_on-in-TryTable.ensures

pub returns-in-IfElse : goal.returns-in-IfElse
returns-in-IfElse c =
    on_true c.go_on_to_both.result (goes_on c.args.instr.now _ c.args.self.now c.go_on_to_both.new.self (search rules) (search rules) (search rules) (search rules)) c.go_on_to_both.ensures
