use Rattle.std.proofs.Common.{◌≡◌, true, rules}
use Rattle.std.proofs.lemmas.List.{nil_from_length}
use Rattle.walrus_facts.proofs.Scans.{really, all_handlers_remain, fewer_handlers_remain, no_handlers_remain}
use Rattle.walrus_facts.proofs.scanning.Scan.scan_clauses.Goals as goal

pub clauses-init : goal.clauses-init
clauses-init c = all_handlers_remain c.args.clauses.now c.args.self.now

pub clauses-preserved : goal.clauses-preserved
clauses-preserved c =
    let did : c.scan_clause.result ≡ true = search rules in
    fewer_handlers_remain c.args.clauses.now c.clauses.left.now c.in-Some.before.now c.in-Some.clause.now c.args.self.now c.clauses.self c.scan_clause.new.self
    c.in-Some.ensures.cases.0 c.clauses.invariant (really c.scan_clause.result did c.scan_clause.ensures)

pub returns : goal.returns
returns c =
    no_handlers_remain c.args.clauses.now c.clauses.left.now c.args.self.now c.clauses.self (nil_from_length c.clauses.left.now c.in_default.ensures.cases) c.clauses.invariant
