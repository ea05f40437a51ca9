use Rattle.walrus_facts.proofs.Scans.{are_facts}
use Rattle.walrus_facts.proofs.scanning.facts_at_once.Goals as goal

pub returns-in-Ok : goal.returns-in-Ok
returns-in-Ok c =
    let e = c.in-Ok.ensures in are_facts c.in_ok-found.found c.in-Ok.facts c.in_ok-found.ensures c.if-found.false e.size e.uses e.refs e.locals
