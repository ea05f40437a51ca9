use Rattle.std.proofs.Common.{◌≡◌, true, [], length, refl, ◌∙◌, rules, vec_len}
use Rattle.std.proofs.lemmas.List.{nil_from_length}
use Rattle.walrus_facts.proofs.Scans.{really, entered, fewer_unreached, all_found}
use Rattle.walrus_facts.proofs.scanning.scan_tree.Goals as goal

pub scan-preserved : goal.scan-preserved
scan-preserved c =
    let did : c.enter.result ≡ true = search rules in
    entered c.in-Some.slot c.scan.scan _ c.enter.new.self c.scan.invariant c.in-Some.ensures.items refl refl refl refl refl (really c.enter.result did c.enter.ensures)

pub scan-smaller : goal.scan-smaller
scan-smaller c =
    let did : c.enter.result ≡ true = search rules in
    fewer_unreached c.in-Some.slot c.scan.scan _ c.enter.new.self c.scan.invariant refl (really c.enter.result did c.enter.ensures)

pub returns : goal.returns
returns c =
    let counted : length c.scan.scan.coming.items ≡ vec_len c.scan.scan.coming = search rules in
    let none : c.scan.scan.coming.items ≡ [] = nil_from_length c.scan.scan.coming.items (counted ∙ c.in_default.ensures.cases.0) in
    let found = all_found c.scan.scan c.scan.invariant none in
    let is = found.holds in
    record { tree = found.tree; is_tree = found.is_tree; holds = record { size = is.size; uses = is.uses; refers = is.refers; marks = is.marks } }
