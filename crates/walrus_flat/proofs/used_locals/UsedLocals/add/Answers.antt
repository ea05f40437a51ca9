use Rattle.std.proofs.Common.{◌≡◌, true, sym, ◌∙◌, rules}
use Rattle.walrus_facts.specs.Marking.{is_marked}
use Rattle.walrus_flat.proofs.UsedLocals.{there_already}
use Rattle.walrus_flat.proofs.used_locals.UsedLocals.add.Goals as goal

pub returns-then-is_marked-clause-done : goal.returns-then-is_marked-clause-done
returns-then-is_marked-clause-done c =
    let old = c.args.self.now in
    let marked : is_marked old.marks.items c.args.local ≡ true = search rules in
    λ t x. there_already c.args.local old.listed.items old.others (sym (old.are_listed c.args.local) ∙ marked) x
