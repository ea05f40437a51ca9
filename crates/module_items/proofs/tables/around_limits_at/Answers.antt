use Rattle.std.proofs.Common.{ℕ, sym, ap, ◌∙◌}
use Rattle.module_items.specs.Renaming.{around_limits_part}
use Rattle.module_items.proofs.FoundLemmas.{of_found}
use Rattle.module_items.proofs.tables.around_limits_at.Goals as goal

pub returns-in-Ok : goal.returns-in-Ok
returns-in-Ok c =
    let there = of_found _ _ c.in-Ok-Some.field-0-is c.in-Ok-Some.ensures in
    let front = c.in-Ok-Some.front.rest.now in
    record {
      front = front;
      at = there.1;
      following = c.around_limits.new.input.rest.now;
      item = ap (λ (n : ℕ). around_limits_part n front) (sym there.0) ∙ c.in-Ok.ensures.is;
    }
