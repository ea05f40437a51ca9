use Rattle.std.proofs.Common.{ℕ, sym, ap, ◌∙◌, arith}
use Rattle.module_items.specs.Items.{several_items}
use Rattle.module_items.proofs.passing.front_of_item.Goals as goal

pub returns-in-Ok-pass_items : goal.returns-in-Ok-pass_items
returns-in-Ok-pass_items c =
    let items = c.number.new.self.rest.now in (
      c.in-Ok-pass_items.ensures.same_end ∙ c.in-Ok.ensures.same_end,
      record {
        count = c.in-Ok.count;
        items = items;
        counted = c.in-Ok.ensures.is;
        is_there = omega (arith, c.if-place-count.false);
        before = c.in-Ok-pass_items.field-0.now;
        passed = ap (λ (n : ℕ). several_items c.args.kind c.args.place n items) (sym c.in-Ok.ensures.same_end) ∙ c.in-Ok-pass_items.ensures.is;
      },
    )
