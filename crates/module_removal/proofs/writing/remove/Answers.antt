use Rattle.std.proofs.Common.{Option, false, refl, ap, option_map}
use denote.Ref.{Bor}
use Rattle.module_removal.specs.declared.left.LeftItems.{LeftItems}
use Rattle.module_removal.specs.declared.writing.Writer.{Writer}
use Rattle.module_removal.proofs.writing.remove.Goals as goal

pub returns-in-Ok-clause-ok : goal.returns-in-Ok-clause-ok
returns-in-Ok-clause-ok c =
    let first : Writer = record {
      alloc = c.args.alloc;
      remainder = c.args.remainder;
      code = c.args.code;
      next = c.none.result;
      kept = c.renumbering.result;
      passed = c.finding.result;
      items = c.new.result;
      count = 0;
      has_elements = false;
      out = c.new-2.result;
    } in
    record {
      first = first;
      last = c.write_all.new.writer;
      begins = record {
        remainder_is = refl;
        code_is = refl;
        kept = ap (λ (o : Option (Bor LeftItems)). option_map (λ (left : Bor LeftItems). left.now) o) c.renumbering.ensures.left;
        passed = c.finding.ensures.left;
        next = c.none.ensures;
        none = (c.new.ensures.items, refl);
        has_elements = refl;
        out = c.new-2.ensures.items;
      };
      writes = c.in-Ok.ensures.is (c.new.ensures.items, refl);
      out = refl;
    }

pub returns-in-Err-clause-err : goal.returns-in-Err-clause-err
returns-in-Err-clause-err c =
    let first : Writer = record {
      alloc = c.args.alloc;
      remainder = c.args.remainder;
      code = c.args.code;
      next = c.none.result;
      kept = c.renumbering.result;
      passed = c.finding.result;
      items = c.new.result;
      count = 0;
      has_elements = false;
      out = c.new-2.result;
    } in
    record {
      first = first;
      begins = record {
        remainder_is = refl;
        code_is = refl;
        kept = ap (λ (o : Option (Bor LeftItems)). option_map (λ (left : Bor LeftItems). left.now) o) c.renumbering.ensures.left;
        passed = c.finding.ensures.left;
        next = c.none.ensures;
        none = (c.new.ensures.items, refl);
        has_elements = refl;
        out = c.new-2.ensures.items;
      };
      stops = c.in-Err.ensures.err (c.new.ensures.items, refl);
    }
