use Rattle.std.proofs.Common.{◌∙◌}
use Rattle.wasm_sections.specs.Sections.{section_id}
use Rattle.module_context.specs.ModuleContexts.{declared_items}
use Rattle.module_context.specs.ReadContexts.{declared_so_far}
use Rattle.module_context.proofs.ItemLemmas.{one_more_declared, item_not_declared, items_end, contents_unread}
use Rattle.module_context.proofs.declarations.Declarations.read_items.Goals as goal

pub items-preserved : goal.items-preserved
items-preserved c =
    let d = declared_so_far c.args.self.now in
    let at = c.items in
    let id = section_id c.args.kind in
    let new = c.read_item.new in
    record {
      same_end = c.read_item.ensures.same_end ∙ at.invariant.same_end;
      so_far =
          one_more_declared (declared_items id d c.args.input.end c.args.input.rest.now) id c.in-Ok.count at.counter (declared_so_far at.self) (declared_so_far new.self)
          at.input.end new.input.end at.input.rest.now new.input.rest.now c.items-test.true at.invariant.so_far c.in-Ok-read_item.ensures.is c.read_item.ensures.same_end;
    }

pub returns-in-Err-read_item : goal.returns-in-Err-read_item
returns-in-Err-read_item c =
    let d = declared_so_far c.args.self.now in
    let at = c.items in
    let id = section_id c.args.kind in
    contents_unread (declared_items id d) c.args.input.end c.args.input.rest.now c.in-Err-read_item.error
    (item_not_declared (declared_items id d c.args.input.end c.args.input.rest.now) id c.in-Ok.count at.counter (declared_so_far at.self) at.input.end at.input.rest.now
    c.in-Err-read_item.error c.items-test.true at.invariant.so_far c.in-Err-read_item.ensures.is)

pub returns : goal.returns
returns c =
    let d = declared_so_far c.args.self.now in
    let at = c.items in
    let id = section_id c.args.kind in
    items_end (declared_items id d) id c.in-Ok.count at.counter (declared_so_far at.self) c.args.input.end at.input.end c.args.input.rest.now at.input.rest.now c.finish.result
    c.items-test.false at.invariant.so_far at.invariant.same_end c.finish.ensures.is
