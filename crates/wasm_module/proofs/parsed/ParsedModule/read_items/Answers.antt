use Rattle.std.proofs.Common.{◌∙◌, inr}
use Rattle.wasm_sections.specs.Components.{item_step, items_part}
use Rattle.wasm_sections.specs.Parts.{number, repeated}
use Rattle.wasm_sections.specs.Sections.{section_id}
use Rattle.wasm_sections.proofs.TypeReadingLemmas.{first_fails, number_then}
use Rattle.wasm_module.specs.ReadModules.{components_of}
use Rattle.wasm_module.proofs.ReadingLemmas.{items_next, items_fail, items_done, steps_whole, whole_failed}
use Rattle.wasm_module.proofs.parsed.ParsedModule.read_items.Goals as goal

pub returns-in-Err : goal.returns-in-Err
returns-in-Err c = λ so.
    let m = components_of c.args.self.now in
    let id = section_id c.args.kind in
    whole_failed (items_part id m) c.args.input.end c.args.input.rest.now c.in-Err.error
    (inr (first_fails (number c.args.input.end c.args.input.rest.now) (λ n. repeated (item_step id) n.0 m c.args.input.end n.1) c.in-Err.error c.in-Err.ensures.is))

pub items-init : goal.items-init
items-init c =
    let m = components_of c.args.self.now in
    let new = c.number.new.self in
    record {
      same_end = c.number.ensures.same_end;
      left = λ so. record {
        whole_is =
            number_then number (item_step (section_id c.args.kind)) m c.args.input.end new.end c.args.input.rest.now new.rest.now c.in-Ok.count c.number.ensures.same_end
            c.in-Ok.ensures.is;
        so_far = so;
      };
    }

pub returns-in-Err-read_item : goal.returns-in-Err-read_item
returns-in-Err-read_item c = λ so.
    let m = components_of c.args.self.now in
    let at = c.items in
    let id = section_id c.args.kind in
    whole_failed (items_part id m) c.args.input.end c.args.input.rest.now c.in-Err-read_item.error
    (items_fail (items_part id m c.args.input.end c.args.input.rest.now) id c.in-Ok.count at.counter (components_of at.self) at.self.spaces at.input.end at.input.rest.now
    c.in-Err-read_item.error c.items-test.true (at.invariant.left so) c.in-Err-read_item.ensures.is)

pub items-preserved : goal.items-preserved
items-preserved c =
    let m = components_of c.args.self.now in
    let at = c.items in
    let id = section_id c.args.kind in
    let new = c.read_item.new in
    record {
      same_end = c.read_item.ensures.same_end ∙ at.invariant.same_end;
      left = λ so.
          items_next (items_part id m c.args.input.end c.args.input.rest.now) id c.in-Ok.count at.counter (components_of at.self) (components_of new.self) at.self.spaces
          new.self.spaces at.input.end new.input.end at.input.rest.now new.input.rest.now c.items-test.true (at.invariant.left so) c.in-Ok-read_item.ensures.is
          c.read_item.ensures.same_end;
    }

pub returns : goal.returns
returns c =
    let before = c.args.self.now in
    let m = components_of before in
    let at = c.items in
    let id = section_id c.args.kind in
    steps_whole m before.spaces (components_of at.self) at.self.spaces (items_part id m) c.args.input.end at.input.end c.args.input.rest.now at.input.rest.now c.finish.result
    (λ so. items_done (items_part id m c.args.input.end c.args.input.rest.now) id c.in-Ok.count at.counter (components_of at.self) at.self.spaces at.input.end at.input.rest.now
    c.items-test.false (at.invariant.left so)) at.invariant.same_end c.finish.ensures.is
