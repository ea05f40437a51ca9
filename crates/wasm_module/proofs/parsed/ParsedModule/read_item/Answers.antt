use Rattle.std.proofs.Common.{inr}
use Rattle.wasm_numbers.specs.Results.{with_fault}
use Rattle.wasm_sections.specs.declared.sections.SectionKind.TheVariants as kinds
use Rattle.wasm_sections.specs.Components.{item_step}
use Rattle.wasm_sections.specs.Parts.{fault_here}
use Rattle.wasm_sections.specs.Sections.{section_id}
use Rattle.wasm_module.specs.ReadModules.{components_of, counted_part, with_counted}
use Rattle.wasm_module.proofs.ReadStepLemmas.{item_for_kind, export_read, step_after, step_before, counted_is, placed_here, adds_at}
use Rattle.wasm_module.proofs.parsed.ParsedModule.read_item.Goals as goal

pub returns-in-Export-clause-is : goal.returns-in-Export-clause-is
returns-in-Export-clause-is c =
    let before = c.args.self.now in
    let m = components_of before in
    let at = c.args.input.now in
    let rest = c.export.new.self.rest.now in
    item_for_kind c.args.kind kinds.Export m before.spaces c.export.result m before.spaces at.end at.rest.now rest c.in-Export.is
    (export_read m before.spaces c.export.result at.end at.rest.now rest c.export.ensures.is)

pub returns-in-Ok-pass_item : goal.returns-in-Ok-pass_item
returns-in-Ok-pass_item c =
    let before = c.args.self.now in
    let m = components_of before in
    let at = c.args.input.now in
    let id = section_id c.args.kind in
    let after = c.count_item.new.self in
    let d = c.in_default in
    record {
      same_end = c.pass_item.ensures.same_end;
      is =
          step_after m before.spaces c.added_at.result (components_of after) after.spaces (counted_part id at.end at.rest.now)
          (λ y. with_fault (fault_here at.end at.rest.now) (with_counted id m)) tt c.pass_item.new.input.rest.now (item_step id m at.end at.rest.now)
          (counted_is c.args.kind m at.end at.rest.now d.not-Import d.not-Export d.not-Function d.not-Tag) c.in-Ok-pass_item.ensures.is
          (placed_here m before.spaces c.added_at.result (components_of after) after.spaces (with_counted id m) c.at-place.result at.end at.rest.now c.at-place.ensures.place
          (adds_at m before.spaces c.count_item.result c.added_at.result (with_counted id m) (components_of after) after.spaces c.at-place.result c.added_at.ensures
          c.count_item.ensures));
    }

pub returns-in-Err-pass_item : goal.returns-in-Err-pass_item
returns-in-Err-pass_item c =
    let m = components_of c.args.self.now in
    let at = c.args.input.now in
    let id = section_id c.args.kind in
    let d = c.in_default in
    record {
      same_end = c.pass_item.ensures.same_end;
      is = λ so.
          inr (step_before (counted_part id at.end at.rest.now) (λ y. with_fault (fault_here at.end at.rest.now) (with_counted id m)) (item_step id m at.end at.rest.now)
          c.in-Err-pass_item.error (counted_is c.args.kind m at.end at.rest.now d.not-Import d.not-Export d.not-Function d.not-Tag) c.in-Err-pass_item.ensures.is);
    }
