use Rattle.wasm_sections.specs.declared.sections.SectionKind.TheVariants as kind
use Rattle.wasm_sections.specs.References.{table_references, global_references, export_references, segment_references, item_references}
use Rattle.wasm_sections.specs.Sections.{section_id}
use Rattle.wasm_sections.proofs.ReferenceLemmas.{adds_as, item_of, item_of_other}
use Rattle.wasm_sections.proofs.input.Input.add_item.Goals as goal

pub returns-in-Table-clause-is : goal.returns-in-Table-clause-is
returns-in-Table-clause-is c =
    let end = c.args.self.now.end in
    let text = c.args.self.now.rest.now in
    let new = c.add_table.new in
    adds_as c.args.found.now.items new.found.items new.self.rest.now c.add_table.result (table_references end text)
    (item_references (section_id c.args.kind) end text) (item_of c.args.kind kind.Table end text c.in-Table.is) c.add_table.ensures.is

pub returns-in-Global-clause-is : goal.returns-in-Global-clause-is
returns-in-Global-clause-is c =
    let end = c.args.self.now.end in
    let text = c.args.self.now.rest.now in
    let new = c.add_global.new in
    adds_as c.args.found.now.items new.found.items new.self.rest.now c.add_global.result (global_references end text)
    (item_references (section_id c.args.kind) end text) (item_of c.args.kind kind.Global end text c.in-Global.is) c.add_global.ensures.is

pub returns-in-Export-clause-is : goal.returns-in-Export-clause-is
returns-in-Export-clause-is c =
    let end = c.args.self.now.end in
    let text = c.args.self.now.rest.now in
    let new = c.add_export.new in
    adds_as c.args.found.now.items new.found.items new.self.rest.now c.add_export.result (export_references end text)
    (item_references (section_id c.args.kind) end text) (item_of c.args.kind kind.Export end text c.in-Export.is) c.add_export.ensures.is

pub returns-in_default-clause-is : goal.returns-in_default-clause-is
returns-in_default-clause-is c =
    let end = c.args.self.now.end in
    let text = c.args.self.now.rest.now in
    let new = c.add_segment.new in
    let d = c.in_default in
    adds_as c.args.found.now.items new.found.items new.self.rest.now c.add_segment.result (segment_references end text)
    (item_references (section_id c.args.kind) end text) (item_of_other c.args.kind end text d.not-Table d.not-Global d.not-Export) c.add_segment.ensures.is
