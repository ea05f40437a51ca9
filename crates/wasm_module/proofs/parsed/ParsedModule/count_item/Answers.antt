-- Each kind of item has an index space, in which its id is the next index and has the next number.
use Rattle.std.proofs.Common.{sym, ◌∙◌}
use Rattle.wasm_sections.specs.declared.sections.SectionKind.TheVariants as kind
use Rattle.wasm_module.specs.ReadModules.{components_of}
use Rattle.wasm_module.proofs.ReadingLemmas.{for_kind, for_other_kind, table_counted, memory_counted, global_counted, element_counted, data_counted}
use Rattle.wasm_module.proofs.parsed.ParsedModule.count_item.Goals as goal

pub returns-in-Table : goal.returns-in-Table
returns-in-Table c =
    let before = c.args.self.now in
    let m = components_of before in
    let e = c.add_table.ensures in
    for_kind c.args.kind kind.Table m before.spaces c.add_table.result _ c.add_table.new.self c.in-Table.is
    (table_counted m before.spaces c.add_table.new.self c.add_table.result e.added e.numbered e.refused)

pub returns-in-Memory : goal.returns-in-Memory
returns-in-Memory c =
    let before = c.args.self.now in
    let m = components_of before in
    let e = c.add_memory.ensures in
    for_kind c.args.kind kind.Memory m before.spaces c.add_memory.result _ c.add_memory.new.self c.in-Memory.is
    (memory_counted m before.spaces c.add_memory.new.self c.add_memory.result e.added e.numbered e.refused)

pub returns-in-Global : goal.returns-in-Global
returns-in-Global c =
    let before = c.args.self.now in
    let m = components_of before in
    let e = c.add_global.ensures in
    for_kind c.args.kind kind.Global m before.spaces c.add_global.result _ c.add_global.new.self c.in-Global.is
    (global_counted m before.spaces c.add_global.new.self c.add_global.result e.added e.numbered e.refused)

pub returns-in-Element : goal.returns-in-Element
returns-in-Element c =
    let before = c.args.self.now in
    let m = components_of before in
    let e = c.add_element.ensures in
    for_kind c.args.kind kind.Element m before.spaces c.add_element.result _ c.add_element.new.self c.in-Element.is
    (element_counted m before.spaces c.add_element.new.self c.add_element.result e.added e.numbered e.refused)

pub returns-in_default : goal.returns-in_default
returns-in_default c =
    let before = c.args.self.now in
    let m = components_of before in
    let e = c.add_data.ensures in
    let d = c.in_default in
    for_other_kind c.args.kind m before.spaces c.add_data.result _ c.add_data.new.self d.not-Table d.not-Memory d.not-Global d.not-Element
    (data_counted m before.spaces c.add_data.new.self c.add_data.result (sym c.is_some.ensures ∙ c.if-is_some.true) e.added e.numbered e.refused)
