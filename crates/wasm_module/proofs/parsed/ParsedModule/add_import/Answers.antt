use Rattle.wasm_sections.specs.declared.imports.Imported.TheVariants as imported
use Rattle.wasm_sections.specs.Components.{with_one_table, with_one_memory, with_one_global}
use Rattle.wasm_module.specs.ReadModules.{components_of}
use Rattle.wasm_module.proofs.ReadingLemmas.{with_counts, table_counted, memory_counted, global_counted}
use Rattle.wasm_module.proofs.ReadStepLemmas.{import_for, adds_at}
use Rattle.wasm_module.proofs.parsed.ParsedModule.add_import.Goals as goal

pub returns-in-Table : goal.returns-in-Table
returns-in-Table c =
    let before = c.args.self.now in
    let m = components_of before in
    let e = c.add_table.ensures in
    let after = c.add_table.new.self in
    let added = c.added_at in
    import_for m before.spaces added.result (with_counts after.counts m) after c.args.place c.args.imported imported.Table c.in-Table.is
    (adds_at m before.spaces c.add_table.result added.result (with_one_table m) (with_counts after.counts m) after c.args.place added.ensures
    (table_counted m before.spaces after c.add_table.result e.added e.numbered e.refused))

pub returns-in-Memory : goal.returns-in-Memory
returns-in-Memory c =
    let before = c.args.self.now in
    let m = components_of before in
    let e = c.add_memory.ensures in
    let after = c.add_memory.new.self in
    let added = c.added_at-in-Memory in
    import_for m before.spaces added.result (with_counts after.counts m) after c.args.place c.args.imported imported.Memory c.in-Memory.is
    (adds_at m before.spaces c.add_memory.result added.result (with_one_memory m) (with_counts after.counts m) after c.args.place added.ensures
    (memory_counted m before.spaces after c.add_memory.result e.added e.numbered e.refused))

pub returns-in-Global : goal.returns-in-Global
returns-in-Global c =
    let before = c.args.self.now in
    let m = components_of before in
    let e = c.add_global.ensures in
    let after = c.add_global.new.self in
    let added = c.added_at-in-Global in
    import_for m before.spaces added.result (with_counts after.counts m) after c.args.place c.args.imported imported.Global c.in-Global.is
    (adds_at m before.spaces c.add_global.result added.result (with_one_global m) (with_counts after.counts m) after c.args.place added.ensures
    (global_counted m before.spaces after c.add_global.result e.added e.numbered e.refused))
