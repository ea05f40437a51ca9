use Rattle.wasm_sections.specs.declared.sections.SectionKind.TheVariants as section
use Rattle.wasm_sections.proofs.MovedLemmas.{contents_of_kind, segment_contents}
use Rattle.wasm_sections.proofs.moved_functions.FunctionNumbers.move_section.Goals as goal

pub returns-in-Start : goal.returns-in-Start
returns-in-Start c =
    contents_of_kind c.move_function.result c.args.self.imported c.args.self.added section.Start c.args.kind c.args.input.now.rest.now
    c.move_function.new.input.rest.now c.args.out.now.items c.move_function.new.out.items c.in-Start.is c.move_function.ensures

pub returns-in-Export : goal.returns-in-Export
returns-in-Export c =
    contents_of_kind c.move_exports.result c.args.self.imported c.args.self.added section.Export c.args.kind c.args.input.now.rest.now
    c.move_exports.new.input.rest.now c.args.out.now.items c.move_exports.new.out.items c.in-Export.is c.move_exports.ensures

pub returns-in-Global : goal.returns-in-Global
returns-in-Global c =
    contents_of_kind c.move_globals.result c.args.self.imported c.args.self.added section.Global c.args.kind c.args.input.now.rest.now
    c.move_globals.new.input.rest.now c.args.out.now.items c.move_globals.new.out.items c.in-Global.is c.move_globals.ensures

pub returns-in-Table : goal.returns-in-Table
returns-in-Table c =
    contents_of_kind c.move_tables.result c.args.self.imported c.args.self.added section.Table c.args.kind c.args.input.now.rest.now
    c.move_tables.new.input.rest.now c.args.out.now.items c.move_tables.new.out.items c.in-Table.is c.move_tables.ensures

pub returns-in_default : goal.returns-in_default
returns-in_default c =
    segment_contents c.move_segments.result c.args.self.imported c.args.self.added c.args.kind c.args.input.now.rest.now
    c.move_segments.new.input.rest.now c.args.out.now.items c.move_segments.new.out.items c.in_default.not-Start c.in_default.not-Export
    c.in_default.not-Global c.in_default.not-Table c.move_segments.ensures
