use Rattle.std.proofs.Common.{ap}
use Rattle.wasm_operators.specs.declared.types.Space.{Space}
use Rattle.wasm_operators.specs.declared.types.Space.TheVariants as spaces
use Rattle.module_removal.specs.LeftSpaces.{index_written}
use Rattle.module_removal.specs.CopiedParts.{copied_index, copied_limits}
use Rattle.module_removal.specs.CopiedItems.{copied_table_type, copied_global_type, copied_tag, copied_imported}
use Rattle.module_removal.proofs.CopyLemmas.{copies_as}
use Rattle.module_removal.proofs.KindCopies.{imported_tag}
use Rattle.module_removal.proofs.copier.Copier.imported.Goals as goal

pub returns-in-Funcs-clause-is : goal.returns-in-Funcs-clause-is
returns-in-Funcs-clause-is c =
    copies_as c.args.self.now c.index.new.self c.index.new.input.rest.now c.index.result (copied_index (index_written c.args.self.now.left) spaces.Types c.args.input.now.end c.args.input.now.rest.now) (copied_imported (index_written c.args.self.now.left) c.args.space c.args.input.now.end c.args.input.now.rest.now)
    (ap (λ (s : Space). copied_imported (index_written c.args.self.now.left) s c.args.input.now.end c.args.input.now.rest.now) c.in-Funcs.is)
    c.index.ensures.is

pub returns-in-Tables-clause-is : goal.returns-in-Tables-clause-is
returns-in-Tables-clause-is c =
    copies_as c.args.self.now c.table_type.new.self c.table_type.new.input.rest.now c.table_type.result (copied_table_type (index_written c.args.self.now.left) c.args.input.now.end c.args.input.now.rest.now) (copied_imported (index_written c.args.self.now.left) c.args.space c.args.input.now.end c.args.input.now.rest.now)
    (ap (λ (s : Space). copied_imported (index_written c.args.self.now.left) s c.args.input.now.end c.args.input.now.rest.now) c.in-Tables.is)
    c.table_type.ensures.is

pub returns-in-Memories-clause-is : goal.returns-in-Memories-clause-is
returns-in-Memories-clause-is c =
    copies_as c.args.self.now c.limits.new.self c.limits.new.input.rest.now c.limits.result (copied_limits c.args.input.now.end c.args.input.now.rest.now) (copied_imported (index_written c.args.self.now.left) c.args.space c.args.input.now.end c.args.input.now.rest.now)
    (ap (λ (s : Space). copied_imported (index_written c.args.self.now.left) s c.args.input.now.end c.args.input.now.rest.now) c.in-Memories.is)
    c.limits.ensures.is

pub returns-in-Globals-clause-is : goal.returns-in-Globals-clause-is
returns-in-Globals-clause-is c =
    copies_as c.args.self.now c.global_type.new.self c.global_type.new.input.rest.now c.global_type.result (copied_global_type (index_written c.args.self.now.left) c.args.input.now.end c.args.input.now.rest.now) (copied_imported (index_written c.args.self.now.left) c.args.space c.args.input.now.end c.args.input.now.rest.now)
    (ap (λ (s : Space). copied_imported (index_written c.args.self.now.left) s c.args.input.now.end c.args.input.now.rest.now) c.in-Globals.is)
    c.global_type.ensures.is

pub returns-in_default-clause-is : goal.returns-in_default-clause-is
returns-in_default-clause-is c =
    copies_as c.args.self.now c.tag.new.self c.tag.new.input.rest.now c.tag.result (copied_tag (index_written c.args.self.now.left) c.args.input.now.end c.args.input.now.rest.now) (copied_imported (index_written c.args.self.now.left) c.args.space c.args.input.now.end c.args.input.now.rest.now)
    (imported_tag (index_written c.args.self.now.left) c.args.space c.args.input.now.end c.args.input.now.rest.now c.in_default.not-Funcs c.in_default.not-Tables c.in_default.not-Memories c.in_default.not-Globals)
    c.tag.ensures.is
