use Rattle.std.proofs.Common.{ap}
use Rattle.wasm_operators.specs.declared.types.Space.{Space}
use Rattle.wasm_operators.specs.declared.types.Space.TheVariants as spaces
use Rattle.module_removal.specs.LeftSpaces.{index_written}
use Rattle.module_removal.specs.CopiedParts.{copied_index, copied_limits}
use Rattle.module_removal.specs.CopiedItems.{copied_table, copied_tag, copied_global, copied_element, copied_data, copied_defined}
use Rattle.module_removal.proofs.CopyLemmas.{copies_as}
use Rattle.module_removal.proofs.KindCopies.{defined_index}
use Rattle.module_removal.proofs.copier.Copier.defined.Goals as goal

pub returns-in-Tables-clause-is : goal.returns-in-Tables-clause-is
returns-in-Tables-clause-is c =
    copies_as c.args.self.now c.table.new.self c.table.new.input.rest.now c.table.result (copied_table (index_written c.args.self.now.left) c.args.input.now.end c.args.input.now.rest.now) (copied_defined (index_written c.args.self.now.left) c.args.space c.args.input.now.end c.args.input.now.rest.now)
    (ap (λ (s : Space). copied_defined (index_written c.args.self.now.left) s c.args.input.now.end c.args.input.now.rest.now) c.in-Tables.is) c.table.ensures.is

pub returns-in-Memories-clause-is : goal.returns-in-Memories-clause-is
returns-in-Memories-clause-is c =
    copies_as c.args.self.now c.limits.new.self c.limits.new.input.rest.now c.limits.result (copied_limits c.args.input.now.end c.args.input.now.rest.now) (copied_defined (index_written c.args.self.now.left) c.args.space c.args.input.now.end c.args.input.now.rest.now)
    (ap (λ (s : Space). copied_defined (index_written c.args.self.now.left) s c.args.input.now.end c.args.input.now.rest.now) c.in-Memories.is) c.limits.ensures.is

pub returns-in-Tags-clause-is : goal.returns-in-Tags-clause-is
returns-in-Tags-clause-is c =
    copies_as c.args.self.now c.tag.new.self c.tag.new.input.rest.now c.tag.result (copied_tag (index_written c.args.self.now.left) c.args.input.now.end c.args.input.now.rest.now) (copied_defined (index_written c.args.self.now.left) c.args.space c.args.input.now.end c.args.input.now.rest.now)
    (ap (λ (s : Space). copied_defined (index_written c.args.self.now.left) s c.args.input.now.end c.args.input.now.rest.now) c.in-Tags.is) c.tag.ensures.is

pub returns-in-Globals-clause-is : goal.returns-in-Globals-clause-is
returns-in-Globals-clause-is c =
    copies_as c.args.self.now c.global.new.self c.global.new.input.rest.now c.global.result (copied_global (index_written c.args.self.now.left) c.args.input.now.end c.args.input.now.rest.now) (copied_defined (index_written c.args.self.now.left) c.args.space c.args.input.now.end c.args.input.now.rest.now)
    (ap (λ (s : Space). copied_defined (index_written c.args.self.now.left) s c.args.input.now.end c.args.input.now.rest.now) c.in-Globals.is) c.global.ensures.is

pub returns-in-Elements-clause-is : goal.returns-in-Elements-clause-is
returns-in-Elements-clause-is c =
    copies_as c.args.self.now c.element.new.self c.element.new.input.rest.now c.element.result (copied_element (index_written c.args.self.now.left) c.args.input.now.end c.args.input.now.rest.now) (copied_defined (index_written c.args.self.now.left) c.args.space c.args.input.now.end c.args.input.now.rest.now)
    (ap (λ (s : Space). copied_defined (index_written c.args.self.now.left) s c.args.input.now.end c.args.input.now.rest.now) c.in-Elements.is) c.element.ensures.is

pub returns-in-Data-clause-is : goal.returns-in-Data-clause-is
returns-in-Data-clause-is c =
    copies_as c.args.self.now c.data.new.self c.data.new.input.rest.now c.data.result (copied_data (index_written c.args.self.now.left) c.args.input.now.end c.args.input.now.rest.now) (copied_defined (index_written c.args.self.now.left) c.args.space c.args.input.now.end c.args.input.now.rest.now)
    (ap (λ (s : Space). copied_defined (index_written c.args.self.now.left) s c.args.input.now.end c.args.input.now.rest.now) c.in-Data.is) c.data.ensures.is

pub returns-in_default-clause-is : goal.returns-in_default-clause-is
returns-in_default-clause-is c =
    copies_as c.args.self.now c.index.new.self c.index.new.input.rest.now c.index.result (copied_index (index_written c.args.self.now.left) spaces.Types c.args.input.now.end c.args.input.now.rest.now) (copied_defined (index_written c.args.self.now.left) c.args.space c.args.input.now.end c.args.input.now.rest.now)
    (defined_index (index_written c.args.self.now.left) c.args.space c.args.input.now.end c.args.input.now.rest.now c.in_default.not-Tables c.in_default.not-Memories c.in_default.not-Tags c.in_default.not-Globals
    c.in_default.not-Elements c.in_default.not-Data)
    c.index.ensures.is
