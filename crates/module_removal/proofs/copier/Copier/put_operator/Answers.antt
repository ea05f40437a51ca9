use Rattle.wasm_operators.specs.Meaning.{meaning}
use Rattle.module_removal.specs.CopiedParts.{fault_with_place}
use Rattle.module_removal.specs.LeftSpaces.{index_written}
use Rattle.module_removal.proofs.ItemCopies.{puts_operator, operator_fails}
use Rattle.module_removal.proofs.copier.Copier.put_operator.Goals as goal

pub returns : goal.returns
returns c =
    puts_operator (fault_with_place c.args.at) (index_written c.args.self.now.left) (meaning c.args.operator.now) c.args.bytes.now c.parts-opcode.result c.is_end.result c.args.self.now
    c.put_parts.new.self c.parts-opcode.ensures.exact c.is_end.ensures c.in-Ok.ensures

pub returns-in-Err : goal.returns-in-Err
returns-in-Err c =
    operator_fails (fault_with_place c.args.at) (index_written c.args.self.now.left) (meaning c.args.operator.now) c.args.bytes.now c.parts-opcode.result c.in-Err.error c.parts-opcode.ensures.exact
    c.in-Err.ensures
