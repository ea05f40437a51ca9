use Rattle.wasm_operators.specs.Meaning.{meaning}
use Rattle.wasm_sections.specs.Format.{operator_part}
use Rattle.module_removal.specs.LeftSpaces.{index_written}
use Rattle.module_removal.specs.CopiedConstants.{with_extent, copied_if_constant}
use Rattle.module_removal.proofs.CopyLemmas.{checked_copies, unchecked}
use Rattle.module_removal.proofs.OperatorCopies.{operator_read, operator_unread}
use Rattle.module_removal.proofs.copier.Copier.operator.Goals as goal

pub returns-clause-is : goal.returns-clause-is
returns-clause-is c =
    checked_copies (with_extent operator_part) (copied_if_constant (index_written c.args.self.now.left)) c.args.input.now.end c.args.input.now.rest.now c.at.result c.args.self.now c.put_operator.new.self
    c.read_operator.new.input.rest.now (meaning c.in-Ok.value, c.until.result.now) c.put_operator.result c.at.ensures.place
    (operator_read c.args.input.now.end c.args.input.now.rest.now c.read_operator.new.input.rest.now c.until.result.now (meaning c.in-Ok.value) c.in-Ok.ensures.is c.until.ensures)
    c.put_operator.ensures

pub returns-in-Err-clause-is : goal.returns-in-Err-clause-is
returns-in-Err-clause-is c =
    unchecked (with_extent operator_part) (copied_if_constant (index_written c.args.self.now.left)) c.args.input.now.end c.args.input.now.rest.now c.in-Err.error
    (operator_unread c.args.input.now.end c.args.input.now.rest.now c.in-Err.error c.in-Err.ensures.is)
