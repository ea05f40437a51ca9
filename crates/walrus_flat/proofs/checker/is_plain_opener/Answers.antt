use Rattle.std.proofs.Common.{ap}
use Rattle.wasm_operators.specs.Meaning.{meaning}
use Rattle.walrus_flat.proofs.NoParts.{at_opener}
use Rattle.walrus_flat.proofs.checker.is_plain_opener.Goals as goal

pub returns-in-Block : goal.returns-in-Block
returns-in-Block c = at_opener c.args.operator.now 0x02 _ (ap meaning c.in-Block.is) c.names_no_type.result c.names_no_type.ensures

pub returns-in-Loop : goal.returns-in-Loop
returns-in-Loop c = at_opener c.args.operator.now 0x03 _ (ap meaning c.in-Loop.is) c.names_no_type-in-Loop.result c.names_no_type-in-Loop.ensures

pub returns-in-If : goal.returns-in-If
returns-in-If c = at_opener c.args.operator.now 0x04 _ (ap meaning c.in-If.is) c.names_no_type-in-If.result c.names_no_type-in-If.ensures

pub returns-in-Try : goal.returns-in-Try
returns-in-Try c = at_opener c.args.operator.now 0x06 _ (ap meaning c.in-Try.is) c.names_no_type-in-Try.result c.names_no_type-in-Try.ensures
