use Rattle.dwarf_line.specs.Views.{parameters}
use Rattle.dwarf_line.proofs.Local.{operation_shorter}
use Rattle.dwarf_line.proofs.reading.read_operation.Goals as goal

pub returns-clause-shorter : goal.returns-clause-shorter
returns-clause-shorter c = operation_shorter (parameters c.args.header.now) (λ x. (x.0, x.1.now)) c.read_any.result c.args.bytes.now c.read_any.ensures.gives
