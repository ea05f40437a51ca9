use Rattle.std.proofs.Common.{length}
use Rattle.walrus_parser.specs.Bodies.{operators_input}
use Rattle.walrus_context.specs.OpenTrees.{env_of}
use Rattle.walrus_parser.proofs.Bodies.{SoFar}
use Rattle.walrus_parser.proofs.parse.parse_operators.Given as goal

abbrev pub invariant-loop-reader : goal.invariant-loop-reader
invariant-loop-reader g l =
    SoFar g.F.Fn (operators_input (env_of l.fn.parser.context) l.fn.reader l.code_offset l.fn.on_instr_pos g.V.OpCheck.check (g.V.OpCheck.state l.fn.validator))
    l.parser (g.V.OpCheck.state l.validator) l.reader.place l.reader.rest l.instruction_mapping.items

abbrev pub decreases-loop-reader : goal.decreases-loop-reader
decreases-loop-reader g l = length l.reader.rest
