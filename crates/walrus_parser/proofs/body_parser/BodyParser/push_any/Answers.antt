use Rattle.std.proofs.Common.{inl, inr, reverse}
use Rattle.wasm_operators.specs.Meaning.{meaning}
use Rattle.walrus_parser.specs.OperatorKinds.{makes_unreachable}
use Rattle.walrus_parser.proofs.SingleInstructions.{refused_alone}
use Rattle.walrus_parser.proofs.Roles.{fate_of_operator}
use Rattle.walrus_parser.proofs.body_parser.BodyParser.push_any.Goals as goal

pub returns-in-Err : goal.returns-in-Err
returns-in-Err c =
    let old = c.args.self.now in
    let op = c.args.operator.now in
    record {
      step = λ ls s place keeps. elim c.in-Err.ensures.placed [
        | inl is ↦ inl is
        | inr is ↦ inr (refused_alone old.context old.context (reverse old.if_else.items) ls s (meaning op) place c.args.location (makes_unreachable op) (fate_of_operator op c.requires.kind) keeps c.in-Err.error is)
      ];
      rest = tt;
    }
