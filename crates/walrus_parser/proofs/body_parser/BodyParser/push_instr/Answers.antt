use Rattle.std.proofs.Common.{Some, reverse, sym, ap, ◌∙◌, subst}
use Rattle.wasm_operators.specs.Meaning.{meaning}
use Rattle.walrus_context.specs.OpenTrees.{env_of}
use Rattle.walrus_parser.specs.Advancing.{IsStep}
use Rattle.walrus_parser.specs.BodyParsers.{state_with}
use Rattle.walrus_parser.proofs.SingleInstructions.{appended_alone, same_body}
use Rattle.walrus_parser.proofs.Roles.{fate_by, fate_of_operator}
use Rattle.walrus_parser.proofs.body_parser.BodyParser.push_instr.Goals as goal

pub returns : goal.returns
returns c =
    let old = c.args.self.now in
    let new = c.append_instr.new.self in
    let op = c.args.operator.now in
    let ifs = reverse old.if_else.items in
    let unreachable_there = c.args.unreachable_after in
    let role = fate_of_operator op c.requires.kind ∙ ap (λ b. Some (fate_by b)) (sym c.requires.unreachable_after) in
    record {
      step = λ ls s place keeps.
          subst (λ js. IsStep (env_of old.context) (state_with new.context js) ls s (meaning op) place c.args.location c.append_instr.result)
          (ap (λ v. reverse v.items) (sym c.append_instr.ensures.ifs))
          (appended_alone old.context new.context ifs ls s (meaning op) place c.args.location unreachable_there role keeps c.args.instr c.requires.placed c.requires.plain.0 c.requires.plain.1
          c.append_instr.result c.append_instr.ensures.ok c.append_instr.ensures.err);
      rest = same_body old.context new.context (c.args.instr, c.args.location) unreachable_there c.append_instr.result c.append_instr.ensures.ok;
    }
